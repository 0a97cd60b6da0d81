-- Numbers at a place of a list: what `read_from` comes to byte by byte, where a number goes on, and what a write leaves.
use Rattle.std.specs.Prelude.{Option, Some, None}
use Rattle.std.proofs.lemmas.Option.{some_pair_parts}
use mathlib.Core.Path.{◌≡◌, refl, ap, ◌∙◌}
use mathlib.Core.List.{List, ◌++◌, append_assoc}
use Prim.Native.Nat.{ℕ, zero, suc, ◌+◌, ◌-◌, ◌*◌, ◌^◌, ◌≤◌, ◌<◌}
use native.Mathlib.Numerals.{add-one}
use native.Mathlib.Omega.{arith}
use lib.ListN.{length, get_or, take, drop, length-append, length-drop, drop_of_length-le}
use lib.Seq.{sets, sets-eq, drop_at, drop-cons, drop-drop, get_or-drop, length-take-le}
use Rattle.number.specs.Number.{groups, encode, Front, number, bad, above, read_in, Bytes, placed, read_from, read_at, written}
use Rattle.number.proofs.Laws.{encode_length, read_in-last, read_in-more, read_in-encode, read_in-number, read_in-rest}

-- ---- byte by byte

-- `above`, by places
abbrev pub above_at : ℕ → Option (ℕ × ℕ) → Option (ℕ × ℕ)
above_at b (Some (zero, e)) = None
above_at b (Some (suc x, e)) = Some (b - 128 + 128 * suc x, e)
above_at b None = None

pub above_at-some : (b x e : ℕ) → 0 < x → above_at b (Some (x, e)) ≡ Some (b - 128 + 128 * x, e)
above_at-some b zero e h = absurd (omega arith)
above_at-some b (suc x) e h = refl

placed_above : (s : List ℕ) (b : ℕ) (r : Front) → placed s (above b r) ≡ above_at b (placed s r)
unfolding placed above
placed_above s b (number zero rest) = refl
placed_above s b (number (suc x) rest) = refl
placed_above s b bad = refl

module _ (s : List ℕ) (at : ℕ) where
  pub read_from-none : read_from 0 s at ≡ None
  unfolding placed read_in
  read_from-none = refl

  pub read_from-end : (g : ℕ) → length s ≤ at → read_from g s at ≡ None
  unfolding placed read_in
  read_from-end zero h = refl
  read_from-end (suc g) h = rw (drop_of_length-le s h)

  pub read_from-last : (g b d : ℕ) → 0 < g → at < length s → b ≡ get_or s at d → b < 128 → read_from g s at ≡ Some (b, at + 1)
  unfolding placed
  read_from-last zero b d p h e k = absurd (omega arith)
  read_from-last (suc g) b d p h e k =
      rw (drop-cons s at d h, ← e, read_in-last g b (drop (suc at) s) k, length-drop (suc at) s) (ap (λ (n : ℕ). Some (b, n)) (omega arith))

  pub read_from-more : (g b d : ℕ) → 0 < g → at < length s → b ≡ get_or s at d → 128 ≤ b → read_from g s at ≡ above_at b (read_from (g - 1) s (at + 1))
  read_from-more zero b d p h e k = absurd (omega arith)
  read_from-more (suc g) b d p h e k =
      let one : suc g - 1 ≡ g = omega arith in
      rw (drop-cons s at d h, ← e, read_in-more g b (drop (suc at) s) k, one, add-one) (placed_above s b (read_in g (drop (suc at) s)))

-- ---- a number at its place

-- what reads at a place goes on at the place after it
pub read_from-number : (g : ℕ) (s : List ℕ) (at : ℕ) {x e : ℕ} → read_from g s at ≡ Some (x, e)
    → (read_in g (drop at s) ≡ number x (drop e s)) × (at < e) × (e ≤ length s)
unfolding placed
read_from-number g s at {x} {e} q = go (read_in g (drop at s)) refl q
  where
    go : (r : Front) → read_in g (drop at s) ≡ r → placed s r ≡ Some (x, e) → (read_in g (drop at s) ≡ number x (drop e s)) × (at < e) × (e ≤ length s)
    go bad p q = absurd (let z : ◌≡◌ {A = ℕ} 0 1 = cc in omega arith)
    go (number y rest) p q =
        let t = read_in-rest g (drop at s) p in
        let l = length-drop at s in
        let parts = some_pair_parts _ _ _ _ q in
        let z : length s - length rest ≡ e = parts.1 in
        let k : at + (length (drop at s) - length rest) ≡ e = omega arith in
        let d : rest ≡ drop e s = t.0 ∙ drop-drop _ at s ∙ ap (λ (n : ℕ). drop n s) k in
        let v : y ≡ x = parts.0 in
        (p ∙ rw (v, d), omega arith, omega arith)

pub read_from-bad : (g : ℕ) (s : List ℕ) (at : ℕ) → read_from g s at ≡ None → read_in g (drop at s) ≡ bad
unfolding placed
read_from-bad g s at q = go (read_in g (drop at s)) refl q
  where
    go : (r : Front) → read_in g (drop at s) ≡ r → placed s r ≡ None → read_in g (drop at s) ≡ bad
    go bad p q = p
    go (number y rest) p q = absurd (let z : ◌≡◌ {A = ℕ} 0 1 = cc in omega arith)

-- what reads in a list of bytes takes no more groups than the limit
pub read_from-length : (g : ℕ) (s : List ℕ) (at : ℕ) {x e : ℕ} → Bytes s → read_from g s at ≡ Some (x, e) → length (encode x) ≤ g
unfolding Bytes
read_from-length g s at h e = (read_in-number g (drop at s) (λ i. rw get_or-drop (h (at + i))) (read_from-number g s at e).0).1

-- a number reads where it stands, whatever is before and after it
pub read_from-encode : (g : ℕ) (before : List ℕ) (x : ℕ) (rest : List ℕ) → length (encode x) ≤ g
    → read_from g (before ++ (encode x ++ rest)) (length before) ≡ Some (x, length before + length (encode x))
unfolding placed
read_from-encode g before x rest h =
    rw (drop_at before (encode x ++ rest) (length before) refl, read_in-encode x g rest h)
    (ap (λ (n : ℕ). Some (x, n)) (simp length-append (omega arith)))

-- ---- a number that is written

module _ (log : List ℕ) (at x : ℕ) where
  -- byte by byte, where the bytes are known
  pub sets_written : (bs : List ℕ) → encode x ≡ bs → at + length bs ≤ length log → sets log at bs ≡ written log at x
  unfolding written
  sets_written bs e h = rw e (sets-eq bs log at h)

  pub written_is : written log at x ≡ take at log ++ encode x ++ drop (at + length (encode x)) log
  unfolding written
  written_is = refl

  -- what is written reads back, and ends where the writing did
  pub read_at-written : x < 128 ^ groups → at + length (encode x) ≤ length log → read_at (written log at x) at ≡ Some (x, at + length (encode x))
  unfolding written
  read_at-written h room =
      let l : length (take at log) ≡ at = length-take-le at log (omega arith) in
      rw append_assoc
      (rw l at (read_from-encode groups (take at log) x (drop (at + length (encode x)) log) ((encode_length x groups (omega arith)).1 h)))
