-- The definition of a side's value, by the form of the side; what the keys of a window give.
use mathlib.Core.Path.{◌≡◌, refl, ap, ◌∙◌}
use mathlib.Core.Bool.{Bool, true, false, true≢false}
use mathlib.Core.Logic.{dite}
use mathlib.Core.List.{List, [], ◌∷◌}
use Prim.Native.Nat.{ℕ, zero, suc, ◌+◌, ◌*◌, ◌≤◌, ◌<◌}
use native.Mathlib.Decide.{dec_le}
use native.Mathlib.Omega.{arith}
use Rattle.totdb.specs.Nodes.{IsWindow, Node, side_len, side_lit, plain_or, keyed}
use Rattle.totdb.specs.declared.Side.{Side}
use Rattle.totdb.proofs.Sides.{keyed_zero, keyed_above, plain_zero, window_more, plain_keyed}
use Rattle.cert.specs.Definitions.{Direction, Definition, if, only_if, real, window, stored, one_def, real_def, window_def, long_def, side_def}
use Rattle.cert.specs.Requests.{key_of}

-- The key v of the i-th value above the offset f: 0 at the offset, else the node's value.
pub record KeyOf (f i v : ℕ) : Type 0 where
  pub at_offset : i ≡ 0 → v ≡ 0
  pub above : 0 < i → v ≡ f + i

key_of_lem : (s : Side) (i : ℕ) → KeyOf s.offset i (keyed s i)
key_of_lem s i = record { at_offset = keyed_zero s i; above = keyed_above s i }

pub key_most : {f v : ℕ} (i : ℕ) → KeyOf f i v → v ≤ f + i
key_most zero k = omega (arith, k.at_offset refl)
key_most (suc i) k = omega (arith, k.above (omega arith))

-- ---- a side of length 1, a plain side, a window

module _ (t : List Node) (s : Side) (i : ℕ) (d : Direction) where
  pub short_side : side_len t s ≤ 1 → side_def t s i d ≡ one_def (side_lit t s 1) i
  unfolding side_def
  short_side h = by (dec_le (side_len t s) 1)
    where
      by : (c : Dec (side_len t s ≤ 1))
          → dite c (λ _. one_def (side_lit t s 1) i) (λ _. long_def (side_len t s) s.node s.offset s.limit (keyed s i) d)
          ≡ one_def (side_lit t s 1) i
      by (yes p) = refl
      by (no p) = absurd (p h)

  long_side : 1 < side_len t s → side_def t s i d ≡ long_def (side_len t s) s.node s.offset s.limit (keyed s i) d
  unfolding side_def
  long_side h = by (dec_le (side_len t s) 1)
    where
      by : (c : Dec (side_len t s ≤ 1))
          → dite c (λ _. one_def (side_lit t s 1) i) (λ _. long_def (side_len t s) s.node s.offset s.limit (keyed s i) d)
          ≡ long_def (side_len t s) s.node s.offset s.limit (keyed s i) d
      by (yes p) = absurd (omega arith)
      by (no p) = refl

  pub plain_side : 1 < side_len t s → plain_or s.offset s.limit true false ≡ true → side_def t s i d ≡ real_def s.node i d
  plain_side h p =
      let z = plain_zero s.offset s.limit p in
      long_side h ∙ (unfold long_def plain_or in rw (plain_keyed s p i, z.0, z.1))

  pub window_side : 1 < side_len t s → IsWindow s
      → side_def t s i d ≡ window_def s.node s.offset (side_len t s) (keyed s i) d
  unfolding long_def plain_or
  window_side h p = long_side h ∙ by s.offset s.limit p
    where
      by : (f k : ℕ) → plain_or f k true false ≡ false
          → long_def (side_len t s) s.node f k (keyed s i) d ≡ window_def s.node f (side_len t s) (keyed s i) d
      by zero zero h = absurd (true≢false h)
      by zero (suc k) h = refl
      by (suc f) k h = refl

-- What holds of each of the three holds of every side.
pub by_form : (P : Definition → Type 0) (t : List Node) (s : Side) (i : ℕ) (d : Direction)
    → (side_len t s ≤ 1 → P (one_def (side_lit t s 1) i))
    → (1 < side_len t s → s.offset ≡ 0 → s.limit ≡ 0 → P (real_def s.node i d))
    → (1 < side_len t s → 0 < s.offset + s.limit → (v : ℕ) → KeyOf s.offset i v → P (window_def s.node s.offset (side_len t s) v d))
    → P (side_def t s i d)
by_form P t s i d one plain win = by (dec_le (side_len t s) 1)
  where
    long : (b : Bool) → plain_or s.offset s.limit true false ≡ b → 1 < side_len t s → P (side_def t s i d)
    long true p h = let z = plain_zero s.offset s.limit p in rw (plain_side t s i d h p) (plain h z.0 z.1)
    long false p h = rw (window_side t s i d h p) (win h (window_more s.offset s.limit p) (keyed s i) (key_of_lem s i))

    by : Dec (side_len t s ≤ 1) → P (side_def t s i d)
    by (yes p) = rw (short_side t s i d p) (one p)
    by (no p) = long (plain_or s.offset s.limit true false) refl (omega arith)

-- ---- the keys of a window

module _ (n f m : ℕ) where
  -- Its value 0.
  pub only_if_zero : (v : ℕ) → KeyOf f 0 v → window_def n f m v only_if ≡ stored (window n f m) 0
  unfolding window_def
  only_if_zero zero k = refl
  only_if_zero (suc v) k = absurd (omega (arith, k.at_offset refl))

  -- Its values from 1 on.
  pub if_above : (i v : ℕ) → KeyOf f (suc i) v → window_def n f m v if ≡ stored (window n f m) (2 * i + 1)
  unfolding window_def
  if_above i zero k = absurd (omega (arith, k.above (omega arith)))
  if_above i (suc v) k = ap (λ (p : ℕ). stored (window n f m) p) (omega (arith, k.above (omega arith)))

  pub only_if_above : (i v : ℕ) → KeyOf f (suc i) v → window_def n f m v only_if ≡ stored (window n f m) (2 * i + 2)
  unfolding window_def
  only_if_above i zero k = absurd (omega (arith, k.above (omega arith)))
  only_if_above i (suc v) k = ap (λ (p : ℕ). stored (window n f m) p) (omega (arith, k.above (omega arith)))

-- ---- the key of a definition, whatever its direction

pub no_key : (o i : ℕ) → key_of (one_def o i) ≡ []
unfolding one_def key_of
no_key o zero = refl
no_key o (suc zero) = refl
no_key o (suc (suc i)) = refl

pub real_key : (n v : ℕ) (d : Direction) → key_of (real_def n v d) ≡ real n v ∷ []
unfolding real_def key_of
real_key n zero d = refl
real_key n (suc v) if = refl
real_key n (suc v) only_if = refl

pub window_key : (n f m v : ℕ) (d : Direction) → key_of (window_def n f m v d) ≡ window n f m ∷ []
unfolding window_def key_of
window_key n f m zero d = refl
window_key n f m (suc v) if = refl
window_key n f m (suc v) only_if = refl
