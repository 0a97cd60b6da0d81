-- Literals of one group: the loop of `are_ones`, and what `push_ones` has of each literal.
use mathlib.Core.Path.{◌≡◌, refl}
use mathlib.Core.Bool.{Bool, true, false, cond}
use mathlib.Core.List.{List, [], ◌∷◌, ◌++◌}
use Prim.Native.Nat.{ℕ, zero, suc, ◌+◌, ◌/◌, ◌<◌}
use native.Mathlib.Decide.{dec_lt}
use native.Mathlib.Numerals.{add-one}
use native.Mathlib.Omega.{arith}
use borrow.Author.Tests.{lt-ltb, le-ltb, ne_eqb}
use lib.Dec.{eqb, ltb}
use lib.ListN.{length, get_or, take}
use lib.Seq.{take-suc}
use Rattle.pb.specs.Sum.{neg}
use Rattle.record.specs.Writing.{ones}

ones_last : (ls : List ℕ) (x : ℕ) → ones (ls ++ (x ∷ [])) ≡ cond (ltb x 128) (ones ls) false
unfolding ones
ones_last [] x = refl
ones_last (l ∷ ls) x = rw (ones_last ls x) (swap (ltb l 128) (ltb x 128))
  where
    swap : (s t : Bool) → cond s (cond t (ones ls) false) false ≡ cond t (cond s (ones ls) false) false
    swap true true = refl
    swap true false = refl
    swap false true = refl
    swap false false = refl

-- One literal more, where the high parts of those before it come to h.
pub ones_more : (ls : List ℕ) (k h : ℕ) → k < length ls → eqb h 0 ≡ ones (take k ls) → eqb (h + get_or ls k 0 / 128) 0 ≡ ones (take (k + 1) ls)
ones_more ls k h b e = rw (add-one, take-suc ls k 0 b, ones_last (take k ls) (get_or ls k 0), ← e) (by (dec_lt (get_or ls k 0) 128))
  where
    by : Dec (get_or ls k 0 < 128) → eqb (h + get_or ls k 0 / 128) 0 ≡ cond (ltb (get_or ls k 0) 128) (eqb h 0) false
    by (yes l) =
        let z : h + get_or ls k 0 / 128 ≡ h = omega arith in
        rw (z, lt-ltb (get_or ls k 0) 128 l)
    by (no m) = rw (le-ltb (get_or ls k 0) 128 (omega arith)) (ne_eqb (h + get_or ls k 0 / 128) 0 (λ z. omega arith))

ones_first : (l : ℕ) (ls : List ℕ) → ones (l ∷ ls) ≡ true → (l < 128) × (ones ls ≡ true)
unfolding ones
ones_first l ls e = by (dec_lt l 128)
  where
    none : {A : Type 0} → false ≡ true → A
    none q = absurd (let z : ◌≡◌ {A = ℕ} 0 1 = cc in omega arith)

    by : Dec (l < 128) → (l < 128) × (ones ls ≡ true)
    by (yes b) = (b, rw (lt-ltb l 128 b) at e)
    by (no b) = none (rw (le-ltb l 128 (omega arith)) at e)

pub ones_at : (ls : List ℕ) (k : ℕ) → ones ls ≡ true → k < length ls → get_or ls k 0 < 128
ones_at [] k e h = absurd (omega arith)
ones_at (l ∷ ls) zero e h = (ones_first l ls e).0
ones_at (l ∷ ls) (suc k) e h = ones_at ls k (ones_first l ls e).1 (omega arith)

-- The negation of a literal of one group has one group: 126 and 127 are each other's.
pub sign_small : (s : Bool) (x : ℕ) → x < 128 → cond s (neg x) x < 128
unfolding neg
sign_small true x h = omega arith
sign_small false x h = h
