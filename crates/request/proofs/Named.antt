-- The literals that a side is asked for are a range, the same in both directions.
use mathlib.Core.Path.{◌≡◌, refl, ◌∙◌, ap}
use mathlib.Core.Logic.{dite}
use mathlib.Core.List.{List, [], ◌∷◌, ◌++◌, map, map-append}
use Prim.Native.Nat.{ℕ, zero, suc, ◌+◌, ◌-◌, min, max, ◌≤◌, ◌<◌}
use native.Mathlib.Decide.{dec_le, dec_lt}
use native.Mathlib.Omega.{arith}
use Rattle.totdb.specs.Nodes.{range}
use Rattle.totdb.specs.declared.Side.{Side}
use Rattle.cert.specs.Definitions.{Direction, if, only_if}
use Rattle.cert.specs.Requests.{Request, request, splits, positive, within, named, below}
use Rattle.cert.proofs.WindowDerivations.{range_append}

positive_range : (a n : ℕ) → 1 ≤ a → positive (range a n) ≡ range a n
unfolding positive range
positive_range a zero h = refl
positive_range zero (suc n) h = absurd (omega arith)
positive_range (suc a) (suc n) h = ap {B = List ℕ} (λ (l : List ℕ). suc a ∷ l) (positive_range (suc (suc a)) n (omega arith))

positive_zero : (n : ℕ) → positive (range 0 (suc n)) ≡ range 1 n
unfolding positive range
positive_zero n = positive_range 1 n (omega arith)

suc_range : (a n : ℕ) → map suc (range a n) ≡ range (suc a) n
unfolding range
suc_range a zero = refl
suc_range a (suc n) = ap {B = List ℕ} (λ (l : List ℕ). suc a ∷ l) (suc_range (suc a) n)

within_none : (p a n : ℕ) → p < a → within p (range a n) ≡ []
unfolding within range
within_none p a zero h = refl
within_none p a (suc n) h = by (dec_le a p) (within_none p (suc a) n (omega arith))
  where
    by : (d : Dec (a ≤ p)) → within p (range (suc a) n) ≡ []
        → dite {C = List ℕ} d (λ _. a ∷ within p (range (suc a) n)) (λ _. within p (range (suc a) n)) ≡ []
    by (yes k) e = absurd (omega arith)
    by (no k) e = e

within_range : (p a n : ℕ) → within p (range a n) ≡ range a (min n (suc p - a))
unfolding within range
within_range p a zero = let e : min 0 (suc p - a) ≡ 0 = omega arith in rw e
within_range p a (suc n) = by (dec_le a p) (within_range p (suc a) n) (within_none p (suc a) n)
  where
    by : (d : Dec (a ≤ p)) → within p (range (suc a) n) ≡ range (suc a) (min n (suc p - suc a)) → (p < suc a → within p (range (suc a) n) ≡ [])
        → dite {C = List ℕ} d (λ _. a ∷ within p (range (suc a) n)) (λ _. within p (range (suc a) n)) ≡ range a (min (suc n) (suc p - a))
    by (yes k) e f = let z : min (suc n) (suc p - a) ≡ suc (min n (suc p - suc a)) = omega arith in
        rw (z, e)
    by (no k) e f = let z : min (suc n) (suc p - a) ≡ 0 = omega arith in rw z (f (omega arith))

count : (w p a : ℕ) → min (suc (min w p) - a) (suc p - suc a) ≡ suc (min (suc w) p) - suc a
count w p a = by (dec_lt w p)
  where
    by : Dec (w < p) → min (suc (min w p) - a) (suc p - suc a) ≡ suc (min (suc w) p) - suc a
    by (yes k) = let x : min w p ≡ w = omega arith in let y : min (suc w) p ≡ suc w = omega arith in
        rw (x, y) (omega arith)
    by (no k) = let x : min w p ≡ p = omega arith in let y : min (suc w) p ≡ p = omega arith in
        rw (x, y) (omega arith)

-- The lowest value, and the highest.
pub named_range : (d : Direction) (v p q low high : ℕ) → 1 ≤ v → low ≡ max 1 (v - q) → high ≡ min v p
    → named d v p q ≡ range low (suc high - low)
unfolding named splits
named_range if v p q low high h l e = by (dec_lt q v)
  where
    by : Dec (q < v) → positive (range (v - q) (suc (min v p) - (v - q))) ≡ range low (suc high - low)
    by (yes k) = let w : low ≡ v - q = omega arith in rw (w, e) (positive_range (v - q) (suc (min v p) - (v - q)) (omega arith))
    by (no k) =
        let w : low ≡ 1 = omega arith in
        let x : v - q ≡ 0 = omega arith in
        let y : suc (min v p) - 0 ≡ suc (min v p) = omega arith in
        let z : suc (min v p) - 1 ≡ min v p = omega arith in
        rw (x, y, w, e, z) (positive_zero (min v p))
named_range only_if v p q low high h l e =
    let x : suc (v - 1 - q) ≡ low = omega arith in
    let z : min (suc (min (v - 1) p) - (v - 1 - q)) (suc p - low) ≡ suc high - low = counted (v - 1 - q) low x in
    ap (within p) (suc_range (v - 1 - q) (suc (min (v - 1) p) - (v - 1 - q)))
    ∙ within_range p (suc (v - 1 - q)) (suc (min (v - 1) p) - (v - 1 - q)) ∙ rw (x, z)
  where
    counted : (a b : ℕ) → suc a ≡ b → min (suc (min (v - 1) p) - a) (suc p - b) ≡ suc high - b
    counted a b x = let y : suc (v - 1) ≡ v = omega arith in
        rw (← x, e) (count (v - 1) p a ∙ rw y)

-- One more of them.
pub below_more : (d : Direction) (s : Side) (a n : ℕ)
    → below d s (range a (n + 1)) ≡ below d s (range a n) ++ (request s.node (s.offset + (a + n)) d ∷ [])
unfolding below range
below_more d s a n = ap (map {B = Request} (λ (i : ℕ). request s.node (s.offset + i) d)) (range_append a n 1)
    ∙ map-append (λ (i : ℕ). request s.node (s.offset + i) d) (range a n) ((a + n) ∷ [])
