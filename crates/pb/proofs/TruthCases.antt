-- The rules under an assignment, worked out: the hypotheses of their soundness can be met, and not by every assignment.
-- Literals 0 and 1 are x0 and ¬x0, 2 and 3 are x1 and ¬x1.
use mathlib.Core.Path.{◌≡◌, refl, subst}
use mathlib.Core.Bool.{true, false}
use mathlib.Core.List.{List, [], ◌∷◌}
use mathlib.Core.Option.{Option, none, some, some-injective, none-ne-some}
use Prim.Native.Nat.{ℕ, zero, suc}
use native.Mathlib.Omega.{arith}
use Rattle.pb.specs.Rules.{Token, step, add, divide, saturate, addition, division, saturation, evaluate}
use Rattle.pb.specs.Sum.{◌·◌, Sum, ◌≥◌}
use Rattle.pb.specs.Truth.{Assignment, value, Satisfies}
use Rattle.pb.proofs.Truth.{sound_addition, sound_division, sound_saturation, sound_evaluate}

-- x0 is false, every other variable true.
unfoldable pub others : Assignment
others zero = false
others (suc x) = true

-- 2 x0 + 3 x1 ≥ 2, and 1 ¬x0 + 1 ¬x1 ≥ 1: satisfied, the second by x0 alone.
unfoldable pub first : Sum
first = (2 · 0 ∷ 3 · 2 ∷ []) ≥ 2

unfoldable pub second : Sum
second = (1 · 1 ∷ 1 · 3 ∷ []) ≥ 1

pub first_satisfied : Satisfies others first
unfolding first others value
first_satisfied = record { reaches = omega arith }

pub second_satisfied : Satisfies others second
unfolding second others value
second_satisfied = record { reaches = omega arith }

pub met_addition : Satisfies others (addition first second)
met_addition = sound_addition others first second first_satisfied second_satisfied

pub met_division : Satisfies others (division 3 first)
met_division = sound_division others 3 first (omega arith) first_satisfied

pub met_saturation : Satisfies others (saturation first)
met_saturation = sound_saturation others first first_satisfied

-- 2 x0 + 3 x1 ≥ 4 is not satisfied.
pub not_satisfied : Satisfies others ((2 · 0 ∷ 3 · 2 ∷ []) ≥ 4) → ⊥
unfolding others value
not_satisfied h = omega (arith, h.reaches)

-- The two as steps 1 and 2: added, divided by 2 and saturated they come to x0 + x1 ≥ 1.
unfoldable pub steps : ℕ → Option Sum
steps zero = none
steps (suc zero) = some first
steps (suc (suc zero)) = some second
steps (suc (suc (suc n))) = none

steps_satisfied : (n : ℕ) (s : Sum) → steps n ≡ some s → Satisfies others s
unfolding steps
steps_satisfied zero s e = absurd (none-ne-some s e)
steps_satisfied (suc zero) s e = subst (Satisfies others) (some-injective first s e) first_satisfied
steps_satisfied (suc (suc zero)) s e = subst (Satisfies others) (some-injective second s e) second_satisfied
steps_satisfied (suc (suc (suc n))) s e = absurd (none-ne-some s e)

unfoldable pub tokens : List Token
tokens = step 1 ∷ step 2 ∷ add ∷ divide 2 ∷ saturate ∷ []

pub met_evaluate : Satisfies others ((1 · 0 ∷ 1 · 2 ∷ []) ≥ 1)
unfolding steps tokens evaluate first second
met_evaluate = sound_evaluate others steps steps_satisfied tokens ((1 · 0 ∷ 1 · 2 ∷ []) ≥ 1) refl
