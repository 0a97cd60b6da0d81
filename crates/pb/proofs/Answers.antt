-- Sums and derivations worked out. Literals 0 and 1 are x0 and ¬x0, 2 and 3 are x1 and ¬x1.
use mathlib.Core.Path.{◌≡◌, refl}
use mathlib.Core.List.{List, [], ◌∷◌, map}
use mathlib.Core.Option.{Option, none, some}
use Prim.Native.Nat.{ℕ, zero, suc}
use Rattle.pb.specs.Rules.{Token, step, literal, add, divide, saturate, evaluate}
use Rattle.pb.specs.Sum.{◌·◌, Sum, ◌≥◌, normal}

-- Step 1 is 2 x0 + 3 x1 ≥ 4, step 2 is 1 ¬x0 + 1 ¬x1 ≥ 1; there are no others.
unfoldable pub steps : ℕ → Option Sum
steps zero = none
steps (suc zero) = some ((2 · 0 ∷ 3 · 2 ∷ []) ≥ 4)
steps (suc (suc zero)) = some ((1 · 1 ∷ 1 · 3 ∷ []) ≥ 1)
steps (suc (suc (suc n))) = none

pub record Case : Type 0 where
  pub got : Option Sum
  pub want : Option Sum

normals : Sum → Sum → Case
normals s t = record { got = some (normal s); want = some t }

comes : List Token → Option Sum → Case
comes ks t = record { got = evaluate steps ks; want = t }

unfoldable pub cases : List Case
unfolding normals comes
cases =
    -- one term per variable, ascending, positive; what cancels leaves the bound, which does not fall below 0
    normals ((1 · 2 ∷ 1 · 0 ∷ 2 · 2 ∷ []) ≥ 3) ((1 · 0 ∷ 3 · 2 ∷ []) ≥ 3)
    ∷ normals ((3 · 0 ∷ 1 · 1 ∷ 1 · 2 ∷ []) ≥ 2) ((2 · 0 ∷ 1 · 2 ∷ []) ≥ 1)
    ∷ normals ((2 · 0 ∷ 2 · 1 ∷ []) ≥ 1) ([] ≥ 0)
    -- addition; division rounds coefficients and bound up; saturation cuts to the bound; the literal axiom
    ∷ comes (step 1 ∷ step 2 ∷ add ∷ []) (some ((1 · 0 ∷ 2 · 2 ∷ []) ≥ 3))
    ∷ comes (step 1 ∷ divide 3 ∷ []) (some ((1 · 0 ∷ 1 · 2 ∷ []) ≥ 2))
    ∷ comes (step 1 ∷ step 2 ∷ step 2 ∷ add ∷ add ∷ saturate ∷ []) (some ((1 · 2 ∷ []) ≥ 2))
    ∷ comes (step 1 ∷ literal 1 ∷ add ∷ literal 3 ∷ add ∷ literal 3 ∷ add ∷ literal 2 ∷ add ∷ saturate ∷ []) (some ((1 · 0 ∷ 1 · 2 ∷ []) ≥ 1))
    ∷ comes (literal 3 ∷ []) (some ((1 · 3 ∷ []) ≥ 0))
    -- no such step; an operand missing; an operand left over; nothing; division by 0
    ∷ comes (step 3 ∷ []) none
    ∷ comes (step 1 ∷ add ∷ []) none
    ∷ comes (step 1 ∷ step 2 ∷ []) none
    ∷ comes [] none
    ∷ comes (step 1 ∷ divide 0 ∷ []) none
    ∷ []

pub worked : map (λ (c : Case). c.got) cases ≡ map (λ (c : Case). c.want) cases
unfolding cases steps normal evaluate
worked = refl
