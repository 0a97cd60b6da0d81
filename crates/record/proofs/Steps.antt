-- The sums of a log's steps, record by record: a sum stands for itself, a derivation for what it comes to by the steps before it.
use mathlib.Core.Path.{◌≡◌, refl, sym, ◌∙◌, ap}
use mathlib.Core.List.{List, [], ◌∷◌, ◌++◌, append-nil, append_assoc}
use mathlib.Core.Option.{Option, none, some}
use Prim.Native.Nat.{ℕ, ◌+◌, ◌-◌}
use native.Mathlib.Omega.{arith}
use borrow.Author.Tests.{le-ltb}
use lib.ListN.{length, get_or, length-append}
use lib.Seq.{get_or-append-add}
use Rattle.pb.specs.Rules.{Token, evaluate}
use Rattle.pb.specs.Sum.{Sum, Term, normal, ◌≥◌}
use Rattle.record.specs.Record.{Record, sum, derivation, clause, deletion, steps}
use Rattle.record.specs.Steps.{step_sum, sums_after, step_of}

pub sums_append : (first : ℕ) (known : List (Option Sum)) (rs qs : List Record)
    → sums_after first known (rs ++ qs) ≡ sums_after first (sums_after first known rs) qs
unfolding sums_after
sums_append first known [] qs = refl
sums_append first known (sum w ts b ∷ rs) qs = sums_append first (known ++ (some (normal (ts ≥ b)) ∷ [])) rs qs
sums_append first known (derivation ks ∷ rs) qs = sums_append first (known ++ (evaluate (step_sum first known) ks ∷ [])) rs qs
sums_append first known (clause s ls ∷ rs) qs = sums_append first known rs qs
sums_append first known (deletion ss ∷ rs) qs = sums_append first known rs qs

pub sums_grow : (first : ℕ) (known : List (Option Sum)) (rs : List Record) → (ext : List (Option Sum)) × (sums_after first known rs ≡ known ++ ext)
unfolding sums_after
sums_grow first known [] = ([], sym (append-nil known))
sums_grow first known (sum w ts b ∷ rs) = let k = sums_grow first (known ++ (some (normal (ts ≥ b)) ∷ [])) rs in
    ((some (normal (ts ≥ b)) ∷ []) ++ k.0, k.1 ∙ append_assoc known (some (normal (ts ≥ b)) ∷ []) k.0)
sums_grow first known (derivation ks ∷ rs) = let k = sums_grow first (known ++ (evaluate (step_sum first known) ks ∷ [])) rs in
    ((evaluate (step_sum first known) ks ∷ []) ++ k.0, k.1 ∙ append_assoc known (evaluate (step_sum first known) ks ∷ []) k.0)
sums_grow first known (clause s ls ∷ rs) = sums_grow first known rs
sums_grow first known (deletion ss ∷ rs) = sums_grow first known rs

pub sums_length : (first : ℕ) (known : List (Option Sum)) (rs : List Record) → length (sums_after first known rs) ≡ length known + steps rs
unfolding sums_after steps
sums_length first known [] = omega arith
sums_length first known (sum w ts b ∷ rs) = sums_length first (known ++ (some (normal (ts ≥ b)) ∷ [])) rs ∙ rw length-append (omega arith)
sums_length first known (derivation ks ∷ rs) = sums_length first (known ++ (evaluate (step_sum first known) ks ∷ [])) rs
    ∙ rw length-append (omega arith)
sums_length first known (clause s ls ∷ rs) = sums_length first known rs
sums_length first known (deletion ss ∷ rs) = sums_length first known rs

pub step_known : (first : ℕ) (sums : List (Option Sum)) (j : ℕ) → step_sum first sums (first + j) ≡ get_or sums j none
unfolding step_sum
step_known first sums j = let e : first + j - first ≡ j = omega arith in
    rw (le-ltb (first + j) first (omega arith), step_sum) (ap (λ (i : ℕ). get_or sums i none) e)

-- ---- one step

module _ (first : ℕ) (pre post : List Record) where
  known : List (Option Sum)
  known = sums_after first [] pre

  -- What follows changes no step.
  step_here : (rs : List Record) (x : Option Sum) → sums_after first known rs ≡ sums_after first (known ++ (x ∷ [])) post
      → step_of first (pre ++ rs) (first + steps pre) ≡ x
  unfolding step_of known
  step_here rs x e =
      let w = sums_grow first (known ++ (x ∷ [])) post in
      let n : steps pre ≡ length known + 0 = omega (arith, sums_length first [] pre) in
      rw (sums_append first [] pre rs, n) (rw (e, w.1, append_assoc known (x ∷ []) w.0)
      (step_known first (known ++ ((x ∷ []) ++ w.0)) (length known + 0) ∙ get_or-append-add known ((x ∷ []) ++ w.0) 0 none))

  pub step_sum_lem : (w : ℕ) (ts : List Term) (b : ℕ) → step_of first (pre ++ (sum w ts b ∷ post)) (first + steps pre) ≡ some (normal (ts ≥ b))
  unfolding sums_after
  step_sum_lem w ts b = step_here (sum w ts b ∷ post) (some (normal (ts ≥ b))) refl

  pub step_derivation : (ks : List Token) → step_of first (pre ++ (derivation ks ∷ post)) (first + steps pre) ≡ evaluate (step_of first pre) ks
  unfolding sums_after known step_of
  step_derivation ks = step_here (derivation ks ∷ post) (evaluate (step_sum first known) ks) refl
