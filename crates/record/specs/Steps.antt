-- What the steps of a log come to by the cutting-planes rules, and the sums that a log defines.
use Rattle.std.specs.Prelude.{Bool, true, false, ◌||◌, List, [], ◌∷◌, ◌++◌, ℕ, suc, ◌-◌, ltb, eqb, get_or}
use Rattle.std.proofs.Math.Option.{Option, none, some}
use Rattle.pb.specs.Rules.{evaluate}
use Rattle.pb.specs.Sum.{Term, Sum, ◌≥◌, normal}
use Rattle.record.specs.Record.{Record, sum, derivation, clause, deletion}

-- ---- the steps of a log

-- The sum of step n, where those of the steps from `first` on are known.
unfoldable pub step_sum : ℕ → List (Option Sum) → ℕ → Option Sum
step_sum first known n = elim (ltb n first) [ true ↦ none | false ↦ get_or known (n - first) none ]

-- The sums of all steps of a log, after those that are known.
unfoldable pub sums_after : ℕ → List (Option Sum) → List Record → List (Option Sum)
unfolding evaluate step_sum normal
sums_after first known [] = known
sums_after first known (sum w ts b ∷ rs) = sums_after first (known ++ (some (normal (ts ≥ b)) ∷ [])) rs
sums_after first known (derivation ks ∷ rs) = sums_after first (known ++ (evaluate (step_sum first known) ks ∷ [])) rs
sums_after first known (clause s ls ∷ rs) = sums_after first known rs
sums_after first known (deletion ss ∷ rs) = sums_after first known rs

-- What step n of a log comes to, the log's first step being `first`.
unfoldable pub step_of : ℕ → List Record → ℕ → Option Sum
unfolding step_sum sums_after
step_of first rs n = step_sum first (sums_after first [] rs) n

-- ---- the sums that a log defines

-- A sum of kind 1 with its witness, as written; or what a derivation comes to that no clause names.
pub data Defined : Type 0 where
  written : ℕ → List Term → ℕ → Defined
  derived : Option Sum → Defined

-- A clause record names step n.
unfoldable pub names : ℕ → List Record → Bool
names n [] = false
names n (sum w ts b ∷ rs) = names n rs
names n (derivation ks ∷ rs) = names n rs
names n (clause s ls ∷ rs) = eqb s n || names n rs
names n (deletion ss ∷ rs) = names n rs

-- In the order of the log, where the next step is n; `all` is the whole log.
unfoldable pub defined_from : (ℕ → Option Sum) → List Record → ℕ → List Record → List Defined
unfolding names
defined_from sums all n [] = []
defined_from sums all n (sum w ts b ∷ rs) = written w ts b ∷ defined_from sums all (suc n) rs
defined_from sums all n (derivation ks ∷ rs) =
    elim (names n all) [ true ↦ defined_from sums all (suc n) rs | false ↦ derived (sums n) ∷ defined_from sums all (suc n) rs ]
defined_from sums all n (clause s ls ∷ rs) = defined_from sums all n rs
defined_from sums all n (deletion ss ∷ rs) = defined_from sums all n rs

unfoldable pub defined : ℕ → List Record → List Defined
unfolding defined_from step_of
defined first rs = defined_from (step_of first rs) rs first rs
