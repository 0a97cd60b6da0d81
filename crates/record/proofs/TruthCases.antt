-- The records of document 01's whole case under an assignment that satisfies its sums: the hypotheses of `entailed` can be met.
use mathlib.Core.Path.{refl, sym, subst}
use mathlib.Core.Bool.{true}
use mathlib.Core.Logic.{⊎_elim}
use mathlib.Core.List.Memᴰ
use mathlib.Core.List.{List, [], ◌∷◌, Memᴰ}
use native.Mathlib.Omega.{arith}
use Rattle.pb.specs.Sum.{◌·◌, ◌≥◌, normal, clause_sum}
use Rattle.pb.specs.Truth.{Assignment, value, Satisfies, SatisfiesClause}
use Rattle.record.specs.Record.{Record, sum, derivation, clause, deletion}
use Rattle.record.specs.Steps.{step_of}
use Rattle.record.specs.Truth.{SatisfiesSums, Entailed}
use Rattle.record.proofs.Answers.{whole_case}
use Rattle.record.proofs.Truth.{entailed}

-- Every variable is true.
unfoldable pub trues : Assignment
trues x = true

-- The sum of a record is satisfied.
abbrev Good : Record → Type 0
Good (sum w ts b) = Satisfies trues (ts ≥ b)
Good (derivation ks) = Unit {0}
Good (clause s ls) = Unit {0}
Good (deletion ss) = Unit {0}

abbrev AllGood : List Record → Type 0
AllGood [] = Unit {0}
AllGood (r ∷ rs) = Good r × AllGood rs

good_of : (rs : List Record) → AllGood rs → (r : Record) → Memᴰ r rs → Good r
good_of [] g r m = absurd (Memᴰ.not-nil m)
good_of (q ∷ rs) g r m = ⊎_elim (λ e. subst Good (sym e) g.0) (good_of rs g.1 r) (Memᴰ.cases_cons m)

pub sums_satisfied : SatisfiesSums trues whole_case
unfolding whole_case trues value
sums_satisfied w ts b m =
    good_of whole_case (record { reaches = omega arith }, (record { reaches = omega arith }, (tt, (tt, (tt, (tt, tt)))))) (sum w ts b) m

pub met_step : Satisfies trues ((1 · 3 ∷ 1 · 4 ∷ []) ≥ 1)
unfolding Entailed whole_case step_of
met_step = (entailed 1 whole_case trues sums_satisfied).steps_hold 3 ((1 · 3 ∷ 1 · 4 ∷ []) ≥ 1) refl

pub met_clause : SatisfiesClause trues (1 ∷ 4 ∷ [])
unfolding Entailed whole_case step_of normal clause_sum
met_clause = (entailed 1 whole_case trues sums_satisfied).clauses_hold 4 (1 ∷ 4 ∷ [])
    (Memᴰ.tail (Memᴰ.tail (Memᴰ.tail (Memᴰ.tail (Memᴰ.tail (Memᴰ.head refl)))))) refl
