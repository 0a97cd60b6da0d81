-- `places::after_record` meets its contract: the cases of `after_record`.
use Rattle.std.proofs.Common.{arith}
use mathlib.Core.Path.{◌∙◌}
use Rattle.places.proofs.Turns.{record_derivation, record_sum, record_clause, record_other}
use Rattle.places.proofs.after_record.Goals as goal

pub returns-then-kind-eq-DERIVATION : goal.returns-then-kind-eq-DERIVATION
returns-then-kind-eq-DERIVATION c = c.after_tokens.ensures ∙ record_derivation _ _ c.number_at-kind.ensures c.number_at-first.ensures c.if-kind-eq-DERIVATION.true

pub returns-in-1 : goal.returns-in-1
returns-in-1 c = rw c.from.ensures at c.after_numbers.ensures ∙ record_sum _ _ c.number_at-kind.ensures c.number_at-first.ensures c.number_at-second.ensures c.in-1.is

pub returns-in-3 : goal.returns-in-3
returns-in-3 c = rw c.from-in-3.ensures at c.after_numbers-in-3.ensures ∙ record_clause _ _ c.number_at-kind.ensures c.number_at-first.ensures c.number_at-second.ensures c.in-3.is

pub returns-in_default : goal.returns-in_default
returns-in_default c =
    rw c.from-in_default.ensures at c.after_numbers-in_default.ensures ∙ record_other _ _ c.number_at-kind.ensures c.number_at-first.ensures (λ e. omega arith) (λ e. omega arith) (λ e. omega arith)
