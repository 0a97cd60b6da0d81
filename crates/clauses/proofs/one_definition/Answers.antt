-- `clauses::one_definition` meets its contract: each case is one of `one_def`.
use Rattle.std.proofs.Common.{arith}
use Rattle.clauses.proofs.Firsts.{one_zero, one_own, one_above}
use Rattle.clauses.proofs.one_definition.Goals as goal

pub returns-then-value-gt1 : goal.returns-then-value-gt1
returns-then-value-gt1 c = λ f. rw c.neg.ensures (one_above f _ _ (omega (arith, c.if-value-gt1.true)))

pub returns-then-value-eq0 : goal.returns-then-value-eq0
returns-then-value-eq0 c = λ f. one_zero f _ _ (omega (arith, c.if-value-eq0.true))

pub returns : goal.returns
returns c = λ f. one_own f _ _ (omega (arith, c.if-value-gt1.false, c.if-value-eq0.false))
