-- `clauses::part` meets its contract: the literal is absent, or there.
use Rattle.std.proofs.Common.{arith}
use Rattle.clauses.proofs.Joins.{only_absent, if_absent}
use Rattle.clauses.proofs.part.Goals as goal

pub returns-then-s-a : goal.returns-then-s-a
unfolding Rattle.derivation.specs.Operands.part
returns-then-s-a c = λ t b i. rw c.if-only_if.true (only_absent b i (omega arith))

pub returns-then-only_if : goal.returns-then-only_if
unfolding Rattle.derivation.specs.Operands.part
returns-then-only_if c = λ t b i. rw c.if-only_if.true (c.part_literal.ensures t b i)

pub returns-then-a-eq0 : goal.returns-then-a-eq0
unfolding Rattle.derivation.specs.Operands.part
returns-then-a-eq0 c = λ t b i. rw c.if-only_if.false (if_absent b i (omega arith))

pub returns : goal.returns
unfolding Rattle.derivation.specs.Operands.part
returns c = λ t b i. rw c.if-only_if.false (c.part_literal-2.ensures t b i)
