-- `clauses::part_literal` meets its contract.
use Rattle.clauses.proofs.Joins.{only_literal, if_literal}
use Rattle.clauses.proofs.part_literal.Goals as goal

pub returns-then-only_if : goal.returns-then-only_if
returns-then-only_if c =
    λ t b i. rw (c.if-only_if.true, c.literal-literal.ensures) (only_literal b i c.requires.1 c.requires.2)

pub returns-else-only_if : goal.returns-else-only_if
returns-else-only_if c =
    λ t b i. rw (c.if-only_if.false, c.neg.ensures, c.literal-literal.ensures) (if_literal b i c.requires.1 c.requires.2)
