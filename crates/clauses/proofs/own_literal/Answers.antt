-- `clauses::own_literal` meets its contract: the output, or its negation.
use mathlib.Core.Path.{ap, ◌∙◌}
use Rattle.pb.specs.Sum.{neg}
use Rattle.totdb.specs.Nodes.{from_first}
use Rattle.clauses.specs.Joins.{last_literal}
use Rattle.clauses.proofs.Joins.{last_literal_lem}
use Rattle.clauses.proofs.own_literal.Goals as goal

pub returns-then-only_if : goal.returns-then-only_if
unfolding last_literal from_first
returns-then-only_if c = λ t i. rw c.if-only_if.true (c.neg.ensures ∙ ap neg (last_literal_lem i))

pub returns-else-only_if : goal.returns-else-only_if
unfolding last_literal from_first
returns-else-only_if c = λ t i. rw c.if-only_if.false (last_literal_lem i)
