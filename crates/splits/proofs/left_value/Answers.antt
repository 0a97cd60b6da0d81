-- `splits::left_value` meets its contract: each case is one of `left_value`.
use Rattle.splits.specs.Splits.{left_value}
use Rattle.splits.proofs.left_value.Goals as goal

pub returns-then-only_if : goal.returns-then-only_if
unfolding left_value
returns-then-only_if c = rw c.if-only_if.true

pub returns-else-only_if : goal.returns-else-only_if
unfolding left_value
returns-else-only_if c = rw c.if-only_if.false
