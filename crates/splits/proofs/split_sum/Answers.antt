-- `splits::split_sum` meets its contract: each case is one of `split_sum`.
use Rattle.splits.specs.Splits.{split_sum}
use Rattle.splits.proofs.split_sum.Goals as goal

pub returns-then-only_if : goal.returns-then-only_if
unfolding split_sum
returns-then-only_if c = rw c.if-only_if.true

pub returns-else-only_if : goal.returns-else-only_if
unfolding split_sum
returns-else-only_if c = rw c.if-only_if.false
