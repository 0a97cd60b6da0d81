-- `splits::is_long` meets its contract.
use borrow.Author.Tests.{lt-ltb, le-ltb}
use Rattle.splits.specs.Ready.{is_long}
use Rattle.splits.proofs.is_long.Goals as goal

pub returns-then-s-gt1 : goal.returns-then-s-gt1
unfolding is_long
returns-then-s-gt1 c = rw (lt-ltb 1 c.args.s.len c.if-s-gt1.true) c.is_plain.ensures

pub returns-else-s-gt1 : goal.returns-else-s-gt1
unfolding is_long
returns-else-s-gt1 c = rw (le-ltb 1 c.args.s.len c.if-s-gt1.false)
