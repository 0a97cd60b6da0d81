-- `splits::has_both` meets its contract: by the direction.
use borrow.Author.Tests.{lt-leb, le-leb, lt-ltb, le-ltb}
use Rattle.splits.specs.Ready.{has_both}
use Rattle.splits.proofs.has_both.Goals as goal

pub returns-then-k-x : goal.returns-then-k-x
unfolding has_both
returns-then-k-x c = rw (c.if-k.true, le-leb c.args.k.left c.args.x.left.len c.if-k-x.true)

pub returns-else-k-x : goal.returns-else-k-x
unfolding has_both
returns-else-k-x c = rw (c.if-k.true, lt-leb c.args.k.left c.args.x.left.len c.if-k-x.false)

pub returns-then-k-gt0 : goal.returns-then-k-gt0
unfolding has_both
returns-then-k-gt0 c = rw (c.if-k.false, lt-ltb 0 c.args.k.left c.if-k-gt0.true)

pub returns-else-k-gt0 : goal.returns-else-k-gt0
unfolding has_both
returns-else-k-gt0 c = rw (c.if-k.false, le-ltb 0 c.args.k.left c.if-k-gt0.false)
