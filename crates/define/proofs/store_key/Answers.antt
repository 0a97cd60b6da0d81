-- `define::store_key` meets its contract: each case is one of `key_stored`.
use borrow.Author.Tests.{lt-ltb, le-ltb}
use lib.ListN.{get_or}
use Rattle.sizes.specs.Sizes.{trail, marks_at}
use Rattle.define.specs.Store.{key_stored, steps_stored}
use Rattle.define.proofs.store_key.Goals as goal

pub returns-then-k-ge-TRAIL : goal.returns-then-k-ge-TRAIL
unfolding key_stored steps_stored
returns-then-k-ge-TRAIL c =
    rw (le-ltb (get_or c.before.args.store.now marks_at 0) trail (rw c.number_at-k.ensures.0 at c.if-k-ge-TRAIL.true), c.step_after.ensures)

pub returns : goal.returns
unfolding key_stored steps_stored
returns c =
    rw (lt-ltb (get_or c.before.args.store.now marks_at 0) trail (rw c.number_at-k.ensures.0 at c.if-k-ge-TRAIL.false), c.step_after.ensures, c.number_at-k.ensures.0)
