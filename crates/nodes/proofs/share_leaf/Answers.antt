-- `nodes::share_leaf` meets its contract: two masks have a bit in common where the lists of leaves overlap.
use Rattle.totdb.specs.Below.{leaves_below, share_leaf}
use Rattle.totdb.proofs.Masks.{overlap_masks}
use Rattle.nodes.proofs.share_leaf.Goals as goal

pub returns : goal.returns
unfolding share_leaf
returns c = λ t tb h k. rw (c.below_at.ensures t tb h, c.below_at-2.ensures t tb k) (overlap_masks (leaves_below t c.args.node) (leaves_below t c.args.other))
