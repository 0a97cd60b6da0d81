use Rattle.std.proofs.Common.{arith}
use Rattle.nodes.proofs.Leaves.{none_newer, not_there, found_is, missing_is}
use Rattle.nodes.proofs.lookup_leaf.Goals as goal

pub loop-i-init : goal.loop-i-init
loop-i-init c = (
  omega (arith, c.requires.1.bounded.few_leaves, c.requires.2),
  omega (arith, c.requires.1.has.room),
  none_newer c.args.nodes.now c.args.count c.args.literal,
)

pub returns-then-nodes-i : goal.returns-then-nodes-i
returns-then-nodes-i c =
    λ t tb e.
    found_is c.args.nodes.now c.args.count c.args.literal t tb e c.loop-i.i _ _ (omega arith) (omega arith) c.loop-i.invariant.2 (omega arith)
    (omega (arith, c.number_at.ensures.0)) (omega arith)

pub loop-i-preserved : goal.loop-i-preserved
loop-i-preserved c = (
  c.loop-i.invariant.0,
  c.loop-i.invariant.1,
  not_there c.args.nodes.now c.args.count c.args.literal c.loop-i.i (omega arith) (omega arith) c.loop-i.invariant.2 (λ e. omega arith),
)

pub returns : goal.returns
returns c =
    λ t tb e. missing_is c.args.nodes.now c.args.count c.args.literal t tb e c.loop-i.i _ c.loop-i.invariant.2 (omega arith) (omega arith)
