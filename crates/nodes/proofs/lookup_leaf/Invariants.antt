-- `nodes::lookup_leaf` meets its contract: no leaf from number i on has the literal.
use Prim.Native.Nat.{◌≤◌}
use lib.ListN.{length}
use Rattle.sizes.specs.Sizes.{most_leaves, nodes_start}
use Rattle.nodes.proofs.Leaves.{NoneFrom}
use Rattle.nodes.proofs.lookup_leaf.Given as goal

abbrev pub invariant-loop-i : goal.invariant-loop-i
invariant-loop-i l = (l.count ≤ most_leaves) × (nodes_start ≤ length l.nodes) × NoneFrom l.nodes l.count l.literal l.i
