-- `nodes::add_leaf` meets its contract: what it leaves is the table with the leaf (`table_leaf`).
use Rattle.std.proofs.Common.{arith}
use lib.ListN.{length-set}
use Rattle.nodes.proofs.Adding.{table_leaf}
use Rattle.nodes.proofs.add_leaf.Goals as goal

pub bounds-nodes-k-2 : goal.bounds-nodes-k-2
bounds-nodes-k-2 c = simp length-set (omega arith)

pub returns : goal.returns
returns c =
    λ t j. rw (c.put_row.ensures, c.leaf_row-r.ensures) (table_leaf j c.requires.room _ _ _ _ (omega arith) (omega arith) (omega arith) (omega arith))
