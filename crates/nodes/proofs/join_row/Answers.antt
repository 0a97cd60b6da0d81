-- `nodes::join_row` meets its contract: the two lists, then the numbers before them.
use Rattle.std.proofs.Common.{arith}
use mathlib.Core.Path.{sym, ap, ◌∙◌}
use mathlib.Core.List.{List, ◌++◌}
use Prim.Native.Nat.{ℕ}
use Rattle.std.specs.Int.Bits.{bit_or}
use Rattle.totdb.specs.Below.{leaves_below, mask}
use Rattle.totdb.specs.Nodes.{side_leaves}
use Rattle.totdb.proofs.Masks.{mask_append}
use Rattle.nodes.proofs.Joining.{row_made}
use Rattle.nodes.proofs.Literals.{small, count_is}
use Rattle.nodes.proofs.join_row.Goals as goal

pub put_side-requires : goal.put_side-requires
put_side-requires c = (omega arith, small c.requires.sided.1 (omega arith))

pub put_side-requires-2 : goal.put_side-requires-2
put_side-requires-2 c = (omega arith, small c.requires.sided.2 (omega arith))

pub returns : goal.returns
returns c =
    λ t d f.
    let x = c.below_at-left.ensures t d.table d.there in
    let y = c.below_at-right.ensures t f.table f.there in
    let l : List ℕ = leaves_below t c.args.l.side.node in
    let r : List ℕ = leaves_below t c.args.r.side.node in
    row_made c.args.variable (mask (l ++ r)) c.args.l c.args.r (side_leaves t c.args.l.side) (side_leaves t c.args.r.side) (count_is d) (count_is f)
    (c.append_side.ensures t d) (c.append_side-2.ensures t f) c.put_below.ensures
    (ap (λ (k : ℕ). bit_or k c.below_at-right.result) x ∙ ap (bit_or (mask l)) y ∙ sym (mask_append l r)) c.put_side.ensures c.put_side-2.ensures
