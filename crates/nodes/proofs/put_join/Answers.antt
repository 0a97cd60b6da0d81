-- `nodes::put_join` meets its contract: what its calls leave is the table with the join (`table_join`).
use Rattle.std.proofs.Common.{arith}
use mathlib.Core.Path.{ap}
use Rattle.rows.specs.declared.Shown.{Shown}
use Rattle.nodes.proofs.Adding.{left_side, right_side, length_join, table_join, left_low, right_low}
use Rattle.nodes.proofs.put_join.Goals as goal

pub join_row-row-requires-clause-limits : goal.join_row-row-requires-clause-limits
join_row-row-requires-clause-limits c =
    let j = c.requires.joinable.1 in
    let e = rw c.store_at-base.ensures at (c.shown-left.ensures c.requires.joinable.0 j.table j.next (omega (arith, j.left, j.next))) in
    let f = rw c.store_at-base.ensures at (c.shown-right.ensures c.requires.joinable.0 j.table j.next (omega (arith, j.right, j.next))) in
    rw (e, f) (j.low, j.short, left_low j, right_low j)

pub returns : goal.returns
returns c =
    λ t j.
    let e = rw c.store_at-base.ensures at (c.shown-left.ensures t j.table j.next (omega (arith, j.left, j.next))) in
    let f = rw c.store_at-base.ensures at (c.shown-right.ensures t j.table j.next (omega (arith, j.right, j.next))) in (
      omega (arith, ap (λ (s : Shown). s.len) e, ap (λ (s : Shown). s.len) f, length_join j),
      rw (
        c.put_row.ensures,
        c.join_row-row.ensures t (rw e (left_side j)) (rw f (right_side j)),
        e,
        f,
      ) (table_join j c.requires.room),
    )
