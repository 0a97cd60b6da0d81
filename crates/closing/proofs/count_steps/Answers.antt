-- `closing::count_steps` meets its contract: the column of the slot says which definition stands there.
use Rattle.std.proofs.Common.{arith}
use mathlib.Core.Path.{sym, ap, ◌∙◌}
use Prim.Native.Nat.{ℕ}
use lib.ListN.{get_or}
use Rattle.totdb.specs.Nodes.{node_at}
use Rattle.rows.proofs.Reading.{len_is}
use Rattle.closing.proofs.Counting.{node_of, place_there, place_row, real_case, window_case, zero_case}
use Rattle.closing.proofs.count_steps.Goals as goal

pub overflow_sub-node : goal.overflow_sub-node
overflow_sub-node c = omega (arith, (place_there c.requires.2).0)

pub overflow_sub-column : goal.overflow_sub-column
overflow_sub-column c = omega (arith, (place_there c.requires.2).0)

pub row_at-row-requires : goal.row_at-row-requires
row_at-row-requires c = omega (arith, (place_there c.requires.2).2)

pub number_at-requires : goal.number_at-requires
number_at-requires c = omega (arith, place_row c.requires.2, c.row_at-row.ensures)

pub returns-then-column-lt-LEFT_WINDOW : goal.returns-then-column-lt-LEFT_WINDOW
returns-then-column-lt-LEFT_WINDOW c =
    record {
      value = (λ t k s.
          let length = c.number_at.ensures.0 ∙ ap (λ (x : ℕ). get_or c.args.nodes.now x 0) c.row_at-row.ensures ∙ len_is s.table _ (place_there s).1 in
          c.count_real.ensures.value (node_at t (node_of c.args.slot)) (sym length) ∙ real_case k s c.if-column-lt-LEFT_WINDOW.true);
      upper_bound = omega (arith, c.count_real.ensures.upper_bound);
    }

pub offset_bounds-nodes-row : goal.offset_bounds-nodes-row
offset_bounds-nodes-row c =
    omega (arith, (place_there c.requires.2).2, c.row_at-row.ensures)

pub bounds-nodes-row : goal.bounds-nodes-row
bounds-nodes-row c =
    omega (arith, place_row c.requires.2, c.row_at-row.ensures)

pub overflow_mul-result : goal.overflow_mul-result
overflow_mul-result c =
    rw c.row_at-row.ensures (omega (arith, (window_case 0 c.requires.1 c.requires.2 c.if-column.true).0))

pub overflow_add-result-then-column-2 : goal.overflow_add-result-then-column-2
overflow_add-result-then-column-2 c =
    rw c.row_at-row.ensures (omega (arith, (window_case 0 c.requires.1 c.requires.2 c.if-column.true).0))

pub returns-then-column : goal.returns-then-column
returns-then-column c =
    rw c.row_at-row.ensures (record { value = (λ t k s. (window_case 0 k s c.if-column.true).1); upper_bound = omega (arith, (window_case 0 c.requires.1 c.requires.2 c.if-column.true).0) })

pub offset_bounds-nodes-row-then-column-2 : goal.offset_bounds-nodes-row-then-column-2
offset_bounds-nodes-row-then-column-2 c =
    omega (arith, (place_there c.requires.2).2, c.row_at-row.ensures)

pub bounds-nodes-row-then-column-2 : goal.bounds-nodes-row-then-column-2
bounds-nodes-row-then-column-2 c =
    omega (arith, place_row c.requires.2, c.row_at-row.ensures)

pub overflow_mul-result-then-column-2 : goal.overflow_mul-result-then-column-2
overflow_mul-result-then-column-2 c =
    rw c.row_at-row.ensures (omega (arith, (window_case 1 c.requires.1 c.requires.2 c.if-column-2.true).0))

pub overflow_add-result-then-column-2-4 : goal.overflow_add-result-then-column-2-4
overflow_add-result-then-column-2-4 c =
    rw c.row_at-row.ensures (omega (arith, (window_case 1 c.requires.1 c.requires.2 c.if-column-2.true).0))

pub returns-then-column-2 : goal.returns-then-column-2
returns-then-column-2 c =
    rw c.row_at-row.ensures (record { value = (λ t k s. (window_case 1 k s c.if-column-2.true).1); upper_bound = omega (arith, (window_case 1 c.requires.1 c.requires.2 c.if-column-2.true).0) })

pub returns : goal.returns
returns c = record { value = (λ t k s. zero_case k s c.if-column-lt-LEFT_WINDOW.false c.if-column.false c.if-column-2.false); upper_bound = omega arith }
