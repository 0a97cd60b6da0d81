-- `define::define_window` meets its contract: the log is too short, or the records are written.
use Rattle.std.proofs.Common.{arith}
use Prim.Native.Nat.{◌+◌, ◌*◌}
use Rattle.cert.specs.Definitions.{window}
use Rattle.cert.specs.State.{step_in}
use Rattle.define.specs.Represents.{memory}
use Rattle.define.proofs.Codes.{window_count}
use Rattle.define.proofs.Looks.{define_grows, sims_define}
use Rattle.define.proofs.Simulates.{sims_full, exact_of}
use Rattle.define.proofs.Slots.{window_named}
use Rattle.define.proofs.Windows.{window_of, window_slots, window_bounds, handed, bounds_of}
use Rattle.define.proofs.define_window.Goals as goal

pub returns-then-log-at : goal.returns-then-log-at
returns-then-log-at c =
    λ ns. sims_full {m = memory c.args.store.now c.args.log.now c.args.at} (define_grows (window c.args.s.side.node c.args.s.side.offset c.args.s.len)) c.if-log-at.true

pub store_at-row-requires : goal.store_at-row-requires
store_at-row-requires c =
    let b = window_bounds c.requires.1.table.bounded c.requires.1.represents c.requires.1.holds.0.window in
    omega (arith, b.nodes)

pub overflow_add-row : goal.overflow_add-row
overflow_add-row c =
    let b = window_bounds c.requires.1.table.bounded c.requires.1.represents c.requires.1.holds.0.window in
    omega (arith, b.nodes, c.store_at-row.ensures)

pub offset_bounds-store-row : goal.offset_bounds-store-row
offset_bounds-store-row c =
    let b = window_bounds c.requires.1.table.bounded c.requires.1.represents c.requires.1.holds.0.window in
    omega (arith, b.nodes, c.store_at-row.ensures)

pub slice_bounds-put_window-end : goal.slice_bounds-put_window-end
slice_bounds-put_window-end c =
    let b = window_bounds c.before.requires.1.table.bounded c.before.requires.1.represents c.before.requires.1.holds.0.window in
    omega (arith, b.room, c.store_at-row.ensures)

pub put_window-end-requires : goal.put_window-end-requires
put_window-end-requires c =
    bounds_of c.before.requires.1.table.bounded (exact_of c.if-log-at.false c.before.requires.1.represents) c.before.requires.1.holds.0 c.store_at-row.ensures

pub overflow_cast-len : goal.overflow_cast-len
overflow_cast-len c =
    let b = window_bounds c.before.requires.1.table.bounded c.before.requires.1.represents c.before.requires.1.holds.0.window in
    omega (arith, b.values)

pub overflow_mul-len : goal.overflow_mul-len
overflow_mul-len c =
    let b = window_bounds c.before.requires.1.table.bounded c.before.requires.1.represents c.before.requires.1.holds.0.window in
    omega (arith, b.values)

pub overflow_add-len : goal.overflow_add-len
overflow_add-len c =
    let b = window_bounds c.before.requires.1.table.bounded c.before.requires.1.represents c.before.requires.1.holds.0.window in
    omega (arith, b.values)

pub overflow_add-s : goal.overflow_add-s
overflow_add-s c =
    let b = window_bounds c.before.requires.1.table.bounded c.before.requires.1.represents c.before.requires.1.holds.0.window in
    omega (arith, b.small)

pub store_key-requires : goal.store_key-requires
store_key-requires c =
    let b = window_bounds c.before.requires.1.table.bounded c.before.requires.1.represents c.before.requires.1.holds.0.window in
    (omega (arith, b.above), b.inside, b.small, omega (arith, b.values))

pub returns : goal.returns
returns c =
    let m₀ = memory c.before.args.store.now c.before.args.log.now c.before.args.at in
    let on = (c.put_window-end.ensures (step_in c.before.requires.1.state.stored) c.before.requires.1.nodes c.before.args.s.side.node
    (handed c.before.requires.1.table.bounded (exact_of c.if-log-at.false c.before.requires.1.represents) c.before.requires.1.holds.0 c.store_at-row.ensures)).onward in
    λ ns.
    sims_define (window c.before.args.s.side.node c.before.args.s.side.offset c.before.args.s.len) (c.before.args.s.window + 1) m₀ c.if-log-at.false (λ t u l w. window_named l.bounded (window_of l.bounded c.before.args.s w.window))
    (λ t u l w. (window_slots l.bounded c.before.args.s w.window).1) (2 * c.before.args.s.len + 1)
    (λ _ t u l w _ x. c.put_window-end.ensures (step_in u.stored) t c.before.args.s.side.node (handed l.bounded x w c.store_at-row.ensures))
    on (λ t u g l w. window_count c.before.args.s.side.node c.before.args.s.side.offset c.before.args.s.len t g) c.store_key.ensures
