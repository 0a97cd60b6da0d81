-- `define::look_up_window` meets its contract: the log is too short, the window is stored, or its three parts come one after the other.
use Rattle.std.proofs.Common.{arith}
use Prim.Native.Nat.{◌+◌}
use Rattle.cert.specs.Definitions.{window}
use Rattle.define.specs.Represents.{memory}
use Rattle.define.proofs.Looks.{look_up_grows, sims_there, sims_window, rest_represented}
use Rattle.define.proofs.Simulates.{sims_full, sims_under, represented_to, represented_after}
use Rattle.define.proofs.Slots.{window_named}
use Rattle.define.proofs.Windows.{window_of, window_slots, window_in, window_several, window_bounds}
use Rattle.define.proofs.look_up_window.Goals.{then-log-at-via-then-log-at, then-log-at-via-else-log-at+then-store-slot-ne0}
use Rattle.define.proofs.look_up_window.Goals as goal

pub overflow_add-slot : goal.overflow_add-slot
overflow_add-slot c =
    let b = window_bounds c.requires.table.bounded c.requires.represents c.requires.holds in
    omega (arith, b.small, b.inside)

pub offset_bounds-store-slot : goal.offset_bounds-store-slot
offset_bounds-store-slot c =
    let b = window_bounds c.requires.table.bounded c.requires.represents c.requires.holds in
    omega (arith, b.small, b.inside)

pub bounds-store-slot : goal.bounds-store-slot
bounds-store-slot c =
    let b = window_bounds c.requires.table.bounded c.requires.represents c.requires.holds in
    omega (arith, b.small, b.inside)

pub returns-then-log-at : goal.returns-then-log-at
returns-then-log-at c = elim c.then-log-at.branch [
  | then-log-at-via-then-log-at w ↦
      sims_full {m = memory c.args.store.now c.args.log.now c.args.at} (look_up_grows (window c.args.s.side.node c.args.s.side.offset c.args.s.len)) w.if-log-at.true
  | then-log-at-via-else-log-at+then-store-slot-ne0 w ↦
      sims_there (window c.args.s.side.node c.args.s.side.offset c.args.s.len) (c.args.s.window + 1) (memory c.args.store.now c.args.log.now c.args.at) w.if-log-at.false
      (λ t u l x. window_named l.bounded (window_of l.bounded c.args.s x)) (λ t u l x. (window_slots l.bounded c.args.s x).1) w.if-store-slot-ne0.true
]

pub overflow_add-to : goal.overflow_add-to
overflow_add-to c =
    let b = window_bounds c.requires.table.bounded c.requires.represents c.requires.holds in
    omega (arith, b.values)

pub outputs-outputs-requires : goal.outputs-outputs-requires
outputs-outputs-requires c =
    let b = window_bounds c.requires.table.bounded c.requires.represents c.requires.holds in
    (omega (arith, b.low), b.values)

pub offset_bounds-outputs-from : goal.offset_bounds-outputs-from
offset_bounds-outputs-from c =
    let b = window_bounds c.requires.table.bounded c.requires.represents c.requires.holds in
    omega (arith, b.values)

pub slice_bounds-look_up_zero-end : goal.slice_bounds-look_up_zero-end
slice_bounds-look_up_zero-end c =
    let b = window_bounds c.before.requires.table.bounded c.before.requires.represents c.before.requires.holds in
    omega (arith, b.values)

pub look_up_zero-a-requires : goal.look_up_zero-a-requires
look_up_zero-a-requires c =
    let b = window_bounds c.before.requires.table.bounded c.before.requires.represents c.before.requires.holds in
    record { several = window_several c.before.args.s c.outputs-outputs.ensures b.several b.values; represented = (c.before.args.nodes.now, c.before.args.s.side.node, c.before.args.s.side.offset, c.before.args.s.len, represented_to (λ t u l w. window_in c.before.args.s c.outputs-outputs.ensures l.bounded w) c.before.requires) }

pub look_up_reals-b-requires : goal.look_up_reals-b-requires
look_up_reals-b-requires c =
    let first = c.look_up_zero-a.ensures c.before.args.nodes.now c.before.args.s.side.node c.before.args.s.side.offset c.before.args.s.len in
    represented_to (λ t u l w. window_of l.bounded c.before.args.s w)
    (represented_after (λ t u l w. window_in c.before.args.s c.outputs-outputs.ensures l.bounded w) first c.before.requires)

pub define_window-requires : goal.define_window-requires
define_window-requires c =
    let first = sims_under (λ t u l w. window_in c.before.args.s c.outputs-outputs.ensures l.bounded w)
    (c.look_up_zero-a.ensures c.before.args.nodes.now c.before.args.s.side.node c.before.args.s.side.offset c.before.args.s.len) in
    let second = sims_under (λ t u l w. window_of l.bounded c.before.args.s w) c.look_up_reals-b.ensures in (
      c.before.args.nodes.now,
      represented_to (λ t u l q. (record { window = q.0; list = c.outputs-outputs.ensures }, q.1))
          (rest_represented c.before.args.s.side.node c.before.args.s.side.offset c.before.args.s.len (c.before.args.s.window + 1) c.if-log-at.false c.if-store-slot-ne0.false
          (λ t l w. window_of l.bounded c.before.args.s w) (λ t l w. (window_slots l.bounded c.before.args.s w).1) first second c.before.requires),
    )

pub returns : goal.returns
returns c =
    let first = sims_under (λ t u l w. window_in c.before.args.s c.outputs-outputs.ensures l.bounded w)
    (c.look_up_zero-a.ensures c.before.args.nodes.now c.before.args.s.side.node c.before.args.s.side.offset c.before.args.s.len) in
    let second = sims_under (λ t u l w. window_of l.bounded c.before.args.s w) c.look_up_reals-b.ensures in
    sims_window c.before.args.s.side.node c.before.args.s.side.offset c.before.args.s.len (c.before.args.s.window + 1) c.if-log-at.false c.if-store-slot-ne0.false
    (λ t l w. window_of l.bounded c.before.args.s w) (λ t l w. (window_slots l.bounded c.before.args.s w).1) first second
    (sims_under (λ t u l q. (record { window = q.0; list = c.outputs-outputs.ensures }, q.1)) (c.define_window.ensures c.before.args.nodes.now))
