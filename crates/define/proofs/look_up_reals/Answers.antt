use Rattle.std.proofs.Common.{rules, arith}
use mathlib.Core.Path.{refl}
use native.Mathlib.Nat.{le_antisymm}
use Rattle.define.proofs.Codes.{real_represented, reals_more, reals_none}
use Rattle.define.proofs.Simulates.{represented_after}
use Rattle.define.proofs.Slots.{window_inside}
use Rattle.define.proofs.look_up_reals.Goals as goal

pub loop-i-init : goal.loop-i-init
loop-i-init c = (omega arith, refl, refl, reals_none c.args.node c.args.offset)

pub overflow_add-offset : goal.overflow_add-offset
overflow_add-offset c =
    let w = window_inside c.requires.table.bounded c.requires.holds in
    let short = c.requires.table.bounded.short c.args.node w.0 in
    omega (arith, w.1, short)

pub overflow_add-offset-in-loop-i : goal.overflow_add-offset-in-loop-i
overflow_add-offset-in-loop-i c =
    let w = window_inside c.requires.table.bounded c.requires.holds in
    let short = c.requires.table.bounded.short c.args.node w.0 in
    omega (arith, w.1, short)

pub look_up_real-p-requires : goal.look_up_real-p-requires
look_up_real-p-requires c = real_represented c.loop-i-test.true (represented_after (λ t s l w. w) c.loop-i.invariant.3 c.requires)

pub loop-i-preserved : goal.loop-i-preserved
loop-i-preserved c =
    (search rules, search rules, search rules, reals_more c.loop-i-test.true c.loop-i.invariant.3 c.look_up_real-p.ensures)

pub returns : goal.returns
returns c = rw (le_antisymm c.loop-i.invariant.0 c.loop-i-test.false) at c.loop-i.invariant.3
