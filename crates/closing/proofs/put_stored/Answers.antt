use Rattle.std.proofs.Common.{rules, arith}
use mathlib.Core.Path.{refl}
use mathlib.Core.List.{flat_map}
use native.Mathlib.Numerals.{add-one}
use Rattle.record.proofs.Writing.{after, nothing}
use Rattle.cert.specs.State.{stored_steps}
use Rattle.closing.proofs.Marks.{mark_is, mark_inside, first_is, first_low, steps_more}
use Rattle.closing.proofs.put_stored.Goals as goal

pub loop-slot-init : goal.loop-slot-init
unfolding stored_steps flat_map
loop-slot-init c = (refl, λ t es l. nothing)

pub bounds-store-slot : goal.bounds-store-slot
bounds-store-slot c = mark_inside c.requires.2 c.loop-slot.slot-index c.loop-slot-test.true

pub count_steps-requires : goal.count_steps-requires
count_steps-requires c = (c.requires.0, _, mark_is c.requires.2 c.loop-slot.slot-index c.loop-slot-test.true)

pub put_steps-end-requires : goal.put_steps-end-requires
put_steps-end-requires c =
    omega (arith, c.count_steps.ensures.upper_bound, first_low c.requires.2 c.loop-slot.slot-index c.loop-slot-test.true)

pub loop-slot-preserved : goal.loop-slot-preserved
loop-slot-preserved c = (
  search rules,
  λ t es l.
      let k = c.count_steps.ensures.value t _ (mark_is l c.loop-slot.slot-index c.loop-slot-test.true) in
      let first = first_is l c.loop-slot.slot-index c.loop-slot-test.true in
      rw (add-one c.loop-slot.slot-index, steps_more l c.loop-slot.slot-index c.loop-slot-test.true, ← k, ← first)
      (after (c.loop-slot.invariant.1 t es l) c.put_steps-end.ensures),
)
