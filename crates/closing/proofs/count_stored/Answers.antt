use Rattle.std.proofs.Common.{arith}
use mathlib.Core.Path.{refl}
use mathlib.Core.List.{flat_map}
use native.Mathlib.Numerals.{add-one}
use Rattle.cert.specs.State.{stored_steps}
use Rattle.closing.proofs.Marks.{mark_is, length_more}
use Rattle.closing.proofs.count_stored.Goals as goal

pub loop-slot-init : goal.loop-slot-init
unfolding stored_steps flat_map
loop-slot-init c = (omega arith, λ t es l. refl)

pub count_steps-n-requires : goal.count_steps-n-requires
count_steps-n-requires c = (c.requires.0, _, mark_is c.requires.2 c.loop-slot.slot-index c.loop-slot-test.true)

pub loop-slot-preserved : goal.loop-slot-preserved
loop-slot-preserved c = (
  omega (arith, c.loop-slot.invariant.0, c.count_steps-n.ensures.upper_bound),
  λ t es l.
      let k = c.count_steps-n.ensures.value t _ (mark_is l c.loop-slot.slot-index c.loop-slot-test.true) in
      rw (add-one c.loop-slot.slot-index) (omega (arith, c.loop-slot.invariant.1 t es l, k, length_more l c.loop-slot.slot-index c.loop-slot-test.true)),
)
