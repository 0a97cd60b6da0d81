use Rattle.std.proofs.Common.{rules, arith}
use mathlib.Core.Path.{◌≡◌, refl}
use Prim.Native.Nat.{suc, ◌+◌, ◌-◌}
use Rattle.record.proofs.Writing.{after, nothing}
use Rattle.totdb.specs.Nodes.{range}
use Rattle.totdb.proofs.Listed.{range_snoc}
use Rattle.closing.proofs.put_steps.Goals as goal

pub loop-step-init : goal.loop-step-init
unfolding range
loop-step-init c = (omega arith, omega arith, refl, rw (let e : c.args.first - c.args.first ≡ 0 = omega arith in e) nothing)

pub loop-step-preserved : goal.loop-step-preserved
loop-step-preserved c =
    let e : c.loop-step.step + 1 - c.args.first ≡ suc (c.loop-step.step - c.args.first) = omega (arith, c.loop-step.invariant.0) in
    let f : c.args.first + (c.loop-step.step - c.args.first) ≡ c.loop-step.step = omega (arith, c.loop-step.invariant.0) in (
      omega (arith, c.loop-step.invariant.0),
      omega (arith, c.loop-step-test.true),
      search rules,
      rw (e, range_snoc c.args.first (c.loop-step.step - c.args.first), f) (after c.loop-step.invariant.3 c.put-end.ensures),
    )
