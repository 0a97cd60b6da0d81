use Rattle.std.proofs.Common.{arith}
use Rattle.record.proofs.Writing.{after, nothing}
use Rattle.record.proofs.Sums.{units_none, units_more}
use Rattle.record.proofs.Units.push_any.Goals as goal

pub loop-x-init : goal.loop-x-init
loop-x-init c = (omega arith, rw (units_none c.args.self.negated c.args.self.literals.now) nothing)

pub loop-x-preserved : goal.loop-x-preserved
loop-x-preserved c =
    let one = after c.push-one.ensures.puts (rw c.sign.ensures at c.push-at.ensures.puts) in (
      omega (arith, c.push-one.ensures.upper_bound, c.push-at.ensures.upper_bound),
      rw (units_more c.args.self.negated c.args.self.literals.now c.loop-x.x-index c.loop-x-test.true) (after c.loop-x.invariant.1 one),
    )
