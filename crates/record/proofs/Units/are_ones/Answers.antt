use Rattle.std.proofs.Common.{rules, arith}
use mathlib.Core.Path.{refl}
use Rattle.record.specs.Writing.{ones}
use Rattle.record.proofs.Ones.{ones_more}
use Rattle.record.proofs.Units.are_ones.Goals as goal

pub loop-x-init : goal.loop-x-init
unfolding ones
loop-x-init c = (omega arith, refl)

pub loop-x-preserved : goal.loop-x-preserved
loop-x-preserved c =
    (search rules, ones_more c.args.self.literals.now c.loop-x.x-index c.loop-x.high c.loop-x-test.true c.loop-x.invariant.1)
