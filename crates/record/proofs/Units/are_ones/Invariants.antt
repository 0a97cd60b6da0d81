-- `record::Units::are_ones` meets its contract: after k turns the sum is 0 where the first k literals have one group.
use mathlib.Core.Path.{◌≡◌}
use Prim.Native.Nat.{◌*◌, ◌≤◌}
use lib.Dec.{eqb}
use lib.ListN.{take}
use Rattle.record.specs.Writing.{ones}
use Rattle.record.proofs.Units.are_ones.Given as goal

abbrev pub invariant-loop-x : goal.invariant-loop-x
invariant-loop-x l = (l.high ≤ 33554431 * l.x-index) × (eqb l.high 0 ≡ ones (take l.x-index l.self.literals.now))
