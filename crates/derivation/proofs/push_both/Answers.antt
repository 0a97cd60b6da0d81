-- `derivation::push_both` meets its contract.
use Rattle.std.proofs.Common.{arith}
use Rattle.record.proofs.Writing.{after}
use Rattle.derivation.proofs.push_both.Goals as goal

pub returns : goal.returns
returns c =
    record { puts = after c.push-middle.ensures.puts c.push.ensures.puts; upper_bound = omega (arith, c.push-middle.ensures.upper_bound, c.push.ensures.upper_bound) }
