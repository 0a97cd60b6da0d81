-- `derivation::push_added_step` meets its contract.
use Rattle.std.proofs.Common.{arith}
use Rattle.record.proofs.Writing.{after}
use Rattle.derivation.proofs.push_added_step.Goals as goal

pub returns : goal.returns
returns c =
    record { puts = after c.push-after_code.ensures.puts (after c.push-after_step.ensures.puts c.push.ensures.puts); upper_bound = omega (arith, c.push-after_code.ensures.upper_bound, c.push-after_step.ensures.upper_bound, c.push.ensures.upper_bound) }
