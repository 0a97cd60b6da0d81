-- `derivation::push_first_step` meets its contract.
use Rattle.std.proofs.Common.{arith}
use Rattle.record.proofs.Writing.{after}
use Rattle.derivation.proofs.push_first_step.Goals as goal

pub returns : goal.returns
returns c =
    record { puts = after c.push-after_kind.ensures.puts (after c.push-after_count.ensures.puts (after c.push-after_code.ensures.puts c.push.ensures.puts)); upper_bound = omega (arith, c.push-after_kind.ensures.upper_bound, c.push-after_count.ensures.upper_bound, c.push-after_code.ensures.upper_bound, c.push.ensures.upper_bound) }
