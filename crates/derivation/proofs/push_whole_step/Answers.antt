-- `derivation::push_whole_step` meets its contract.
use Rattle.std.proofs.Common.{arith}
use Rattle.record.proofs.Writing.{after}
use Rattle.derivation.proofs.push_whole_step.Goals as goal

pub returns : goal.returns
returns c =
    record { puts = after c.push_first_step-after_this.ensures.puts (after c.push_added_step-after_left.ensures.puts (after c.push_added_step-after_right.ensures.puts c.push.ensures.puts)); upper_bound = omega (arith, c.push_first_step-after_this.ensures.upper_bound, c.push_added_step-after_left.ensures.upper_bound, c.push_added_step-after_right.ensures.upper_bound, c.push.ensures.upper_bound) }
