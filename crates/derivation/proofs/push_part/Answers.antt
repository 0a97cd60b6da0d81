-- `derivation::push_part` meets its contract: nothing, or the literal.
use Rattle.std.proofs.Common.{arith}
use Rattle.record.proofs.Writing.{nothing}
use Rattle.derivation.specs.Operands.{part}
use Rattle.derivation.proofs.push_part.Goals as goal

pub returns-in_default : goal.returns-in_default
unfolding part
returns-in_default c =
    record { puts = rw c.in_default.is nothing; upper_bound = omega arith }

pub returns : goal.returns
unfolding part
returns c =
    record { puts = rw c.in-Some.is c.push.ensures.puts; upper_bound = omega (arith, c.push.ensures.upper_bound) }
