-- `derivation::push_definition` meets its contract: nothing, or one token.
use Rattle.std.proofs.Common.{arith}
use Rattle.record.specs.Record.{token_numbers}
use Rattle.record.proofs.Writing.{nothing, after}
use Rattle.derivation.specs.Operands.{tokens}
use Rattle.derivation.proofs.ClauseRecords.{token_is}
use Rattle.derivation.proofs.push_definition.Goals as goal

pub returns-in-None : goal.returns-in-None
unfolding token_numbers tokens
returns-in-None c = record { puts = rw c.in-None.is nothing; upper_bound = omega arith }

pub returns : goal.returns
returns c =
    record {
      puts = rw (token_is c.args.d c.in_default.not-None)
          (after (rw c.token_code.ensures at c.push-after_code.ensures.puts) (rw c.token_argument.ensures at c.push.ensures.puts));
      upper_bound = omega (arith, c.push-after_code.ensures.upper_bound, c.push.ensures.upper_bound);
    }
