-- `derivation::push_added` meets its contract: nothing, or the tokens and the addition.
use Rattle.std.proofs.Common.{arith}
use Rattle.record.specs.Record.{token_numbers}
use Rattle.record.proofs.Writing.{nothing, after}
use Rattle.cert.specs.Definitions.{add_sequence}
use Rattle.derivation.specs.Operands.{tokens}
use Rattle.derivation.proofs.ClauseRecords.{added_some}
use Rattle.derivation.proofs.push_added.Goals as goal

pub returns-in-None : goal.returns-in-None
unfolding token_numbers add_sequence tokens
returns-in-None c =
    record { puts = rw c.in-None.is nothing; upper_bound = omega arith }

pub returns : goal.returns
returns c =
    record {
      puts = rw (added_some c.args.d c.in_default.not-None)
          (after c.push_definition-after_tokens.ensures.puts c.push.ensures.puts);
      upper_bound = omega (arith, c.push.ensures.upper_bound, c.push_definition-after_tokens.ensures.upper_bound);
    }
