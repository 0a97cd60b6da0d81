-- `derivation::push_divided` meets its contract: its five writers one after another are the numbers of the tokens.
use Rattle.std.proofs.Common.{arith}
use Rattle.record.specs.Record.{token_numbers}
use Rattle.record.proofs.Writing as writing
use Rattle.cert.specs.Definitions.{add_sequence}
use Rattle.derivation.specs.Operands.{tokens}
use Rattle.derivation.proofs.push_divided.Goals as goal

pub returns : goal.returns
unfolding token_numbers add_sequence tokens
returns c =
    record {
      puts = writing.after c.push_definition-after_this.ensures.puts
          (writing.after c.push_added-after_sum.ensures.puts
          (writing.after c.push-after_kind.ensures.puts (writing.after c.push-after_divisor.ensures.puts c.push.ensures.puts)));
      upper_bound = omega (arith, c.push-after_divisor.ensures.upper_bound, c.push-after_kind.ensures.upper_bound, c.push.ensures.upper_bound, c.push_added-after_sum.ensures.upper_bound, c.push_definition-after_this.ensures.upper_bound);
    }
