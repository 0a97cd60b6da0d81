-- `derivation::Operands::push` meets its contract: its six writers one after another are the numbers of the derivation.
use Rattle.std.proofs.Common.{arith}
use Rattle.record.proofs.Writing as writing
use Rattle.derivation.proofs.ClauseRecords.{step_is}
use Rattle.derivation.proofs.Operands.push.Goals as goal

pub returns : goal.returns
returns c =
    record {
      puts = rw (← step_is c.args.self.this c.args.self.left c.args.self.right)
          (writing.after c.push-after_kind.ensures.puts
          (writing.after (rw c.count.ensures at c.push-after_count.ensures.puts)
          (writing.after c.push_definition-after_this.ensures.puts
          (writing.after c.push_added-after_left.ensures.puts (writing.after c.push_added-after_right.ensures.puts c.push.ensures.puts)))));
      upper_bound = omega (arith, c.push-after_count.ensures.upper_bound, c.push-after_kind.ensures.upper_bound, c.push_added-after_left.ensures.upper_bound, c.push_added-after_right.ensures.upper_bound, c.push.ensures.upper_bound, c.push_definition-after_this.ensures.upper_bound);
    }
