-- `derivation::Clause::push` meets its contract: its six writers one after another are the numbers of the clause.
use Rattle.std.proofs.Common.{arith}
use Rattle.record.proofs.Writing as writing
use Rattle.derivation.specs.Operands.{clause_numbers}
use Rattle.derivation.proofs.ClauseRecords.{clause_is}
use Rattle.derivation.proofs.Clause.push.Goals as goal

pub returns : goal.returns
unfolding clause_numbers
returns c =
    record {
      puts = rw (← clause_is c.args.self.step c.args.self.left c.args.self.right c.args.self.output)
          (writing.after c.push-after_kind.ensures.puts
          (writing.after c.push-after_step.ensures.puts
          (writing.after (rw c.count.ensures at c.push-after_count.ensures.puts)
          (writing.after c.push_part-after_left.ensures.puts (writing.after c.push_part-after_right.ensures.puts c.push.ensures.puts)))));
      upper_bound = omega (arith, c.push-after_count.ensures.upper_bound, c.push-after_kind.ensures.upper_bound, c.push_part-after_left.ensures.upper_bound, c.push.ensures.upper_bound, c.push_part-after_right.ensures.upper_bound, c.push-after_step.ensures.upper_bound);
    }
