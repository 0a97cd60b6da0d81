-- `record::push_sum` meets its contract: its six writers one after another are the numbers of the sum.
use Rattle.record.proofs.Sums.{sum_is}
use Rattle.record.proofs.Writing.{after}
use Rattle.record.proofs.push_sum.Goals as goal

pub returns-clause-puts : goal.returns-clause-puts
returns-clause-puts c =
    rw (← sum_is c.args.s.witness c.args.terms.negated c.args.terms.literals.now c.args.s.own c.args.s.literal)
    (after c.push-after_kind.ensures.puts
    (after c.push-after_witness.ensures.puts
    (after (rw c.min.ensures at c.push-after_count.ensures.puts)
    (after c.push-after_units.ensures.puts (after c.push_kept-after_own.ensures.puts c.push.ensures.puts)))))
