-- `derivation::push_whole` meets its contract: the numbers of the two records, as they compute.
use Rattle.record.proofs.Writing.{after}
use Rattle.derivation.proofs.ClauseRecords.{whole_is}
use Rattle.derivation.proofs.push_whole.Goals as goal

pub returns : goal.returns
returns c =
    rw (← whole_is c.args.w) (after c.push_whole_step-middle.ensures.puts c.push_whole_clause.ensures)
