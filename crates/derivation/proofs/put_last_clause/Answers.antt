-- `derivation::put_last_clause` meets its contract.
use Rattle.std.proofs.Common.{rules}
use Rattle.record.proofs.Writing.{from_apart}
use Rattle.derivation.proofs.put_last_clause.Goals as goal

pub returns : goal.returns
returns c =
    from_apart c.push_both-n.ensures.puts (search rules) (c.copy_out.ensures.onward, c.copy_out.ensures.appends)
