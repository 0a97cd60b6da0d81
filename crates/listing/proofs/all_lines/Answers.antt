-- `listing::all_lines` meets its contract: the places of the clauses, sorted, and their lines.
use Rattle.places.specs.Walk.{clauses_at}
use Rattle.listing.specs.Line.{lines_at}
use Rattle.listing.proofs.all_lines.Goals as goal

pub returns : goal.returns
unfolding lines_at clauses_at
returns c = rw (c.sort.ensures, c.collect-n.ensures.1) at c.put_lines.ensures
