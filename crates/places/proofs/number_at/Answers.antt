-- `places::number_at` meets its contract: what reads, or 0 to the log's end.
use Rattle.places.proofs.Turns.{item_is}
use Rattle.places.proofs.number_at.Goals as goal

pub returns : goal.returns
returns c = item_is c.args.log.now c.args.at c.read.ensures c.unwrap_or-value.ensures
