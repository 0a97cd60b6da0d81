-- `lines::header` meets its contract: one label and number after another.
use Rattle.text.proofs.Laws.{after}
use Rattle.lines.specs.Sheet.{header}
use Rattle.lines.proofs.header.Goals as goal

pub returns : goal.returns
unfolding header
returns c = after c.labelled-nodes.ensures (after c.labelled-steps.ensures (after c.labelled-clauses.ensures c.put.ensures))
