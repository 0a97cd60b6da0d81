-- `lines::refusal` meets its contract: one label and number after another.
use Rattle.text.proofs.Laws.{after}
use Rattle.lines.specs.Sheet.{refusal}
use Rattle.lines.proofs.refusal.Goals as goal

pub returns : goal.returns
unfolding refusal
returns c = after c.labelled-refused.ensures (after c.labelled-at.ensures c.put.ensures)
