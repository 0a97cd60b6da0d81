use Rattle.text.proofs.Laws.{after}
use Rattle.lines.proofs.labelled.Goals as goal

pub returns : goal.returns
returns c = after c.word-end.ensures c.spaced.ensures
