use Rattle.places.specs.Walk.{clause_at}
use Rattle.places.proofs.literals.Goals as goal

pub returns : goal.returns
unfolding clause_at
returns c = rw c.number_at-count.ensures
