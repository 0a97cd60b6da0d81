use mathlib.Core.List.{flat_map}
use Rattle.text.proofs.Laws.{after, nothing}
use Rattle.listing.proofs.all_spaced.Goals as goal

pub loop-x-preserved : goal.loop-x-preserved
unfolding flat_map
loop-x-preserved c = λ q h. c.loop-x.invariant q (rw c.in-Some.ensures.steps (after c.spaced-end.ensures h))

pub returns : goal.returns
unfolding flat_map
returns c = c.loop-x.invariant _ (rw c.in-None.ensures.steps.0 nothing)
