-- `request::with_direction` meets its contract: each case is one of `held_with`.
use mathlib.Core.Path.{sym, ◌∙◌}
use Rattle.request.specs.Asked.{held_with}
use Rattle.request.proofs.with_direction.Goals as goal

pub returns-then-has_direction : goal.returns-then-has_direction
unfolding held_with
returns-then-has_direction c = rw (sym c.has_direction.ensures ∙ c.if-has_direction.true)

pub returns-then-only_if : goal.returns-then-only_if
unfolding held_with
returns-then-only_if c = rw (sym c.has_direction.ensures ∙ c.if-has_direction.false, c.if-only_if.true)

pub returns-else-only_if : goal.returns-else-only_if
unfolding held_with
returns-else-only_if c = rw (sym c.has_direction.ensures ∙ c.if-has_direction.false, c.if-only_if.false)
