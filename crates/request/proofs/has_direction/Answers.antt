-- `request::has_direction` meets its contract: each case is one of `is_held`.
use Rattle.request.specs.Asked.{is_held}
use Rattle.request.proofs.has_direction.Goals as goal

pub returns-then-only_if : goal.returns-then-only_if
unfolding is_held
returns-then-only_if c = rw c.if-only_if.true

pub returns-else-only_if : goal.returns-else-only_if
unfolding is_held
returns-else-only_if c = rw c.if-only_if.false
