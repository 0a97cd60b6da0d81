-- `splits::are_long` meets its contract.
use mathlib.Core.Path.{sym, ◌∙◌}
use Rattle.splits.specs.Ready.{are_long}
use Rattle.splits.proofs.Ready.{and_then, and_else}
use Rattle.splits.proofs.are_long.Goals as goal

pub returns-then-is_long : goal.returns-then-is_long
unfolding are_long
returns-then-is_long c = and_then (sym c.is_long.ensures ∙ c.if-is_long.true) c.is_long-then-is_long.ensures

pub returns-else-is_long : goal.returns-else-is_long
unfolding are_long
returns-else-is_long c = and_else _ (sym c.is_long.ensures ∙ c.if-is_long.false) c.is_long.ensures
