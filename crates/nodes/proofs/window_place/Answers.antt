-- `nodes::window_place` meets its contract: a plain side has its own place, and else the first side that shows the same is looked for.
use Rattle.std.proofs.Common.{arith}
use mathlib.Core.Path.{sym, ◌∙◌}
use Rattle.nodes.specs.Added.{window_place}
use Rattle.nodes.proofs.window_place.Goals as goal

pub returns-then-is_plain : goal.returns-then-is_plain
unfolding window_place
returns-then-is_plain c = λ t tb e. rw (sym c.is_plain.ensures ∙ c.if-is_plain.true)

pub returns : goal.returns
unfolding window_place
returns c = λ t tb e. rw (sym c.is_plain.ensures ∙ c.if-is_plain.false, ← c.find_window.ensures t tb (omega (arith, e))) c.unwrap_or.ensures
