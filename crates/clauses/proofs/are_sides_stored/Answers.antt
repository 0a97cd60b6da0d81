-- `clauses::are_sides_stored` meets its contract: left and right in turn.
use mathlib.Core.Path.{sym, ◌∙◌}
use Rattle.clauses.proofs.Stored.{left_missing, right_last}
use Rattle.clauses.proofs.are_sides_stored.Goals as goal

pub returns-then-is_side_stored : goal.returns-then-is_side_stored
returns-then-is_side_stored c =
    c.is_side_stored-then-is_side_stored.ensures
    ∙ right_last c.args.store.now c.args.x c.args.k.left c.args.k.right (sym c.is_side_stored.ensures ∙ c.if-is_side_stored.true)

pub returns-else-is_side_stored : goal.returns-else-is_side_stored
returns-else-is_side_stored c =
    c.if-is_side_stored.false ∙ left_missing c.args.store.now c.args.x c.args.k.left c.args.k.right (sym c.is_side_stored.ensures ∙ c.if-is_side_stored.false)
