-- `clauses::look_up_side` meets its contract: what the value looks up is stored, or it is looked up.
use mathlib.Core.Path.{sym, ◌∙◌}
use Rattle.define.proofs.Simulates.{store_room}
use Rattle.clauses.proofs.Joins.{side_room}
use Rattle.clauses.proofs.Stored.{sims_stored_side}
use Rattle.clauses.proofs.look_up_side.Goals as goal

pub is_side_stored-requires : goal.is_side_stored-requires
is_side_stored-requires c =
    side_room c.before.requires.table.bounded (store_room c.before.requires.represents) c.before.requires.holds

pub returns-then-is_side_stored : goal.returns-then-is_side_stored
returns-then-is_side_stored c =
    λ d. sims_stored_side c.before.args.s c.before.args.a d _ (sym c.is_side_stored.ensures ∙ c.if-is_side_stored.true)
