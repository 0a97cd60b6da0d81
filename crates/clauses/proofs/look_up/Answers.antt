-- `clauses::look_up` meets its contract: what the sides look up is stored, or each is looked up.
use mathlib.Core.Path.{sym, ◌∙◌}
use Rattle.define.proofs.Simulates.{store_room, represented_to}
use Rattle.clauses.proofs.Joins.{clause_reach, this_in}
use Rattle.clauses.proofs.Stored.{sims_this}
use Rattle.clauses.proofs.look_up.Goals as goal

pub are_sides_stored-requires : goal.are_sides_stored-requires
are_sides_stored-requires c =
    let r = clause_reach c.before.requires.holds c.before.requires.table.bounded _ (store_room c.before.requires.represents) in
    (r.left, r.right)

pub look_up_this-requires : goal.look_up_this-requires
look_up_this-requires c =
    represented_to (λ t s l k. this_in k l.bounded) c.before.requires

pub returns-then-are_sides_stored : goal.returns-then-are_sides_stored
returns-then-are_sides_stored c =
    sims_this (sym c.are_sides_stored.ensures ∙ c.if-are_sides_stored.true) c.look_up_this.ensures
