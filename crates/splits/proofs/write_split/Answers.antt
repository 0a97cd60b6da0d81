-- `splits::write_split` meets its contract: the clause is ready and its lookups do nothing, or it is written with what it looks up.
use mathlib.Core.Path.{sym, ◌∙◌}
use Rattle.define.proofs.Simulates.{store_room}
use Rattle.clauses.proofs.Joins.{clause_reach}
use Rattle.clauses.proofs.Stored.{sims_this, sims_stored_real}
use Rattle.clauses.proofs.Written.{sims_clause}
use Rattle.splits.proofs.Ready.{readied, both_parts, sides_ready}
use Rattle.splits.proofs.write_split.Goals as goal

pub is_ready-requires : goal.is_ready-requires
is_ready-requires c =
    clause_reach c.requires.represented.holds c.requires.represented.table.bounded _ (store_room c.requires.represented.represents)

pub push_split-end-requires : goal.push_split-end-requires
push_split-end-requires c =
    let r = readied (sym c.is_ready.ensures ∙ c.if-is_ready.true) in
    let long = sym c.requires.long_value ∙ r.long_is in
    record { both_parts = (both_parts long r.both c.requires.represented.holds.left c.requires.represented.holds.right, r.room); represented = (c.args.nodes.now, c.requires.represented) }

pub returns-then-is_ready : goal.returns-then-is_ready
returns-then-is_ready c =
    let r = readied (sym c.is_ready.ensures ∙ c.if-is_ready.true) in
    let long = sym c.requires.long_value ∙ r.long_is in
    rw c.count_clause.ensures
    (sims_clause (sims_this (sides_ready _ long r) (sims_stored_real r.this)) (c.push_split-end.ensures c.args.nodes.now))
