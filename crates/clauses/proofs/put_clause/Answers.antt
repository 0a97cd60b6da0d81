-- `clauses::put_clause` meets its contract: nothing where the log is too short, else the records of the clause.
use mathlib.Core.Path.{◌∙◌}
use Rattle.cert.specs.Requests.{definition}
use Rattle.define.proofs.Counted.{counted_size}
use Rattle.define.proofs.Simulates.{exact_of, sims_past, store_room}
use Rattle.define.proofs.Slots.{real_named}
use Rattle.clauses.specs.Joins.{ClauseIn, clause_of}
use Rattle.clauses.proofs.Firsts.{real_read}
use Rattle.clauses.proofs.Joins.{left_in, right_in, this_in, clause_reach}
use Rattle.clauses.proofs.Written.{firsts_of, write_grows, sims_write, three_parts, clause_puts, left_read, right_read}
use Rattle.clauses.proofs.put_clause.Goals as goal

pub returns-then-log-at : goal.returns-then-log-at
returns-then-log-at c =
    λ ns. sims_past (write_grows (λ t. clause_of t c.args.x c.args.k)) c.if-log-at.true (counted_size c.args.store.now)

pub side_definition-left-requires : goal.side_definition-left-requires
side_definition-left-requires c =
    let r = clause_reach c.requires.1.holds c.requires.1.table.bounded c.args.store.now (store_room c.requires.1.represents) in
    let e = exact_of c.if-log-at.false c.requires.1.represents in
    record { side_room = r.left; side_read = (c.requires.1.nodes, c.requires.1.state.stored, left_read c.requires.1.table c.requires.1.holds e) }

pub side_definition-right-requires : goal.side_definition-right-requires
side_definition-right-requires c =
    let r = clause_reach c.requires.1.holds c.requires.1.table.bounded c.args.store.now (store_room c.requires.1.represents) in
    let e = exact_of c.if-log-at.false c.requires.1.represents in
    record { side_room = r.right; side_read = (c.requires.1.nodes, c.requires.1.state.stored, right_read c.requires.1.table c.requires.1.holds e) }

pub part-requires : goal.part-requires
part-requires c =
    let r = clause_reach c.requires.1.holds c.requires.1.table.bounded c.args.store.now (store_room c.requires.1.represents) in
    record { side_reach = (r.left.reach, r.left_in); bounded = (c.requires.1.nodes, c.requires.1.table.bounded, left_in c.requires.1.holds) }

pub part-requires-2 : goal.part-requires-2
part-requires-2 c =
    let r = clause_reach c.requires.1.holds c.requires.1.table.bounded c.args.store.now (store_room c.requires.1.represents) in
    record { side_reach = (r.right.reach, r.right_in); bounded = (c.requires.1.nodes, c.requires.1.table.bounded, right_in c.requires.1.holds) }

pub returns : goal.returns
unfolding clause_of definition
returns c =
    λ ns.
    sims_write {ns = ns} {P = λ t s. ClauseIn t c.args.x c.args.k}
    (λ t. clause_of t c.args.x c.args.k) c.if-log-at.false c.put_clause.ensures.onward (λ n t s l p e.
    clause_puts t (clause_of t c.args.x c.args.k) s _ _ _ _
    (c.real_definition-this.ensures
    ∙ real_read (firsts_of e) c.args.x.node c.args.k.value c.args.k.only_if (real_named l.bounded (this_in p l.bounded)).used)
    (c.side_definition-left.ensures t s.stored (left_read l p e))
    (c.side_definition-right.ensures t s.stored (right_read l p e))
    (three_parts (c.part.ensures t l.bounded (left_in p)) (c.part-2.ensures t l.bounded (right_in p))
    (c.own_literal.ensures t p.of))
    e.stores.counters.step c.put_clause.ensures)
