-- `splits::push_split` meets its contract: the records of the clause, by the steps and literals that the code has.
use Rattle.std.proofs.Common.{arith}
use mathlib.Core.Path.{ap, ◌∙◌}
use mathlib.Core.Bool.{not}
use Rattle.cert.specs.Requests.{definition}
use Rattle.derivation.specs.declared.SemDefinition.TheVariants.{Step}
use Rattle.define.proofs.Simulates.{exact_of, store_room}
use Rattle.define.proofs.Slots.{real_named}
use Rattle.clauses.specs.Joins.{ClauseIn, clause_of}
use Rattle.clauses.proofs.Firsts.{real_read, first_low}
use Rattle.clauses.proofs.Joins.{left_in, right_in, this_in, clause_reach}
use Rattle.clauses.proofs.Written.{firsts_of, sims_write, three_parts}
use Rattle.splits.proofs.Ready.{long_sides, long_used, long_operand, whole_puts}
use Rattle.splits.proofs.push_split.Goals as goal

pub first_of-left-requires : goal.first_of-left-requires
first_of-left-requires c =
    let r = clause_reach c.requires.represented.1.holds c.requires.represented.1.table.bounded c.args.store.now (store_room c.requires.represented.1.represents) in
    r.left

pub first_of-right-requires : goal.first_of-right-requires
first_of-right-requires c =
    let r = clause_reach c.requires.represented.1.holds c.requires.represented.1.table.bounded c.args.store.now (store_room c.requires.represented.1.represents) in
    r.right

pub later_step-requires : goal.later_step-requires
later_step-requires c =
    let low = firsts_of (exact_of (omega (arith, c.requires.both_parts.1)) c.requires.represented.1.represents) in
    rw c.store_at.ensures (first_low low c.args.x.node c.args.k.value (real_named c.requires.represented.1.table.bounded (this_in c.requires.represented.1.holds c.requires.represented.1.table.bounded)).used)

pub later_step-requires-2 : goal.later_step-requires-2
later_step-requires-2 c =
    let low = firsts_of (exact_of (omega (arith, c.requires.both_parts.1)) c.requires.represented.1.represents) in
    let long = (long_sides c.args.x c.requires.both_parts.0.long).0 in
    rw c.first_of-left.ensures (first_low low _ c.args.k.left (long_used c.requires.represented.1.table.bounded (left_in c.requires.represented.1.holds) long))

pub later_step-requires-3 : goal.later_step-requires-3
later_step-requires-3 c =
    let low = firsts_of (exact_of (omega (arith, c.requires.both_parts.1)) c.requires.represented.1.represents) in
    let long = (long_sides c.args.x c.requires.both_parts.0.long).1 in
    rw c.first_of-right.ensures (first_low low _ c.args.k.right (long_used c.requires.represented.1.table.bounded (right_in c.requires.represented.1.holds) long))

pub part_literal-requires : goal.part_literal-requires
part_literal-requires c =
    let r = clause_reach c.requires.represented.1.holds c.requires.represented.1.table.bounded c.args.store.now (store_room c.requires.represented.1.represents) in
    (r.left.reach, c.requires.both_parts.0.left_above, c.requires.both_parts.0.left_within)

pub part_literal-requires-2 : goal.part_literal-requires-2
part_literal-requires-2 c =
    let r = clause_reach c.requires.represented.1.holds c.requires.represented.1.table.bounded c.args.store.now (store_room c.requires.represented.1.represents) in
    (r.right.reach, c.requires.both_parts.0.right_above, c.requires.both_parts.0.right_within)

pub returns : goal.returns
unfolding clause_of definition
returns c =
    let long = long_sides c.args.x c.requires.both_parts.0.long in
    λ ns.
    sims_write {ns = ns} {P = λ t s. ClauseIn t c.args.x c.args.k}
    (λ t. clause_of t c.args.x c.args.k) (omega (arith, c.requires.both_parts.1)) c.push_whole.ensures.onward (λ n t s l p e.
    whole_puts t (clause_of t c.args.x c.args.k) s _
    (ap Step (c.later_step.ensures c.args.k.value p.of.above)
    ∙ rw c.store_at.ensures (real_read (firsts_of e) c.args.x.node c.args.k.value c.args.k.only_if (real_named l.bounded (this_in p l.bounded)).used))
    (ap Step (c.later_step-2.ensures c.args.k.left c.requires.both_parts.0.left_above)
    ∙ rw c.first_of-left.ensures (long_operand _ l.bounded (left_in p) (firsts_of e) (not c.args.k.only_if) long.0))
    (ap Step (c.later_step-3.ensures c.args.k.right c.requires.both_parts.0.right_above)
    ∙ rw c.first_of-right.ensures (long_operand _ l.bounded (right_in p) (firsts_of e) (not c.args.k.only_if) long.1))
    (three_parts (c.part_literal.ensures t l.bounded (left_in p)) (c.part_literal-2.ensures t l.bounded (right_in p))
    (c.own_literal.ensures t p.of))
    e.stores.counters.step c.push_whole.ensures)
