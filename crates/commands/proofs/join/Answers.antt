use Rattle.std.proofs.Common.{arith}
use Rattle.std.specs.Prelude.{Err}
use Rattle.std.proofs.lemmas.Result.{err_from_is_err_and}
use mathlib.Core.Path.{sym, ◌∙◌, ap, refl}
use Prim.Native.Nat.{◌+◌}
use Rattle.player.specs.Refusals.{refused_by}
use Rattle.player.specs.declared.Command.{Command}
use Rattle.commands.proofs.CommandEnds.{refused_early}
use Rattle.commands.proofs.Making.{joins_made, joinable, joined_short, join_made}
use Rattle.commands.proofs.join.Goals as goal

pub overflow_sub-t : goal.overflow_sub-t
overflow_sub-t c = (joins_made c.requires.2.standing).0

pub ask_join-requires : goal.ask_join-requires
ask_join-requires c =
    (c.requires.2.state.nodes, c.requires.2.standing.table, sym c.requires.2.standing.nodes, (joins_made c.requires.2.standing).1)

pub returns-in_err-ask_join : goal.returns-in_err-ask_join
returns-in_err-ask_join c =
    λ h p store log s st room.
    let is = err_from_is_err_and c.from_residual.result c.from_residual.ensures.1 in
    refused_early st (Command.Join c.args.l c.args.r) c.in_err-ask_join.field-0.0
    (sym (ap refused_by c.in_err-ask_join.was) ∙ c.ask_join.ensures h s.nodes st.table (sym st.nodes) (joins_made st).1) _ (is.1 ∙ ap Err is.2)

pub add_join-len-requires-clause-joinable : goal.add_join-len-requires-clause-joinable
add_join-len-requires-clause-joinable c =
    let asked = sym (c.ask_join.ensures c.requires.2.head c.requires.2.state.nodes c.requires.2.standing.table (sym c.requires.2.standing.nodes) (joins_made c.requires.2.standing).1) ∙ ap refused_by c.in_ok-ask_join.was in
    (c.requires.2.state.nodes, joinable c.requires.2.standing c.args.l c.args.r asked)

pub add_join-len-requires-clause-room : goal.add_join-len-requires-clause-room
add_join-len-requires-clause-room c = omega (arith, (add_join-len-requires-clause-joinable c).1.room, c.requires.2.room.row)

pub overflow_cast-result : goal.overflow_cast-result
overflow_cast-result c =
    let asked = sym (c.ask_join.ensures c.requires.2.head c.requires.2.state.nodes c.requires.2.standing.table (sym c.requires.2.standing.nodes) (joins_made c.requires.2.standing).1) ∙ ap refused_by c.in_ok-ask_join.was in
    let j = joinable c.requires.2.standing c.args.l c.args.r asked in
    let e = (c.add_join-len.ensures c.requires.2.state.nodes j).0 in
    omega (arith, e, joined_short c.requires.2.standing c.args.l c.args.r asked c.args.t.variable)

pub overflow_add-result-2 : goal.overflow_add-result-2
overflow_add-result-2 c =
    let asked = sym (c.ask_join.ensures c.requires.2.head c.requires.2.state.nodes c.requires.2.standing.table (sym c.requires.2.standing.nodes) (joins_made c.requires.2.standing).1) ∙ ap refused_by c.in_ok-ask_join.was in
    let j = joinable c.requires.2.standing c.args.l c.args.r asked in
    let e = (c.add_join-len.ensures c.requires.2.state.nodes j).0 in
    let k = joined_short c.requires.2.standing c.args.l c.args.r asked c.args.t.variable in
    omega (arith, e, k, j.low)

pub returns : goal.returns
returns c =
    λ h p store log s st room.
    let asked = sym (c.ask_join.ensures h s.nodes st.table (sym st.nodes) (joins_made st).1) ∙ ap refused_by c.in_ok-ask_join.was in
    let added = c.add_join-len.ensures s.nodes (joinable st c.args.l c.args.r asked) in
    join_made st c.args.l c.args.r asked room _ added.1 _ (ap (λ k. c.args.t.variable + k) added.0) _ refl
