use Rattle.std.specs.Prelude.{Err}
use Rattle.std.proofs.lemmas.Result.{err_from_is_err_and}
use mathlib.Core.Path.{sym, ap, ◌∙◌}
use Rattle.player.specs.declared.Command.{Command}
use Rattle.commands.proofs.CommandEnds.{refused_early}
use Rattle.commands.proofs.Writes.{request_shown, requested}
use Rattle.commands.proofs.request.Goals as goal

pub returns-in_err-directions : goal.returns-in_err-directions
returns-in_err-directions c =
    λ h p s st.
    let is = err_from_is_err_and c.from_residual.result c.from_residual.ensures.1 in
    let asked = rw c.in_err-directions.was at (c.ask_request.ensures h s.nodes st.table (sym st.nodes)) in
    refused_early st (Command.Request c.args.node c.args.value c.args.direction) c.in_err-directions.field-0.0 (sym asked) _ (is.1 ∙ ap Err is.2)

pub request-at-requires : goal.request-at-requires
request-at-requires c =
    let asked = rw c.in_ok-directions.was at (c.ask_request.ensures c.requires.head c.requires.state.nodes c.requires.standing.table (sym c.requires.standing.nodes)) in
    request_shown c.requires.standing c.args.node c.args.value c.args.direction asked.1

pub returns : goal.returns
returns c =
    λ h p s st.
    let asked = rw c.in_ok-directions.was at (c.ask_request.ensures h s.nodes st.table (sym st.nodes)) in
    requested st c.args.node c.args.value c.args.direction asked.1 _ _ _ (rw asked.0 at c.request-at.ensures) _ c.end.ensures
