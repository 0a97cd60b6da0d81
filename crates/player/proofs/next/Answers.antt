-- `player::next` meets its contract: the end; a code, which must read; after a close; by the code.
use Rattle.std.proofs.Common.{arith}
use Rattle.std.specs.Prelude.{Err}
use Rattle.std.proofs.lemmas.Result.{err_from_is_err_and}
use mathlib.Core.Path.{sym, ap, ◌∙◌}
use Rattle.number.specs.Number.{groups}
use Rattle.number.proofs.Places.{read_from-number}
use Rattle.player.specs.Places.{followed}
use Rattle.player.specs.Refusals.{numbered, refused_by}
use Rattle.player.proofs.Places.{code_end, code_bad, code_closed, code_open}
use Rattle.player.proofs.next.Goals as goal

pub returns-then-script-at : goal.returns-then-script-at
returns-then-script-at c = sym (code_end c.args.script.now c.args.at c.args.closed (omega arith))

pub returns-in_err-code : goal.returns-in_err-code
returns-in_err-code c =
    let p = err_from_is_err_and c.from_residual.result c.from_residual.ensures.1 in
    let none = c.in_err-code.ensures.ok_part in
    rw (p.1, p.2)
    (ap Err (ap refused_by c.in_err-code.ensures.value ∙ rw none) ∙ sym (code_bad c.args.script.now c.args.at c.args.closed (omega arith) (sym c.read.ensures ∙ none)))

pub returns-then-closed : goal.returns-then-closed
returns-then-closed c =
    rw c.if-closed.true (sym (code_closed c.args.script.now c.args.at (omega arith) (sym c.read.ensures ∙ c.in_ok-code.ensures.ok_part)))

pub arguments-requires : goal.arguments-requires
arguments-requires c =
    (read_from-number groups c.args.script.now c.args.at (sym c.read.ensures ∙ c.in_ok-code.ensures.ok_part)).2

pub returns-in_err-arguments : goal.returns-in_err-arguments
returns-in_err-arguments c =
    let p = err_from_is_err_and c.from_residual-in_err-arguments.result c.from_residual-in_err-arguments.ensures.1 in
    rw (p.1, p.2, c.if-closed.false)
    (ap (λ r. followed (numbered r)) (sym c.in_err-arguments.was)
    ∙ c.arguments.ensures
    ∙ sym (code_open c.args.script.now c.args.at (omega arith) (sym c.read.ensures ∙ c.in_ok-code.ensures.ok_part)))

pub returns : goal.returns
returns c =
    rw c.if-closed.false
    (ap (λ r. followed (numbered r)) (sym c.in_ok-arguments.was)
    ∙ c.arguments.ensures
    ∙ sym (code_open c.args.script.now c.args.at (omega arith) (sym c.read.ensures ∙ c.in_ok-code.ensures.ok_part)))
