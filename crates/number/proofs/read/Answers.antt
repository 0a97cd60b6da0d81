-- `number::read` meets its contract: a first test of one group, then any number of them.
use Rattle.std.proofs.Common.{arith}
use mathlib.Core.Path.{sym, ◌∙◌}
use borrow.Author.Tests.{ltb-true, ltb-false}
use Rattle.number.specs.Number.{groups}
use Rattle.number.proofs.Places.{read_from-end, read_from-last}
use Rattle.number.proofs.read.Goals as goal

pub returns-in_err-get : goal.returns-in_err-get
returns-in_err-get c =
    c.from_residual.ensures ∙ sym (read_from-end c.args.s.now c.args.at groups (ltb-false _ _ (sym c.in_err-get.ensures.lookup.0)))

pub returns-then-first-lt128 : goal.returns-then-first-lt128
returns-then-first-lt128 c =
    sym (read_from-last c.args.s.now c.args.at groups c.from-first.result _ (omega arith) (ltb-true _ _ (sym c.in_ok-get.ensures.lookup.0)) (c.from-first.ensures ∙ c.in_ok-get.ensures.lookup.1) c.if-first-lt128.true)
