-- `player::arguments` meets its contract: each code by its function.
use Rattle.std.proofs.Common.{arith}
use mathlib.Core.Path.{sym}
use Rattle.player.proofs.Places.{arguments_leaf, arguments_join, arguments_request, arguments_close, arguments_none}
use Rattle.player.proofs.arguments.Goals as goal

pub returns-in-1 : goal.returns-in-1
returns-in-1 c = rw (c.in-1.is, c.ok_or.ensures.value, c.leaf.ensures) (sym (arguments_leaf c.args.script.now c.args.at))

pub returns-in-2 : goal.returns-in-2
returns-in-2 c = rw (c.in-2.is, c.ok_or-in-2.ensures.value, c.join.ensures) (sym (arguments_join c.args.script.now c.args.at))

pub returns-in-3 : goal.returns-in-3
returns-in-3 c = rw (c.in-3.is, c.ok_or-in-3.ensures.value, c.request.ensures) (sym (arguments_request c.args.script.now c.args.at))

pub returns-in-4 : goal.returns-in-4
returns-in-4 c = rw c.in-4.is (sym (arguments_close c.args.script.now c.args.at c.requires))

pub returns-in_default : goal.returns-in_default
returns-in_default c =
    sym (arguments_none c.args.script.now c.args.at c.args.code (λ e. omega arith) (λ e. omega arith) (λ e. omega arith) (λ e. omega arith))
