-- `commands::ask_request` meets its contract: at each refusal, by which of its tests.
use Rattle.std.proofs.Common.{arith}
use Rattle.player.proofs.Lengths.{value_above, value_within}
use Rattle.request.proofs.Numbers.{number_above, number_within}
use Rattle.commands.proofs.Questions.{request_8, request_zero, request_12}
use Rattle.commands.proofs.ask_request.Goals.{then-value-eq0-via-then-value-eq0, then-value-eq0-via-else-value-eq0+then-len-value}
use Rattle.commands.proofs.ask_request.Goals as goal

pub returns-then-count-node : goal.returns-then-count-node
returns-then-count-node c = λ h t r e. request_8 h t c.args.node c.args.value c.args.direction (omega arith)

pub returns-then-value-eq0 : goal.returns-then-value-eq0
returns-then-value-eq0 c = λ h t r e. elim c.then-value-eq0.branch [
  | then-value-eq0-via-then-value-eq0 w ↦
      request_zero h t c.args.node c.args.value c.args.direction (omega arith) w.if-value-eq0.true
  | then-value-eq0-via-else-value-eq0+then-len-value w ↦
      let k = w.len.ensures t r (omega arith) in
      value_above h t c.args.node (omega arith) c.args.value c.args.direction (omega (arith, k, w.if-len-value.true))
]

pub returns-in_default : goal.returns-in_default
returns-in_default c = λ h t r e.
    let k = c.len.ensures t r (omega arith) in
    request_12 h t c.args.node c.args.value c.args.direction (omega arith) (omega arith) (omega arith) (rw c.in_default.is at c.try_from.ensures).1

pub returns : goal.returns
returns c = λ h t r e.
    let k = c.len.ensures t r (omega arith) in
    let n = rw c.in-Ok.is at c.try_from.ensures in (
      n,
      value_within h t c.args.node (omega arith) c.args.value c.args.direction (omega arith) (omega arith)
          (rw n at (number_above c.in-Ok.directions)) (rw n at (number_within c.in-Ok.directions)),
    )
