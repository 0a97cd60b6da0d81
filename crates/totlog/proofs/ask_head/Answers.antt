-- `totlog::ask_head` meets its contract: the lengths, the head, and its limits.
use Rattle.std.proofs.Common.{arith}
use Rattle.std.specs.Prelude.{Result, Err, ok_or}
use Rattle.std.proofs.lemmas.Result.{err_from_is_err_and}
use mathlib.Core.Path.{◌≡◌, refl, sym, ap, ◌∙◌}
use Rattle.totlog.specs.Entry.{begins, turned_away}
use Rattle.player.specs.declared.Refusal.{Refusal}
use Rattle.totlog.proofs.Heads.{script_long, log_long, head_bad, head_outside, head_inside, variable_high, step_zero, step_high, head_fits_lem, head_end}
use Rattle.totlog.proofs.ask_head.Goals.{then-script-gt-MOST_BYTES-via-then-script-gt-MOST_BYTES, then-script-gt-MOST_BYTES-via-else-script-gt-MOST_BYTES+then-capacity-gt-MOST_BYTES, then-head-gt-MOST_HEAD-via-then-head-gt-MOST_HEAD, then-head-gt-MOST_HEAD-via-else-head-gt-MOST_HEAD+then-head-eq0, then-head-gt-MOST_HEAD-via-else-head-gt-MOST_HEAD+else-head-eq0+then-head-gt-MOST_HEAD-2}
use Rattle.totlog.proofs.ask_head.Goals as goal

pub returns-then-script-gt-MOST_BYTES : goal.returns-then-script-gt-MOST_BYTES
returns-then-script-gt-MOST_BYTES c = turned_away Refusal.TooLong refl (elim c.then-script-gt-MOST_BYTES.branch [
  | then-script-gt-MOST_BYTES-via-then-script-gt-MOST_BYTES w ↦
      script_long c.args.script.now c.args.capacity (omega (arith, w.if-script-gt-MOST_BYTES.true))
  | then-script-gt-MOST_BYTES-via-else-script-gt-MOST_BYTES+then-capacity-gt-MOST_BYTES w ↦
      log_long c.args.script.now c.args.capacity (omega (arith, w.if-script-gt-MOST_BYTES.false)) (omega (arith, w.if-capacity-gt-MOST_BYTES.true))
])

same_err : {A : Type 0} {x y : Refusal} → ◌≡◌ {A = Result A Refusal} (Err x) (Err y) → x ≡ y
same_err e = cc

pub returns-in_err-head : goal.returns-in_err-head
returns-in_err-head c =
    let is = err_from_is_err_and c.from_residual.result c.from_residual.ensures.1 in
    let none = c.in_err-head.ensures.ok_part in
    turned_away Refusal.NoNumber (is.1 ∙ ap Err (is.2 ∙ same_err (c.in_err-head.ensures.value ∙ ap (λ r. ok_or r Refusal.NoNumber) none)))
    (head_bad c.args.script.now c.args.capacity (omega arith) (omega arith) (sym c.head.ensures ∙ none))

pub returns-then-head-gt-MOST_HEAD : goal.returns-then-head-gt-MOST_HEAD
returns-then-head-gt-MOST_HEAD c = turned_away Refusal.Head refl
    (head_outside c.args.script.now c.args.capacity (omega arith) (omega arith) c.in_ok-head.head c.in_ok-head.from (sym c.head.ensures ∙ c.in_ok-head.ensures.ok_part)
    (elim c.then-head-gt-MOST_HEAD.branch [
      | then-head-gt-MOST_HEAD-via-then-head-gt-MOST_HEAD w ↦ variable_high c.in_ok-head.head w.if-head-gt-MOST_HEAD.true
      | then-head-gt-MOST_HEAD-via-else-head-gt-MOST_HEAD+then-head-eq0 w ↦ step_zero c.in_ok-head.head w.if-head-gt-MOST_HEAD.false w.if-head-eq0.true
      | then-head-gt-MOST_HEAD-via-else-head-gt-MOST_HEAD+else-head-eq0+then-head-gt-MOST_HEAD-2 w ↦
          step_high c.in_ok-head.head w.if-head-gt-MOST_HEAD.false (omega (arith, w.if-head-eq0.false)) w.if-head-gt-MOST_HEAD-2.true
    ]))

pub invariant_of-result-clause-headed : goal.invariant_of-result-clause-headed
invariant_of-result-clause-headed c =
    (head_end c.args.script.now c.in_ok-head.head c.in_ok-head.from (sym c.head.ensures ∙ c.in_ok-head.ensures.ok_part)).0

pub invariant_of-result-clause-inside : goal.invariant_of-result-clause-inside
invariant_of-result-clause-inside c =
    (head_end c.args.script.now c.in_ok-head.head c.in_ok-head.from (sym c.head.ensures ∙ c.in_ok-head.ensures.ok_part)).1

pub invariant_of-result-clause-fits : goal.invariant_of-result-clause-fits
invariant_of-result-clause-fits c =
    head_fits_lem c.in_ok-head.head c.if-head-gt-MOST_HEAD.false (omega (arith, c.if-head-eq0.false)) c.if-head-gt-MOST_HEAD-2.false

pub returns : goal.returns
returns c =
    begins _ refl (omega arith)
    (head_inside c.args.script.now c.args.capacity (omega arith) (omega arith) c.in_ok-head.head c.in_ok-head.from
    (sym c.head.ensures ∙ c.in_ok-head.ensures.ok_part)
    (head_fits_lem c.in_ok-head.head c.if-head-gt-MOST_HEAD.false (omega (arith, c.if-head-eq0.false)) c.if-head-gt-MOST_HEAD-2.false))
