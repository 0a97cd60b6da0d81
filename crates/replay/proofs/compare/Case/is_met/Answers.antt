-- `replay::compare::Case::is_met` meets its contract: numbers and log alike are met.
use Rattle.std.proofs.Common.{◌≡◌, rules, arith, length}
use borrow.Author.Tests.{eqb-true, eqb-false}
use Rattle.replay.proofs.Recorded.{met, unmet_log}
use Rattle.replay.proofs.compare.Case.is_met.Goals as goal

pub returns-then-eq-clause-met : goal.returns-then-eq-clause-met
returns-then-eq-clause-met c =
    let played = c.answer_to-got.ensures in
    let n = c.agreed.result in
    let log = c.answer_to-got.new.log in
    let same : c.answer_to-got.result ≡ c.args.self.now.answer = search rules in (
      λ yes. met c.args.self.now.script.now c.args.self.now.recorded.now (length c.args.log.now) c.args.self.now.answer c.answer_to-got.result log
          played.0 played.1 (omega arith) n same (eqb-true n (length log) yes) c.agreed.ensures.before,
      λ no. unmet_log c.args.self.now.script.now c.args.self.now.recorded.now (length c.args.log.now) c.args.self.now.answer c.answer_to-got.result log
          played.0 played.1 (omega arith) n (omega (arith, c.agreed.ensures.within, eqb-false n (length log) no)) c.agreed.ensures.found,
    )
