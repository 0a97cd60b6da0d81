-- `window::Derivation::push` meets its contract: its four writers one after another are the numbers of the derivation.
use Rattle.record.proofs.Writing.{after}
use Rattle.window.proofs.Windows.{derivation_is}
use Rattle.window.proofs.Derivation.push.Goals as goal

pub returns-clause-puts : goal.returns-clause-puts
returns-clause-puts c at_step n x handed =
    rw (← derivation_is c.args.self.now.only_if at_step n x c.args.self.now.value c.args.self.now.window.offset c.args.self.now.window.len c.args.self.now.in_window.above c.args.self.now.in_window.below c.args.self.now.window.several c.first_other-first.result c.first_other-first.ensures.0)
    (after c.push-after_kind.ensures.puts
    (after (rw (c.count.ensures at_step n x) at c.push-after_count.ensures.puts)
    (after (c.push_summand-after_first.ensures.puts at_step n x handed) (c.push_rest.ensures.puts at_step n x handed))))
