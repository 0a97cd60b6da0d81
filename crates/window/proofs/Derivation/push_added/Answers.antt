-- `window::Derivation::push_added` meets its contract: the summand at the value itself is empty, and adding it writes nothing.
use Rattle.record.proofs.Writing.{after}
use Rattle.cert.specs.Definitions.{add_sequence}
use Rattle.derivation.proofs.Summands.{summand_own}
use Rattle.window.proofs.Totals.{added_some}
use Rattle.window.proofs.Windows.{summand_other}
use Rattle.window.proofs.Derivation.push_added.Goals as goal

pub returns-then-s-self-clause-puts : goal.returns-then-s-self-clause-puts
unfolding add_sequence
returns-then-s-self-clause-puts c at_step n x handed =
    let none = summand_own at_step n x c.args.self.now.value c.args.s c.args.self.now.only_if c.if-s-self.true in
    rw none (rw none at (c.push_summand-end.ensures.puts at_step n x handed))

pub returns-clause-puts : goal.returns-clause-puts
returns-clause-puts c at_step n x handed =
    rw (added_some _ (summand_other c.args.self.now.only_if at_step n x c.args.self.now.value c.args.s c.if-s-self.false))
    (after (c.push_summand-end.ensures.puts at_step n x handed) c.push.ensures.puts)
