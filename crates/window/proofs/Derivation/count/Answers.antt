-- `window::Derivation::count` meets its contract: the additions are one fewer than the other values.
use Rattle.std.proofs.Common.{arith}
use Rattle.window.proofs.Windows.{tokens_length}
use Rattle.window.proofs.Derivation.count.Goals as goal

pub returns-then-self : goal.returns-then-self
returns-then-self c = λ at_step n x.
    rw (tokens_length c.args.self.now.only_if at_step n x c.args.self.now.value c.args.self.now.window.offset c.args.self.now.window.len c.args.self.now.in_window.above c.args.self.now.in_window.below, c.if-self.true) (omega arith)

pub returns : goal.returns
returns c = λ at_step n x.
    rw (tokens_length c.args.self.now.only_if at_step n x c.args.self.now.value c.args.self.now.window.offset c.args.self.now.window.len c.args.self.now.in_window.above c.args.self.now.in_window.below, c.if-self.false) (omega arith)
