-- `window::Derivation::first_other` meets its contract: each case is one of `first_other`.
use Rattle.std.proofs.Common.{arith}
use borrow.Author.Tests.{eq-eqb, ne_eqb}
use Rattle.window.specs.Window.{first_other}
use Rattle.window.proofs.Derivation.first_other.Goals as goal

pub returns-then-self-offset : goal.returns-then-self-offset
unfolding first_other
returns-then-self-offset c = (rw (eq-eqb _ _ c.if-self-offset.true), omega arith, omega arith)

pub returns-else-self-offset : goal.returns-else-self-offset
unfolding first_other
returns-else-self-offset c = (rw (ne_eqb _ _ c.if-self-offset.false), omega arith, omega arith)
