-- `derivation::step_after` meets its contract: each case is one of `step_after`.
use borrow.Author.Tests.{lt-ltb, le-ltb}
use Rattle.derivation.specs.Operands.{step_after}
use Rattle.derivation.proofs.step_after.Goals as goal

pub returns-then-n-lt-STEP_STOP : goal.returns-then-n-lt-STEP_STOP
unfolding step_after
returns-then-n-lt-STEP_STOP c = rw (lt-ltb _ _ c.if-n-lt-STEP_STOP.true)

pub returns-else-n-lt-STEP_STOP : goal.returns-else-n-lt-STEP_STOP
unfolding step_after
returns-else-n-lt-STEP_STOP c = rw (le-ltb _ _ c.if-n-lt-STEP_STOP.false)
