-- `derivation::token_argument` meets its contract: a step, a literal, or 0.
use Rattle.derivation.specs.Operands.{token_argument}
use Rattle.derivation.proofs.ClauseRecords.{is_none}
use Rattle.derivation.proofs.token_argument.Goals as goal

pub returns-in-Step : goal.returns-in-Step
unfolding token_argument
returns-in-Step c = rw c.in-Step.is

pub returns-in_default-d : goal.returns-in_default-d
unfolding token_argument
returns-in_default-d c = rw (is_none c.args.d c.in_default.not-Step c.in_default-d.not-Axiom)

pub returns : goal.returns
unfolding token_argument
returns c = rw c.in-Axiom.is
