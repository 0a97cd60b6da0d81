-- `derivation::token_code` meets its contract: 1 for an axiom, else 0.
use mathlib.Core.Path.{sym}
use Rattle.derivation.specs.Operands.{token_code}
use Rattle.derivation.proofs.ClauseRecords.{no_axiom}
use Rattle.derivation.proofs.token_code.Goals as goal

pub returns-in-Axiom : goal.returns-in-Axiom
unfolding token_code
returns-in-Axiom c = rw c.in-Axiom.is

pub returns-in_default : goal.returns-in_default
returns-in_default c = sym (no_axiom c.args.d c.in_default.not-Axiom)
