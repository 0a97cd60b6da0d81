-- `derivation::count_tokens` meets its contract: no token, or one.
use Rattle.std.proofs.Common.{arith}
use Rattle.derivation.specs.Operands.{tokens}
use Rattle.derivation.proofs.ClauseRecords.{one_token}
use Rattle.derivation.proofs.count_tokens.Goals as goal

pub returns-in-None : goal.returns-in-None
unfolding tokens
returns-in-None c = (rw c.in-None.is, omega arith)

pub returns-in_default : goal.returns-in_default
returns-in_default c = (one_token c.args.d c.in_default.not-None, omega arith)
