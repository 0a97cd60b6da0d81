-- `derivation::Operands::count` meets its contract: an operand that is added has its token and the addition.
use Rattle.derivation.proofs.ClauseRecords.{step_length}
use Rattle.derivation.proofs.Operands.count.Goals as goal

pub returns : goal.returns
returns c =
    rw (← step_length c.args.self.this c.args.self.left c.args.self.right, ← c.count_tokens.ensures.0, ← c.count_tokens-2.ensures.0, ← c.count_tokens-3.ensures.0)
