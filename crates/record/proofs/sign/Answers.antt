-- `record::sign` meets its contract.
use Rattle.record.proofs.sign.Goals as goal

pub returns-then-negated : goal.returns-then-negated
returns-then-negated c = rw c.if-negated.true c.neg.ensures
