-- `record::put_sum` meets its contract.
use Rattle.std.proofs.Common.{rules}
use Rattle.record.proofs.put_sum.Goals as goal

pub returns : goal.returns
returns c = c.put_record.ensures _ (λ l a e m room post. search rules)
