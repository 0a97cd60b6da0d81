-- `record::put` meets its contract.
use Rattle.std.proofs.Common.{rules, [], ◌∷◌}
use Rattle.record.proofs.put.Goals as goal

pub returns : goal.returns
returns c = c.put_record.ensures (c.args.x ∷ []) (λ l a e m room post. search rules)
