-- `derivation::Clause::count` meets its contract: a part that there is is one literal.
use mathlib.Core.Path.{refl}
use Rattle.derivation.proofs.ClauseRecords.{part_length}
use Rattle.derivation.proofs.Clause.count.Goals as goal

pub returns : goal.returns
returns c =
    rw (← part_length c.args.self.left, ← part_length c.args.self.right, c.is_some.ensures, c.is_some-2.ensures) refl
