-- `closing::put_deletion` meets its contract: the kind, the count and the steps, one after another.
use Rattle.record.specs.Record.{numbers}
use Rattle.record.proofs.Writing.{after}
use Rattle.closing.proofs.put_deletion.Goals as goal

pub returns : goal.returns
unfolding numbers
returns c =
    λ t es l.
    after c.put-after_kind.ensures (after (rw (c.count_stored.ensures t es l) at c.put-after_count.ensures) (c.put_stored.ensures t es l))
