-- `derivation::push_whole_clause` meets its contract.
use Rattle.record.proofs.Writing.{after}
use Rattle.derivation.proofs.push_whole_clause.Goals as goal

pub returns : goal.returns
returns c =
    after c.push-after_kind.ensures.puts
    (after c.push-after_step.ensures.puts
    (after c.push-after_count.ensures.puts (after c.push-after_left.ensures.puts (after c.push-after_right.ensures.puts c.push.ensures.puts))))
