-- `totlog::play_commands` meets what it asks of its tables: they hold the nodes of a script so long.
use Rattle.std.proofs.Common.{arith}
use lib.ListN.{length-replicate}
use Rattle.totlog.proofs.play_commands.Goals as goal

pub play_on-requires-clause-rows : goal.play_on-requires-clause-rows
play_on-requires-clause-rows c = record {
  room = λ leaves joins m. record {
    row = simp length-replicate (omega (arith, m.few_leaves, m.few, m.took));
    store_row = simp length-replicate (omega (arith, m.few_leaves, m.few, m.took));
  };
}

pub play_on-requires-2-clause-rows : goal.play_on-requires-2-clause-rows
play_on-requires-2-clause-rows c = record {
  room = λ leaves joins m. record {
    row = simp length-replicate (omega (arith, m.few));
    store_row = simp length-replicate (omega (arith, m.few));
  };
}
