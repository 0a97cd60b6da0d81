-- What is proved of a script that passes, with a leaf repeated, a window and a close.
use mathlib.Core.Path.{refl}
use Rattle.record.specs.Written.{Closed, Ended}
use Rattle.totdb.specs.Nodes.{any}
use Rattle.player.specs.Accepted.{NodesOf, RecordsOf}
use Rattle.player.specs.Called.{table}
use Rattle.player.specs.Passes.{Passes}
use Rattle.player.specs.Player.{played}
use Rattle.player.specs.Script.{closes, read_script}
use Rattle.player.proofs.Answers.{closing, closing_head, closing_commands}
use Rattle.player.proofs.Nodes.{nodes_of_lem}
use Rattle.player.proofs.Records.{passes_records}
use Rattle.player.proofs.Scripts.{accepted_script}

pub passes : Passes closing 600 closing_head closing_commands
unfolding closing closing_head closing_commands read_script played
passes = accepted_script closing 600 closing_head closing_commands refl refl

pub nodes : NodesOf closing_head closing_commands.list (table closing_head closing_commands.list)
nodes = nodes_of_lem closing_head 600 closing_commands.list passes.state passes.all

pub records : RecordsOf closing_head closing_commands.list passes.state.log
records = passes_records passes

pub closed : Closed 1 passes.state.log
unfolding closing_head closing_commands any closes Ended
closed = records.ended
