-- `totlog::closes` meets its contract: a close, or another command.
use mathlib.Core.Path.{◌≡◌, refl}
use mathlib.Core.Bool.{false}
use Rattle.player.specs.Script.{closes}
use Rattle.player.specs.declared.Command.{Command}
use Rattle.totlog.proofs.closes.Goals as goal

other : (k : Command) → ¬ (k ≡ Command.Close) → false ≡ closes k
unfolding closes
other (Command.Leaf l) n = refl
other (Command.Join l r) n = refl
other (Command.Request n v d) m = refl
other Command.Close n = absurd (n refl)

pub returns-in-Close : goal.returns-in-Close
unfolding closes
returns-in-Close c = rw c.in-Close.is

pub returns-in_default : goal.returns-in_default
returns-in_default c = other c.args.k c.in_default.not-Close
