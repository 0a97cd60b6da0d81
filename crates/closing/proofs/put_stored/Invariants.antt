-- `closing::put_stored` meets its contract: after so many turns the steps of as many first definitions are written.
use mathlib.Core.Path.{◌≡◌}
use mathlib.Core.List.{List}
use lib.ListN.{length, take}
use Rattle.record.specs.Writing.{buffer, Puts}
use Rattle.totdb.specs.Nodes.{Node}
use Rattle.cert.specs.State.{Stored, stored_steps}
use Rattle.closing.specs.Closing.{MarkedKeys}
use Rattle.closing.proofs.put_stored.Given as goal

abbrev pub invariant-loop-slot : goal.invariant-loop-slot
invariant-loop-slot l =
    (length l.log ≡ length l.initial.log)
    × ((t : List Node) (es : List Stored) → MarkedKeys l.nodes l.store l.marks t es
    → Puts (buffer l.initial.log l.at) (stored_steps t (take l.slot-index es)) (buffer l.log l.end))
