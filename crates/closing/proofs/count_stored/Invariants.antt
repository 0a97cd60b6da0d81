-- `closing::count_stored` meets its contract: after so many turns the steps of as many first definitions are counted.
use mathlib.Core.Path.{◌≡◌}
use mathlib.Core.List.{List}
use Prim.Native.Nat.{◌≤◌, ◌*◌}
use lib.ListN.{length, take}
use Rattle.totdb.specs.Nodes.{Node}
use Rattle.cert.specs.State.{Stored, stored_steps}
use Rattle.closing.specs.Closing.{MarkedKeys}
use Rattle.closing.proofs.count_stored.Given as goal

abbrev pub invariant-loop-slot : goal.invariant-loop-slot
invariant-loop-slot l =
    (l.n ≤ 129 * l.slot-index) × ((t : List Node) (es : List Stored) → MarkedKeys l.nodes l.store l.marks t es → l.n ≡ length (stored_steps t (take l.slot-index es)))
