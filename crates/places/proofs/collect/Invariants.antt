-- `places::collect` meets its contract: before each turn the places of the clauses before a place are found.
use mathlib.Core.Path.{◌≡◌}
use Prim.Native.Nat.{◌≤◌, ◌-◌}
use lib.ListN.{length, take}
use Rattle.places.proofs.Collected.{Collected, Room}
use Rattle.places.proofs.collect.Given as goal

abbrev pub invariant-loop-at : goal.invariant-loop-at
invariant-loop-at l =
    (l.at ≤ length l.log) × Room l.log l.n l.at × (length l.places ≡ length l.initial.places) × Collected l.log (take l.n l.places) l.at

abbrev pub decreases-loop-at : goal.decreases-loop-at
decreases-loop-at l = length l.log - l.at
