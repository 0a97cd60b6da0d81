-- `splits::write_clauses` meets its contract: after the splits below a their clauses are written.
use mathlib.Core.Path.{◌≡◌}
use Prim.Native.Nat.{◌+◌, ◌-◌, ◌≤◌}
use lib.ListN.{length}
use Rattle.define.specs.Represents.{memory, Simulates}
use Rattle.clauses.specs.Joins.{JoinIn}
use Rattle.splits.specs.Ready.{are_long}
use Rattle.splits.proofs.Splits.{Between, splits_to}
use Rattle.splits.proofs.write_clauses.Given as goal

abbrev pub invariant-loop-a : goal.invariant-loop-a
invariant-loop-a l =
    Between l.x l.value l.only_if l.low l.high × (l.a-end ≡ l.high + 1) × (l.low ≤ l.a) × (l.a ≤ l.a-end) × (length l.store ≡ length l.initial.store) × (length l.log ≡ length l.initial.log)
    × Simulates l.nodes (λ t s. JoinIn t l.x l.value) (splits_to l.x l.value l.only_if l.low l.a) (memory l.initial.store l.initial.log l.initial.p) (memory l.store l.log l.p) × (l.long ≡ are_long l.x)

abbrev pub decreases-loop-a : goal.decreases-loop-a
decreases-loop-a l = l.a-end - l.a
