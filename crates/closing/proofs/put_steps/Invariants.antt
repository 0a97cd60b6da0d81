-- `closing::put_steps` meets its contract: the steps below `step` are written.
use mathlib.Core.Path.{◌≡◌}
use Prim.Native.Nat.{◌+◌, ◌-◌, ◌≤◌}
use lib.ListN.{length}
use Rattle.record.specs.Writing.{buffer, Puts}
use Rattle.totdb.specs.Nodes.{range}
use Rattle.closing.proofs.put_steps.Given as goal

abbrev pub invariant-loop-step : goal.invariant-loop-step
invariant-loop-step l =
    (l.first ≤ l.step) × (l.step ≤ l.first + l.count) × (length l.log ≡ length l.initial.log)
    × Puts (buffer l.initial.log l.at) (range l.first (l.step - l.first)) (buffer l.log l.end)
