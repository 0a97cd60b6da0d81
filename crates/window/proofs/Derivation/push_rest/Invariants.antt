-- `window::Derivation::push_rest` meets its contract: after the turn of s the summands above `first` up to s are written.
use mathlib.Core.List.{flat_map}
use Prim.Native.Nat.{ℕ, ◌+◌, ◌-◌, ◌*◌, ◌≤◌}
use Rattle.record.specs.Record.{token_numbers}
use Rattle.record.specs.Writing.{buffer, Puts}
use Rattle.totdb.specs.Nodes.{Node, range}
use Rattle.cert.specs.Definitions.{Key}
use Rattle.window.specs.Window.{added, added_room}
use Rattle.window.specs.Derivations.{IsHanded, summands}
use Rattle.window.proofs.Derivation.push_rest.Given as goal

abbrev pub invariant-loop-s : goal.invariant-loop-s
invariant-loop-s l =
    (l.end ≤ l.at + added_room * (l.s - (l.first + 1)))
    × ((at_step : Key → ℕ → ℕ) (n : ℕ) (x : Node) → IsHanded l.self.window at_step n x
    → Puts (buffer l.initial.log l.at) (token_numbers (flat_map (added (summands l.self at_step n x)) (range (l.first + 1) (l.s - (l.first + 1))))) (buffer l.log l.end))
