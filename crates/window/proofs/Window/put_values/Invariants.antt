-- `window::Window::put_values` meets its contract: after the turn of v the derivations of the values up to v are written.
use mathlib.Core.List.{flat_map}
use Prim.Native.Nat.{ℕ, ◌+◌, ◌-◌}
use Rattle.record.specs.Record.{numbers}
use Rattle.record.specs.Writing.{buffer, Puts}
use Rattle.totdb.specs.Nodes.{Node, range}
use Rattle.cert.specs.Definitions.{Key, window_pair}
use Rattle.window.specs.Derivations.{IsHanded}
use Rattle.window.proofs.Window.put_values.Given as goal

abbrev pub invariant-loop-v : goal.invariant-loop-v
invariant-loop-v l =
    (at_step : Key → ℕ → ℕ) (n : ℕ) (x : Node) → IsHanded l.self at_step n x
    → Puts (buffer l.initial.log l.at) (flat_map numbers (flat_map (window_pair at_step n x l.offset l.len) (range (l.offset + 1) (l.v - (l.offset + 1))))) (buffer l.log l.end)
