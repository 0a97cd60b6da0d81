-- `define::look_up_reals` meets its contract: after i turns the first i real definitions are looked up.
use mathlib.Core.Path.{◌≡◌}
use Prim.Native.Nat.{◌≤◌, ◌-◌}
use lib.ListN.{length}
use Rattle.memo.specs.Visit.{each}
use Rattle.cert.specs.Definitions.{window_reals}
use Rattle.cert.specs.State.{look_up}
use Rattle.define.specs.Store.{WindowOf}
use Rattle.define.specs.Represents.{memory, Simulates}
use Rattle.define.proofs.look_up_reals.Given as goal

abbrev pub invariant-loop-i : goal.invariant-loop-i
invariant-loop-i l =
    (l.i ≤ l.len) × (length l.store ≡ length l.initial.store) × (length l.log ≡ length l.initial.log)
    × Simulates l.nodes (λ t s. WindowOf t l.node l.offset l.len) (λ t s. each (look_up t) (window_reals l.node l.offset l.i) s) (memory l.initial.store l.initial.log l.initial.p) (memory l.store l.log l.p)

abbrev pub decreases-loop-i : goal.decreases-loop-i
decreases-loop-i l = l.len - l.i
