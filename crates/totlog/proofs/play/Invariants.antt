use mathlib.Core.Path.{◌≡◌}
use Prim.Native.Nat.{ℕ, ◌-◌, ◌≤◌}
use lib.ListN.{length}
use Rattle.cert.specs.State.{Head, start}
use Rattle.define.specs.Represents.{memory}
use Rattle.commands.specs.Standing.{Standing}
use Rattle.totlog.specs.Entry.{commands_of}
use Rattle.totlog.proofs.Going.{Going}
use Rattle.totlog.proofs.play.Given as goal

abbrev pub invariant-loop-k : goal.invariant-loop-k
invariant-loop-k l =
    (l.at ≤ length l.o.script.now)
    × (l.place ≤ l.at)
    × (length l.nodes ≡ length l.initial.nodes)
    × (length l.store ≡ length l.initial.store)
    × (length l.log ≡ length l.initial.log)
    × ((h : Head) (c : ℕ) → Standing h c l.initial.nodes (memory l.initial.store l.initial.log l.initial.t.at) l.initial.t (start h)
    → Going h c l.o.script.now (commands_of l.o) l.nodes l.store l.log l.t l.at l.place l.closed)

abbrev pub decreases-loop-k : goal.decreases-loop-k
decreases-loop-k l =
    length l.o.script.now - l.at
