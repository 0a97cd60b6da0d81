-- `number::push_any` meets its contract. The loop's invariant: writing what is left at `i` comes to the same log and the same end as writing x at `at`.
-- The measure is what is left.
use mathlib.Core.Path.{◌≡◌}
use Prim.Native.Nat.{◌+◌}
use lib.ListN.{length}
use lib.Seq.{sets}
use Rattle.number.specs.Number.{encode}
use Rattle.number.proofs.push_any.Given as goal

abbrev pub invariant-loop-rest : goal.invariant-loop-rest
invariant-loop-rest l =
    (sets l.log l.at (encode l.rest) ≡ sets l.initial.log l.from (encode l.x))
    × (l.at + length (encode l.rest) ≡ l.from + length (encode l.x))
    × (length l.log ≡ length l.initial.log)

abbrev pub decreases-loop-rest : goal.decreases-loop-rest
decreases-loop-rest l = l.rest
