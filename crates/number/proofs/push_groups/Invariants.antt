-- Writing what is left at `at + i` comes to the same log and the same end as writing x at `at`.
use mathlib.Core.Path.{◌≡◌}
use Prim.Native.Nat.{◌+◌}
use lib.ListN.{length}
use lib.Seq.{sets}
use Rattle.number.specs.Number.{encode}
use Rattle.number.proofs.push_groups.Given as goal

abbrev pub invariant-loop-i : goal.invariant-loop-i
invariant-loop-i g l =
    record {
      same_log : sets l.log (l.at + l.i) (encode l.rest) ≡ sets l.initial.log l.at (encode l.x);
      same_end : l.i + length (encode l.rest) ≡ g.row.N;
    }
