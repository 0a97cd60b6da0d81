-- `totdb::outputs` meets its contract: after i turns the first i outputs are in place.
use mathlib.Core.Path.{◌≡◌}
use Prim.Native.Nat.{◌≤◌}
use Rattle.sizes.specs.Sizes.{width}
use Rattle.totdb.proofs.Listed.{row_of}
use Rattle.totdb.proofs.outputs.Given as goal

abbrev pub invariant-loop-i : goal.invariant-loop-i
invariant-loop-i l = (l.len ≤ width) × (l.i ≤ l.len) × (l.i-end ≡ l.len) × (l.x-items ≡ row_of l.first l.len l.i)
