use Rattle.std.proofs.Common.{arith}
use mathlib.Core.Path.{ap, ◌∙◌}
use Prim.Native.Nat.{◌+◌, ◌*◌}
use lib.ListN.{set}
use Rattle.totdb.proofs.Listed.{row_none, row_more, row_done}
use Rattle.totdb.proofs.outputs.Goals as goal

pub loop-i-init : goal.loop-i-init
loop-i-init c = let none = row_none c.args.first 64 c.args.len (omega arith) in (omega arith, omega arith, none.0, none.1)

pub loop-i-preserved : goal.loop-i-preserved
loop-i-preserved c = (
  omega arith,
  omega arith,
  omega arith,
  ap (λ l. set l c.loop-i.i (c.args.first + 2 * c.loop-i.i)) c.loop-i.invariant.3 ∙ row_more c.args.first c.args.len c.loop-i.i (omega arith),
)

pub returns : goal.returns
returns c = row_done c.args.first c.args.len c.loop-i.i c.loop-i.x-items (omega arith) (omega arith) c.loop-i.invariant.3
