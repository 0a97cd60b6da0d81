-- `window::put_window` meets its contract: the derivations of its values, then the sum, are the records of the key.
use Rattle.std.proofs.Common.{arith}
use mathlib.Core.Path.{◌≡◌}
use Prim.Native.Nat.{◌+◌, ◌-◌}
use Rattle.record.proofs.Writing.{after}
use Rattle.totdb.specs.Nodes.{node_at}
use Rattle.window.proofs.Windows.{window_is}
use Rattle.window.proofs.put_window.Goals as goal

pub returns : goal.returns
returns c at_step t n handed =
    let all : c.args.offset + c.args.len - c.args.offset ≡ c.args.len = omega arith in
    rw (← window_is c.args.row.now c.args.outputs.now at_step t n c.args.offset c.args.len c.requires.inside handed)
    (after (c.put_values-after_values.ensures at_step n (node_at t n) handed) (rw (all, c.default.ensures.0, c.default.ensures.1.0, c.default.ensures.1.1) at c.put_sum.ensures))
