use Rattle.std.proofs.Common.{rules, arith}
use mathlib.Core.Path.{◌≡◌}
use mathlib.Core.List.{flat_map}
use Prim.Native.Nat.{◌+◌, ◌-◌, ◌≤◌}
use Rattle.record.specs.Record.{numbers}
use Rattle.record.proofs.Writing.{after, nothing}
use Rattle.totdb.specs.Nodes.{range}
use Rattle.memo.proofs.Lists.{flat_map_append}
use Rattle.cert.specs.Definitions.{window_if, window_only_if, window_pair}
use Rattle.derivation.specs.Summands.{summand}
use Rattle.window.specs.Window.{tokens_of}
use Rattle.window.proofs.Totals.{range_more}
use Rattle.window.proofs.Window.put_values.Goals as goal

pub loop-v-init : goal.loop-v-init
unfolding flat_map range
loop-v-init c at_step n x handed =
    let none : c.args.self.now.offset + 1 - (c.args.self.now.offset + 1) ≡ 0 = omega arith in
    rw none nothing

pub loop-v-preserved : goal.loop-v-preserved
unfolding flat_map window_if window_only_if summand tokens_of
loop-v-preserved c at_step n x handed =
    let from : c.args.self.now.offset + 1 ≤ c.loop-v.v = search rules in
    rw (range_more (window_pair at_step n x c.args.self.now.offset c.args.self.now.len) (c.args.self.now.offset + 1) c.loop-v.v from, flat_map_append numbers)
    (after (c.loop-v.invariant at_step n x handed)
    (after (c.put-after_if.ensures at_step n x handed) (after (c.put-end.ensures at_step n x handed) nothing)))

pub returns : goal.returns
returns c at_step n x handed =
    let all : c.loop-v.v - (c.args.self.now.offset + 1) ≡ c.args.self.now.len = search rules in
    rw all at (c.loop-v.invariant at_step n x handed)
