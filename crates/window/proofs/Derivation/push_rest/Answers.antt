use Rattle.std.proofs.Common.{rules, arith}
use mathlib.Core.Path.{◌≡◌}
use mathlib.Core.List.{flat_map}
use Prim.Native.Nat.{◌+◌, ◌-◌, ◌≤◌}
use Rattle.record.specs.Record.{token_numbers}
use Rattle.record.proofs.Tokens.{tokens_append}
use Rattle.record.proofs.Writing.{after, nothing}
use Rattle.totdb.specs.Nodes.{range}
use Rattle.window.specs.Window.{added}
use Rattle.window.specs.Derivations.{summands}
use Rattle.window.proofs.Totals.{range_more}
use Rattle.window.proofs.Derivation.push_rest.Goals as goal

pub loop-s-init : goal.loop-s-init
unfolding flat_map range token_numbers
loop-s-init c =
    let none : c.args.first + 1 - (c.args.first + 1) ≡ 0 = omega arith in
    (omega arith, λ at_step n x handed. rw none nothing)

pub loop-s-preserved : goal.loop-s-preserved
loop-s-preserved c =
    let from : c.args.first + 1 ≤ c.loop-s.s = search rules in (
      omega (arith, c.push_added-end.ensures.upper_bound),
      λ at_step n x handed.
          rw (range_more (added (summands c.args.self.now at_step n x)) (c.args.first + 1) c.loop-s.s from, tokens_append)
          (after (c.loop-s.invariant.1 at_step n x handed) (c.push_added-end.ensures.puts at_step n x handed)),
    )

pub returns : goal.returns
returns c =
    let all : c.loop-s.s - (c.args.first + 1) ≡ c.args.self.now.window.offset + c.args.self.now.window.len - c.args.first = search rules in
    record { puts = (λ at_step n x handed. rw all at (c.loop-s.invariant.1 at_step n x handed)); upper_bound = rw all at c.loop-s.invariant.0 }
