-- `define::put_real` meets its contract: each case writes the records of one of `Reals.antt`.
use Rattle.std.proofs.Common.{rules, arith}
use mathlib.Core.Path.{◌≡◌, ap}
use mathlib.Core.List.{List}
use Prim.Native.Nat.{ℕ, ◌+◌, ◌-◌, ◌*◌, ◌≤◌}
use lib.ListN.{length}
use Rattle.totdb.specs.Nodes.{Node, leaves, len, from_first}
use Rattle.record.proofs.Writing.{after}
use Rattle.pb.specs.Sum.{neg}
use Rattle.define.proofs.Reals.{zero_is, above_is, within_is}
use Rattle.define.proofs.put_real.Goals as goal

len_is : {l : List ℕ} (x : Node) → leaves x ≡ l → len x ≡ length l
unfolding len
len_is x e = ap length e

neg_low : (l : ℕ) → neg l ≤ l + 1
unfolding neg
neg_low l = omega arith

pub returns-then-value-eq0 : goal.returns-then-value-eq0
returns-then-value-eq0 c =
    λ x k. rw (← zero_is x c.args.value (omega arith), k.leaf_list) (rw (c.default.ensures.0, c.default.ensures.1.0, c.default.ensures.1.1) at c.put_sum.ensures)

pub returns-then-n-value : goal.returns-then-n-value
returns-then-n-value c =
    λ x k.
    let n = len_is x k.leaf_list in
    rw (← above_is x c.args.value (omega arith) (omega arith), k.leaf_list) (rw (c.default-then-n-value.ensures.0, c.default-then-n-value.ensures.1.0, c.default-then-n-value.ensures.1.1) at c.put_sum-then-n-value.ensures)

pub overflow_add-only_if_sum : goal.overflow_add-only_if_sum
overflow_add-only_if_sum c =
    let k : c.neg-negated.result ≤ c.args.first + 2 * (c.args.value - 1) + 1 = rw c.neg-negated.ensures (neg_low (c.args.first + 2 * (c.args.value - 1))) in
    search rules

pub returns : goal.returns
unfolding from_first
returns c =
    λ x k.
    let n = len_is x k.leaf_list in
    let w = k.outputs c.args.value (omega arith) (omega arith) in
    rw (← within_is x c.args.value (omega arith) (omega arith), k.leaf_list, n, w)
    (after c.put_sum-middle.ensures (rw c.neg-negated.ensures at c.put_sum-2.ensures))
