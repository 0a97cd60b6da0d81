use Rattle.std.proofs.Common.{arith}
use mathlib.Core.Path.{refl, ◌∙◌}
use Rattle.define.proofs.Simulates.{represented_to, represented_after}
use Rattle.splits.proofs.Splits.{between, split_in, none_yet, one_more, all_done}
use Rattle.splits.proofs.write_clauses.Goals as goal

pub overflow_add-a-end : goal.overflow_add-a-end
overflow_add-a-end c =
    let w = between c.requires c.split_sum-sum.ensures c.saturating_sub-low.ensures c.min-high.ensures in
    omega (arith, w.short)

pub loop-a-init : goal.loop-a-init
loop-a-init c =
    let w = between c.requires c.split_sum-sum.ensures c.saturating_sub-low.ensures c.min-high.ensures in
    (w, refl, omega arith, omega (arith, w.some), refl, refl, none_yet _ _ _ (omega arith), c.are_long-long.ensures)

pub write_split-p-requires : goal.write_split-p-requires
write_split-p-requires c =
    record {
      long_value = c.loop-a.invariant.7;
      represented = represented_to (λ t s l i. split_in c.loop-a.invariant.0 c.loop-a.a c.loop-a.invariant.2 (omega arith) (rw c.left_value.ensures) t i)
          (represented_after (λ t s l i. i) c.loop-a.invariant.6 c.requires);
    }

pub loop-a-preserved : goal.loop-a-preserved
loop-a-preserved c = (
  c.loop-a.invariant.0,
  refl,
  omega arith,
  omega arith,
  c.write_split-p.auto.store ∙ c.loop-a.invariant.4,
  c.write_split-p.auto.log ∙ c.loop-a.invariant.5,
  one_more c.loop-a.a c.loop-a.invariant.0 c.loop-a.invariant.2 (omega arith) (rw c.left_value.ensures) c.loop-a.invariant.6 c.write_split-p.ensures,
  c.loop-a.invariant.7,
)

pub returns : goal.returns
returns c = all_done _ c.loop-a.invariant.0 (omega arith) c.loop-a.invariant.6
