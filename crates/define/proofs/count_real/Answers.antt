-- `define::count_real` meets its contract: one record, or two.
use Rattle.std.proofs.Common.{arith}
use mathlib.Core.Logic.{⊎_elim}
use Rattle.define.proofs.Reals.{zero_steps, above_steps, within_steps}
use Rattle.define.proofs.count_real.Goals as goal

pub returns-then-len-value : goal.returns-then-len-value
returns-then-len-value c = record {
  value = (λ x e. ⊎_elim (λ z. zero_steps x _ z) (λ w. above_steps x _ (omega (arith, w.0)) (omega (arith, w.1, e))) c.if-len-value.either);
  upper_bound = omega arith;
}

pub returns-else-len-value : goal.returns-else-len-value
returns-else-len-value c = record { value = (λ x e. within_steps x _ (omega (arith, c.if-len-value.false.0)) (omega arith)); upper_bound = omega arith }
