-- `derivation::push_summand` meets its contract: each of its three cases is one of a summand.
use mathlib.Core.Path.{◌≡◌, refl}
use Rattle.std.proofs.Common.{cond}
use mathlib.Core.List.{[], ◌∷◌}
use Prim.Native.Nat.{ℕ}
use native.Mathlib.Omega.{arith}
use Rattle.pb.specs.Rules.{step, add, divide, saturate}
use Rattle.pb.specs.Sum.{neg}
use Rattle.record.specs.Writing.{Buffer, Puts}
use Rattle.record.specs.Record.{token_numbers}
use Rattle.record.proofs.Writing.{nothing}
use Rattle.derivation.specs.Operands.{tokens}
use Rattle.derivation.proofs.Summands.{summand_own, summand_divided, summand_assumed}
use Rattle.derivation.proofs.push_summand.Goals.{then-only_if, else-only_if}
use Rattle.derivation.proofs.push_summand.Goals as goal

-- The tokens of a divided summand, where their numbers are those that are asked for.
divided : {b d : Buffer} {this that divisor x y z : ℕ} → x ≡ this → y ≡ that → z ≡ divisor
    → Puts b (token_numbers (step x ∷ step y ∷ add ∷ divide z ∷ saturate ∷ [])) d
    → Puts b (token_numbers (step this ∷ step that ∷ add ∷ divide divisor ∷ saturate ∷ [])) d
divided e f g h = rw (← e, ← f, ← g) h

pub returns-then-s-v-clause-puts : goal.returns-then-s-v-clause-puts
unfolding token_numbers
returns-then-s-v-clause-puts c at_step n x p q e =
    rw (summand_own at_step n x c.args.v c.args.s c.args.only_if c.if-s-v.true) nothing

pub returns-then-s-v-2-clause-puts : goal.returns-then-s-v-2-clause-puts
returns-then-s-v-2-clause-puts c at_step n x p q e =
    rw (summand_divided at_step n x c.args.v c.args.s c.args.only_if c.if-s-v.false c.if-s-v-2.true, p, q)
    (divided (grind arith) (grind arith) (omega arith) c.push_divided.ensures.puts)

pub returns-clause-puts : goal.returns-clause-puts
unfolding token_numbers tokens
returns-clause-puts c at_step n x p q e =
    let is : c.if-only_if.assumed ≡ cond c.args.only_if c.args.literal (neg c.args.literal) = elim c.if-only_if.branch [
      | then-only_if w ↦ rw (w.if-only_if.true, w.assumed-is) refl
      | else-only_if w ↦ rw (w.if-only_if.false, w.assumed-is, w.neg-assumed.ensures) refl
    ] in
    rw (summand_assumed at_step n x c.args.v c.args.s c.args.only_if c.if-s-v.false c.if-s-v-2.false, e, ← is)
    c.push_definition.ensures.puts
