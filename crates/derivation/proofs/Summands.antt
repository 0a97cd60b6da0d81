-- A summand of a window's derivations in either direction: nothing at the value itself, on one side of it two steps, divided, and on the
-- other a literal.
use mathlib.Core.Path.{◌≡◌, refl}
use mathlib.Core.Bool.{Bool, true, false, cond, beq}
use mathlib.Core.List.{[], ◌∷◌}
use Prim.Native.Nat.{ℕ, ◌+◌, ◌-◌}
use native.Mathlib.Omega.{arith}
use borrow.Author.Tests.{ltb-true, ltb-false}
use lib.Dec.{ltb}
use Rattle.std.specs.Int.{abs_diff}
use Rattle.pb.specs.Rules.{step, literal, add, divide, saturate}
use Rattle.pb.specs.Sum.{neg}
use Rattle.totdb.specs.Nodes.{Node, output}
use Rattle.cert.specs.Definitions.{Key, real}
use Rattle.cert.proofs.Summands.{if_low, if_high, if_own, only_if_low, only_if_high, only_if_own}
use Rattle.derivation.specs.Summands.{summand}

module _ (at_step : Key → ℕ → ℕ) (n : ℕ) (x : Node) (v s : ℕ) where
  pub summand_own : (o : Bool) → s ≡ v → summand o at_step n x v s ≡ []
  unfolding summand
  summand_own true e = only_if_own at_step n x v s (omega arith) (omega arith)
  summand_own false e = if_own at_step n x v s (omega arith) (omega arith)

  pub summand_divided : (o : Bool) → (s ≡ v → ⊥) → beq (ltb s v) o ≡ true → summand o at_step n x v s
      ≡ step (at_step (real n v) (cond o 1 0)) ∷ step (at_step (real n s) (cond o 0 1)) ∷ add ∷ divide (abs_diff v s + 1) ∷ saturate ∷ []
  unfolding summand
  summand_divided o k e = go o (ltb s v) refl e
    where
      go : (o t : Bool) → ltb s v ≡ t → beq t o ≡ true → summand o at_step n x v s
          ≡ step (at_step (real n v) (cond o 1 0)) ∷ step (at_step (real n s) (cond o 0 1)) ∷ add ∷ divide (abs_diff v s + 1) ∷ saturate ∷ []
      go true true h e =
          let l = ltb-true s v h in
          let d : abs_diff v s ≡ v - s = omega arith in
          rw (only_if_low at_step n x v s l, d)
      go false false h e =
          let g = ltb-false s v h in
          let d : abs_diff v s ≡ s - v = omega arith in
          rw (if_high at_step n x v s (omega arith), d)
      go true false h e = absurd (cc e)
      go false true h e = absurd (cc e)

  pub summand_assumed : (o : Bool) → (s ≡ v → ⊥) → beq (ltb s v) o ≡ false
      → summand o at_step n x v s ≡ literal (cond o (output x s) (neg (output x s))) ∷ []
  unfolding summand
  summand_assumed o k e = go o (ltb s v) refl e
    where
      go : (o t : Bool) → ltb s v ≡ t → beq t o ≡ false
          → summand o at_step n x v s ≡ literal (cond o (output x s) (neg (output x s))) ∷ []
      go true false h e = let g = ltb-false s v h in rw (only_if_high at_step n x v s (omega arith))
      go false true h e = rw (if_low at_step n x v s (ltb-true s v h))
      go true true h e = absurd (cc e)
      go false false h e = absurd (cc e)
