-- The summands of a window's derivations, by the order of v and s.
use mathlib.Core.Path.{◌≡◌, refl}
use mathlib.Core.List.{List, [], ◌∷◌}
use mathlib.Core.Logic.{dite}
use Prim.Native.Nat.{ℕ, ◌+◌, ◌-◌, ◌≤◌, ◌<◌}
use native.Mathlib.Decide.{dec_lt}
use native.Mathlib.Omega.{arith}
use Rattle.pb.specs.Rules.{Token, step, literal, add, divide, saturate}
use Rattle.pb.specs.Sum.{neg}
use Rattle.totdb.specs.Nodes.{Node, output}
use Rattle.cert.specs.Definitions.{Key, real, if_part, only_if_part}

-- One of three, where s is below v, above it, and v itself.
abbrev by_order : {v s : ℕ} → Dec (s < v) → Dec (v < s) → List Token → List Token → List Token → List Token
by_order c d low high own = dite {C = List Token} c (λ _. low) (λ _. dite {C = List Token} d (λ _. high) (λ _. own))

module _ {v s : ℕ} (c : Dec (s < v)) (d : Dec (v < s)) (low high own : List Token) where
  order_low : s < v → by_order c d low high own ≡ low
  order_low h = go c
    where
      go : (c : Dec (s < v)) → by_order c d low high own ≡ low
      go (yes e) = refl
      go (no e) = absurd (e h)

  order_high : v < s → by_order c d low high own ≡ high
  order_high h = go c d
    where
      go : (c : Dec (s < v)) (d : Dec (v < s)) → by_order c d low high own ≡ high
      go (yes e) d = absurd (omega arith)
      go (no e) (yes g) = refl
      go (no e) (no g) = absurd (g h)

  order_own : v ≤ s → s ≤ v → by_order c d low high own ≡ own
  order_own h k = go c d
    where
      go : (c : Dec (s < v)) (d : Dec (v < s)) → by_order c d low high own ≡ own
      go (yes e) d = absurd (omega arith)
      go (no e) (yes g) = absurd (omega arith)
      go (no e) (no g) = refl

module _ (at_step : Key → ℕ → ℕ) (n : ℕ) (x : Node) (v s : ℕ) where
  pub if_low : s < v → if_part at_step n x v s ≡ literal (neg (output x s)) ∷ []
  unfolding if_part
  if_low h = order_low (dec_lt s v) (dec_lt v s) _ _ _ h

  pub if_high : v < s
      → if_part at_step n x v s ≡ step (at_step (real n v) 0) ∷ step (at_step (real n s) 1) ∷ add ∷ divide (s - v + 1) ∷ saturate ∷ []
  unfolding if_part
  if_high h = order_high (dec_lt s v) (dec_lt v s) _ _ _ h

  pub if_own : v ≤ s → s ≤ v → if_part at_step n x v s ≡ []
  unfolding if_part
  if_own h k = order_own (dec_lt s v) (dec_lt v s) _ _ _ h k

  pub only_if_low : s < v
      → only_if_part at_step n x v s ≡ step (at_step (real n v) 1) ∷ step (at_step (real n s) 0) ∷ add ∷ divide (v - s + 1) ∷ saturate ∷ []
  unfolding only_if_part
  only_if_low h = order_low (dec_lt s v) (dec_lt v s) _ _ _ h

  pub only_if_high : v < s → only_if_part at_step n x v s ≡ literal (output x s) ∷ []
  unfolding only_if_part
  only_if_high h = order_high (dec_lt s v) (dec_lt v s) _ _ _ h

  pub only_if_own : v ≤ s → s ≤ v → only_if_part at_step n x v s ≡ []
  unfolding only_if_part
  only_if_own h k = order_own (dec_lt s v) (dec_lt v s) _ _ _ h k
