-- The steps read from the store are those that the definitions name.
use mathlib.Core.Path.{◌≡◌, refl, sym, ap, ◌∙◌}
use mathlib.Core.Bool.{Bool, true, false}
use mathlib.Core.List.{List}
use Prim.Native.Nat.{ℕ, zero, suc, ◌+◌, ◌-◌, ◌*◌, ◌<◌}
use native.Mathlib.Omega.{arith}
use lib.ListN.{get_or}
use Rattle.sizes.specs.Sizes.{step_stop, store_at}
use Rattle.totdb.specs.Nodes.{Node}
use Rattle.pb.specs.Sum.{neg}
use Rattle.cert.specs.Definitions.{Key, real, window_zero, window, one_def, real_def, window_def}
use Rattle.cert.specs.State.{Stored, from_in, step_in}
use Rattle.derivation.specs.Operands.{operand, step_after, next_step}
use Rattle.derivation.specs.declared.SemDefinition.TheVariants.{None, Step, Axiom}
use Rattle.rows.specs.Windows.{window_at}
use Rattle.define.specs.Store.{slot, Used, WindowOf, direction}
use Rattle.define.proofs.Defines.{step_after_lem}
use Rattle.clauses.specs.Firsts.{real_step, window_step, FirstsOf}

one : (i : ℕ) → 2 * i + 1 ≡ suc (2 * i)
one i = omega arith

two : (i : ℕ) → 2 * i + 2 ≡ suc (2 * i + 1)
two i = omega arith

module _ {t : List Node} {store : List ℕ} {es : List Stored} (f : FirstsOf t store es) where
  pub real_read : (n v : ℕ) (b : Bool) → Used t (real n v)
      → Step (real_step (get_or store (store_at n + v) 0) v b) ≡ operand (step_in es) (real_def n v (direction b))
  unfolding real_step real_def direction operand step_in slot
  real_read n zero b u = ap Step (f.firsts.is (real n 0) u ∙ omega arith)
  real_read n (suc v) true u =
      ap Step (ap next_step (f.firsts.is (real n (suc v)) u) ∙ step_after_lem (from_in es (real n (suc v))) 1 (f.few (real n (suc v))))
  real_read n (suc v) false u = ap Step (f.firsts.is (real n (suc v)) u ∙ omega arith)

  pub first_low : (n v : ℕ) → Used t (real n v) → get_or store (store_at n + v) 0 < step_stop
  unfolding slot
  first_low n v u = omega (arith, f.firsts.is (real n v) u, f.few (real n v))

  module _ {n o m p : ℕ} (w : WindowOf t n o m) (e : window_at t n o m ≡ p) where
    after_first : (k : ℕ) → step_after (get_or store (p + 1) 0) k ≡ step_in es (window n o m) (suc k)
    unfolding step_in slot Used
    after_first k =
        ap (λ (q : ℕ). step_after (get_or store (q + 1) 0) k) (sym e)
        ∙ ap (λ (first : ℕ). step_after first k) (f.firsts.is (window n o m) w)
        ∙ step_after_lem (from_in es (window n o m)) k (f.few (window n o m))

    pub window_read : (v : ℕ) (b : Bool)
        → Step (window_step (get_or store p 0) (get_or store (p + 1) 0) o v b) ≡ operand (step_in es) (window_def n o m v (direction b))
    unfolding window_step window_def direction operand step_in slot Used
    window_read zero b = ap Step (ap (λ (q : ℕ). get_or store q 0) (sym e) ∙ f.firsts.is (window_zero n o m) w)
    window_read (suc v) true = ap Step (after_first (2 * (v - o) + 1) ∙ rw (two (v - o)))
    window_read (suc v) false = ap Step (after_first (2 * (v - o)) ∙ rw (one (v - o)))

-- ---- the cases of the code

module _ (at_step : Key → ℕ → ℕ) (l v : ℕ) where
  pub one_zero : v ≡ 0 → Axiom l ≡ operand at_step (one_def l v)
  unfolding operand one_def
  one_zero e = rw e

  pub one_own : v ≡ 1 → None ≡ operand at_step (one_def l v)
  unfolding operand one_def
  one_own e = rw e

  pub one_above : 1 < v → Axiom (neg l) ≡ operand at_step (one_def l v)
  unfolding operand one_def
  one_above h = by v h
    where
      by : (v : ℕ) → 1 < v → Axiom (neg l) ≡ operand at_step (one_def l v)
      by zero h = absurd (omega arith)
      by (suc zero) h = absurd (omega arith)
      by (suc (suc v)) h = refl

module _ (first : ℕ) (v : ℕ) (b : Bool) where
  pub real_zero : v ≡ 0 → first ≡ real_step first v b
  unfolding real_step
  real_zero e = rw e

  pub real_only : 0 < v → b ≡ true → next_step first ≡ real_step first v b
  unfolding real_step
  real_only h e = rw e (by v h)
    where
      by : (v : ℕ) → 0 < v → next_step first ≡ real_step first v true
      by zero h = absurd (omega arith)
      by (suc v) h = refl

  pub real_if : 0 < v → b ≡ false → first ≡ real_step first v b
  unfolding real_step
  real_if h e = rw e (by v h)
    where
      by : (v : ℕ) → 0 < v → first ≡ real_step first v false
      by zero h = absurd (omega arith)
      by (suc v) h = refl

module _ (origin first f : ℕ) (v : ℕ) (b : Bool) where
  pub window_origin : v ≡ 0 → origin ≡ window_step origin first f v b
  unfolding window_step
  window_origin e = rw e

  pub window_only : (k : ℕ) → 0 < v → k ≡ 2 * (v - f - 1) → b ≡ true → step_after first (k + 1) ≡ window_step origin first f v b
  unfolding window_step
  window_only k h g e = rw e (by v h g)
    where
      by : (v : ℕ) → 0 < v → k ≡ 2 * (v - f - 1) → step_after first (k + 1) ≡ window_step origin first f v true
      by zero h g = absurd (omega arith)
      by (suc v) h g = ap (λ (j : ℕ). step_after first j) (omega arith)

  pub window_if_lem : (k : ℕ) → 0 < v → k ≡ 2 * (v - f - 1) → b ≡ false → step_after first k ≡ window_step origin first f v b
  unfolding window_step
  window_if_lem k h g e = rw e (by v h g)
    where
      by : (v : ℕ) → 0 < v → k ≡ 2 * (v - f - 1) → step_after first k ≡ window_step origin first f v false
      by zero h g = absurd (omega arith)
      by (suc v) h g = ap (λ (j : ℕ). step_after first j) (omega arith)
