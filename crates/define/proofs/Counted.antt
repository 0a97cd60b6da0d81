-- A clause counted: what it changes of the store, and what it leaves.
use mathlib.Core.Path.{◌≡◌, ◌∙◌}
use mathlib.Core.List.{List}
use Prim.Native.Nat.{ℕ, ◌≤◌, ◌<◌}
use native.Mathlib.Omega.{arith}
use lib.ListN.{length, get_or, set, take, length-set}
use lib.Seq.{get_or-set_same, get_or-set_other, take-set-le}
use Rattle.sizes.specs.Sizes.{trail, marks_at, step_at, clauses_at, store_start}
use Rattle.derivation.specs.Operands.{next_step}
use Rattle.define.specs.Store.{clause_counted}

module _ (store : List ℕ) where
  abbrev stepped : List ℕ
  stepped = set store step_at (next_step (get_or store step_at 0))

  pub counted_size : length (clause_counted store) ≡ length store
  unfolding clause_counted
  counted_size = length-set stepped clauses_at _ ∙ length-set store step_at _

  other : (i : ℕ) → (i ≡ step_at → ⊥) → (i ≡ clauses_at → ⊥) → get_or (clause_counted store) i 0 ≡ get_or store i 0
  unfolding clause_counted
  other i a b = get_or-set_other stepped clauses_at i _ 0 b ∙ get_or-set_other store step_at i _ 0 a

  pub counted_row : (i : ℕ) → store_start ≤ i → get_or (clause_counted store) i 0 ≡ get_or store i 0
  counted_row i h = other i (λ e. absurd (omega arith)) (λ e. absurd (omega arith))

  pub counted_marks : get_or (clause_counted store) marks_at 0 ≡ get_or store marks_at 0
  counted_marks = other marks_at (λ e. absurd (omega arith)) (λ e. absurd (omega arith))

  pub counted_trail : (n : ℕ) → n ≤ trail → take n (clause_counted store) ≡ take n store
  unfolding clause_counted
  counted_trail n h = take-set-le n stepped clauses_at _ (omega arith) ∙ take-set-le n store step_at _ (omega arith)

  pub counted_step : step_at < length store → get_or (clause_counted store) step_at 0 ≡ next_step (get_or store step_at 0)
  unfolding clause_counted
  counted_step h =
      get_or-set_other stepped clauses_at step_at _ 0 (λ e. absurd (omega arith)) ∙ get_or-set_same store step_at (next_step (get_or store step_at 0)) 0 h

  pub counted_clauses : clauses_at < length store → get_or (clause_counted store) clauses_at 0 ≡ next_step (get_or store clauses_at 0)
  unfolding clause_counted
  counted_clauses h =
      get_or-set_same stepped clauses_at (next_step (get_or store clauses_at 0)) 0 (omega (arith, length-set store step_at (next_step (get_or store step_at 0))))
