-- The rules of a side, case by case, as its code has them.
use mathlib.Core.Path.{◌≡◌, refl, sym, ◌∙◌}
use mathlib.Core.Bool.{true, false, true≢false}
use mathlib.Core.List.{List}
use Prim.Native.Nat.{ℕ, zero, suc, ◌+◌, ◌-◌, ◌*◌, ◌≤◌, ◌<◌}
use native.Mathlib.Decide.{ℕ_discrete}
use native.Mathlib.Omega.{arith}
use borrow.Author.Tests.{eq-eqb, ne_eqb}
use lib.Dec.{eqb}
use Rattle.totdb.specs.Nodes.{leaf, join, output, from_first, limited, length_over, limit_over, plain_over, plain_or, keyed, part}
use Rattle.totdb.specs.declared.Side.{Side}

limited_set : (k n : ℕ) → 0 < k → limited k n ≡ k
unfolding limited
limited_set zero n h = absurd (omega arith)
limited_set (suc k) n h = refl

limited_none : (k n : ℕ) → k ≡ 0 → limited k n ≡ n
unfolding limited
limited_none zero n h = refl
limited_none (suc k) n h = absurd (omega arith)

module _ (s : Side) (n : ℕ) where
  pub length_limit : 0 < s.limit → length_over s n ≡ s.limit
  length_limit h = limited_set s.limit (n - s.offset) h

  pub length_rest : s.limit ≡ 0 → length_over s n ≡ n - s.offset
  length_rest h = limited_none s.limit (n - s.offset) h

-- The limit of the plain form: 0 for one that hides nothing, else the limit as it is. It is no higher.
limit_cases : (f k n : ℕ) (P : ℕ → Type 0) → (f ≡ 0 → k ≡ n → P 0) → (((f ≡ 0) × (k ≡ n) → ⊥) → P k) → P (limit_over f k n)
unfolding limit_over
limit_cases zero k n P whole other = by (ℕ_discrete k n)
  where
    by : Dec (k ≡ n) → P (limit_over 0 k n)
    by (yes q) = rw (eq-eqb k n q, limit_over) (whole refl q)
    by (no q) = rw (ne_eqb k n q, limit_over) (other (λ z. q z.1))
limit_cases (suc f) k n P whole other = other (λ z. omega (arith, z.0))

pub limit_lower : (f k n : ℕ) → limit_over f k n ≤ k
limit_lower f k n = limit_cases f k n (λ m. m ≤ k) (λ p q. omega arith) (λ p. omega arith)

-- A side in its plain form: plain, or as it is. Its length stays.
pub whole_form : (s : Side) (n : ℕ) → s.offset ≡ 0 → s.limit ≡ n → plain_over s n ≡ record { node = s.node; offset = 0; limit = 0 }
whole_form s n p q =
    limit_cases s.offset s.limit n (λ m. ◌≡◌ {A = Side} (record { node = s.node; offset = s.offset; limit = m }) (record { node = s.node; offset = 0; limit = 0 }))
    (λ _ _. rw p) (λ h. absurd (h (p, q)))

pub other_form : (s : Side) (n : ℕ) → ((s.offset ≡ 0) × (s.limit ≡ n) → ⊥) → plain_over s n ≡ s
other_form s n h =
    limit_cases s.offset s.limit n (λ m. ◌≡◌ {A = Side} (record { node = s.node; offset = s.offset; limit = m }) s) (λ p q. absurd (h (p, q))) (λ _. refl)

pub plain_length : (s : Side) (n : ℕ) → length_over (plain_over s n) n ≡ length_over s n
plain_length s n = limit_cases s.offset s.limit n (λ m. limited m (n - s.offset) ≡ length_over s n) (by n) (λ _. refl)
  where
    by : (m : ℕ) → s.offset ≡ 0 → s.limit ≡ m → limited 0 (m - s.offset) ≡ length_over s m
    by zero p q = rw q
    by (suc m) p q = limited_none 0 (suc m - s.offset) refl ∙ omega (arith, p, q, limited_set s.limit (suc m - s.offset) (omega arith))

-- The key of the a-th value: 0 at the offset, else the node's value.
pub keyed_zero : (s : Side) (a : ℕ) → a ≡ 0 → keyed s a ≡ 0
unfolding keyed
keyed_zero s zero h = omega arith
keyed_zero s (suc a) h = absurd (omega arith)

pub keyed_above : (s : Side) (a : ℕ) → 0 < a → keyed s a ≡ s.offset + a
unfolding keyed
keyed_above s zero h = absurd (omega arith)
keyed_above s (suc a) h = omega arith

-- A plain side, or a window, by the test of the code.
pub plain_zero : (f k : ℕ) → plain_or f k true false ≡ true → (f ≡ 0) × (k ≡ 0)
unfolding plain_or
plain_zero zero zero h = (refl, refl)
plain_zero zero (suc k) h = absurd (true≢false (sym h))
plain_zero (suc f) k h = absurd (true≢false (sym h))

pub window_more : (f k : ℕ) → plain_or f k true false ≡ false → 0 < f + k
unfolding plain_or
window_more zero zero h = absurd (true≢false h)
window_more zero (suc k) h = omega arith
window_more (suc f) k h = omega arith

-- A value of a plain side is its own key.
pub plain_keyed : (s : Side) → plain_or s.offset s.limit true false ≡ true → (a : ℕ) → keyed s a ≡ a
plain_keyed s p zero = keyed_zero s zero refl
plain_keyed s p (suc a) = omega (arith, keyed_above s (suc a) (omega arith), (plain_zero s.offset s.limit p).0)

-- By the limit where the offset is 0; by the offset where it is not.
module _ (f k : ℕ) where
  pub plain_limit : f ≡ 0 → eqb k 0 ≡ plain_or f k true false
  unfolding plain_or
  plain_limit h = rw h (by_limit k)
    where
      by_limit : (k : ℕ) → eqb k 0 ≡ plain_or 0 k true false
      by_limit zero = refl
      by_limit (suc k) = ne_eqb (suc k) 0 (omega arith)

  pub plain_offset : 0 < f → eqb f 0 ≡ plain_or f k true false
  unfolding plain_or
  plain_offset h = by_offset f h
    where
      by_offset : (f : ℕ) → 0 < f → eqb f 0 ≡ plain_or f k true false
      by_offset zero h = absurd (omega arith)
      by_offset (suc f) h = ne_eqb (suc f) 0 (omega arith)

-- A part, by where it starts and how long it is.
pub same_part : (l : List ℕ) {i n j m : ℕ} → i ≡ j → n ≡ m → part l i n ≡ part l j m
same_part l e f = rw (e, f)

-- The outputs of a node, from its first.
pub join_outputs_lem : (ls : List ℕ) (o : ℕ) (l r : Side) (i : ℕ) → 1 ≤ i → output (join ls o l r) i ≡ from_first (2 * o) i
unfolding output from_first
join_outputs_lem ls o l r i h = omega arith

pub leaf_output : (l : ℕ) → output (leaf l) 1 ≡ from_first l 1
unfolding output from_first
leaf_output l = omega arith
