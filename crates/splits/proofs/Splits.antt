-- The clauses of a value, one for each split of a sum over the two sides.
use mathlib.Core.Path.{◌≡◌, refl, sym, ap, ◌∙◌}
use mathlib.Core.Bool.{Bool, true, false, true≢false}
use mathlib.Core.List.{List, [], ◌∷◌, map, map-append}
use Prim.Native.Nat.{ℕ, suc, ◌+◌, ◌-◌, ◌≤◌, min}
use native.Mathlib.Omega.{arith}
use Rattle.memo.specs.Visit.{each}
use Rattle.memo.proofs.Lists.{map_agree}
use Rattle.memo.proofs.Unrolled.{each_append}
use Rattle.totdb.specs.Nodes.{Node, join, node_at, range, side_len}
use Rattle.cert.specs.Definitions.{if, only_if}
use Rattle.cert.specs.Requests.{Clause, request, clauses_of, clauses_at, if_clause, only_if_clause, splits}
use Rattle.cert.specs.State.{State, write_clause}
use Rattle.cert.proofs.Apart.{splits_mem}
use Rattle.totdb.proofs.Listed.{range_snoc}
use Rattle.rows.specs.declared.Join.{Join}
use Rattle.define.specs.Store.{direction}
use Rattle.define.specs.Represents.{Memory, Represented, Simulates}
use Rattle.define.proofs.Simulates.{sims_none, sims_then, sims_under, sims_same}
use Rattle.clauses.specs.declared.Split.{Split}
use Rattle.clauses.specs.Joins.{JoinIn, ClauseIn, ClauseValue, clause_of, clause_part, last_literal}
use Rattle.splits.specs.Splits.{split_sum, left_value}
use Rattle.clauses.proofs.Joins.{join_fits}

-- ---- which splits there are

sum_low : (v : ℕ) (b : Bool) → split_sum v b ≤ v
unfolding split_sum
sum_low v true = omega arith
sum_low v false = omega arith

-- The split of a clause, by what the left side has of the sum.
abbrev pub split_of : ℕ → Bool → ℕ → Split
split_of v b a = record { value = v; left = left_value a b; right = v - a; only_if = b }

-- The bounds of the loop.
pub record Between (x : Join) (v : ℕ) (b : Bool) (low high : ℕ) : Type 0 where
  pub low_is : low ≡ split_sum v b - x.right.len
  pub high_is : high ≡ min (split_sum v b) x.left.len
  pub some : low ≤ high
  pub short : high ≤ 64
  pub within : high ≤ v

pub between : {ns : List ℕ} {x : Join} {v : ℕ} {b : Bool} {low high sum : ℕ} {m : Memory} → Represented ns (λ t s. JoinIn t x v) m
    → sum ≡ split_sum v b → low ≡ sum - x.right.len → high ≡ min sum x.left.len → Between x v b low high
between {x = x} {v} {b} s g d k =
    let i = s.holds in
    let bd = s.table.bounded in
    let sides = join_fits bd i.of in
    let less = sum_low v b in
    let short = bd.short x.node i.of.there in
    record {
      low_is = omega arith;
      high_is = omega arith;
      some = omega (arith, sides, less, i.within);
      short = omega (arith, less, short, i.within);
      within = omega (arith, less);
    }

pub split_in : {x : Join} {v : ℕ} {b : Bool} {low high : ℕ} → Between x v b low high → (a : ℕ) → low ≤ a → a ≤ high
    → {z : Split} → z ≡ split_of v b a → (t : List Node) → JoinIn t x v → ClauseIn t x z
unfolding split_sum left_value
split_in {x} {v} {b} {low} {high} w a h k e t i =
    rw e (record { of = i; left = left_within b w.high_is; right = right_within b i.above w.low_is w.high_is })
  where
    left_within : (b : Bool) → high ≡ min (split_sum v b) x.left.len
        → ClauseValue b x.left.len (left_value a b)
    left_within true e = record { above = λ _. omega arith; below = λ f. absurd (true≢false f); top = omega arith }
    left_within false e = record { above = λ f. absurd (true≢false (sym f)); below = λ _. omega arith; top = omega arith }

    right_within : (b : Bool) → 1 ≤ v → low ≡ split_sum v b - x.right.len
        → high ≡ min (split_sum v b) x.left.len
        → ClauseValue b x.right.len (v - a)
    right_within true g d e = record { above = λ _. omega arith; below = λ f. absurd (true≢false f); top = omega arith }
    right_within false g d e = record { above = λ f. absurd (true≢false (sym f)); below = λ _. omega arith; top = omega arith }

-- ---- the loop

-- The clause of the split a.
abbrev pub split_clause : List Node → Join → ℕ → Bool → ℕ → Clause
split_clause t x v b a = clause_of t x (split_of v b a)

-- The clauses of the splits from low up to below a.
abbrev pub splits_to : Join → ℕ → Bool → ℕ → ℕ → List Node → State → State
splits_to x v b low a t u = each (write_clause t) (map {B = Clause} (split_clause t x v b) (range low (a - low))) u

range_same : {s n r m : ℕ} → s ≡ r → n ≡ m → range s n ≡ range r m
range_same e f = rw (e, f)

-- The clauses of a value are those of all splits.
module _ {t : List Node} {x : Join} {v : ℕ} (i : JoinIn t x v) where
  at_join : (y : Node) (m : List ℕ) (o : ℕ) → y ≡ join m o x.left.side x.right.side
      → (clauses_at t x.node y v if ≡ map {B = Clause} (if_clause t x.node y x.left.side x.right.side v) (splits v (side_len t x.left.side) (side_len t x.right.side)))
      × (clauses_at t x.node y v only_if
      ≡ map {B = Clause} (only_if_clause t x.node y x.left.side x.right.side v) (splits (v - 1) (side_len t x.left.side) (side_len t x.right.side)))
  unfolding clauses_at
  at_join y m o e = rw e (refl, refl)

  splits_are : {b : Bool} {low high : ℕ} → Between x v b low high
      → splits (split_sum v b) (side_len t x.left.side) (side_len t x.right.side) ≡ range low (high + 1 - low)
  unfolding splits
  splits_are {b} {low} {high} w =
      let e : split_sum v b - side_len t x.right.side ≡ low = omega (arith, w.low_is, i.of.right.length) in
      let f : suc (min (split_sum v b) (side_len t x.left.side)) - (split_sum v b - side_len t x.right.side) ≡ high + 1 - low
      = omega (arith, w.low_is, w.high_is, i.of.left.length, i.of.right.length) in
      range_same e f

  only_same : (a : ℕ) → a ≤ v - 1 → only_if_clause t x.node (node_at t x.node) x.left.side x.right.side v a ≡ split_clause t x v true a
  unfolding left_value clause_of clause_part last_literal only_if_clause direction
  only_same a h =
      let e : suc a ≡ a + 1 = omega arith in
      let f : suc (v - 1 - a) ≡ v - a = omega (arith, i.above) in
      ap (λ (j : ℕ). clause_of t x (record { value = v; left = suc a; right = j; only_if = true })) f
      ∙ ap (λ (k : ℕ). clause_of t x (record { value = v; left = k; right = v - a; only_if = true })) e

  clauses_are : {low high : ℕ} (b : Bool) → Between x v b low high
      → clauses_of t (request x.node v (direction b)) ≡ map {B = Clause} (split_clause t x v b) (range low (high + 1 - low))
  unfolding clauses_of direction split_sum left_value clause_of if_clause only_if_clause clause_part last_literal
  clauses_are false w =
      (at_join (node_at t x.node) i.of.leaf_list i.of.variable i.of.is).0
      ∙ ap (map {B = Clause} (split_clause t x v false)) (splits_are w)
  clauses_are true w =
      (at_join (node_at t x.node) i.of.leaf_list i.of.variable i.of.is).1
      ∙ map_agree (splits (v - 1) (side_len t x.left.side) (side_len t x.right.side))
      (λ a m. only_same a (splits_mem (v - 1) (side_len t x.left.side) (side_len t x.right.side) a m).0)
      ∙ ap (map {B = Clause} (split_clause t x v true)) (splits_are w)

module _ {ns : List ℕ} {x : Join} {v : ℕ} where
  pub none_yet : (b : Bool) (low a : ℕ) {m : Memory} → a ≡ low → Simulates ns (λ t u. JoinIn t x v) (splits_to x v b low a) m m
  unfolding each range
  none_yet b low a h =
      let e : 0 ≡ a - low = omega arith in
      sims_same (λ t u l i. ap (λ (k : ℕ). each (write_clause t) (map {B = Clause} (split_clause t x v b) (range low k)) u) e) sims_none

  pub one_more : {b : Bool} {low high : ℕ} (a : ℕ) {z : Split} {m n p : Memory} → Between x v b low high → low ≤ a → a ≤ high → z ≡ split_of v b a
      → Simulates ns (λ t u. JoinIn t x v) (splits_to x v b low a) m n
      → Simulates ns (λ t u. ClauseIn t x z) (λ t u. write_clause t (clause_of t x z) u) n p
      → Simulates ns (λ t u. JoinIn t x v) (splits_to x v b low (a + 1)) m p
  unfolding each
  one_more {b} {low} a {z} w h k e c d = sims_same (λ t u l i. one t u) (sims_then c (sims_under (λ t u l i. split_in w a h k e t i) d))
    where
      one : (t : List Node) (u : State)
          → write_clause t (clause_of t x z) (splits_to x v b low a t u) ≡ splits_to x v b low (a + 1) t u
      one t u =
          let f : a + 1 - low ≡ suc (a - low) = omega arith in
          let g : low + (a - low) ≡ a = omega arith in
          rw (
            e,
            f,
            range_snoc low (a - low),
            g,
            map-append (split_clause t x v b) (range low (a - low)) (a ∷ []),
            each_append (write_clause t) (map {B = Clause} (split_clause t x v b) (range low (a - low))) (split_clause t x v b a ∷ []) u,
          )

  pub all_done : {b : Bool} {low high : ℕ} (a : ℕ) {m n : Memory} → Between x v b low high → a ≡ high + 1
      → Simulates ns (λ t u. JoinIn t x v) (splits_to x v b low a) m n
      → Simulates ns (λ t u. JoinIn t x v) (λ t u. each (write_clause t) (clauses_of t (request x.node v (direction b))) u) m n
  all_done {b} {low} {high} a w e d =
      sims_same (λ t u l i. ap (λ (ks : List Clause). each (write_clause t) ks u)
      (ap (λ (k : ℕ). map {B = Clause} (split_clause t x v b) (range low (k - low))) e ∙ sym (clauses_are i b w))) d
