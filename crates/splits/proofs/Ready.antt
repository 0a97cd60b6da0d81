-- A clause that is ready: it has both parts, its sides are plain, and its lookups do nothing.
use Rattle.std.specs.Prelude.{Some}
use mathlib.Core.Path.{◌≡◌, refl, sym, ap, ◌∙◌}
use mathlib.Core.Bool.{Bool, true, false}
use mathlib.Core.List.{List, [], ◌∷◌, ◌++◌, flat_map}
use Prim.Native.Nat.{ℕ, ◌+◌, ◌≤◌, ◌<◌}
use borrow.Author.Tests.{leb-true, ltb-true}
use lib.Dec.{leb, ltb}
use Rattle.std.specs.Prelude.{◌&&◌}
use lib.ListN.{get_or}
use Rattle.sizes.specs.Sizes.{store_at}
use Rattle.record.specs.Record.{numbers}
use Rattle.record.specs.Writing.{Buffer, Puts}
use Rattle.totdb.specs.Nodes.{Node, plain_or}
use Rattle.totdb.proofs.Sides.{plain_keyed}
use Rattle.cert.specs.Definitions.{side_def, real}
use Rattle.cert.specs.Requests.{Clause, definition}
use Rattle.cert.specs.State.{State, Stored, step_in}
use Rattle.derivation.specs.Operands.{operand, part, clause_room, whole_numbers}
use Rattle.derivation.specs.declared.Whole.{Whole}
use Rattle.derivation.specs.declared.SemDefinition.TheVariants.{Step}
use Rattle.memo.proofs.Booleans.{and_true}
use Rattle.rows.specs.Rows.{Bounded}
use Rattle.rows.specs.declared.Join.{Join}
use Rattle.rows.specs.declared.Shown.{Shown}
use Rattle.define.specs.Store.{direction, Used}
use Rattle.define.specs.Lookups.{SideIn}
use Rattle.define.proofs.SideLooks.{plain_value}
use Rattle.define.proofs.Slots.{real_named}
use Rattle.clauses.specs.Firsts.{real_step, FirstsOf, has_first, side_stored, sides_stored}
use Rattle.clauses.specs.declared.Split.{Split}
use Rattle.clauses.specs.Joins.{ClauseValue}
use Rattle.clauses.proofs.Joins.{plain_operand}
use Rattle.clauses.proofs.Stored.{long_stored, plain_first}
use Rattle.clauses.proofs.Written.{clause_records, clause_puts}
use Rattle.splits.specs.Ready.{is_long, are_long, has_both, is_ready, BothParts}

-- ---- the tests

-- The value of `a && b` in the code, by the value of a.
pub and_then : {a b r : Bool} → a ≡ true → r ≡ b → r ≡ (a && b)
and_then e f = rw e f

pub and_else : {a r : Bool} (b : Bool) → a ≡ false → r ≡ a → r ≡ (a && b)
and_else b e f = f ∙ rw e

and_right : (a b c d e f : Bool) → (((((a && b) && c) && d) && e) && f) ≡ (a && (b && (c && (d && (e && f)))))
and_right false b c d e f = refl
and_right true false c d e f = refl
and_right true true false d e f = refl
and_right true true true false e f = refl
and_right true true true true false f = refl
and_right true true true true true f = refl

-- The tests of `is_ready`, one after another.
pub ready_value : (store : List ℕ) (n at : ℕ) (x : Join) (k : Split) (long : Bool) {p q s t r : Bool} → p ≡ (long && has_both x k) → q ≡ (p && leb (at + clause_room) n)
    → s ≡ (q && has_first store (store_at x.node + k.value)) → t ≡ (s && has_first store (store_at x.left.side.node + k.left))
    → r ≡ (t && has_first store (store_at x.right.side.node + k.right)) → r ≡ is_ready store n at x k long
unfolding is_ready
ready_value store n at x k long d e f g h = h ∙ rw (g, f, e, d) (and_right long (has_both x k) (leb (at + clause_room) n) (has_first store (store_at x.node + k.value))
    (has_first store (store_at x.left.side.node + k.left)) (has_first store (store_at x.right.side.node + k.right)))

pub long_side : (s : Shown) → is_long s ≡ true → (1 < s.len) × (plain_or s.side.offset s.side.limit true false ≡ true)
unfolding is_long
long_side s h = let p = and_true (ltb 1 s.len) _ h in (ltb-true 1 s.len p.0, p.1)

pub long_sides : (x : Join) → are_long x ≡ true → (is_long x.left ≡ true) × (is_long x.right ≡ true)
unfolding are_long
long_sides x h = and_true (is_long x.left) _ h

pub both_parts : {x : Join} {k : Split} → are_long x ≡ true → has_both x k ≡ true → ClauseValue k.only_if x.left.len k.left
    → ClauseValue k.only_if x.right.len k.right → BothParts x k
unfolding has_both
both_parts {x} {k} l h p q = by k.only_if refl
  where
    by : (b : Bool) → k.only_if ≡ b → BothParts x k
    by true e =
        let both = and_true (leb k.left x.left.len) _ (rw e at h) in
        record {
          long = l;
          left_above = p.above e;
          left_within = leb-true k.left x.left.len both.0;
          right_above = q.above e;
          right_within = leb-true k.right x.right.len both.1;
        }
    by false e =
        let both = and_true (ltb 0 k.left) _ (rw e at h) in
        record {
          long = l;
          left_above = ltb-true 0 k.left both.0;
          left_within = p.below e;
          right_above = ltb-true 0 k.right both.1;
          right_within = q.below e;
        }

pub record Readied (store : List ℕ) (n at : ℕ) (x : Join) (k : Split) (long : Bool) : Type 0 where
  pub long_is : long ≡ true
  pub both : has_both x k ≡ true
  pub room : at + clause_room ≤ n
  pub this : has_first store (store_at x.node + k.value) ≡ true
  pub left : has_first store (store_at x.left.side.node + k.left) ≡ true
  pub right : has_first store (store_at x.right.side.node + k.right) ≡ true

pub readied : {store : List ℕ} {n at : ℕ} {x : Join} {k : Split} {long : Bool} → is_ready store n at x k long ≡ true → Readied store n at x k long
unfolding is_ready
readied {store} {n} {at} {x} {k} {long} h =
    let p = and_true long _ h in
    let q = and_true (has_both x k) _ p.1 in
    let r = and_true (leb (at + clause_room) n) _ q.1 in
    let f = and_true (has_first store (store_at x.node + k.value)) _ r.1 in
    let g = and_true (has_first store (store_at x.left.side.node + k.left)) _ f.1 in
    record { long_is = p.0; both = q.0; room = leb-true (at + clause_room) n r.0; this = f.0; left = g.0; right = g.1 }

-- The key of a plain side's value is the value itself.
pub long_used : {t : List Node} → Bounded t → {s : Shown} {a : ℕ} → SideIn t s a → is_long s ≡ true → Used t (real s.side.node a)
long_used b {s} {a} i l =
    let p = long_side s l in
    rw (plain_keyed s.side p.1 a) at (real_named b (plain_value b p.0 p.1 i)).used

-- ---- what the sides look up is stored

module _ (store : List ℕ) where
  side_ready : (s : Shown) (a : ℕ) → is_long s ≡ true → has_first store (store_at s.side.node + a) ≡ true → side_stored store s a ≡ true
  side_ready s a l h =
      let p = long_side s l in
      sym (long_stored store s a p.0
      (plain_first s.side.offset s.side.limit _ _ p.1 ∙ ap (λ (k : ℕ). store_at s.side.node + k) (plain_keyed s.side p.1 a)))
      ∙ h

  pub sides_ready : {n at : ℕ} {x : Join} {k : Split} {long : Bool} → are_long x ≡ true → Readied store n at x k long
      → sides_stored store x k.left k.right ≡ true
  unfolding sides_stored
  sides_ready {x = x} {k = k} l r =
      let s = long_sides x l in
      rw (side_ready x.left k.left s.0 r.left, side_ready x.right k.right s.1 r.right)

  -- The step of a plain side's definition.
  pub long_operand : {t : List Node} {es : List Stored} → Bounded t → {s : Shown} {a : ℕ} → SideIn t s a → FirstsOf t store es → (q : Bool) → is_long s ≡ true
      → Step (real_step (get_or store (store_at s.side.node + a) 0) a q) ≡ operand (step_in es) (side_def t s.side a (direction q))
  long_operand b {s} {a} i f q l =
      let p = long_side s l in
      rw (plain_keyed s.side p.1 a) at (plain_operand b i f q p.0 p.1)

-- ---- the records of the clause

pub whole_puts : {b d : Buffer} (t : List Node) (k : Clause) (u : State) (w : Whole)
    → Step w.this ≡ operand (step_in u.stored) (definition t k.this) → Step w.left ≡ operand (step_in u.stored) (definition t k.left)
    → Step w.right ≡ operand (step_in u.stored) (definition t k.right)
    → (w.left_part ∷ []) ++ (w.right_part ∷ []) ++ (w.output ∷ []) ≡ k.literals
    → w.step ≡ u.next_step
    → Puts b (whole_numbers w) d
    → Puts b (flat_map numbers (clause_records t k u)) d
unfolding whole_numbers part
whole_puts t k u w et el er ek es x =
    clause_puts t k u (Step w.this) (Step w.left) (Step w.right)
    (record { step = w.step; left = Some w.left_part; right = Some w.right_part; output = w.output }) et el er ek es x
