-- What the table of the nodes says of a request, a join and a side.
use mathlib.Core.Path.{◌≡◌, refl, sym, subst, ◌∙◌}
use mathlib.Core.Bool.{true, false}
use mathlib.Core.List.{List, ◌++◌}
use Prim.Native.Nat.{ℕ, ◌+◌, ◌≤◌, ◌<◌}
use native.Mathlib.Omega.{arith}
use borrow.Author.Tests.{eqb-true, eqb-false}
use lib.Dec.{eqb}
use lib.ListN.{length, get_or}
use Rattle.sizes.specs.Sizes.{width, kind_column, kind_at, store_at}
use Rattle.totdb.specs.Nodes.{Node, leaf, join, node_at}
use Rattle.totdb.specs.declared.Side.{Side}
use Rattle.cert.specs.Definitions.{Direction}
use Rattle.cert.specs.Requests.{request, needs, needs_at, below, named, Right}
use Rattle.cert.specs.Sized.{Sized, Fit}
use Rattle.rows.specs.Rows.{row_of, KindOf, Bounded, Table, ShownOf, JoinOf, JoinPlace, read_join}
use Rattle.rows.specs.declared.Join.{Join}
use Rattle.rows.specs.declared.Shown.{Shown}
use Rattle.rows.proofs.Reading.{in_row, join_row, join_of_row}
use Rattle.rows.proofs.Sides.{side_inside}
use Rattle.define.specs.Store.{IsJoin}
use Rattle.clauses.specs.Joins.{JoinIn}
use Rattle.request.specs.Asked.{RequestIn, SideAsked, HeldRoom}
use Rattle.request.proofs.Flags.{Flagged}

-- A leaf, or a join, by the test of the code.
module _ {ns : List ℕ} {t : List Node} (tb : Table ns t) (n : ℕ) (h : n < length t) where
  kind_is : get_or ns (kind_at n) 0 ≡ get_or (row_of ns n) kind_column 0
  kind_is = in_row ns n kind_column (omega arith)

  pub kind_leaf : eqb (get_or ns (kind_at n) 0) 0 ≡ true → (a : ℕ) × (node_at t n ≡ leaf a)
  unfolding KindOf
  kind_leaf z = by (node_at t n) refl (tb.has.row n h).kind
    where
      by : (x : Node) → node_at t n ≡ x → KindOf (row_of ns n) t x → (a : ℕ) × (node_at t n ≡ leaf a)
      by (leaf a) e q = (a, e)
      by (join m o l r) e q = absurd (omega (arith, eqb-true (get_or ns (kind_at n) 0) 0 z, kind_is, q.0))

  pub kind_join : eqb (get_or ns (kind_at n) 0) 0 ≡ false → (ls : List ℕ) × (o : ℕ) × (l : Side) × (r : Side) × (node_at t n ≡ join ls o l r)
  unfolding KindOf
  kind_join z = by (node_at t n) refl (tb.has.row n h).kind
    where
      by : (x : Node) → node_at t n ≡ x → KindOf (row_of ns n) t x → (ls : List ℕ) × (o : ℕ) × (l : Side) × (r : Side) × (node_at t n ≡ join ls o l r)
      by (leaf a) e q = absurd (eqb-false (get_or ns (kind_at n) 0) 0 z (kind_is ∙ q))
      by (join m o l r) e q = (m, o, l, r, e)

pub leaf_no_join : {x : Node} {a : ℕ} → x ≡ leaf a → IsJoin x → ⊥
unfolding IsJoin
leaf_no_join e i = subst IsJoin e i

pub join_is_join : {x : Node} {ls : List ℕ} {o : ℕ} {l r : Side} → x ≡ join ls o l r → IsJoin x
unfolding IsJoin
join_is_join e = subst IsJoin (sym e) tt

module _ {t : List Node} (bd : Bounded t) where
  -- ---- a join by value

  module _ {x : Join} (j : JoinOf t x) where
    pub left_below : x.left.side.node < x.node
    unfolding Sized Fit
    left_below = (subst (Fit t x.node) j.is (bd.sized x.node j.there)).0

    pub right_below : x.right.side.node < x.node
    unfolding Sized Fit
    right_below = (subst (Fit t x.node) j.is (bd.sized x.node j.there)).1

    pub join_needs : (v : ℕ) (d : Direction)
        → below d x.left.side (named d v x.left.len x.right.len) ++ below d x.right.side (named d v x.right.len x.left.len)
        ≡ needs t (request x.node v d)
    unfolding needs needs_at
    join_needs v d = rw (j.is, j.left.length, j.right.length)

  shown_short : {s : Shown} → ShownOf t s → s.len ≤ width
  shown_short {s} o =
      let f = side_inside bd o.of in
      omega (arith, o.length, f.1, bd.short s.side.node f.0)

  -- ---- premises

  module _ {n v : ℕ} (w : RequestIn t n v) where
    pub asked_right : (d : Direction) → Right t (request n v d)
    unfolding Right
    asked_right d = (w.there, w.above, w.within)

    pub asked_low : v ≤ width
    asked_low = omega (arith, w.within, bd.short n w.there)

    pub asked_flagged : IsJoin (node_at t n) → Flagged t n v
    asked_flagged i = record { there = w.there; join = i; above = w.above; within = asked_low }

    pub asked_room : (store : List ℕ) → store_at (length t) ≤ length store → HeldRoom store n v
    asked_room store room = record { node = omega (arith, w.there, bd.few); row = omega (arith, w.there, room); value = asked_low }

  pub join_flagged : {x : Join} {v : ℕ} → JoinIn t x v → Flagged t x.node v
  join_flagged {x} w = record {
    there = w.of.there;
    join = join_is_join w.of.is;
    above = w.above;
    within = omega (arith, w.within, bd.short x.node w.of.there);
  }

  module _ {x : Join} {v : ℕ} (w : JoinIn t x v) where
    pub asked_left : SideAsked t x.left x.right.len v
    asked_left = record { shown = w.of.left; other = shown_short w.of.right; above = w.above; within = (join_flagged w).within }

    pub asked_right_side : SideAsked t x.right x.left.len v
    asked_right_side = record { shown = w.of.right; other = shown_short w.of.left; above = w.above; within = (join_flagged w).within }

  pub asked_below : {s : Shown} {q v : ℕ} → SideAsked t s q v → (i : ℕ) → 1 ≤ i → i ≤ s.len → RequestIn t s.side.node (s.side.offset + i)
  asked_below {s} w i a b =
      let f = side_inside bd w.shown.of in
      record { there = f.0; above = omega arith; within = omega (arith, f.1, w.shown.length) }

-- A join that is asked.
module _ {ns : List ℕ} {t : List Node} (tb : Table ns t) {n v : ℕ} (w : RequestIn t n v) (z : eqb (get_or ns (kind_at n) 0) 0 ≡ false) where
  pub asked_row : JoinPlace ns n
  asked_row = join_row tb n w.there (kind_join tb n w.there z).4

  pub asked_join : {x : Join} → x ≡ read_join ns n → JoinIn t x v
  asked_join e = rw e (record { of = join_of_row tb n w.there (kind_join tb n w.there z).4; above = w.above; within = w.within })
