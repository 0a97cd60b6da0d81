-- What the code reads of a node, and of a side.
use mathlib.Core.Path.{◌≡◌, refl, sym, ap, subst, ◌∙◌}
use mathlib.Core.List.{List, [], ◌∷◌}
use Prim.Native.Nat.{ℕ, zero, suc, ◌+◌, ◌*◌, ◌^◌, ◌≤◌, ◌<◌}
use native.Mathlib.Omega.{arith}
use lib.ListN.{length, get_or, take, drop}
use lib.Seq.{get_or-take, get_or-drop, take-take, drop-drop}
use Rattle.sizes.specs.Sizes.{most_nodes, width, row, row_at, length_column, first_column, below_column, left_column, right_column, list_column, side_len_column, side_window_column, first_at, below_at, left_at, right_at, list_at, left_window, right_window}
use Rattle.totdb.specs.Below.{leaves_below, mask}
use Rattle.totdb.specs.Nodes.{IsWindow, Node, leaf, join, node_at, leaves, len, output, from_first, side_len}
use Rattle.totdb.specs.declared.Side.{Side}
use Rattle.rows.specs.Windows.{SideAt, at_left, at_right, window_at}
use Rattle.rows.specs.Rows.{row_of, read_side, SideRow, KindOf, Table, read_shown, ShownOf, SidePlace, JoinPlace, JoinOf, read_join}
use Rattle.rows.proofs.Sides.{side_inside}

-- A number of a row.
pub in_row : (ns : List ℕ) (n j : ℕ) → j < row → get_or ns (row_at n + j) 0 ≡ get_or (row_of ns n) j 0
in_row ns n j h = sym (get_or-take row (drop (row_at n) ns) j 0 h ∙ get_or-drop (row_at n) ns j 0)

pub part_take : (f m l : ℕ) (xs : List ℕ) → f + m ≤ l → take m (drop f (take l xs)) ≡ take m (drop f xs)
part_take zero m l xs h = take-take m l xs (omega arith)
part_take (suc f) m zero xs h = absurd (omega arith)
part_take (suc f) m (suc l) [] h = refl
part_take (suc f) m (suc l) (x ∷ xs) h = part_take f m l xs (omega arith)

module _ {ns : List ℕ} {t : List Node} (tb : Table ns t) (n : ℕ) (h : n < length t) where
  pub row_there : (row_at n + row ≤ length ns) × (n < most_nodes) × (len (node_at t n) ≤ width)
  row_there = (omega (arith, tb.has.room), omega (arith, tb.bounded.few), tb.bounded.short n h)

  pub len_is : get_or ns (row_at n) 0 ≡ len (node_at t n)
  len_is = let e : row_at n + 0 ≡ row_at n = omega arith in rw e at (in_row ns n length_column (omega arith)) ∙ (tb.has.row n h).length

  pub first_is : get_or ns (first_at n) 0 ≡ output (node_at t n) 1
  first_is = in_row ns n first_column (omega arith) ∙ (tb.has.row n h).first

  pub list_is : take (len (node_at t n)) (drop (list_at n) ns) ≡ leaves (node_at t n)
  list_is =
      ap (take (len (node_at t n))) (sym (drop-drop list_column (row_at n) ns))
      ∙ sym (part_take list_column (len (node_at t n)) row (drop (row_at n) ns) (omega (arith, row_there.2)))
      ∙ (tb.has.row n h).list

  pub below_is : get_or ns (below_at n) 0 + 2 ^ 32 * get_or ns (below_at n + 1) 0 ≡ mask (leaves_below t n)
  below_is =
      let e : below_at n + 1 ≡ row_at n + (below_column + 1) = omega arith in
      rw (in_row ns n below_column (omega arith), e, in_row ns n (below_column + 1) (omega arith)) (tb.has.row n h).below

-- The outputs of a node, from its first.
pub from_first_lem : (x : Node) (v : ℕ) → 1 ≤ v → v ≤ len x → output x v ≡ from_first (output x 1) v
unfolding len leaves output from_first
from_first_lem (leaf l) v a b = omega arith
from_first_lem (join ls o l r) v a b = omega arith

-- ---- sides

module _ {ns : List ℕ} {t : List Node} (tb : Table ns t) where
  -- A side's numbers by the place of its row in the table, from those in its node's row.
  side_row : (n q : ℕ) (s : Side) → q + side_window_column < row → SideRow (row_of ns n) t q s
      → (read_side ns (row_at n + q) ≡ s) × (get_or ns (row_at n + q + side_len_column) 0 ≡ side_len t s)
  side_row n q s h r =
      let a : row_at n + q + 1 ≡ row_at n + (q + 1) = omega arith in
      let b : row_at n + q + 2 ≡ row_at n + (q + 2) = omega arith in
      let c : row_at n + q + side_len_column ≡ row_at n + (q + side_len_column) = omega arith in (
        rw (in_row ns n q (omega arith), a, in_row ns n (q + 1) (omega arith), b, in_row ns n (q + 2) (omega arith)) r.is,
        rw (c, in_row ns n (q + side_len_column) (omega arith)) r.length,
      )

  side_window : (n q : ℕ) (s : Side) → q + side_window_column < row → SideRow (row_of ns n) t q s → IsWindow s
      → get_or ns (row_at n + q + side_window_column) 0 ≡ window_at t s.node s.offset (side_len t s)
  side_window n q s h r is =
      let d : row_at n + q + side_window_column ≡ row_at n + (q + side_window_column) = omega arith in
      rw (d, in_row ns n (q + side_window_column) (omega arith)) (r.window is)

  pub numbers : {p w : ℕ} {s : Side} → SideAt t p w s → (read_side ns p ≡ s) × (get_or ns (p + side_len_column) 0 ≡ side_len t s)
  unfolding KindOf
  numbers (at_left n ls o l r h e) =
      let k : KindOf (row_of ns n) t (join ls o l r) = subst (KindOf (row_of ns n) t) e (tb.has.row n h).kind in
      side_row n left_column l (omega arith) k.1
  numbers (at_right n ls o l r h e) =
      let k : KindOf (row_of ns n) t (join ls o l r) = subst (KindOf (row_of ns n) t) e (tb.has.row n h).kind in
      side_row n right_column r (omega arith) k.2

  place_is : {p w : ℕ} {s : Side} → SideAt t p w s → IsWindow s
      → get_or ns (p + side_window_column) 0 ≡ window_at t s.node s.offset (side_len t s)
  unfolding KindOf
  place_is (at_left n ls o l r h e) =
      let k : KindOf (row_of ns n) t (join ls o l r) = subst (KindOf (row_of ns n) t) e (tb.has.row n h).kind in
      side_window n left_column l (omega arith) k.1
  place_is (at_right n ls o l r h e) =
      let k : KindOf (row_of ns n) t (join ls o l r) = subst (KindOf (row_of ns n) t) e (tb.has.row n h).kind in
      side_window n right_column r (omega arith) k.2

  inside : {p w : ℕ} {s : Side} → SideAt t p w s → p + side_window_column < length ns
  inside (at_left n ls o l r h e) = omega (arith, (row_there tb n h).0)
  inside (at_right n ls o l r h e) = omega (arith, (row_there tb n h).0)

  module _ {p w : ℕ} {s : Side} (of : SideAt t p w s) where
    node_is : get_or ns p 0 ≡ s.node
    node_is = ap (λ (u : Side). u.node) (numbers of).0

    pub side_place : SidePlace ns p
    side_place = record {
      there = inside of;
      below = rw node_is (omega (arith, (row_there tb s.node (side_inside tb.bounded of).0).0));
    }

    -- All that is read of a side.
    pub shown_of : ShownOf t (read_shown ns p)
    shown_of = rw (numbers of).0 (record {
      row = p;
      slot = w;
      of = of;
      length = (numbers of).1;
      first = rw node_is (first_is tb s.node (side_inside tb.bounded of).0);
      window = place_is of;
    })

-- ---- joins

module _ {ns : List ℕ} {t : List Node} (tb : Table ns t) (n : ℕ) (h : n < length t) {ls : List ℕ} {o : ℕ} {l r : Side} (e : node_at t n ≡ join ls o l r) where
  left_of : SideAt t (left_at n) (left_window n) l
  left_of = at_left n ls o l r h e

  right_of : SideAt t (right_at n) (right_window n) r
  right_of = at_right n ls o l r h e

  pub join_row : JoinPlace ns n
  join_row = record {
    there = (row_there tb n h).0;
    small = (row_there tb n h).1;
    left = side_place tb left_of;
    right = side_place tb right_of;
  }

  pub join_of_row : JoinOf t (read_join ns n)
  join_of_row = record {
    there = h;
    leaf_list = ls;
    variable = o;
    is = rw ((numbers tb left_of).0, (numbers tb right_of).0) e;
    first = first_is tb n h;
    left = shown_of tb left_of;
    right = shown_of tb right_of;
  }
