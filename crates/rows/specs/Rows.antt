-- The table of the nodes: what its numbers say of a list of nodes, and what holds of these nodes alone.
use Rattle.std.specs.Prelude.{◌≡◌, List, map, ℕ, ◌+◌, ◌*◌, ◌^◌, ◌≤◌, ◌<◌, length, get_or, take, drop}
use Rattle.sizes.specs.Sizes.{most_leaves, most_nodes, width, leaf_nodes, row, row_at, length_column, first_column, kind_column, below_column, left_column, right_column, list_column, side_len_column, side_window_column, first_at, left_at, right_at}
use Rattle.totdb.specs.Nodes.{IsWindow, Node, leaf, join, node_at, len, leaves, output, range, side_len, leaf_count}
use Rattle.totdb.specs.Below.{leaves_below, mask}
use Rattle.totdb.specs.Leaves.{LeafEntry, leaf_table}
use Rattle.totdb.specs.declared.Side.{Side}
use Rattle.cert.specs.Sized.{Sized}
use Rattle.rows.specs.Windows.{SideAt, window_at}
use Rattle.rows.specs.declared.Join.{Join}
use Rattle.rows.specs.declared.Shown.{Shown}

-- ---- a row

abbrev pub row_of : List ℕ → ℕ → List ℕ
row_of ns n = take row (drop (row_at n) ns)

abbrev pub read_side : List ℕ → ℕ → Side
read_side r p = record { node = get_or r p 0; offset = get_or r (p + 1) 0; limit = get_or r (p + 2) 0 }

-- The leaves below, as two digits of 32 bits.
abbrev pub read_mask : List ℕ → ℕ
read_mask r = get_or r below_column 0 + 2 ^ 32 * get_or r (below_column + 1) 0

-- A side's five numbers in a row: node, offset, limit; its length; where it is a window, the place of its first steps.
pub record SideRow (r : List ℕ) (t : List Node) (p : ℕ) (s : Side) : Type 0 where
  pub is : read_side r p ≡ s
  pub length : get_or r (p + side_len_column) 0 ≡ side_len t s
  pub window : IsWindow s → get_or r (p + side_window_column) 0 ≡ window_at t s.node s.offset (side_len t s)

-- A leaf, or a join with its sides.
unfoldable pub KindOf : List ℕ → List Node → Node → Type 0
KindOf r t (leaf l) = get_or r kind_column 0 ≡ 0
KindOf r t (join ls o a b) = (get_or r kind_column 0 ≡ 1) × SideRow r t left_column a × SideRow r t right_column b

-- The row of the node x of number n.
pub record Row (r : List ℕ) (t : List Node) (n : ℕ) (x : Node) : Type 0 where
  pub length : get_or r length_column 0 ≡ len x
  pub first : get_or r first_column 0 ≡ output x 1
  pub kind : KindOf r t x
  pub below : read_mask r ≡ mask (leaves_below t n)
  pub list : take (len x) (drop list_column r) ≡ leaves x

-- ---- the table

-- The leaf that was made after k others.
abbrev pub read_leaf : List ℕ → ℕ → LeafEntry
read_leaf ns k = record { literal = get_or ns k 0; node = get_or ns (leaf_nodes + k) 0 }

-- The table has the nodes t. Other numbers are left open: the sides of a leaf, what stands after a list, the places of leaves and rows to come.
pub record NodesIn (ns : List ℕ) (t : List Node) : Type 0 where
  pub room : row_at (length t) ≤ length ns
  pub row : (n : ℕ) → n < length t → Row (row_of ns n) t n (node_at t n)
  pub leaves : map (read_leaf ns) (range 0 (leaf_count t)) ≡ leaf_table t

-- What holds of the nodes alone. `low` keeps a literal, and the witness made of it (plus 1), in a u32.
pub record Bounded (t : List Node) : Type 0 where
  pub few : length t ≤ most_nodes
  pub few_leaves : leaf_count t ≤ most_leaves
  pub short : (n : ℕ) → n < length t → len (node_at t n) ≤ width
  pub low : (n i : ℕ) → n < length t → 1 ≤ i → i ≤ len (node_at t n) → output (node_at t n) i ≤ 2 ^ 30
  pub sized : Sized t

-- The table has the nodes t, which are within the bounds.
pub record Table (ns : List ℕ) (t : List Node) : Type 0 where
  pub has : NodesIn ns t
  pub bounded : Bounded t

-- ---- what is read

-- A side by the place of its row: the side; its length; its node's output of value 1; the place of its window's first steps.
abbrev pub read_shown : List ℕ → ℕ → Shown
read_shown ns p = record {
  side = read_side ns p;
  len = get_or ns (p + side_len_column) 0;
  first = get_or ns (first_at (get_or ns p 0)) 0;
  window = get_or ns (p + side_window_column) 0;
}

-- What the table has of a side: s is one of the nodes t, with its length, its node's output of value 1, and, where it is a window, the place of its
-- first steps.
pub record ShownOf (t : List Node) (s : Shown) : Type 0 where
  pub row : ℕ
  pub slot : ℕ
  pub of : SideAt t row slot s.side
  pub length : s.len ≡ side_len t s.side
  pub first : s.first ≡ output (node_at t s.side.node) 1
  pub window : IsWindow s.side → s.window ≡ window_at t s.side.node s.side.offset (side_len t s.side)

-- A join by its number: with its output of value 1 and its two sides.
abbrev pub read_join : List ℕ → ℕ → Join
read_join ns n = record { node = n; first = get_or ns (first_at n) 0; left = read_shown ns (left_at n); right = read_shown ns (right_at n) }

-- What the table has of a join of the nodes t.
pub record JoinOf (t : List Node) (x : Join) : Type 0 where
  pub there : x.node < length t
  pub leaf_list : List ℕ
  pub variable : ℕ
  pub is : node_at t x.node ≡ join leaf_list variable x.left.side x.right.side
  pub first : x.first ≡ output (node_at t x.node) 1
  pub left : ShownOf t x.left
  pub right : ShownOf t x.right

-- The five numbers of a side whose node has a row.
pub record SidePlace (ns : List ℕ) (p : ℕ) : Type 0 where
  pub there : p + side_window_column < length ns
  pub below : first_at (get_or ns p 0) < length ns

-- A row whose two sides are such.
pub record JoinPlace (ns : List ℕ) (n : ℕ) : Type 0 where
  pub there : row_at n + row ≤ length ns
  pub small : n < most_nodes
  pub left : SidePlace ns (left_at n)
  pub right : SidePlace ns (right_at n)
