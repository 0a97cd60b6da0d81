-- A join as the code has it, by value, and a clause of it.
use Rattle.std.specs.Prelude.{◌≡◌, Bool, true, false, not, List, [], ◌∷◌, ◌++◌, ℕ, ◌+◌, ◌^◌, ◌≤◌, ◌<◌, length}
use Rattle.sizes.specs.Sizes.{most_nodes, width, store_row, store_at}
use Rattle.pb.specs.Sum.{neg}
use Rattle.totdb.specs.Nodes.{IsWindow, Node, node_at, len, output}
use Rattle.totdb.specs.declared.Side.{Side}
use Rattle.cert.specs.Requests.{Clause, of_side, of_node, neg_part, pos_part}
use Rattle.rows.specs.Rows.{JoinOf}
use Rattle.rows.specs.declared.Join.{Join}
use Rattle.rows.specs.declared.Shown.{Shown}
use Rattle.define.specs.Store.{direction}
use Rattle.clauses.specs.declared.Split.{Split}

-- A join with a value of it.
pub record JoinIn (t : List Node) (x : Join) (v : ℕ) : Type 0 where
  pub of : JoinOf t x
  pub above : 1 ≤ v
  pub within : v ≤ len (node_at t x.node)

-- ---- clauses. The flag is that of only-if clauses.

-- The part of a side in a clause, and the clause's last literal.
unfoldable pub clause_part : Bool → List Node → Side → ℕ → List ℕ
unfolding neg_part pos_part
clause_part true t s i = pos_part t s i
clause_part false t s i = neg_part t s i

unfoldable pub last_literal : Bool → ℕ → ℕ
unfolding neg
last_literal true o = neg o
last_literal false o = o

-- The clause of a value with a value of the left side and one of the right.
unfoldable pub clause_of : List Node → Join → Split → Clause
unfolding node_at output direction clause_part last_literal
clause_of t x k = record {
  left = of_side x.left.side k.left (direction (not k.only_if));
  right = of_side x.right.side k.right (direction (not k.only_if));
  this = of_node x.node k.value (direction k.only_if);
  literals = clause_part k.only_if t x.left.side k.left ++ clause_part k.only_if t x.right.side k.right
      ++ (last_literal k.only_if (output (node_at t x.node) k.value) ∷ []);
}

-- The values that a clause has of a side of length p: in if clauses from 0, in only-if clauses from 1 to one above the length.
pub record ClauseValue (b : Bool) (p i : ℕ) : Type 0 where
  pub above : b ≡ true → 1 ≤ i
  pub below : b ≡ false → i ≤ p
  pub top : i ≤ p + 1

pub record ClauseIn (t : List Node) (x : Join) (k : Split) : Type 0 where
  pub of : JoinIn t x k.value
  pub left : ClauseValue k.only_if x.left.len k.left
  pub right : ClauseValue k.only_if x.right.len k.right

-- ---- bounds, where the nodes are not lent

-- The a-th value of a side.
pub record SideReach (s : Shown) (a : ℕ) : Type 0 where
  pub node : s.side.node < most_nodes
  pub first : s.first ≤ 2 ^ 30
  pub offset : s.side.offset ≤ width
  pub short : s.len ≤ width
  pub value : a ≤ s.len + 1

-- Its definitions have places in the store.
pub record SideRoom (store : List ℕ) (s : Shown) (a : ℕ) : Type 0 where
  pub reach : SideReach s a
  pub row : store_at s.side.node + store_row ≤ length store
  pub window : IsWindow s.side → s.window + 1 < length store

pub record ClauseReach (store : List ℕ) (x : Join) (k : Split) : Type 0 where
  pub node : x.node < most_nodes
  pub row : store_at x.node + store_row ≤ length store
  pub first : x.first ≤ 2 ^ 30
  pub above : 1 ≤ k.value
  pub within : k.value ≤ width
  pub left : SideRoom store x.left k.left
  pub right : SideRoom store x.right k.right
  pub left_in : ClauseValue k.only_if x.left.len k.left
  pub right_in : ClauseValue k.only_if x.right.len k.right
