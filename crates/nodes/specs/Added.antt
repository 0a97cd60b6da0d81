-- What a node is added to, and the row of a new node.
use Rattle.std.specs.Prelude.{◌≡◌, true, false, cond, Option, None, Some, List, [], ◌∷◌, ◌++◌, ℕ, ◌+◌, ◌-◌, ◌*◌, ◌/◌, ◌%◌, ◌^◌, ◌≤◌, ◌<◌, eqb, length, replicate}
use Rattle.std.specs.Option.{unwrap_or}
use Rattle.sizes.specs.Sizes.{most_leaves, most_nodes, most_variable, width, left_column, list_column}
use Rattle.totdb.specs.Nodes.{Node, node_at, len, output, plain_or, side_len, leaf_count}
use Rattle.totdb.specs.declared.Side.{Side}
use Rattle.cert.specs.Sized.{Separate}
use Rattle.rows.specs.Rows.{Table}
use Rattle.rows.specs.Windows.{window_at}
use Rattle.rows.specs.declared.Shown.{Shown}

-- Room for a leaf as node n and as leaf k.
pub record Leafable (ns : List ℕ) (t : List Node) (n k literal : ℕ) : Type 0 where
  pub table : Table ns t
  pub next : length t ≡ n
  pub leaves : leaf_count t ≡ k
  pub few : k < most_leaves
  pub room : n < most_nodes
  pub low : literal ≤ 2 ^ 30

-- Two sides that pass questions 8 to 10, with room for their join as node n. `low` keeps its output literals below 2 ^ 30.
pub record Joinable (ns : List ℕ) (t : List Node) (n variable : ℕ) (l r : Side) : Type 0 where
  pub table : Table ns t
  pub next : length t ≡ n
  pub room : n < most_nodes
  pub left : l.node < length t
  pub right : r.node < length t
  pub apart : Separate t l.node r.node
  pub left_some : l.offset < len (node_at t l.node)
  pub right_some : r.offset < len (node_at t r.node)
  pub left_in : l.offset + side_len t l ≤ len (node_at t l.node)
  pub right_in : r.offset + side_len t r ≤ len (node_at t r.node)
  pub short : side_len t l + side_len t r ≤ width
  pub low : variable ≤ most_variable

-- A side over a node of the table, as a row has it.
pub record Sided (ns : List ℕ) (t : List Node) (s : Shown) : Type 0 where
  pub table : Table ns t
  pub there : s.side.node < length t
  pub length : s.len ≡ side_len t s.side
  pub first : s.first ≡ output (node_at t s.side.node) 1
  pub some : s.side.offset < len (node_at t s.side.node)
  pub inside : s.side.offset + side_len t s.side ≤ len (node_at t s.side.node)

-- A side's numbers fit where a row holds them.
pub record Small (s : Shown) : Type 0 where
  pub node : s.side.node < most_nodes
  pub offset : s.side.offset ≤ width
  pub limit : s.side.limit ≤ width
  pub len : s.len ≤ width
  pub window : s.window < 2 ^ 32

-- ---- rows

-- The leaves below, a bit for each, in two numbers.
abbrev pub mask_numbers : ℕ → List ℕ
mask_numbers m = (m % 2 ^ 32) ∷ (m / 2 ^ 32) ∷ []

-- The row of a leaf that was made after k others.
abbrev pub leaf_numbers : ℕ → ℕ → List ℕ
leaf_numbers l k = 1 ∷ l ∷ 0 ∷ (mask_numbers (2 ^ k) ++ (replicate (list_column - left_column) 0 ++ (l ∷ replicate (width - 1) 0)))

-- The place of a window's first steps, where a side shows it.
abbrev pub place_or_none : ℕ → Option ℕ
place_or_none p = cond (eqb p 0) None (Some p)

-- Where the first steps of the window of a new side with m outputs stand: with the first side of the table that shows the same, else at its own place w.
-- A plain side has no window.
unfoldable pub window_place : List Node → Side → ℕ → ℕ → ℕ
unfolding plain_or window_at
window_place t s m w = cond (plain_or s.offset s.limit true false) w (unwrap_or (place_or_none (window_at t s.node s.offset m)) w)

-- A side of a table whose window's first steps stand at w.
abbrev pub shown_of : List Node → Side → ℕ → Shown
shown_of t s w = record { side = s; len = side_len t s; first = output (node_at t s.node) 1; window = w }

-- A side's numbers: with its length, and the place of its window's first steps.
abbrev pub side_numbers : Shown → List ℕ
side_numbers s = s.side.node ∷ s.side.offset ∷ s.side.limit ∷ s.len ∷ s.window ∷ []

-- The row of a join of two sides with literals a and b, the leaves of the mask m below it, and outputs from the variable v up.
abbrev pub join_numbers : ℕ → ℕ → Shown → List ℕ → Shown → List ℕ → List ℕ
join_numbers v m l a r b =
    (length a + length b) ∷ (2 * v) ∷ 1
    ∷ (mask_numbers m ++ (side_numbers l ++ (side_numbers r ++ (a ++ (b ++ replicate (width - length a - length b) 0)))))
