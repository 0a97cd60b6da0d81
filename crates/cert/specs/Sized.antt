-- What every table of a script meets.
use Rattle.std.specs.Prelude.{◌≡◌, ◌++◌, ℕ, ◌+◌, ◌*◌, ◌≤◌, ◌<◌, length}
use mathlib.Core.List.{List, Memᴰ}
use Rattle.totdb.specs.Below.{leaves_below}
use Rattle.totdb.specs.Nodes.{Node, leaf, join, node_at, len, side_len, side_leaves}
use Rattle.totdb.specs.declared.Side.{Side}

-- No leaf lies below both nodes, by the numbers of leaves.
abbrev pub Separate : List Node → ℕ → ℕ → Type 0
Separate t n m = (x : ℕ) → Memᴰ x (leaves_below t n) → Memᴰ x (leaves_below t m) → ⊥

-- The sides of a join are at lower nodes with no leaf below both, inside their lengths, and its length is the sum of theirs.
unfoldable pub Fit : List Node → ℕ → Node → Type 0
Fit t n (leaf a) = Unit {0}
Fit t n (join m o l r) = (l.node < n) × (r.node < n) × Separate t l.node r.node × (l.offset + side_len t l ≤ len (node_at t l.node))
    × (r.offset + side_len t r ≤ len (node_at t r.node)) × (length m ≡ side_len t l + side_len t r) × (m ≡ side_leaves t l ++ side_leaves t r)
    × (1 ≤ side_len t l) × (1 ≤ side_len t r)

unfoldable pub Sized : List Node → Type 0
Sized t = (n : ℕ) → n < length t → Fit t n (node_at t n)

-- How the accepted commands number the literals: leaves below the first output variable and each its own, and the outputs of a join after those of
-- the joins before.
pub record Numbered (start : ℕ) (t : List Node) : Type 0 where
  pub leaf_low : (n a : ℕ) → n < length t → node_at t n ≡ leaf a → a < 2 * start
  pub leaf_once : (n k a : ℕ) → n < length t → k < length t → node_at t n ≡ leaf a → node_at t k ≡ leaf a → n ≡ k
  pub join_high : (n : ℕ) (m : List ℕ) (o : ℕ) (l r : Side) → n < length t → node_at t n ≡ join m o l r → start ≤ o
  pub join_next : (n k : ℕ) (m : List ℕ) (o : ℕ) (m' : List ℕ) (o' : ℕ) (l r l' r' : Side) → n < k → k < length t → node_at t n ≡ join m o l r
      → node_at t k ≡ join m' o' l' r' → o + length m ≤ o'
