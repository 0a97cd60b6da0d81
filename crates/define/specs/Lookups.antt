-- What the code of a lookup is handed.
use Rattle.std.specs.Prelude.{◌≡◌, ℕ, ◌+◌, ◌≤◌, ◌<◌, length}
use mathlib.Core.List.{List, Memᴰ}
use Rattle.sizes.specs.Sizes.{width}
use Rattle.totdb.specs.Nodes.{IsWindow, Node, node_at, leaves, len, output, outputs, output_row, from_first}
use Rattle.cert.specs.Definitions.{Key}
use Rattle.cert.specs.State.{State, keys}
use Rattle.rows.specs.Rows.{ShownOf}
use Rattle.rows.specs.Windows.{window_at}
use Rattle.rows.specs.declared.Shown.{Shown}
use Rattle.define.specs.Store.{WindowOf}

-- The node x has the leaf list l, and outputs from the literal `first` up.
pub record NodeOf (l : List ℕ) (first : ℕ) (x : Node) : Type 0 where
  pub leaf_list : leaves x ≡ l
  pub outputs : (v : ℕ) → 1 ≤ v → v ≤ len x → output x v ≡ from_first first v

-- A value of a node of two values or more, or one beside them.
pub record RealOf (t : List Node) (n v : ℕ) : Type 0 where
  pub there : n < length t
  pub long : 1 < len (node_at t n)
  pub value : v ≤ len (node_at t n) + 1

pub record New (k : Key) (s : State) : Type 0 where
  pub new : ¬ Memᴰ k (keys s)

-- The a-th value of a side.
pub record SideIn (t : List Node) (s : Shown) (a : ℕ) : Type 0 where
  pub shown : ShownOf t s
  pub value : a ≤ s.len + 1

-- A window of two values or more, which is looked up.
pub record SideWindow (t : List Node) (s : Shown) : Type 0 where
  pub shown : ShownOf t s
  pub window : IsWindow s.side
  pub long : 1 < s.len

-- The same, with the output list of its node.
pub record SideWindowWith (t : List Node) (os : List ℕ) (s : Shown) : Type 0 where
  pub window : SideWindow t s
  pub list : os ≡ output_row s.first (s.side.offset + s.len)

-- A window with the place of its first steps and the list of its outputs.
pub record WindowIn (t : List Node) (os : List ℕ) (p n f m : ℕ) : Type 0 where
  pub shown : WindowOf t n f m
  pub slot : window_at t n f m ≡ p
  pub list : os ≡ outputs (node_at t n) f m

-- Outputs of which there are two or more.
pub record Several (os : List ℕ) : Type 0 where
  pub several : 1 < length os
  pub short : length os ≤ width
