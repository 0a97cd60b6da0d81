-- What every state of a script meets: literals are numbered, nodes are few, steps are counted, and what is held was asked rightly.
use Rattle.std.specs.Prelude.{◌≡◌, true, ℕ, ◌+◌, ◌*◌, ◌≤◌, ◌<◌, length}
use mathlib.Core.List.{List, Memᴰ}
use Rattle.sizes.specs.Sizes.{most_leaves, most_joins, width}
use Rattle.totdb.specs.Nodes.{Node, join, node_at, len, leaf_count, join_count}
use Rattle.totdb.specs.declared.Side.{Side}
use Rattle.cert.specs.Counted.{Counted}
use Rattle.cert.specs.Requests.{Request, Right}
use Rattle.cert.specs.Sized.{Sized, Numbered}
use Rattle.cert.specs.State.{State, Head}
use Rattle.player.specs.Player.{head_fits}

-- The sides of joins fit, and literals are numbered apart from those to come.
pub record Sound (h : Head) (s : State) : Type 0 where
  pub sized : Sized s.nodes
  pub numbered : Numbered h.variable s.nodes
  pub high : h.variable ≤ s.next_variable
  pub after : (n : ℕ) (m : List ℕ) (o : ℕ) (l r : Side) → n < length s.nodes → node_at s.nodes n ≡ join m o l r → o + length m ≤ s.next_variable

-- Leaves and joins are few, nodes short, and variables low.
pub record Limits (h : Head) (s : State) : Type 0 where
  pub few_leaves : leaf_count s.nodes ≤ most_leaves
  pub few_joins : join_count s.nodes ≤ most_joins
  pub short : (n : ℕ) → n < length s.nodes → len (node_at s.nodes n) ≤ width
  pub low : s.next_variable ≤ h.variable + width * join_count s.nodes

-- Every request that is held asks for a value of its node.
abbrev pub Held : List Node → State → Type 0
Held t s = (x : Request) → Memᴰ x s.held → Right t x

pub record Formed (h : Head) (s : State) : Type 0 where
  pub head : head_fits h ≡ true
  pub sound : Sound h s
  pub limits : Limits h s
  pub counted : Counted h s
  pub held : Held s.nodes s
