-- What a script that passes leaves, found from head and commands: its nodes, and the places of its records.
use Rattle.std.specs.Prelude.{◌≡◌, true, false, ℕ, ◌+◌, ◌-◌, ◌*◌, ◌<◌, eqb, length}
use mathlib.Core.List.{List, [], ◌∷◌, ◌++◌, map, Memᴰ}
use Rattle.pb.specs.Sum.{variable}
use Rattle.record.specs.Record.{Record, clause}
use Rattle.record.specs.Written.{WrittenFor, EachFor, Ended}
use Rattle.totdb.specs.Nodes.{Node, leaf, join, node_at, leaves, len, output, range, side_len, side_leaves, any}
use Rattle.totdb.specs.declared.Side.{Side}
use Rattle.cert.specs.State.{Head}
use Rattle.player.specs.Script.{closes}
use Rattle.player.specs.declared.Command.{Command}

-- ---- nodes

-- All but the leaf commands of literal l.
unfoldable pub without : ℕ → List Command → List Command
without l [] = []
without l (Command.Leaf m ∷ cs) = elim (eqb m l) [ true ↦ without l cs | false ↦ Command.Leaf m ∷ without l cs ]
without l (Command.Join a b ∷ cs) = Command.Join a b ∷ without l cs
without l (Command.Request n v d ∷ cs) = Command.Request n v d ∷ without l cs
without l (Command.Close ∷ cs) = Command.Close ∷ without l cs

-- The commands that make a node, in order: each join, and each leaf whose literal was not seen before.
unfoldable pub makers : List Command → List Command
unfolding without
makers [] = []
makers (Command.Leaf l ∷ cs) = Command.Leaf l ∷ without l (makers cs)
makers (Command.Join l r ∷ cs) = Command.Join l r ∷ makers cs
makers (Command.Request n v d ∷ cs) = makers cs
makers (Command.Close ∷ cs) = makers cs

-- The outputs of the joins of a table, one join after the other, each from value 1 to its length; and how many they are.
unfoldable pub join_outputs : List Node → List ℕ
unfolding output range
join_outputs [] = []
join_outputs (leaf l ∷ t) = join_outputs t
join_outputs (join ls o l r ∷ t) = map (output (join ls o l r)) (range 1 (length ls)) ++ join_outputs t

unfoldable pub join_lengths : List Node → ℕ
join_lengths [] = 0
join_lengths (leaf l ∷ t) = join_lengths t
join_lengths (join ls o l r ∷ t) = length ls + join_lengths t

-- The length and the literals of a side. A plain one, with neither offset nor limit, gives its node's leaf list; a window its own outputs, as many as the
-- limit, or as the offset leaves.
pub data SideIs (t : List Node) (s : Side) : ℕ → List ℕ → Type 0 where
  plain_side : s.offset ≡ 0 → s.limit ≡ 0 → SideIs t s (len (node_at t s.node)) (leaves (node_at t s.node))
  to_the_end : 0 < s.offset → s.limit ≡ 0
      → SideIs t s (len (node_at t s.node) - s.offset) (map (output (node_at t s.node)) (range (s.offset + 1) (len (node_at t s.node) - s.offset)))
  to_the_limit : 0 < s.limit → SideIs t s s.limit (map (output (node_at t s.node)) (range (s.offset + 1) s.limit))

-- What a side joins as. Offset 0 with limit equal to the length hides nothing: it joins as a plain side (document 02, §3). Any other joins as it is.
pub data JoinsAs (t : List Node) (s : Side) : Side → Type 0 where
  as_plain : s.offset ≡ 0 → s.limit ≡ len (node_at t s.node) → JoinsAs t s (record { node = s.node; offset = 0; limit = 0 })
  as_it_is : ((s.offset ≡ 0) × (s.limit ≡ len (node_at t s.node)) → ⊥) → JoinsAs t s s

-- The node that a command makes.
pub data MakesNode (t : List Node) : Command → Node → Type 0 where
  makes_leaf : {l : ℕ} → MakesNode t (Command.Leaf l) (leaf l)
  makes_join : {ls : List ℕ} {o : ℕ} {l r a b : Side} → JoinsAs t l a → JoinsAs t r b → MakesNode t (Command.Join l r) (join ls o a b)

-- Two lists are related element by element.
pub data Pointwise {A B : Type 0} (R : A → B → Type 0) : List A → List B → Type 0 where
  pointwise_nil : Pointwise R [] []
  pointwise_cons : {x : A} {y : B} {xs : List A} {ys : List B} → R x y → Pointwise R xs ys → Pointwise R (x ∷ xs) (y ∷ ys)

pub record NodesOf (h : Head) (cs : List Command) (t : List Node) : Type 0 where
  -- One node for each of these commands, in their order. A leaf literal seen before gets no new one.
  pub made_by : Pointwise (MakesNode t) (makers cs) t
  -- Question 6.
  pub leaves_low : (n l : ℕ) → n < length t → node_at t n ≡ leaf l → variable l < h.variable
  -- A leaf's literal is its one output and its leaf list.
  pub leaves_own : (l : ℕ) → (leaves (leaf l) ≡ l ∷ []) × (output (leaf l) 1 ≡ l)
  pub sides : (s : Side) → SideIs t s (side_len t s) (side_leaves t s)
  -- A join's length is the sum of its sides' lengths. Its leaf list is the left side's literals, then the right's.
  pub lengths : (n : ℕ) (ls : List ℕ) (o : ℕ) (l r : Side) → n < length t → node_at t n ≡ join ls o l r → length ls ≡ side_len t l + side_len t r
  pub leaf_lists : (n : ℕ) (ls : List ℕ) (o : ℕ) (l r : Side) → n < length t → node_at t n ≡ join ls o l r → ls ≡ side_leaves t l ++ side_leaves t r
  -- A join reserves all its outputs when made, on the next unused variables.
  pub outputs_next : join_outputs t ≡ map (λ (v : ℕ). 2 * v) (range h.variable (join_lengths t))

-- ---- records

pub record RecordsOf (h : Head) (cs : List Command) (rs : List Record) : Type 0 where
  -- Each clause follows the derivation that is written for it, and which it names.
  pub clauses_for : (n : ℕ) (ls : List ℕ) → Memᴰ (clause n ls) rs → WrittenFor h.step rs n ls
  pub derivations_for : EachFor h.step rs
  -- A close deletes every stored definition; nothing else is deleted.
  pub ended : Ended h.step rs (any closes cs)
