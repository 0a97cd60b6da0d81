-- Document 02, §4, leaves from the newest, as a claim about tables of nodes and about scripts of bytes. The proof is in proofs/Leaves.antt.
use Rattle.std.specs.Prelude.{◌≡◌, ℕ, suc, ◌+◌, ◌<◌, length, drop}
use mathlib.Core.List.{List, ◌∷◌, ◌++◌, Memᴰ}
use Rattle.std.proofs.Math.Option.{none, some}
use Rattle.totdb.specs.Nodes.{Node, leaf, node_at, known}
use Rattle.totdb.specs.Leaves.{node_found, looked_at, is_found, lookup_leaf}
use Rattle.cert.specs.State.{State, Head}
use Rattle.player.specs.Player.{act, make}
use Rattle.player.specs.Verdict.{leaf_literals, Reached}
use Rattle.player.specs.declared.Command.{Command}

pub record FromTheNewest : Type 0 where
  -- "The lookup of an existing leaf works from the last made to the first. It also tells how many leaves it looked at: the found one and those made after
  -- it, .." Nodes stand in the order of their making.
  pub found : (before after : List Node) (l : ℕ) → (Memᴰ l (leaf_literals after) → ⊥)
      → (node_found (lookup_leaf (before ++ (leaf l ∷ after)) l) ≡ some (length before))
      × (looked_at (lookup_leaf (before ++ (leaf l ∷ after)) l) ≡ 1 + length (leaf_literals after))
  -- ".. or all if none is found."
  pub missing : (t : List Node) (l : ℕ) → (Memᴰ l (leaf_literals t) → ⊥)
      → (node_found (lookup_leaf t l) ≡ none) × (looked_at (lookup_leaf t l) ≡ length (leaf_literals t))
  -- "Answers and logs are the same as before." Question 7 asks of a literal, and of its negation, whether it is known, and these are the literals found.
  -- One that is found gets no new node.
  pub asked : (t : List Node) (l : ℕ) → known t l ≡ is_found (lookup_leaf t l)
  pub command : (l : ℕ) (s : State) → act (Command.Leaf l) s ≡ elim (node_found (lookup_leaf s.nodes l)) [ some n ↦ s | none ↦ make (leaf l) 0 s ]
  -- At a command of a script no literal is that of two leaves. So any leaf of the literal is the one found: a lookup from the first finds the same node.
  pub once : (bs : List ℕ) (capacity : ℕ) (h : Head) (cs : List Command) (s : State) (rest : List ℕ) → Reached bs capacity h cs s rest
      → (l m n : ℕ) → m < length s.nodes → n < length s.nodes → node_at s.nodes m ≡ leaf l → node_at s.nodes n ≡ leaf l → m ≡ n
  pub any_leaf : (bs : List ℕ) (capacity : ℕ) (h : Head) (cs : List Command) (s : State) (rest : List ℕ) → Reached bs capacity h cs s rest
      → (l n : ℕ) → n < length s.nodes → node_at s.nodes n ≡ leaf l
      → (node_found (lookup_leaf s.nodes l) ≡ some n)
      × (looked_at (lookup_leaf s.nodes l) ≡ 1 + length (leaf_literals (drop (suc n) s.nodes)))
