-- Document 02, §5, one counter under two joins, as a claim about scripts of bytes. The proof is in proofs/Shared.antt. Questions 9 and 15, by number and
-- place, are those of `Verdict` (demand 1); the demands hold of scripts with shared nodes as they stand.
use Rattle.std.specs.Prelude.{◌≡◌, ◌⊎◌, ◌≢◌, ℕ, ◌≤◌, ◌<◌, length}
use mathlib.Core.List.{List, [], ◌∷◌, ◌++◌, map, Memᴰ, Nodup}
use Rattle.number.specs.Number.{Bytes}
use Rattle.pb.specs.Sum.{variable}
use Rattle.record.specs.Record.{Record, clauses}
use Rattle.totdb.specs.Nodes.{Node, node_at, leaves, len, side_len, side_outputs}
use Rattle.totdb.specs.declared.Side.{Side}
use Rattle.cert.specs.Definitions.{Direction, Key, side_def}
use Rattle.cert.specs.Requests.{key_of}
use Rattle.cert.specs.State.{State, Head}
use Rattle.player.specs.Player.{act, played}
use Rattle.player.specs.Script.{command_numbers}
use Rattle.player.specs.Verdict.{Reads, Below, joins, OffNode, Reached}
use Rattle.player.specs.declared.Command.{Command}
use Rattle.player.specs.declared.Command.TheVariants.{Join, Close}
use Rattle.demands.specs.Demands.{Holds}

-- No leaf lies below both nodes, by the numbers of nodes.
abbrev pub NoneBelow : List Node → ℕ → ℕ → Type 0
NoneBelow t n m = (x : ℕ) → Below t x n → Below t x m → ⊥

-- A window over a node of the table that has definitions: it hides something, and shows two outputs or more.
pub record Window (t : List Node) (s : Side) : Type 0 where
  pub there : s.node < length t
  pub inside : OffNode t s → ⊥
  pub hides : (0 < s.offset) ⊎ ((0 < s.limit) × (s.limit < len (node_at t s.node)))
  pub several : 2 ≤ side_len t s

-- Of the nodes t that the commands before one have made.
pub record SharedIn (t : List Node) : Type 0 where
  -- ".. and each window keeps its definitions;" windows of different outputs look up different definitions.
  pub own : (a b : Side) → Window t a → Window t b → side_outputs t a ≢ side_outputs t b → (i j : ℕ) (d e : Direction) (k : Key)
      → Memᴰ k (key_of (side_def t a i d)) → Memᴰ k (key_of (side_def t b j e)) → ⊥
  -- "windows of the same outputs, limit set or not, are one or two as in the Rust." They are one: all that is looked up of them is the same.
  pub one : (a b : Side) → Window t a → Window t b → side_outputs t a ≡ side_outputs t b → (i : ℕ) (d : Direction) → side_def t a i d ≡ side_def t b i d
  -- "Up to 255 joins may be made." With 64 leaves these are 319 nodes.
  pub few_joins : length (joins t) ≤ 255
  pub few_nodes : length t ≤ 319
  -- Shared nodes and windows included, a node is no longer than there are leaves below it, so no longer than 64; no leaf list has a variable twice; and
  -- those of two nodes share none where no leaf lies below both.
  pub no_longer : (n : ℕ) (xs : List ℕ) → n < length t → ((x : ℕ) → Below t x n → Memᴰ x xs) → len (node_at t n) ≤ length xs
  pub short : (n : ℕ) → n < length t → len (node_at t n) ≤ 64
  pub within : (n : ℕ) → n < length t → Nodup (map variable (leaves (node_at t n)))
  pub apart : (n m : ℕ) → n < length t → m < length t → NoneBelow t n m
      → (x y : ℕ) → Memᴰ x (leaves (node_at t n)) → Memᴰ y (leaves (node_at t m)) → variable x ≢ variable y

pub record SharedNodes : Type 0 where
  -- "A node may stand under any number of joins, with different windows .." Where a script comes to a join of two sides inside their nodes, it comes past
  -- it, whatever joins stand over these nodes, if no leaf lies below both and it is no more than the 255th.
  pub joined : (bs : List ℕ) (capacity : ℕ) (h : Head) (cs : List Command) (s : State) (here rest : List ℕ) (l r : Side)
      → Reached bs capacity h cs s here → (Memᴰ Close cs → ⊥) → Reads here (command_numbers (Join l r)) rest → l.node < length s.nodes
      → r.node < length s.nodes → NoneBelow s.nodes l.node r.node → length (joins s.nodes) < 255 → (OffNode s.nodes l → ⊥)
      → (OffNode s.nodes r → ⊥) → Reached bs capacity h (cs ++ (Join l r ∷ [])) (act (Join l r) s) rest
  pub nodes : (bs : List ℕ) (capacity : ℕ) (h : Head) (cs : List Command) (s : State) (rest : List ℕ) → Reached bs capacity h cs s rest
      → SharedIn s.nodes
  -- "For shared nodes too, a clause is written once in the whole log, in any order of requests." Of every script, finished or refused, and every log.
  pub once : (bs : List ℕ) (capacity : ℕ) (rs : List Record) → Bytes bs → Holds (played bs capacity) rs → Nodup (clauses rs)
