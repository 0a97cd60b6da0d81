-- Document 02, §3, a window that hides nothing, as a claim about the bytes of scripts. The proof is in proofs/Windows.antt.
use Rattle.std.specs.Prelude.{◌≡◌, ◌⊎◌, List, ◌++◌, ℕ, ◌≤◌, length}
use Rattle.number.specs.Number.{Bytes}
use Rattle.totdb.specs.Nodes.{Node, node_at, len}
use Rattle.totdb.specs.declared.Side.{Side}
use Rattle.cert.specs.State.{State, Head}
use Rattle.player.specs.Accepted.{Pointwise}
use Rattle.player.specs.Called.{table}
use Rattle.player.specs.Player.{played}
use Rattle.player.specs.Script.{script_bytes}
use Rattle.player.specs.Verdict.{Begins, Reached}
use Rattle.player.specs.declared.Command.{Command}

-- A side with limit 0 for a limit that, at offset 0, is the length of its node in the table t; or the side as it is.
pub data DropsSide (t : List Node) (s : Side) : Side → Type 0 where
  dropped : s.offset ≡ 0 → s.limit ≡ len (node_at t s.node) → DropsSide t s (record { node = s.node; offset = 0; limit = 0 })
  kept : DropsSide t s s

-- A command with such sides.
pub data DropsCommand (t : List Node) : Command → Command → Type 0 where
  in_join : {l r a b : Side} → DropsSide t l a → DropsSide t r b → DropsCommand t (Command.Join l r) (Command.Join a b)
  unchanged : {c : Command} → DropsCommand t c c

-- The script `other` is bs with limit 0 for all limits that hide nothing, or for some. After the commands both go on in the same way, whatever it is.
pub record DropsLimits (bs other : List ℕ) : Type 0 where
  pub head : Head
  pub own : List Command
  pub others : List Command
  pub rest : List ℕ
  pub begins : Begins bs head own rest
  -- Lengths are those of the nodes that all the commands would make, refused or not: of a node that does not exist yet, and after a refusal, no limit is
  -- looked at.
  pub drops : Pointwise (DropsCommand (table head own)) own others
  pub is : other ≡ script_bytes head others ++ rest

-- "Offset 0 with limit equal to the length now joins as a plain side, and the log is that of the same script with limit 0." (Which side a join has is said
-- of its node: `MakesNode`, in `Demand2`.)
pub record HidesNothing : Type 0 where
  -- All six numbers and the log are the same, whether the script is accepted or not, for every length of the log, unless question 1 tells the two
  -- apart by their own lengths.
  pub same : (bs other : List ℕ) (capacity : ℕ) → Bytes bs → DropsLimits bs other → (length other ≤ 65536 → length bs ≤ 65536)
      → played other capacity ≡ played bs capacity
  -- The other is never longer; and as long, where the commands of either are accepted.
  pub no_longer : (bs other : List ℕ) → DropsLimits bs other → length other ≤ length bs
  pub as_long : (bs other : List ℕ) (capacity : ℕ) (s : State) (d : DropsLimits bs other)
      → Reached bs capacity d.head d.own s d.rest ⊎ Reached other capacity d.head d.others s d.rest → length other ≡ length bs
  -- It is a script of its commands.
  pub begins : (bs other : List ℕ) → Bytes bs → (d : DropsLimits bs other) → Bytes other × Begins other d.head d.others d.rest
