-- Document 02, §7, as a claim about scripts of bytes: which definitions their commands need. The proof is in proofs/Needed.antt.
use Rattle.std.specs.Prelude.{◌≡◌, ◌≢◌, ℕ}
use mathlib.Core.List.{List, map, Memᴰ}
use Rattle.number.specs.Number.{Bytes}
use Rattle.cert.specs.Definitions.{Direction, Key, real, pulls}
use Rattle.cert.specs.Lookups.{used_by}
use Rattle.cert.specs.Requests.{Request, Lookup, of_node, Undefined, Clause, clauses_of, looked_up, looks_of}
use Rattle.cert.specs.State.{State, Head}
use Rattle.player.specs.Player.{act, played}
use Rattle.player.specs.Script.{command_numbers}
use Rattle.player.specs.Verdict.{Reads, Reached, No}
use Rattle.player.specs.declared.Command.{Command}
use Rattle.player.specs.declared.Command.TheVariants.{Close}

-- The script comes to the command c in the state s, and no question but 14 is answered no.
pub record Acts (bs : List ℕ) (capacity : ℕ) (c : Command) (s : State) : Type 0 where
  pub head : Head
  pub before : List Command
  pub here : List ℕ
  pub rest : List ℕ
  pub reached : Reached bs capacity head before s here
  pub unclosed : Memᴰ Close before → ⊥
  pub reads : Reads here (command_numbers c) rest
  pub asked : (n : ℕ) → No head capacity s c n → n ≡ 14

-- The clauses of every request that is held look up what document 01 lists for them; none of it is an if at value 0 or an only-if above the length,
-- nor is any definition that a window is derived from.
pub record NoneUndefined (s : State) : Type 0 where
  pub listed : (x : Request) → Memᴰ x s.held → map {B = List Lookup} looked_up (clauses_of s.nodes x) ≡ used_by s.nodes x
  pub clauses : (x : Request) (ls : List Lookup) (l : Lookup) → Memᴰ x s.held → Memᴰ ls (used_by s.nodes x) → Memᴰ l ls
      → Undefined s.nodes l → ⊥
  pub windows : (x : Request) (c : Clause) (k : Key) (n v : ℕ) (d : Direction) → Memᴰ x s.held → Memᴰ c (clauses_of s.nodes x)
      → Memᴰ k (looks_of s.nodes c) → Memᴰ (real n v) (pulls k) → Undefined s.nodes (of_node n v d) → ⊥

-- "Show that no command of any script needs an if at value 0 or an only-if above a side's length, so 13 is never answered. The question goes and its
-- number is not used again."
pub record DeskCard : Type 0 where
  -- Of what is held once the command has acted, whether or not the log then holds what it writes.
  pub needed : (bs : List ℕ) (capacity : ℕ) (c : Command) (s : State) → Acts bs capacity c s → NoneUndefined (act c s)
  pub unused : (bs : List ℕ) (capacity : ℕ) → Bytes bs → (played bs capacity).number ≢ 13
