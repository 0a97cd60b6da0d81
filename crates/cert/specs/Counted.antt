-- What every state of a script meets: its keys are at nodes of the table, and its steps are counted.
use Rattle.std.specs.Prelude.{◌≡◌, ℕ, ◌+◌, ◌<◌, length}
use mathlib.Core.List.{List, Memᴰ, flat_map}
use Rattle.record.specs.Record.{steps, clauses}
use Rattle.totdb.specs.Nodes.{Node}
use Rattle.cert.specs.Definitions.{Key, real, window_zero, window, defined_by}
use Rattle.cert.specs.State.{State, keys, Head}

unfoldable pub key_node : Key → ℕ
key_node (real n v) = n
key_node (window_zero n f k) = n
key_node (window n f k) = n

unfoldable pub KeyIn : List Node → Key → Type 0
KeyIn t k = key_node k < length t

-- A step for each sum that a key defines and for each clause. The next step is the first plus the steps of the log.
pub record CountedIn (h : Head) (t : List Node) (s : State) : Type 0 where
  pub next : s.next_step ≡ h.step + steps s.log
  pub keys_in : (k : Key) → Memᴰ k (keys s) → KeyIn t k
  pub count : steps s.log ≡ length (flat_map (defined_by t) (keys s)) + length (clauses s.log)

abbrev pub Counted : Head → State → Type 0
Counted h s = CountedIn h s.nodes s
