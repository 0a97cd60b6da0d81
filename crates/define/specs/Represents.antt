-- The memory of the code, and the state that it represents: the contract of every function of a request.
use Rattle.std.specs.Prelude.{◌≡◌, ℕ, ◌+◌, ◌*◌, ◌≤◌, ◌<◌, length, get_or}
use mathlib.Core.List.{List, Memᴰ}
use Rattle.sizes.specs.Sizes.{most_bytes, most_head, marks_at, store_at}
use Rattle.record.specs.Record.{bytes, steps, clauses}
use Rattle.record.specs.Writing.{buffer, content, written, Onward}
use Rattle.totdb.specs.Nodes.{Node}
use Rattle.cert.specs.Definitions.{Key}
use Rattle.cert.specs.State.{State, Stored, keys, from_in}
use Rattle.rows.specs.Rows.{Table}
use Rattle.define.specs.Store.{Used, Firsts, Trail, Counters, HeldFlags, Blank}

-- All that a request changes: the store, the log, and the place of the log's next byte, past its end where something did not fit.
pub record Memory : Type 0 where
  pub store : List ℕ
  pub log : List ℕ
  pub at : ℕ

abbrev pub memory : (store log : List ℕ) → ℕ → Memory
memory k l a = record { store = k; log = l; at = a }

-- ---- what the memory says

-- The log, of c bytes, has the records of the state.
pub record Logged (c : ℕ) (m : Memory) (s : State) : Type 0 where
  pub size : length m.log ≡ c
  pub is : content (buffer m.log m.at) ≡ written (bytes s.log)

-- What no region speaks of is left open: the trail from the marks on, places of keys that are not used, held directions of leaves.
pub record Stores (t : List Node) (m : Memory) (s : State) : Type 0 where
  pub room : store_at (length t) ≤ length m.store
  pub firsts : Firsts t m.store s.stored
  pub trail : Trail t m.store (get_or m.store marks_at 0) s.stored
  pub counters : Counters m.store s
  pub holds : HeldFlags t m.store s.held
  pub blank : Blank t m.store

-- ---- what holds of the state alone

-- `few` and `few_stored` bound the counters of the code: no step takes fewer than two bytes of a log, no definition fewer than eight.
pub record Consistent (t : List Node) (s : State) : Type 0 where
  pub one : 1 ≤ s.next_step
  pub used : (k : Key) → Memᴰ k (keys s) → Used t k
  pub entry : (e : Stored) → Memᴰ e s.stored → from_in s.stored e.key ≡ e.from
  pub from_one : (k : Key) → Memᴰ k (keys s) → 1 ≤ from_in s.stored k
  pub from_few : (k : Key) → from_in s.stored k ≤ s.next_step
  pub few : s.next_step ≤ most_head + steps s.log
  pub few_clauses : length (Rattle.record.specs.Record.clauses s.log) ≤ steps s.log
  pub few_stored : 8 * length s.stored ≤ length (bytes s.log)

-- ---- the relation

pub record Exact (c : ℕ) (t : List Node) (m : Memory) (s : State) : Type 0 where
  pub small : c ≤ most_bytes
  pub logged : Logged c m s
  pub stores : Stores t m s
  pub consistent : Consistent t s

-- What was written did not fit, and what the state has does not fit either.
pub record Over (c : ℕ) (t : List Node) (m : Memory) (s : State) : Type 0 where
  pub size : length m.log ≡ c
  pub past : c < m.at
  pub room : store_at (length t) ≤ length m.store
  pub more : c < length (bytes s.log)

-- The memory represents the state s over the nodes t, as long as all that was written fits into the log of c bytes. Else the place of the next
-- byte lies past the log, and the store is left open: the command is refused as a whole.
pub data Represents (c : ℕ) (t : List Node) (m : Memory) (s : State) : Type 0 where
  exact : Exact c t m s → Represents c t m s
  over : Over c t m s → Represents c t m s

-- ---- contracts

-- What a function needs: the memory represents some state, over nodes that the table has and of which P holds.
pub record Represented (ns : List ℕ) (P : List Node → State → Type 0) (m : Memory) : Type 0 where
  pub capacity : ℕ
  pub nodes : List Node
  pub state : State
  pub table : Table ns nodes
  pub holds : P nodes state
  pub represents : Represents capacity nodes m state

-- What a function does: f to the state, over all nodes that the table has and of which P holds. Bytes that were written before stay.
pub record Simulates (ns : List ℕ) (P : List Node → State → Type 0) (f : List Node → State → State) (m n : Memory) : Type 0 where
  pub does : (c : ℕ) (t : List Node) (s : State) → Table ns t → P t s → Represents c t m s → Represents c t n (f t s)
  pub onward : Onward (buffer m.log m.at) (buffer n.log n.at)
