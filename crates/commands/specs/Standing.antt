-- What the code has at hand between two commands, and the state that it represents.
use Rattle.std.specs.Prelude.{◌≡◌, cond, List, ℕ, ◌+◌, ◌≤◌, min, ltb, length, take, Result, Ok, Err, MatchResult}
use Rattle.sizes.specs.Sizes.{most_nodes, row_at, store_at}
use Rattle.record.specs.Record.{bytes, clauses}
use Rattle.totdb.specs.Nodes.{leaf_count}
use Rattle.cert.specs.State.{State, Head}
use Rattle.rows.specs.Rows.{Table}
use Rattle.define.specs.Represents.{Memory, memory, Exact}
use Rattle.player.specs.Formed.{Formed}
use Rattle.player.specs.Player.{play, accepted, refused}
use Rattle.player.specs.Refusals.{number_of}
use Rattle.player.specs.declared.Command.{Command}
use Rattle.request.specs.Directions.{number_of as directions_number}
use Rattle.request.specs.declared.Directions.{Directions}
use Rattle.player.specs.declared.Refusal.{Refusal}
use Rattle.commands.specs.declared.Totals.{Totals}

-- The tables, the log of c bytes and the totals represent the state s, which the head h led to. The totals have the step and the clauses
-- beside the store, for the answer where the next command is refused by 14 and the store is left open.
pub record Standing (h : Head) (c : ℕ) (ns : List ℕ) (m : Memory) (z : Totals) (s : State) : Type 0 where
  pub formed : Formed h s
  pub table : Table ns s.nodes
  pub exact : Exact c s.nodes m s
  pub step : z.step ≡ s.next_step
  pub clauses : z.clauses ≡ length (Rattle.record.specs.Record.clauses s.log)
  pub nodes : z.nodes ≡ length s.nodes
  pub leaves : z.leaves ≡ leaf_count s.nodes
  pub variable : z.variable ≡ s.next_variable

-- The log up to its length, and the last four numbers of the answer, are those of the state s; the next step is in the place of the count of steps.
pub record Reported (c : ℕ) (log : List ℕ) (z : Totals) (s : State) : Type 0 where
  pub size : length log ≡ c
  pub whole : take z.at log ≡ bytes s.log
  pub used : z.at ≡ length (bytes s.log)
  pub step : z.step ≡ s.next_step
  pub clauses : z.clauses ≡ length (Rattle.record.specs.Record.clauses s.log)
  pub nodes : z.nodes ≡ length s.nodes

-- What a command comes to that is put in the state s, which the totals z represent: the totals after it, or its refusal. Where it is refused the
-- tables are left open: play ends there.
pub data Played (h : Head) (c : ℕ) (k : Command) (s : State) (z : Totals) (ns store log : List ℕ) (e : Result Totals Refusal) : Type 0 where
  went : (u : State) (y : Totals) → play h c k s ≡ accepted u → e ≡ Ok y → Standing h c ns (memory store log y.at) y u
      → Played h c k s z ns store log e
  stopped : (r : Refusal) → play h c k s ≡ refused (number_of r) → e ≡ Err r → Reported c log z s → Played h c k s z ns store log e

-- The tables have a row for one more than n nodes, where there may be one more.
pub record Room (ns store : List ℕ) (n : ℕ) : Type 0 where
  pub row : row_at (min (n + 1) most_nodes) ≤ length ns
  pub store_row : store_at (min (n + 1) most_nodes) ≤ length store

-- What a command needs of the tables: they represent some state, and have room for a node that it may make.
pub record Ready (ns store log : List ℕ) (z : Totals) : Type 0 where
  pub head : Head
  pub capacity : ℕ
  pub state : State
  pub standing : Standing head capacity ns (memory store log z.at) z state
  pub room : Room ns store z.nodes

-- What the questions of a request in the direction d come to, of which n is the number of the first that fails, 0 for none: the directions, or the refusal.
abbrev pub Asked : ℕ → ℕ → Result Directions Refusal → Type 0
Asked d n e = MatchResult e (λ k. (directions_number k ≡ d) × (n ≡ 0)) (λ r. n ≡ number_of r)

-- ---- the end of a command

-- A command that began with the totals z and came to the place a, the step n and k clauses, in a log of c bytes. Where something did not fit
-- it is refused.
unfoldable pub end_of : ℕ → Totals → ℕ → ℕ → ℕ → Result Totals Refusal
end_of c z a n k =
    cond (ltb c a) (Err Refusal.LogFull)
    (Ok (record { at = a; step = n; clauses = k; nodes = z.nodes; leaves = z.leaves; variable = z.variable }))
