-- The state of the player, and what a request does to it.
use Rattle.std.proofs.Math.Logic.{dite}
use mathlib.Core.List.{List, [], ◌∷◌, ◌++◌, map, flat_map}
use Rattle.std.specs.Prelude.{ℕ, zero, suc, ◌+◌}
use Rattle.memo.specs.Visit.{each, ask, batch}
use Rattle.record.specs.Record.{Record, derivation, clause, steps}
use Rattle.totdb.specs.Nodes.{Node, range}
use Rattle.cert.specs.declared.Head.{Head as Declared·Head}
use Rattle.cert.specs.Definitions.{Direction, if, only_if, Key, real, window_zero, window, pulls, key_records}
use Rattle.cert.specs.Equal.{request_dec, key_dec, key_rank}
use Rattle.cert.specs.Requests.{Request, request, node_of, needs, Clause, clauses_of, looks_of, clause_tokens}

-- A key whose definitions are written, and the first of their steps.
pub record Stored : Type 0 where
  pub key : Key
  pub from : ℕ

-- Held: the requests whose clauses are written. `stored` is in the order of writing, so its steps ascend.
pub record State : Type 0 where
  pub nodes : List Node
  pub next_variable : ℕ
  pub next_step : ℕ
  pub held : List Request
  pub stored : List Stored
  pub log : List Record

-- The head of a script: first output variable, first step number.
abbrev pub Head : Type 0
Head = Declared·Head

-- From no nodes, nothing held or defined and an empty log.
unfoldable pub start : Head → State
start h = record { nodes = []; next_variable = h.variable; next_step = h.step; held = []; stored = []; log = [] }

unfoldable pub keys : State → List Key
keys s = map {B = Key} (λ (e : Stored). e.key) s.stored

-- ---- the steps of what is stored

-- The first step of a key; 0 where it is not stored, as the code's table has it. No derivation names that 0.
unfoldable pub from_in : List Stored → Key → ℕ
unfolding key_dec
from_in [] k = 0
from_in (e ∷ es) k = dite (key_dec e.key k) (λ _. e.from) (λ _. from_in es k)

-- The step of a place of a key, as `Definition` counts them.
unfoldable pub step_in : List Stored → Key → ℕ → ℕ
unfolding from_in
step_in es (real n v) i = from_in es (real n v) + i
step_in es (window_zero n f m) i = from_in es (window_zero n f m) + i
step_in es (window n f m) zero = from_in es (window_zero n f m)
step_in es (window n f m) (suc i) = from_in es (window n f m) + i

-- The steps of every stored definition, ascending.
unfoldable pub stored_steps : List Node → List Stored → List ℕ
unfolding key_records steps range flat_map
stored_steps t es = flat_map (λ (e : Stored). range e.from (steps (key_records (λ k i. 0) t e.key))) es

-- ---- the acts

-- Write the definitions of a key, and store it.
unfoldable pub define : List Node → Key → State → State
unfolding key_records step_in steps
define t k s =
    let rs = key_records (step_in s.stored) t k in
    record {
      nodes = s.nodes;
      next_variable = s.next_variable;
      next_step = s.next_step + steps rs;
      held = s.held;
      stored = s.stored ++ (record { key = k; from = s.next_step } ∷ []);
      log = s.log ++ rs;
    }

-- Write a clause: its step, then the clause.
unfoldable pub write : List Node → Clause → State → State
unfolding clause_tokens step_in
write t c s = record {
  nodes = s.nodes;
  next_variable = s.next_variable;
  next_step = s.next_step + 1;
  held = s.held;
  stored = s.stored;
  log = s.log ++ (derivation (clause_tokens (step_in s.stored) t c) ∷ clause s.next_step c.literals ∷ []);
}

unfoldable pub hold : Request → State → State
hold x s = record {
  nodes = s.nodes;
  next_variable = s.next_variable;
  next_step = s.next_step;
  held = s.held ++ (x ∷ []);
  stored = s.stored;
  log = s.log;
}

-- ---- a request, over the table t

-- A key that is not stored is defined, after those that it pulls in.
unfoldable pub look_up : List Node → Key → State → State
unfolding ask key_dec key_rank pulls define keys
look_up t k s = ask key_dec pulls key_rank keys (define t) k s

-- The definitions of a clause are looked up, then it is written.
unfoldable pub write_clause : List Node → Clause → State → State
unfolding each look_up looks_of write
write_clause t c s = write t c (each (look_up t) (looks_of t c) s)

unfoldable pub write_request : List Node → Request → State → State
unfolding each write_clause clauses_of hold
write_request t x s = hold x (each (write_clause t) (clauses_of t x) s)

-- The requests that are not held are written together, after the needs of all of them; a need goes the same way, alone. Node numbers fall on the way.
unfoldable pub serve : List Node → List Request → State → State
unfolding batch request_dec needs node_of write_request
serve t xs s = batch request_dec (needs t) node_of (λ (u : State). u.held) (write_request t) xs s

-- Direction 1 is if, 2 only-if, 3 both.
unfoldable pub directions : ℕ → List Direction
directions zero = []
directions (suc zero) = if ∷ []
directions (suc (suc zero)) = only_if ∷ []
directions (suc (suc (suc zero))) = if ∷ only_if ∷ []
directions (suc (suc (suc (suc d)))) = []

unfoldable pub requests : ℕ → ℕ → ℕ → List Request
unfolding directions
requests n v d = map {B = Request} (request n v) (directions d)
