-- What every act keeps: a log that is too short stays too short, and a request that is held stays held.
use mathlib.Core.Path.{sym}
use mathlib.Core.List.Memᴰ
use mathlib.Core.List.{List, [], ◌∷◌, flat_map, append-nil, Memᴰ}
use Prim.Native.Nat.{◌≤◌}
use native.Mathlib.Omega.{arith}
use lib.ListN.{length}
use Rattle.memo.specs.Visit.{each, fresh, batch}
use Rattle.memo.proofs.Unrolled.{each_all, ask_all}
use Rattle.record.specs.Record.{bytes}
use Rattle.totdb.specs.Nodes.{Node}
use Rattle.cert.specs.Definitions.{Key, pulls}
use Rattle.cert.specs.Equal.{request_dec, key_dec, key_rank}
use Rattle.cert.specs.Requests.{Request, node_of, needs, Clause, clauses_of, looks_of}
use Rattle.cert.specs.State.{State, keys, define, write, hold, look_up, write_clause, write_request, serve}
use Rattle.define.proofs.Simulates.{grown, Grows}
use Rattle.define.proofs.Looks.{look_up_grows}
use Rattle.clauses.proofs.Written.{write_grows}
use Rattle.request.specs.Asked.{ask_for}

-- What the three acts keep, all that is made of them keeps.
module _ (t : List Node) (R : State → Type 0) (lookUp-keeps : (k : Key) (s : State) → R s → R (look_up t k s))
    (write_keeps : (x : Clause) (s : State) → R s → R (write t x s)) (hold-keeps : (x : Request) (s : State) → R s → R (hold x s)) where
  clause_keeps : (x : Clause) (s : State) → R s → R (write_clause t x s)
  unfolding write_clause
  clause_keeps x s h = write_keeps x (each (look_up t) (looks_of t x) s) (each_all R (looks_of t x) lookUp-keeps s h)

  request_keeps : (x : Request) (s : State) → R s → R (write_request t x s)
  unfolding write_request
  request_keeps x s h = hold-keeps x (each (write_clause t) (clauses_of t x) s) (each_all R (clauses_of t x) clause_keeps s h)

  ask_keeps : (x : Request) (s : State) → R s → R (ask_for t x s)
  ask_keeps x s h = ask_all request_dec (needs t) node_of (λ (u : State). u.held) (write_request t) R request_keeps x s h

  serve_keeps : (xs : List Request) (s : State) → R s → R (serve t xs s)
  unfolding serve batch
  serve_keeps xs s h =
      let ys = fresh request_dec s.held xs in
      each_all {f = write_request t} R ys request_keeps (each (ask_for t) (flat_map (needs t) ys) s) (each_all R (flat_map (needs t) ys) ask_keeps s h)

-- ---- the log

hold_grows : (x : Request) → Grows (λ t s. hold x s)
unfolding hold
hold_grows x t s = grown s (hold x s) [] (sym (append-nil s.log))

pub ask_grows : (x : Request) → Grows (λ t s. ask_for t x s)
ask_grows x t s =
    ask_keeps t (λ u. length (bytes s.log) ≤ length (bytes u.log)) (λ k u h. omega (arith, h, look_up_grows k t u))
    (λ k u h. omega (arith, h, write_grows (λ _. k) t u)) (λ k u h. omega (arith, h, hold_grows k t u)) x s (omega arith)

pub serve_grows : (xs : List Request) → Grows (λ t s. serve t xs s)
serve_grows xs t s =
    serve_keeps t (λ u. length (bytes s.log) ≤ length (bytes u.log)) (λ k u h. omega (arith, h, look_up_grows k t u))
    (λ k u h. omega (arith, h, write_grows (λ _. k) t u)) (λ k u h. omega (arith, h, hold_grows k t u)) xs s (omega arith)

-- ---- what is held

pub ask_holds : (t : List Node) (x y : Request) (s : State) → Memᴰ y s.held → Memᴰ y (ask_for t x s).held
unfolding look_up define write hold
ask_holds t x y s h =
    ask_keeps t held (ask_all key_dec pulls key_rank keys (define t) held (λ k u m. m)) (λ c u m. m) (λ z u m. Memᴰ.append_left (z ∷ []) m) x s h
  where
    held : State → Type 0
    held u = Memᴰ y u.held
