-- The two commands that write: a request, and a close.
use mathlib.Core.Path.{◌≡◌, refl, sym, ◌∙◌, ap}
use mathlib.Core.List.Memᴰ
use mathlib.Core.List.{List, [], ◌∷◌, flat_map, append-nil}
use Prim.Native.Nat.{ℕ}
use native.Mathlib.Omega.{arith}
use lib.ListN.{length, get_or}
use Rattle.std.specs.Prelude.{Result}
use Rattle.sizes.specs.Sizes.{marks_at, step_at, clauses_at}
use Rattle.record.specs.Record.{Record, deletion, numbers, steps, bytes, clauses}
use Rattle.record.specs.Writing.{buffer, Puts}
use Rattle.record.proofs.Bytes.{two_bytes, length_bytes}
use Rattle.cert.specs.State.{State, Stored, Head, stored_steps, keys, requests, serve}
use Rattle.cert.proofs.Apart.{sized_ok}
use Rattle.cert.proofs.Counts.{steps_append}
use Rattle.cert.proofs.Serving.{clauses_append}
use Rattle.define.specs.Represents.{memory, Exact, Represents, exact, over, Represented, Simulates}
use Rattle.define.proofs.Written.{Took, fits, past, took}
use Rattle.closing.specs.Closing.{MarkedKeys}
use Rattle.request.specs.Asked.{RequestIn}
use Rattle.player.specs.Player.{first_no, questions, act, delete}
use Rattle.player.specs.declared.Command.{Command}
use Rattle.player.specs.declared.Refusal.{Refusal}
use Rattle.player.proofs.Sound.{RequestFits, request_fits, requests_asked, serve_nodes}
use Rattle.commands.specs.Standing.{Standing, Played, end_of}
use Rattle.commands.specs.declared.Totals.{Totals}
use Rattle.commands.proofs.CommandEnds.{ends}

-- ---- a close

module _ {c : ℕ} {store log : List ℕ} {a : ℕ} {s : State} (x : Exact c s.nodes (memory store log a) s) where
  abbrev deleted : Record
  deleted = deletion (stored_steps s.nodes s.stored)

  closed_steps : steps (delete s).log ≡ steps s.log
  unfolding delete
  closed_steps = steps_append s.log (deleted ∷ []) ∙ (unfold steps in omega arith)

  closed_clauses : clauses (delete s).log ≡ clauses s.log
  unfolding delete
  closed_clauses = clauses_append s.log (deleted ∷ []) ∙ (unfold clauses in append-nil (clauses s.log))

  closed : (log' : List ℕ) (e : ℕ) → Puts (buffer log a) (numbers deleted) (buffer log' e) → Represents c s.nodes (memory store log' e) (delete s)
  unfolding delete flat_map
  closed log' e wrote = by (took s.log (deleted ∷ []) x.logged.size x.logged.is (rw append-nil wrote))
    where
      size : length log' ≡ c
      size = wrote.onward.size ∙ x.logged.size

      by : Took c s.log (deleted ∷ []) (buffer log' e) → Represents c s.nodes (memory store log' e) (delete s)
      by (past p q) = over (record { size = size; past = p; room = x.stores.room; more = q })
      by (fits f) =
          exact (record {
            small = x.small;
            logged = record { size = size; is = f };
            stores = record {
              room = x.stores.room;
              firsts = x.stores.firsts;
              trail = x.stores.trail;
              counters = record {
                step = x.stores.counters.step;
                clauses = x.stores.counters.clauses ∙ ap (λ (l : List (List ℕ)). length l) (sym closed_clauses);
              };
              holds = x.stores.holds;
              blank = x.stores.blank;
            };
            consistent = record {
              one = x.consistent.one;
              used = λ k j. x.consistent.used k (unfold keys in j);
              entry = x.consistent.entry;
              from_one = λ k j. x.consistent.from_one k (unfold keys in j);
              from_few = x.consistent.from_few;
              few = omega (arith, x.consistent.few, closed_steps);
              few_clauses = rw (closed_steps, closed_clauses) x.consistent.few_clauses;
              few_stored = omega (arith, x.consistent.few_stored, length_bytes s.log (deleted ∷ []));
            };
          })

-- ---- the commands

module _ {h : Head} {c : ℕ} {ns store log : List ℕ} {z : Totals} {s : State} (st : Standing h c ns (memory store log z.at) z s) where
  module _ (n v d : ℕ) (asked : first_no (questions h s.nodes (Command.Request n v d)) ≡ 0) where
    pub fitting : RequestFits s.nodes n v d
    fitting = request_fits h s.nodes n v d asked

    request_in : RequestIn s.nodes n v
    request_in = record { there = fitting.there; above = fitting.low; within = fitting.high }

    pub request_shown : Represented ns (λ t s. RequestIn t n v) (memory store log z.at)
    request_shown =
        record { capacity = c; nodes = s.nodes; state = s; table = st.table; holds = request_in; represents = exact st.exact }

    pub requested : (store' log' : List ℕ) (a : ℕ)
        → Simulates ns (λ t s. RequestIn t n v) (λ t u. serve t (requests n v d) u) (memory store log z.at) (memory store' log' a)
        → (e : Result Totals Refusal) → e ≡ end_of (length log') z a (get_or store' step_at 0) (get_or store' clauses_at 0) → Played h c (Command.Request n v d) s z ns store' log' e
    unfolding act
    requested store' log' a sim e is =
        let t = s.nodes in
        let k = serve_nodes t (sized_ok t st.table.bounded.sized) (requests n v d) (requests_asked t n v d fitting) s in
        ends st (Command.Request n v d) asked k.0 k.1 store' log' a
        (sim.does c t s st.table request_in (exact st.exact)) sim.onward e is

  pub listed : MarkedKeys ns store (get_or store marks_at 0) s.nodes s.stored
  listed =
      let x = st.exact in
      record {
        table = st.table;
        few =
            let l = length (bytes s.log) in
            omega (arith, x.stores.trail.count, x.consistent.few_stored, x.small, Rattle.commands.proofs.CommandEnds.fits st);
        room = x.stores.room;
        trail = x.stores.trail;
        firsts = x.stores.firsts;
        used = λ e j. x.consistent.used e.key (unfold keys in Memᴰ.map (λ (a : Stored). a.key) j);
        entry = x.consistent.entry;
        low = λ e j. omega (
          arith,
          x.consistent.entry e j,
          x.consistent.from_few e.key,
          x.consistent.few,
          x.small,
          two_bytes s.log,
          Rattle.commands.proofs.CommandEnds.fits st,
        );
      }

  close_asked : first_no (questions h s.nodes Command.Close) ≡ 0
  unfolding questions first_no
  close_asked = refl

  pub close_ends : (log' : List ℕ) (a : ℕ) → Puts (buffer log z.at) (numbers (deletion (stored_steps s.nodes s.stored))) (buffer log' a)
      → (e : Result Totals Refusal) → e ≡ end_of (length log') z a z.step z.clauses → Played h c Command.Close s z ns store log' e
  unfolding act
  close_ends log' a wrote e is =
      let y = st.exact.stores.counters in
      ends st Command.Close close_asked (unfold delete in refl) (unfold delete in refl) store log' a (closed st.exact log' a wrote) wrote.onward e
      (is ∙ rw (st.step ∙ sym y.step, st.clauses ∙ sym y.clauses))
