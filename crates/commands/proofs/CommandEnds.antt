-- The end of a command: accepted with all that it wrote, or refused with the log as it was up to its length.
use mathlib.Core.Path.{◌≡◌, sym, ◌∙◌, subst}
use mathlib.Core.List.{List}
use Prim.Native.Nat.{ℕ, ◌≤◌}
use native.Mathlib.Omega.{arith}
use borrow.Author.Tests.{lt-ltb, le-ltb}
use lib.ListN.{length, get_or}
use Rattle.std.specs.Prelude.{Result, Ok, Err}
use Rattle.sizes.specs.Sizes.{step_at, clauses_at}
use Rattle.record.specs.Record.{bytes}
use Rattle.record.specs.Writing.{buffer, Onward}
use Rattle.record.proofs.Writing.{stays, content_is, content_length}
use Rattle.totdb.specs.Nodes.{Node}
use Rattle.cert.specs.State.{State, Head}
use Rattle.define.specs.Represents.{memory, Exact, Represents, exact, over}
use Rattle.define.proofs.Simulates.{open_log}
use Rattle.player.specs.Player.{first_no, questions, act}
use Rattle.player.specs.Refusals.{number_of}
use Rattle.player.specs.declared.Command.{Command}
use Rattle.player.specs.declared.Refusal.{Refusal}
use Rattle.player.proofs.Formed.{formed_act}
use Rattle.player.proofs.Refusals.{number_some}
use Rattle.player.proofs.Plays.{play_stops, play_goes, play_over}
use Rattle.commands.specs.Standing.{Standing, Reported, Played, went, stopped, end_of}
use Rattle.commands.specs.declared.Totals.{Totals}

exact_fits : {c : ℕ} {t : List Node} {store log : List ℕ} {a : ℕ} {s : State} → Exact c t (memory store log a) s → length (bytes s.log) ≤ c
exact_fits {log = log} {a = a} x = omega (arith, content_length log a x.logged.is, open_log x, x.logged.size)

module _ {h : Head} {c : ℕ} {ns store log : List ℕ} {z : Totals} {s : State} (st : Standing h c ns (memory store log z.at) z s) where
  pub fits : length (bytes s.log) ≤ c
  fits = exact_fits st.exact

  -- Bytes that were written before stay.
  kept : (log' : List ℕ) (a : ℕ) → Onward (buffer log z.at) (buffer log' a) → Reported c log' z s
  kept log' a on = record {
    size = on.size ∙ st.exact.logged.size;
    whole = on.front z.at (omega arith) ∙ content_is log z.at st.exact.logged.is;
    used = sym (content_length log z.at st.exact.logged.is);
    step = st.step;
    clauses = st.clauses;
    nodes = st.nodes;
  }

  pub reported : Reported c log z s
  reported = kept log z.at stays

  -- One of questions 6 to 12 or 15 is answered no, and nothing is changed.
  pub refused_early : (k : Command) (r : Refusal) → number_of r ≡ first_no (questions h s.nodes k) → (e : Result Totals Refusal) → e ≡ Err r
      → Played h c k s z ns store log e
  refused_early k r q e a = stopped r (play_stops h c k s (number_of r) (number_some r) (sym q)) a reported

  -- A command that changes no node, and came to the place a, with the step and the clauses that the store has.
  module _ (k : Command) (asked : first_no (questions h s.nodes k) ≡ 0) (same_nodes : (act k s).nodes ≡ s.nodes)
      (same_variable : (act k s).next_variable ≡ s.next_variable) (store' log' : List ℕ) (a : ℕ)
      (r : Represents c s.nodes (memory store' log' a) (act k s)) (on : Onward (buffer log z.at) (buffer log' a))
      (e : Result Totals Refusal) (is : e ≡ end_of (length log') z a (get_or store' step_at 0) (get_or store' clauses_at 0)) where
    abbrev moved : Totals
    moved = record {
      at = a;
      step = get_or store' step_at 0;
      clauses = get_or store' clauses_at 0;
      nodes = z.nodes;
      leaves = z.leaves;
      variable = z.variable;
    }

    pub ends : Played h c k s z ns store' log' e
    unfolding end_of
    ends = by r
      where
        by : Represents c s.nodes (memory store' log' a) (act k s) → Played h c k s z ns store' log' e
        by (exact x) =
            let q : e ≡ Ok moved = is ∙ rw (le-ltb (length log') a (open_log x)) in
            went (act k s) moved (play_goes h c k s asked (exact_fits x)) q (record {
              formed = formed_act h k s asked st.formed;
              table = rw same_nodes st.table;
              exact = subst (λ (t : List Node). Exact c t (memory store' log' a) (act k s)) (sym same_nodes) x;
              step = x.stores.counters.step;
              clauses = x.stores.counters.clauses;
              nodes = rw same_nodes st.nodes;
              leaves = rw same_nodes st.leaves;
              variable = rw same_variable st.variable;
            })
        by (over x) =
            let q : e ≡ Err Refusal.LogFull = is ∙ rw (lt-ltb (length log') a (omega (arith, x.size, x.past))) in
            stopped Refusal.LogFull (play_over h c k s asked x.more) q (kept log' a on)
