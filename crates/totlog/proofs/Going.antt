-- A play between two commands: what is still to be played comes to the same as the whole.
use mathlib.Core.Path.{◌≡◌, refl, ◌∙◌, ap}
use mathlib.Core.Bool.{Bool}
use mathlib.Core.List.{List, ◌∷◌}
use Prim.Native.Nat.{ℕ, zero, suc, ◌+◌, ◌-◌, ◌≤◌, ◌<◌}
use native.Mathlib.Omega.{arith}
use Rattle.std.specs.Prelude.{Some, None, Result, Ok, Err}
use lib.ListN.{length, drop}
use Rattle.totdb.specs.Nodes.{leaf_count, join_count}
use Rattle.cert.specs.State.{State, Head, start}
use Rattle.cert.proofs.Few.{nodes_are}
use Rattle.define.specs.Represents.{memory}
use Rattle.player.specs.Places.{next_at}
use Rattle.player.specs.Player.{plays, outcome, Outcome}
use Rattle.player.specs.Refusals.{number_of, number_or_none}
use Rattle.player.specs.Script.{Commands, closes, read_commands, stop, before}
use Rattle.player.specs.declared.Command.{Command}
use Rattle.player.specs.declared.Refusal.{Refusal}
use Rattle.player.proofs.Limits.{few_nodes_lem}
use Rattle.player.proofs.NodeBytes.{Took, took_on}
use Rattle.player.proofs.Plays.{plays_done, plays_ended, plays_accepted, plays_refused}
use Rattle.commands.specs.Standing.{Standing, Room, Reported, Played, went, stopped}
use Rattle.commands.specs.declared.Totals.{Totals}
use Rattle.commands.proofs.CommandEnds.{fits, reported}
use Rattle.totlog.specs.Entry.{Rows, Finished}
use Rattle.totlog.specs.declared.PlayEnd.{PlayEnd}
use Rattle.totlog.proofs.Next.{After, rest_end, rest_refuse, rest_command}

abbrev plays_all : Head → ℕ → Commands → ℕ → State → Outcome
plays_all h c cs p s = plays h c cs.ending cs.list p s

-- The commands cs come to what those from `at` on come to, played from the state that the tables represent.
pub record Going (h : Head) (c : ℕ) (script : List ℕ) (cs : Commands) (ns store log : List ℕ) (z : Totals) (at place : ℕ)
    (closed : Bool) : Type 0 where
  pub state : State
  pub standing : Standing h c ns (memory store log z.at) z state
  pub fuel : ℕ
  pub enough : length script - at ≤ fuel
  pub is : plays_all h c cs 0 (start h) ≡ plays_all h c (read_commands fuel closed (drop at script)) place state
  pub took : Took at state.nodes

module _ {h : Head} {c : ℕ} {script : List ℕ} {cs : Commands} {ns store log : List ℕ} {z : Totals} {at place : ℕ} {closed : Bool}
    (inside : at ≤ length script) (g : Going h c script cs ns store log z at place closed) where
  -- It ends in the state that the tables represent.
  ends_here : (n p : ℕ) → plays_all h c (read_commands g.fuel closed (drop at script)) place g.state ≡ outcome c n p g.state
      → (log' : List ℕ) (z' : Totals) → Reported c log' z' g.state → (r : PlayEnd) → number_or_none r.refusal ≡ n → r.place ≡ p → r.totals ≡ z'
      → Finished h c cs log' r
  ends_here n p e log' z' rep r a b d = record {
    state = g.state;
    is = g.is ∙ e ∙ rw (a, b);
    reported = rw d rep;
    fits = fits g.standing;
    counted = g.standing.formed.counted.next;
    few = few_nodes_lem g.standing.formed.limits;
  }

  now_reported : Reported c log z g.state
  now_reported = reported g.standing

  pub finished : next_at closed script at ≡ Ok None → (r : PlayEnd) → r.refusal ≡ None → r.place ≡ place → r.totals ≡ z → Finished h c cs log r
  finished e r a b d =
      ends_here 0 place
      (ap (λ (k : Commands). plays_all h c k place g.state) (rest_end script closed at g.fuel inside g.enough e)
      ∙ (unfold stop in plays_done h c 0 place g.state)) log z now_reported r (ap number_or_none a) b d

  pub stopped_reading : (f : Refusal) → next_at closed script at ≡ Err (number_of f) → (r : PlayEnd) → r.refusal ≡ Some f → r.place ≡ place + 1
      → r.totals ≡ z → Finished h c cs log r
  stopped_reading f e r a b d =
      let n = number_of f in
      let q = rest_refuse script closed at g.fuel inside g.enough n e in
      ends_here n (place + 1) (ap (λ (k : Commands). plays_all h c k place g.state) q.0 ∙ by n q.1) log z now_reported r (ap number_or_none a) b d
    where
      by : (n : ℕ) → 0 < n → plays_all h c (stop n) place g.state ≡ outcome c n (place + 1) g.state
      by zero l = absurd (omega arith)
      by (suc m) l =
          let ended : plays_all h c (stop (suc m)) place g.state ≡ outcome c (suc m) (suc place) g.state =
          unfold stop in plays_ended h c 0 m place g.state in
          ended ∙ ap (λ (k : ℕ). outcome c (suc m) k g.state) (omega arith)

  module _ {k : Command} {e : ℕ} (reads : next_at closed script at ≡ Ok (Some (k, e))) where
    after : After script closed at g.fuel k e
    after = rest_command script closed at g.fuel inside g.enough k e reads

    rest : Commands
    rest = read_commands after.left (closes k) (drop e script)

    is_after : plays_all h c (read_commands g.fuel closed (drop at script)) place g.state ≡ plays h c rest.ending (k ∷ rest.list) place g.state
    is_after = ap (λ (q : Commands). plays_all h c q place g.state) after.reads ∙ (unfold before rest in refl)

    pub end_later : at < e
    end_later = after.later

    pub end_inside : e ≤ length script
    end_inside = after.within

    pub room_left : {ns₀ store₀ : List ℕ} → Rows (length script) ns₀ store₀ → length ns ≡ length ns₀ → length store ≡ length store₀
        → Room ns store z.nodes
    room_left rows a b =
        let st = g.standing in
        let made = nodes_are g.state.nodes in
        let r = rows.room (leaf_count g.state.nodes) (join_count g.state.nodes) (record {
          few_leaves = st.table.bounded.few_leaves;
          few = omega (arith, made, few_nodes_lem st.formed.limits);
          took = omega (arith, g.took, after.later, after.within);
        }) in
        record { row = omega (arith, r.row, a, st.nodes, made); store_row = omega (arith, r.store_row, b, st.nodes, made) }

    module _ {ns' store' log' : List ℕ} {x : Result Totals Refusal} (p : Played h c k g.state z ns' store' log' x) where
      pub goes_on : {y : Totals} → x ≡ Ok y → (place' : ℕ) → place' ≡ place + 1 → (closed' : Bool) → closed' ≡ closes k
          → Going h c script cs ns' store' log' y e place' closed'
      goes_on {y} done place' a closed' b = by p
        where
          by : Played h c k g.state z ns' store' log' x → Going h c script cs ns' store' log' y e place' closed'
          by (went u w q n st) =
              let same : w ≡ y = cc in
              record {
                state = u;
                standing = rw same at st;
                fuel = after.left;
                enough = after.still;
                is = g.is ∙ is_after ∙ plays_accepted h c rest.ending k rest.list place g.state u q
                    ∙ (rw (a, b) (unfold rest in ap (λ (i : ℕ). plays_all h c (read_commands after.left (closes k) (drop e script)) i u) (omega arith)));
                took = took_on h g.state g.standing.formed.sound at e g.took c k u q after.takes;
              }
          by (stopped f q n r) = absurd (let z : ◌≡◌ {A = ℕ} 0 1 = cc in omega arith)

      pub stops : {f : Refusal} → x ≡ Err f → (r : PlayEnd) → r.refusal ≡ Some f → r.place ≡ place + 1 → r.totals ≡ z → Finished h c cs log' r
      stops {f} failed r a b d = by p
        where
          by : Played h c k g.state z ns' store' log' x → Finished h c cs log' r
          by (went u w q n st) = absurd (let z : ◌≡◌ {A = ℕ} 0 1 = cc in omega arith)
          by (stopped v q n rep) =
              let same : f ≡ v = cc in
              ends_here (number_of v) (place + 1)
              (is_after ∙ plays_refused h c rest.ending k rest.list place g.state (number_of v) q
              ∙ ap (λ (i : ℕ). outcome c (number_of v) i g.state) (omega arith))
              log' z rep r (ap number_or_none a ∙ ap number_of same) b d
