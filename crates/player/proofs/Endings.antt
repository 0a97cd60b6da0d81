-- Every play ends in a number, a place and a state: the one before any command, or one that passed commands led to.
use mathlib.Core.Path.{◌≡◌, refl, ◌∙◌}
use mathlib.Core.Bool.{Bool, true, false}
use mathlib.Core.List.{List, [], ◌∷◌, flat_map}
use mathlib.Core.Option.{some}
use Prim.Native.Nat.{ℕ, zero, suc, ◌+◌, ◌≤◌}
use native.Mathlib.Omega.{arith}
use lib.ListN.{length}
use Rattle.sizes.specs.Sizes.{most_bytes}
use Rattle.number.specs.Number.{groups}
use Rattle.number.proofs.Laws.{read_in-rest}
use Rattle.record.specs.Record.{numbers, bytes, decode_log}
use Rattle.record.proofs.Decode.{Small}
use Rattle.cert.specs.State.{State, start, Head}
use Rattle.player.specs.Passes.{AllPassed, all_done, all_more}
use Rattle.player.specs.Player.{Result, accepted, refused, play, Outcome, outcome, plays, refused_at_head, head_fits, played}
use Rattle.player.specs.Script.{Next, command, refuse, end, read_command, closes, stop, before, Commands, read_commands, script, read_script}
use Rattle.player.specs.Verdict.{untouched}
use Rattle.player.specs.declared.Command.{Command}
use Rattle.player.proofs.Decoded.{log_fits, log_decodes}
use Rattle.player.proofs.Numbers.{script_most, plays_most}
use Rattle.player.proofs.Plays.{head_read, outcome_number, play_passed, plays_done, plays_ended, plays_accepted, plays_refused}
use Rattle.player.proofs.Scripts.{Way, too_long, no_head, bad_head, commands, way}

-- ---- the state

pub data Led (capacity : ℕ) (s : State) : Type 0 where
  nowhere : s ≡ untouched → Led capacity s
  on : (h : Head) (cs : List Command) → head_fits h ≡ true → capacity ≤ most_bytes → AllPassed h capacity cs (start h) s → Led capacity s

module _ {capacity : ℕ} {s : State} where
  pub led_small : Led capacity s → Small (flat_map numbers s.log)
  unfolding start Small flat_map
  led_small (nowhere e) = rw e tt
  led_small (on h cs f c a) = log_fits f c a

  pub led_decodes : Led capacity s → decode_log (bytes s.log) ≡ some s.log
  unfolding start decode_log bytes
  led_decodes (nowhere e) = rw e
  led_decodes (on h cs f c a) = log_decodes f c a

-- ---- a play

record Stops (h : Head) (capacity : ℕ) (s : State) (o : Outcome) (most : ℕ) : Type 0 where
  done : List Command
  state : State
  all : AllPassed h capacity done s state
  number : ℕ
  place : ℕ
  is : o ≡ outcome capacity number place state
  low : place ≤ most

plays_stop : (h : Head) (capacity ending : ℕ) (cs : List Command) (p : ℕ) (s : State)
    → Stops h capacity s (plays h capacity ending cs p s) (suc p + length cs)
plays_stop h capacity zero [] p s =
    record { done = []; state = s; all = all_done; number = 0; place = p; is = plays_done h capacity 0 p s; low = omega arith }
plays_stop h capacity (suc n) [] p s =
    record { done = []; state = s; all = all_done; number = suc n; place = suc p; is = plays_ended h capacity 0 n p s; low = omega arith }
plays_stop h capacity ending (c ∷ cs) p s = by (play h capacity c s) refl (λ u. plays_stop h capacity ending cs (suc p) u)
  where
    by : (r : Result) → play h capacity c s ≡ r → ((u : State) → Stops h capacity u (plays h capacity ending cs (suc p) u) (suc (suc p) + length cs))
        → Stops h capacity s (plays h capacity ending (c ∷ cs) p s) (suc p + length (c ∷ cs))
    by (refused n) e ih = record {
      done = [];
      state = s;
      all = all_done;
      number = n;
      place = suc p;
      is = plays_refused h capacity ending c cs p s n e;
      low = omega arith;
    }
    by (accepted u) e ih =
        let k = ih u in
        record {
          done = c ∷ k.done;
          state = k.state;
          all = all_more (play_passed h capacity c s u e) k.all;
          number = k.number;
          place = k.place;
          is = plays_accepted h capacity ending c cs p s u e ∙ k.is;
          low = omega (arith, k.low);
        }

-- ---- a script

-- A script has at most as many commands as bytes.
list_most : (k : ℕ) (closed : Bool) (bs : List ℕ) → length (read_commands k closed bs).list ≤ k
unfolding read_commands stop before
list_most zero closed bs = omega arith
list_most (suc k) closed bs = by (read_command closed bs) refl (list_most k)
  where
    by : (t : Next) → read_command closed bs ≡ t → ((d : Bool) (r : List ℕ) → length (read_commands k d r).list ≤ k)
        → length (read_commands (suc k) closed bs).list ≤ suc k
    by (command c rest) e ih = rw (e, read_commands) (omega (arith, ih (closes c) rest))
    by (refuse n) e ih = rw (e, read_commands) (omega arith)
    by end e ih = rw (e, read_commands) (omega arith)

commands_most : (bs : List ℕ) (h : Head) (cs : Commands) → read_script bs ≡ script h cs → length cs.list ≤ length bs
commands_most bs h cs e =
    let r = head_read bs h cs e in
    let k = rw r.rest at (list_most (length r.after_two) false r.after_two) in
    omega (arith, (read_in-rest groups bs r.one).1, (read_in-rest groups r.after_one r.two).1)

-- The bytes need not be bytes, nor the script one that reads.
pub record Ending (bs : List ℕ) (capacity : ℕ) : Type 0 where
  pub state : State
  pub led : Led capacity state
  pub number : ℕ
  pub place : ℕ
  pub is : played bs capacity ≡ outcome capacity number place state
  pub number_low : number ≤ 15
  pub place_low : place ≤ most_bytes + 1

at_head : (bs : List ℕ) (capacity n : ℕ) → n ≤ 15 → played bs capacity ≡ refused_at_head capacity n → Ending bs capacity
unfolding refused_at_head
at_head bs capacity n l e =
    record { state = untouched; led = nowhere refl; number = n; place = 0; is = e; number_low = l; place_low = omega arith }

pub ending : (bs : List ℕ) (capacity : ℕ) → Ending bs capacity
ending bs capacity = by (way bs capacity)
  where
    by : Way bs capacity → Ending bs capacity
    by (too_long z) = at_head bs capacity 1 (omega arith) z
    by (no_head z) = at_head bs capacity 2 (omega arith) z
    by (bad_head z) = at_head bs capacity 3 (omega arith) z
    by (commands h cs r f short small z) =
        let k = plays_stop h capacity cs.ending cs.list 0 (start h) in
        let low = plays_most h capacity cs.ending cs.list 0 (start h) (script_most bs h cs r) in
        record {
          state = k.state;
          led = on h k.done f small k.all;
          number = k.number;
          place = k.place;
          is = z ∙ k.is;
          number_low = rw (k.is, outcome_number capacity k.number k.place k.state) at low;
          place_low = omega (arith, k.low, commands_most bs h cs r, short);
        }
