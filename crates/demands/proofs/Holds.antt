-- The outcome reports the state that the play ended in: its log reads back as the records, and the answer counts them.
use mathlib.Core.Path.{◌≡◌, refl, sym, ◌∙◌, ap}
use mathlib.Core.List.{List, flat_map, Nodup, Nodup-nil}
use mathlib.Core.Option.{some}
use Prim.Native.Nat.{ℕ, ◌-◌}
use lib.ListN.{length, take, replicate}
use lib.Seq.{take-append_seam}
use Rattle.record.specs.Record.{Record, numbers, bytes, clauses, decode_log}
use Rattle.record.proofs.Decode.{Small, decode_bytes}
use Rattle.cert.specs.State.{State, start}
use Rattle.player.specs.Player.{Outcome, outcome, played}
use Rattle.player.proofs.Endings.{Led, nowhere, on, led_small, led_decodes, ending}
use Rattle.player.proofs.Matching.{clauses_once}
use Rattle.player.proofs.Plays.{padded}
use Rattle.demands.specs.Demands.{Holds, Reports}

outcome_holds : (capacity n p : ℕ) (s : State) → decode_log (bytes s.log) ≡ some s.log → Holds (outcome capacity n p s) s.log
unfolding outcome
outcome_holds capacity n p s e = record {
  decodes = ap decode_log (take-append_seam (bytes s.log) (replicate (capacity - length (bytes s.log)) 0)) ∙ e;
  steps_are = refl;
  clauses_are = refl;
}

pub reports_of : (bs : List ℕ) (capacity n p : ℕ) (s : State) → Led capacity s → played bs capacity ≡ outcome capacity n p s
    → Reports capacity (played bs capacity) s
unfolding outcome
reports_of bs capacity n p s l e =
    record { holds = rw e (outcome_holds capacity n p s (led_decodes l)); padded = padded capacity bs; nodes_are = rw e }

-- Of any script, of bytes or not.
pub some_holds : (bs : List ℕ) (capacity : ℕ) → (rs : List Record) × Holds (played bs capacity) rs
some_holds bs capacity =
    let k = ending bs capacity in
    (k.state.log, (reports_of bs capacity k.number k.place k.state k.led k.is).holds)

-- ---- the log of any script

-- The log cut at its length is the bytes of the records rs, their numbers fit, and no clause is written twice.
pub record Logged (o : Outcome) (rs : List Record) : Type 0 where
  pub is : take o.used o.log ≡ bytes rs
  pub small : Small (flat_map numbers rs)
  pub once : Nodup (clauses rs)

led_once : {capacity : ℕ} {s : State} → Led capacity s → Nodup (clauses s.log)
unfolding start clauses
led_once (nowhere e) = rw e Nodup-nil
led_once {capacity} {s} (on h cs f c a) = clauses_once h capacity cs s a

logged : (bs : List ℕ) (capacity : ℕ) → (rs : List Record) × Logged (played bs capacity) rs
unfolding outcome
logged bs capacity =
    let k = ending bs capacity in
    let n = bytes k.state.log in
    (k.state.log, rw k.is (record { is = take-append_seam n (replicate (capacity - length n) 0); small = led_small k.led; once = led_once k.led }))

-- Any records that the log reads back as are those that it stands for.
pub held_log : (bs : List ℕ) (capacity : ℕ) (rs : List Record) → Holds (played bs capacity) rs → Logged (played bs capacity) rs
held_log bs capacity rs k =
    let l = logged bs capacity in
    let one : some rs ≡ some l.0 = sym k.decodes ∙ ap decode_log l.1.is ∙ decode_bytes l.0 l.1.small in
    let same : rs ≡ l.0 = cc in
    rw same l.1
