-- What calls of the library leave meets the demands, since the bytes tell the outcome of the script.
use mathlib.Core.Path.{◌≡◌, sym, ◌∙◌, ap}
use mathlib.Core.List.{List}
use Prim.Native.Nat.{ℕ}
use native.Mathlib.Omega.{arith}
use lib.ListN.{replicate, length-replicate}
use Rattle.number.specs.Number.{Bytes}
use Rattle.player.specs.Player.{played}
use Rattle.answer.specs.Coded.{bytes_of, padded}
use Rattle.totlog.specs.Entry.{answer_of, told}
use Rattle.totlog.proofs.Told.{told_left}
use Rattle.demands.specs.Demands.{Demand1, Demand3, Meets3}
use Rattle.demands.proofs.Demand1.{demand_1}
use Rattle.demands.proofs.Demand2.{demand_2}
use Rattle.demands.proofs.Demand3.{demand_3}
use Rattle.demands.proofs.Worked.{first, second, first_bytes, second_bytes, head, first_commands, second_commands, alike}
use Rattle.calls.specs.Calls.{Call, Calls}

tells : {script : List ℕ} {capacity : ℕ} {log answer : List ℕ} → Call script capacity log answer → told log answer ≡ played script capacity
tells {script} {capacity} {log} {answer} c =
    told_left script c.log_before c.answer_before log answer c.left c.room ∙ ap (played script) c.capacity_is

pub calls : Calls
unfolding Demand1 Demand3
calls = record {
  first = λ script capacity log answer c. rw (tells c) (demand_1 script capacity c.bytes);
  second = λ script capacity log answer c h cs s r. rw (tells c) (demand_2.passes script capacity h cs s c.bytes r);
  third = λ script other capacity room log answer log-2 answer-2 c d h cs es a.
      rw (tells c, tells d) (demand_3 script other capacity room h cs es c.bytes d.bytes (rw (tells c, tells d) at a));
}

-- Two calls on scripts alike, on slices that held other bytes.
abbrev answer_bytes_of : List ℕ → ℕ → List ℕ
answer_bytes_of script capacity = padded 24 (bytes_of (answer_of (played script capacity)))

call : (script : List ℕ) (capacity : ℕ) → Bytes script → Call script capacity (played script capacity).log (answer_bytes_of script capacity)
call script capacity w = record {
  bytes = w;
  log_before = replicate capacity 255;
  answer_before = replicate 24 255;
  capacity_is = length-replicate capacity 255;
  room = omega (arith, length-replicate {A = ℕ} 24 255);
  left = record {
    log_is = ap (λ (c : ℕ). (played script c).log) (sym (length-replicate capacity 255));
    answer_is = ap (λ (c : ℕ). padded 24 (bytes_of (answer_of (played script c)))) (sym (length-replicate capacity 255));
  };
}

pub matched : Meets3 head first_commands second_commands (told (played first 600).log (answer_bytes_of first 600))
    (told (played second 700).log (answer_bytes_of second 700))
matched =
    calls.third first second 600 700 _ _ _ _ (call first 600 first_bytes) (call second 700 second_bytes) head first_commands second_commands
    (rw (tells (call first 600 first_bytes), tells (call second 700 second_bytes)) alike)
