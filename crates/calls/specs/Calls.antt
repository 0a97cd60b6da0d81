-- The three demands of the code: of the bytes that calls of `totlog_play` leave in the log and in the answer.
use Rattle.std.specs.Prelude.{◌≡◌, List, [], ℕ, ◌≤◌, length}
use Rattle.number.specs.Number.{Bytes}
use Rattle.cert.specs.State.{State, Head}
use Rattle.player.specs.Verdict.{Reached}
use Rattle.player.specs.declared.Command.{Command}
use Rattle.totlog.specs.Entry.{Left, told}
use Rattle.demands.specs.Demands.{Meets1, Meets2, Alike, Meets3}

-- A call on a script of bytes left these bytes, in a log of so many and an answer that has room for its six numbers, whatever both held before.
-- `Left` is what the contract of `totlog_play` ensures.
pub record Call (script : List ℕ) (capacity : ℕ) (log answer : List ℕ) : Type 0 where
  pub bytes : Bytes script
  pub log_before : List ℕ
  pub answer_before : List ℕ
  pub capacity_is : length log_before ≡ capacity
  pub room : 24 ≤ length answer_before
  pub left : Left script log_before answer_before log answer

-- The demands, of the outcome that the bytes tell: 1 of every call, 2 of every call on a script that passes, 3 of every two calls on scripts alike.
pub record Calls : Type 0 where
  pub first : (script : List ℕ) (capacity : ℕ) (log answer : List ℕ) → Call script capacity log answer → Meets1 script capacity (told log answer)
  pub second : (script : List ℕ) (capacity : ℕ) (log answer : List ℕ) → Call script capacity log answer → (h : Head) (cs : List Command) (s : State)
      → Reached script capacity h cs s [] → Meets2 capacity h cs s (told log answer)
  pub third : (script other : List ℕ) (capacity room : ℕ) (log answer log-2 answer-2 : List ℕ) → Call script capacity log answer
      → Call other room log-2 answer-2 → (h : Head) (cs es : List Command) → Alike script other (told log answer) (told log-2 answer-2) h cs es
      → Meets3 h cs es (told log answer) (told log-2 answer-2)
