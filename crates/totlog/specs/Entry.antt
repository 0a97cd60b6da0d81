-- The answer of the entry, and what its parts are handed and come to.
use Rattle.std.specs.Prelude.{◌≡◌, false, Result, Ok, Err, List, ℕ, ◌+◌, ◌-◌, ◌*◌, ◌≤◌, ◌<◌, length, take, drop}
use Rattle.record.specs.Record.{bytes, steps}
use Rattle.answer.specs.Coded.{bytes_of, padded, word_at}
use Rattle.answer.specs.declared.Answer.{Answer}
use Rattle.cert.specs.State.{State, start, Head}
use Rattle.sizes.specs.Sizes.{most_bytes, most_leaves, most_nodes, leaf_bytes, join_bytes}
use Rattle.define.specs.Represents.{memory}
use Rattle.player.specs.Player.{Outcome, outcome, plays, played, refused_at_head}
use Rattle.player.specs.Refusals.{number_of, number_or_none}
use Rattle.player.specs.Script.{Commands, read_commands}
use Rattle.player.specs.declared.Refusal.{Refusal}
use Rattle.commands.specs.Standing.{Standing, Room, Reported}
use Rattle.commands.specs.declared.Totals.{Totals}
use Rattle.totlog.specs.declared.PlayEnd.{PlayEnd}
use Rattle.totlog.specs.declared.opened.Opened.{Opened}

-- ---- the answer

abbrev pub answer_of : Outcome → Answer
answer_of o = record {
  number = o.number;
  place = o.place;
  length = o.used;
  steps = o.steps;
  clauses = o.clauses;
  nodes = o.nodes;
}

-- The same of a play that has ended, where the first step is `step`.
abbrev pub answer_after : ℕ → PlayEnd → Answer
answer_after step r = record {
  number = number_or_none r.refusal;
  place = r.place;
  length = r.totals.at;
  steps = r.totals.step - step;
  clauses = r.totals.clauses;
  nodes = r.totals.nodes;
}

-- The answer, and the log up to its length, are those of the outcome.
pub record Tells (o : Outcome) (log : List ℕ) (a : Answer) : Type 0 where
  pub answer : a ≡ answer_of o
  pub front : take o.used log ≡ take o.used o.log

-- What a call leaves in the log and in the answer that it is lent.
pub record Left (script log answer log-after answer-after : List ℕ) : Type 0 where
  pub log_is : log-after ≡ (played script (length log)).log
  pub answer_is : answer-after ≡ padded (length answer) (bytes_of (answer_of (played script (length log))))

-- The outcome that a log and an answer of 24 bytes or more tell.
abbrev pub told : List ℕ → List ℕ → Outcome
told log answer = record {
  number = word_at answer 0;
  place = word_at answer 4;
  used = word_at answer 8;
  steps = word_at answer 12;
  clauses = word_at answer 16;
  nodes = word_at answer 20;
  log = log;
}

-- ---- the commands

-- The commands of a script from a place on, after an accepted head.
abbrev pub commands_from : List ℕ → ℕ → Commands
commands_from bs from = read_commands (length bs - from) false (drop from bs)

abbrev pub played_from : List ℕ → ℕ → Head → ℕ → Outcome
played_from bs from h c = plays h c (commands_from bs from).ending (commands_from bs from).list 0 (start h)

-- The same of a script whose head has passed.
abbrev pub commands_of : Opened → Commands
commands_of o = commands_from o.script.now o.from

abbrev pub played_of : Opened → ℕ → Outcome
played_of o c = played_from o.script.now o.from o.head c

-- What may be made before a command of a script of n bytes: nodes take the bytes of their commands.
pub record Made (n leaves joins : ℕ) : Type 0 where
  pub few_leaves : leaves ≤ most_leaves
  pub few : leaves + joins ≤ most_nodes
  pub took : leaf_bytes * leaves + join_bytes * joins < n

-- The tables have room for a node before every command of a script of n bytes.
pub record Rows (n : ℕ) (ns store : List ℕ) : Type 0 where
  pub room : (leaves joins : ℕ) → Made n leaves joins → Room ns store (leaves + joins)

-- The tables represent the state that a play begins with.
pub record Begun (ns store log : List ℕ) (z : Totals) : Type 0 where
  pub head : Head
  pub capacity : ℕ
  pub standing : Standing head capacity ns (memory store log z.at) z (start head)

-- A play that has ended in a state, which the log and the totals report.
pub record Finished (h : Head) (c : ℕ) (cs : Commands) (log : List ℕ) (r : PlayEnd) : Type 0 where
  pub state : State
  pub is : plays h c cs.ending cs.list 0 (start h) ≡ outcome c (number_or_none r.refusal) r.place state
  pub reported : Reported c log r.totals state
  pub fits : length (bytes state.log) ≤ c
  pub counted : state.next_step ≡ h.step + Rattle.record.specs.Record.steps state.log
  pub few : length state.nodes ≤ most_nodes

-- What questions 1, 2 and 3 come to: the script that is played, or the refusal at place 0.
pub data Asked (script : List ℕ) (capacity : ℕ) (e : Result Opened Refusal) : Type 0 where
  begins : (o : Opened) → e ≡ Ok o → capacity ≤ most_bytes → played script capacity ≡ played_of o capacity → Asked script capacity e
  turned_away : (r : Refusal) → e ≡ Err r → played script capacity ≡ refused_at_head capacity (number_of r) → Asked script capacity e
