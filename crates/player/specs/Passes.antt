-- A script that passes every question, said of its commands and their states alone.
use Rattle.std.specs.Prelude.{◌≡◌, true, List, [], ◌∷◌, ℕ, ◌≤◌, length}
use Rattle.sizes.specs.Sizes.{most_bytes}
use Rattle.record.specs.Record.{bytes}
use Rattle.cert.specs.State.{State, start, Head}
use Rattle.player.specs.Player.{first_no, questions, act, head_fits}
use Rattle.player.specs.Script.{Commands, script, read_script}
use Rattle.player.specs.declared.Command.{Command}

-- A command passes questions 6 to 12 and 15 in a state, and 14 in the state after it.
pub record Passed (h : Head) (capacity : ℕ) (c : Command) (s u : State) : Type 0 where
  pub asked : first_no (questions h s.nodes c) ≡ 0
  pub after : act c s ≡ u
  pub fits : length (bytes u.log) ≤ capacity

pub data AllPassed (h : Head) (capacity : ℕ) : List Command → State → State → Type 0 where
  all_done : {s : State} → AllPassed h capacity [] s s
  all_more : {c : Command} {cs : List Command} {s u w : State} → Passed h capacity c s u → AllPassed h capacity cs u w
      → AllPassed h capacity (c ∷ cs) s w

-- Question 1; questions 2, 4 and 5, those of reading; question 3; and each command. `state` is the one after the last.
pub record Passes (bs : List ℕ) (capacity : ℕ) (h : Head) (cs : Commands) : Type 0 where
  pub short : length bs ≤ most_bytes
  pub small : capacity ≤ most_bytes
  pub reads : read_script bs ≡ script h cs
  pub to_end : cs.ending ≡ 0
  pub fits : head_fits h ≡ true
  pub state : State
  pub all : AllPassed h capacity cs.list (start h) state
