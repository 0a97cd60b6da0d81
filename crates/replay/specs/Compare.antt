-- What it is to meet a recorded answer.
use Rattle.std.specs.Prelude.{◌≡◌, List, ℕ}
use Rattle.player.specs.Player.{played}
use Rattle.answer.specs.Coded.{padded}
use Rattle.answer.specs.declared.Answer.{Answer}
use Rattle.totlog.specs.Entry.{answer_of}

-- A script, played on a log of so many bytes, has the six numbers recorded, and the recorded log with zeros after it.
pub record Met (script : List ℕ) (capacity : ℕ) (answer : Answer) (recorded : List ℕ) : Type 0 where
  pub numbers : answer_of (played script capacity) ≡ answer
  pub log : (played script capacity).log ≡ padded capacity recorded
