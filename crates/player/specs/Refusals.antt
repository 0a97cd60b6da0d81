-- The numbers of documents 01 and 02 for the refusals, 0 where there is none.
use Rattle.std.specs.Prelude.{ℕ, Option, Some, None, Result, Ok, Err}
use Rattle.player.specs.declared.Refusal.{Refusal}

-- 13 is not used.
abbrev pub number_of : Refusal → ℕ
number_of Refusal.TooLong = 1
number_of Refusal.NoNumber = 2
number_of Refusal.Head = 3
number_of Refusal.Closed = 4
number_of Refusal.NoCommand = 5
number_of Refusal.LeafVariable = 6
number_of Refusal.Leaf = 7
number_of Refusal.NoNode = 8
number_of Refusal.SharedLeaf = 9
number_of Refusal.Window = 10
number_of Refusal.Value = 11
number_of Refusal.Direction = 12
number_of Refusal.LogFull = 14
number_of Refusal.TooManyJoins = 15

abbrev pub number_or_none : Option Refusal → ℕ
number_or_none (Some r) = number_of r
number_or_none None = 0

-- What was to be found, or the number of the question that was answered no.
abbrev pub numbered : {A : Type 0} → Result A Refusal → Result A ℕ
numbered (Ok a) = Ok a
numbered (Err r) = Err (number_of r)

-- The number of the question that was answered no, 0 where none was.
abbrev pub refused_by : {A : Type 0} → Result A Refusal → ℕ
refused_by (Ok a) = 0
refused_by (Err r) = number_of r
