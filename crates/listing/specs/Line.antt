-- The line of a clause, and the lines of a log.
use mathlib.Core.List.{List, [], ◌∷◌, ◌++◌, flat_map}
use Rattle.std.specs.Prelude.{ℕ}
use Rattle.text.specs.Text.{decimal, spaced}
use Rattle.places.specs.Walk.{clauses_at}
use Rattle.order.specs.Order.{sorted}

-- The end of a line.
abbrev pub newline : List ℕ
newline = 10 ∷ []

-- A clause: its literals in log order, spaces between.
unfoldable pub line : List ℕ → List ℕ
unfolding flat_map
line [] = newline
line (l ∷ ls) = decimal l ++ (flat_map spaced ls ++ newline)

-- The lines of the clauses of a log, in their order.
unfoldable pub lines_at : List ℕ → List ℕ
unfolding flat_map line
lines_at log = flat_map line (sorted (clauses_at log))
