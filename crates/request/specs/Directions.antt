-- The directions that a request names, and their numbers: 1 if, 2 only-if, 3 both.
use Rattle.std.specs.Prelude.{◌≡◌, ℕ, ◌≤◌, Result, MatchResult}
use Rattle.request.specs.declared.Directions.{Directions}
use Rattle.request.specs.declared.Directions.TheVariants.{If, OnlyIf, Both}
use Rattle.request.specs.declared.UnknownDirections.{UnknownDirections}

abbrev pub number_of : Directions → ℕ
number_of If = 1
number_of OnlyIf = 2
number_of Both = 3

-- The directions of a number, or an error with a number that names none.
abbrev pub Named : ℕ → Result Directions UnknownDirections → Type 0
Named n r = MatchResult r (λ d. number_of d ≡ n) (λ e. (e.0 ≡ n) × (1 ≤ n → n ≤ 3 → ⊥))
