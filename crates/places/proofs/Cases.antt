-- Every case of the list comes out as document 01 says, of a log of the player, and as `specs/Walk.antt` says of other bytes.
use mathlib.Core.Path.{◌≡◌, refl}
use mathlib.Core.List.{map}
use Rattle.number.specs.Number.{placed, read_in, above}
use Rattle.places.specs.Cases.{Case, cases}
use Rattle.places.specs.Walk.{clauses_at}

pub worked : map (λ (c : Case). clauses_at c.log) cases ≡ map (λ (c : Case). c.want) cases
unfolding cases clauses_at placed read_in above
worked = refl
