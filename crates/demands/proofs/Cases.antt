-- Every case of the list comes out as the documents say.
use mathlib.Core.Path.{◌≡◌, refl}
use mathlib.Core.List.{map}
use Rattle.demands.specs.Cases.{Case, cases}

pub worked : map (λ (c : Case). c.got) cases ≡ map (λ (c : Case). c.want) cases
unfolding cases
worked = refl
