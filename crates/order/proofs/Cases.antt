-- Every case of the list comes out as documents 01 and 02 say.
use mathlib.Core.Path.{◌≡◌, refl}
use mathlib.Core.List.{map}
use Rattle.pb.specs.Sum.{variable}
use Rattle.order.specs.Cases.{Case, cases}
use Rattle.order.specs.Order.{last_from, lower, before}

pub worked : map (λ (c : Case). before c.line c.other) cases ≡ map (λ (c : Case). c.want) cases
unfolding cases variable last_from lower before
worked = refl
