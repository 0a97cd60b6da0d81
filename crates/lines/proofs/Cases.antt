-- Every case of the list comes out as documents 01 and 02 say.
use mathlib.Core.Path.{◌≡◌, refl}
use mathlib.Core.List.{map}
use Rattle.text.specs.Text.{decimal}
use Rattle.player.specs.Player.{played}
use Rattle.lines.specs.Cases.{Case, cases}
use Rattle.order.specs.Order.{last_from, lower, before, insert_all}
use Rattle.lines.specs.Sheet.{sheet_of, sheet}

pub worked : map (λ (c : Case). sheet c.script) cases ≡ map (λ (c : Case). c.want) cases
unfolding cases sheet_of played decimal last_from lower before insert_all
worked = refl
