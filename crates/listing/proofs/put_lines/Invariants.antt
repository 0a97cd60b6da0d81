-- `listing::put_lines` meets its contract: after n turns the first n lines are printed, and there are as many turns as places.
use mathlib.Core.Path.{◌≡◌}
use mathlib.Core.List.{map, flat_map}
use lib.ListN.{length, take}
use Rattle.text.specs.Text.{page, Prints}
use Rattle.listing.specs.Line.{line}
use Rattle.places.specs.Walk.{clause_at}
use Rattle.listing.proofs.put_lines.Given as goal

abbrev pub invariant-loop-place : goal.invariant-loop-place
invariant-loop-place l =
    Prints (page l.initial.out l.at) (flat_map line (map (clause_at l.log) (take l.place-index l.places))) (page l.out l.end) × (l.place-index-end ≡ length l.places)
