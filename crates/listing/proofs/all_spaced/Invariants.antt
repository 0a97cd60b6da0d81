-- `listing::all_spaced` meets its contract: what prints the numbers that are left completes the whole.
use mathlib.Core.List.{flat_map}
use Rattle.text.specs.Text.{Page, page, Prints, spaced}
use Rattle.places.specs.Walk.{numbers_left}
use Rattle.listing.proofs.all_spaced.Given as goal

abbrev pub invariant-loop-x : goal.invariant-loop-x
invariant-loop-x l =
    (q : Page) → Prints (page l.out l.end) (flat_map spaced (numbers_left l.x-iterator)) q
    → Prints (page l.initial.out l.at) (flat_map spaced (numbers_left l.fn.numbers)) q
