use Rattle.std.proofs.Common.{◌≡◌, ℕ, ◌+◌, ◌<◌, List, length, get_or, take, arith}
use mathlib.Core.List.{map, flat_map}
use Rattle.places.specs.Walk.{clause_at}
use Rattle.text.specs.Text.{Page, Prints}
use Rattle.text.proofs.Laws.{after, nothing, get_or_part}
use Rattle.listing.specs.Line.{line}
use Rattle.listing.proofs.Turns.{lines_more, lines_all}
use Rattle.listing.proofs.put_lines.Goals as goal

-- The turn of the place x, which stands at i.
turn : {p q r : Page} (log places : List ℕ) (x i : ℕ) → i < length places → x ≡ get_or places i 0 → Prints p (flat_map line (map (clause_at log) (take i places))) q
    → Prints q (line (clause_at log x)) r → Prints p (flat_map line (map (clause_at log) (take (i + 1) places))) r
turn log places x i h e done one = rw (lines_more log places i h, ← e) (after done one)

pub loop-place-init : goal.loop-place-init
unfolding flat_map
loop-place-init c = (nothing, omega arith)

pub loop-place-preserved : goal.loop-place-preserved
loop-place-preserved c =
    (turn _ _ _ _ (omega arith) (omega (arith, get_or_part)) c.loop-place.invariant.0 c.put_line-end.ensures, c.loop-place.invariant.1)

pub returns : goal.returns
returns c = rw (lines_all c.args.log.now c.args.places.now c.loop-place.place-index (omega arith)) at c.loop-place.invariant.0
