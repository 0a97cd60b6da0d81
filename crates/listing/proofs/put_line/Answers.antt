-- `listing::put_line` meets its contract: no literal, or a first one and others.
use mathlib.Core.Path.{sym, ◌∙◌}
use Rattle.text.proofs.Laws.{after}
use Rattle.places.specs.Walk.{numbers_left}
use Rattle.listing.proofs.Turns.{line_none, line_some}
use Rattle.listing.proofs.put_line.Goals as goal

pub returns-in_default : goal.returns-in_default
returns-in_default c = rw (line_none (sym c.literals-literals.ensures ∙ c.in_default.ensures.steps.0)) c.put.ensures

pub returns : goal.returns
returns c =
    rw (line_some c.in-Some.first (numbers_left c.next.new.self) (sym c.literals-literals.ensures ∙ c.in-Some.ensures.steps))
    (after c.decimal-after_first.ensures (after c.all_spaced-after_all.ensures c.put-2.ensures))
