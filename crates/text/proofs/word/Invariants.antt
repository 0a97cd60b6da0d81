-- `text::word` meets its contract: after n turns the first n bytes are written, and there are as many turns as bytes.
use lib.ListN.{length, take}
use mathlib.Core.Path.{◌≡◌}
use Rattle.text.specs.Text.{page, Prints}
use Rattle.text.proofs.word.Given as goal

abbrev pub invariant-loop-b : goal.invariant-loop-b
invariant-loop-b l = Prints (page l.initial.out l.at) (take l.b-index l.w) (page l.out l.end) × (l.b-index-end ≡ length l.w)
