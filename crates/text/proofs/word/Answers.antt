use Rattle.std.proofs.Common.{◌≡◌, ℕ, ◌+◌, ◌<◌, List, [], ◌∷◌, length, get_or, take, arith, add-one}
use lib.Seq.{take-suc}
use Rattle.text.specs.Text.{Page, Prints}
use Rattle.text.proofs.Laws.{nothing, after, get_or_part}
use Rattle.text.proofs.word.Goals as goal

-- The turn of the byte b, which stands at i.
turn : {p q r : Page} (w : List ℕ) (b i : ℕ) → i < length w → b ≡ get_or w i 0 → Prints p (take i w) q → Prints q (b ∷ []) r → Prints p (take (i + 1) w) r
turn w b i h e done one = rw (add-one, take-suc w i 0 h, ← e) (after done one)

pub loop-b-init : goal.loop-b-init
loop-b-init c = (nothing, omega arith)

pub loop-b-preserved : goal.loop-b-preserved
loop-b-preserved c =
    (turn _ _ _ (omega arith) (omega (arith, get_or_part)) c.loop-b.invariant.0 c.put-end.ensures, c.loop-b.invariant.1)
