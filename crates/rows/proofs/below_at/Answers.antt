-- `rows::below_at` meets its contract: two numbers of 32 bits side by side are their sum.
use Rattle.std.proofs.Common.{arith, ◌+◌, ◌^◌}
use mathlib.Core.Path.{refl, ◌∙◌}
use Rattle.std.proofs.lemmas.Grind.{or_before_shift}
use Rattle.rows.proofs.Reading.{below_is}
use Rattle.rows.proofs.below_at.Goals as goal

pub returns : goal.returns
returns c = λ t tb h.
    let at = c.row_at-at.result + 3 in
    or_before_shift _ _ (2 ^ 32) (2 ^ 64) refl (omega (arith, c.type_inv.nodes at)) (omega (arith, c.type_inv.nodes (at + 1)))
    ∙ rw c.row_at-at.ensures (omega (arith, below_is tb _ h))
