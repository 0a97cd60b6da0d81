-- `splits::is_ready` meets its contract: each `&&` of the code is one of `is_ready`.
use mathlib.Core.Path.{refl, ◌∙◌}
use Rattle.splits.proofs.Ready.{and_then, and_else, ready_value}
use Rattle.splits.proofs.is_ready.Goals.{then-long, else-long, then-has_both, else-has_both, then-fits, else-fits, then-has_first, else-has_first}
use Rattle.splits.proofs.is_ready.Goals as goal

pub returns-then-has_first_of : goal.returns-then-has_first_of
returns-then-has_first_of c =
    ready_value c.args.store.now c.args.length c.args.at c.args.x c.args.k c.args.long
    (elim c.if-long.branch [
      | then-long w ↦ w.value-is ∙ and_then w.if-long.true w.has_both.ensures
      | else-long w ↦ and_else _ w.if-long.false w.value-is
    ])
    (elim c.if-has_both.branch [
      | then-has_both w ↦ w.value-is ∙ and_then w.if-has_both.true w.fits.ensures
      | else-has_both w ↦ and_else _ w.if-has_both.false w.value-is
    ])
    (elim c.if-fits.branch [
      | then-fits w ↦ w.value-is ∙ and_then w.if-fits.true (rw w.store_at.ensures at w.has_first.ensures)
      | else-fits w ↦ and_else _ w.if-fits.false w.value-is
    ])
    (elim c.if-has_first.branch [
      | then-has_first w ↦ w.value-is ∙ and_then w.if-has_first.true w.has_first_of.ensures
      | else-has_first w ↦ and_else _ w.if-has_first.false w.value-is
    ])
    (and_then c.if-has_first_of.true c.has_first_of-then-has_first_of.ensures)

pub returns-else-has_first_of : goal.returns-else-has_first_of
returns-else-has_first_of c =
    ready_value c.args.store.now c.args.length c.args.at c.args.x c.args.k c.args.long
    (elim c.if-long.branch [
      | then-long w ↦ w.value-is ∙ and_then w.if-long.true w.has_both.ensures
      | else-long w ↦ and_else _ w.if-long.false w.value-is
    ])
    (elim c.if-has_both.branch [
      | then-has_both w ↦ w.value-is ∙ and_then w.if-has_both.true w.fits.ensures
      | else-has_both w ↦ and_else _ w.if-has_both.false w.value-is
    ])
    (elim c.if-fits.branch [
      | then-fits w ↦ w.value-is ∙ and_then w.if-fits.true (rw w.store_at.ensures at w.has_first.ensures)
      | else-fits w ↦ and_else _ w.if-fits.false w.value-is
    ])
    (elim c.if-has_first.branch [
      | then-has_first w ↦ w.value-is ∙ and_then w.if-has_first.true w.has_first_of.ensures
      | else-has_first w ↦ and_else _ w.if-has_first.false w.value-is
    ])
    (and_else _ c.if-has_first_of.false refl)
