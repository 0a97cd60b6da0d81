-- `commands::ask_join` meets its contract: at each refusal, by which of its tests.
use Rattle.std.proofs.Common.{arith}
use mathlib.Core.Path.{sym, ◌∙◌}
use mathlib.Core.Bool.{true, false}
use Rattle.player.proofs.Lengths.{Free, leaf_shared, joins_full}
use Rattle.commands.proofs.Questions.{join_left, join_right, join_left_out, join_right_out, join_fits_both, side_fits_lem}
use Rattle.commands.proofs.ask_join.Goals.{then-count-l-via-then-count-l, then-count-l-via-else-count-l+then-count-r, then-not-fits-via-then-not-fits, then-not-fits-via-else-not-fits+then-not-fits-2}
use Rattle.commands.proofs.ask_join.Goals as goal

pub returns-then-count-l : goal.returns-then-count-l
returns-then-count-l c = λ h t r e k. elim c.then-count-l.branch [
  | then-count-l-via-then-count-l w ↦ sym (join_left h t c.args.l c.args.r (omega (arith, w.if-count-l.true, e)))
  | then-count-l-via-else-count-l+then-count-r w ↦ sym (join_right h t c.args.l c.args.r (omega (arith, w.if-count-l.false, e)) (omega (arith, w.if-count-r.true, e)))
]

pub returns-then-share_leaf : goal.returns-then-share_leaf
returns-then-share_leaf c = λ h t r e k.
    sym (leaf_shared h t c.args.l c.args.r (omega arith) (omega arith)
    (sym (c.share_leaf.ensures t r (omega arith) (omega arith)) ∙ c.if-share_leaf.true))

pub returns-then-joins-ge-MOST_JOINS : goal.returns-then-joins-ge-MOST_JOINS
returns-then-joins-ge-MOST_JOINS c = λ h t r e k.
    sym (joins_full h t c.args.l c.args.r (omega arith) (omega arith)
    (sym (c.share_leaf.ensures t r (omega arith) (omega arith)) ∙ c.if-share_leaf.false) (omega (arith, k, c.if-joins-ge-MOST_JOINS.true)))

pub returns-then-not-fits : goal.returns-then-not-fits
returns-then-not-fits c = λ h t r e k.
    let free : Free t c.args.l c.args.r = record {
      left = omega arith;
      right = omega arith;
      apart = sym (c.share_leaf.ensures t r (omega arith) (omega arith)) ∙ c.if-share_leaf.false;
      few = omega (arith, k, c.if-joins-ge-MOST_JOINS.false);
    } in
    elim c.then-not-fits.branch [
      | then-not-fits-via-then-not-fits w ↦
          sym (join_left_out h t c.args.l c.args.r free
          (side_fits_lem t c.args.l c.len.result (c.len.ensures t r free.left) false (sym c.fits.ensures ∙ w.if-not-fits.true)))
      | then-not-fits-via-else-not-fits+then-not-fits-2 w ↦
          sym (join_right_out h t c.args.l c.args.r free
          (side_fits_lem t c.args.l c.len.result (c.len.ensures t r free.left) true (sym c.fits.ensures ∙ w.if-not-fits.false))
          (side_fits_lem t c.args.r w.len-else-not-fits.result (w.len-else-not-fits.ensures t r free.right) false
          (sym w.fits-else-not-fits.ensures ∙ w.if-not-fits-2.true)))
    ]

pub returns : goal.returns
returns c = λ h t r e k.
    let free : Free t c.args.l c.args.r = record {
      left = omega arith;
      right = omega arith;
      apart = sym (c.share_leaf.ensures t r (omega arith) (omega arith)) ∙ c.if-share_leaf.false;
      few = omega (arith, k, c.if-joins-ge-MOST_JOINS.false);
    } in
    sym (join_fits_both h t c.args.l c.args.r free
    (side_fits_lem t c.args.l c.len.result (c.len.ensures t r free.left) true (sym c.fits.ensures ∙ c.if-not-fits.false))
    (side_fits_lem t c.args.r c.len-else-not-fits.result (c.len-else-not-fits.ensures t r free.right) true
    (sym c.fits-else-not-fits.ensures ∙ c.if-not-fits-2.false)))
