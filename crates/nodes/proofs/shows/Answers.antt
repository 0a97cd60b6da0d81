-- `nodes::shows` meets its contract: at each outcome, by which of its tests.
use mathlib.Core.Path.{sym, ◌∙◌}
use mathlib.Core.Bool.{true≢false}
use borrow.Author.Tests.{eq-eqb, ne_eqb}
use Rattle.nodes.proofs.Windows.{shows_read, shows_length}
use Rattle.nodes.proofs.shows.Goals.{then-number_at-s, else-number_at-s}
use Rattle.nodes.proofs.shows.Goals as goal

pub returns-then-number_at-s-2 : goal.returns-then-number_at-s-2
returns-then-number_at-s-2 c = λ t tb w u of. elim c.if-number_at-s.branch [
  | then-number_at-s v ↦
      let node = eq-eqb _ _ (sym c.number_at.ensures.0 ∙ v.if-number_at-s.true) in
      let offset = sym v.value-is ∙ c.if-number_at-s-2.true in
      rw c.number_at-then-number_at-s-2.ensures.0
      (shows_length tb c.args.s.node c.args.s.offset c.args.len of node (rw v.number_at-then-number_at-s.ensures.0 at offset))
  | else-number_at-s v ↦
      absurd (true≢false (sym c.if-number_at-s-2.true ∙ v.value-is ∙ ne_eqb _ _ v.if-number_at-s.false))
]

pub returns-else-number_at-s-2 : goal.returns-else-number_at-s-2
returns-else-number_at-s-2 c = λ t tb w u of. elim c.if-number_at-s.branch [
  | then-number_at-s v ↦
      let node = eq-eqb _ _ (sym c.number_at.ensures.0 ∙ v.if-number_at-s.true) in
      let offset = sym v.value-is ∙ c.if-number_at-s-2.false in
      c.if-number_at-s-2.false
      ∙ rw (node, rw v.number_at-then-number_at-s.ensures.0 at offset) at (shows_read tb c.args.s.node c.args.s.offset c.args.len of)
  | else-number_at-s v ↦
      let node = ne_eqb _ _ (rw c.number_at.ensures.0 at v.if-number_at-s.false) in
      c.if-number_at-s-2.false ∙ rw node at (shows_read tb c.args.s.node c.args.s.offset c.args.len of)
]
