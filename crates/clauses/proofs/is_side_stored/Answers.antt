-- `clauses::is_side_stored` meets its contract: by the length of the side and its form.
use Rattle.std.proofs.Common.{arith}
use mathlib.Core.Path.{sym, ◌∙◌}
use Rattle.clauses.proofs.Joins.{keyed_low}
use Rattle.clauses.proofs.Stored.{short_stored, long_stored, plain_first, plain_second}
use Rattle.clauses.proofs.is_side_stored.Goals as goal

pub returns-then-s-le1 : goal.returns-then-s-le1
returns-then-s-le1 c =
    short_stored c.args.store.now c.args.s c.args.a c.if-s-le1.true

pub overflow_add-store_at : goal.overflow_add-store_at
overflow_add-store_at c =
    let low = keyed_low c.requires.reach (sym c.is_plain.ensures ∙ c.if-is_plain.true) in
    omega (arith, c.requires.row, c.key.ensures, c.store_at.ensures, low)

pub has_first-requires : goal.has_first-requires
has_first-requires c =
    let low = keyed_low c.requires.reach (sym c.is_plain.ensures ∙ c.if-is_plain.true) in
    omega (arith, c.requires.row, c.key.ensures, c.store_at.ensures, low)

pub returns-then-is_plain : goal.returns-then-is_plain
returns-then-is_plain c =
    (rw (c.key.ensures, c.store_at.ensures) at c.has_first.ensures)
    ∙ long_stored c.args.store.now c.args.s c.args.a c.if-s-le1.false
    (plain_first c.args.s.side.offset c.args.s.side.limit _ _ (sym c.is_plain.ensures ∙ c.if-is_plain.true))

pub returns : goal.returns
returns c =
    c.has_first-2.ensures
    ∙ long_stored c.args.store.now c.args.s c.args.a c.if-s-le1.false
    (plain_second c.args.s.side.offset c.args.s.side.limit _ _ (sym c.is_plain.ensures ∙ c.if-is_plain.false))
