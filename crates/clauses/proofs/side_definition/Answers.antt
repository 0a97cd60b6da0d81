-- `clauses::side_definition` meets its contract: by the length of the side and its form.
use mathlib.Core.Path.{sym, ap, ◌∙◌}
use Prim.Native.Nat.{ℕ}
use Rattle.cert.specs.Definitions.{one_def}
use Rattle.cert.specs.State.{step_in}
use Rattle.derivation.specs.Operands.{operand}
use Rattle.clauses.proofs.Joins.{one_operand, plain_operand, window_operand, keyed_low, keyed_in}
use Rattle.clauses.proofs.side_definition.Goals as goal

pub returns-then-s-le1 : goal.returns-then-s-le1
returns-then-s-le1 c =
    λ t es r.
    c.one_definition.ensures (step_in es)
    ∙ ap (operand (step_in es)) (ap (λ (o : ℕ). one_def o c.args.a) c.literal.ensures ∙ one_operand r.bounded r.side _ c.if-s-le1.true)

pub real_definition-requires : goal.real_definition-requires
real_definition-requires c =
    (c.requires.side_room.reach.node, c.requires.side_room.row, rw c.key.ensures (keyed_low c.requires.side_room.reach (sym c.is_plain.ensures ∙ c.if-is_plain.true)))

pub returns-then-is_plain : goal.returns-then-is_plain
returns-then-is_plain c = λ t es r.
    (rw c.key.ensures at c.real_definition.ensures)
    ∙ plain_operand r.bounded r.side r.firsts_of _ c.if-s-le1.false (sym c.is_plain.ensures ∙ c.if-is_plain.true)

pub window_definition-requires : goal.window_definition-requires
window_definition-requires c =
    let k = keyed_in c.requires.side_room.reach in
    let p = sym c.is_plain.ensures ∙ c.if-is_plain.false in
    rw c.key-2.ensures (c.requires.side_room.window p, k.0, k.1, c.requires.side_room.reach.offset)

pub returns : goal.returns
returns c = λ t es r.
    (rw c.key-2.ensures at c.window_definition.ensures)
    ∙ window_operand r.bounded r.side r.firsts_of _ c.if-s-le1.false (sym c.is_plain.ensures ∙ c.if-is_plain.false)
