-- `define::look_up_side` meets its contract: nothing, a real definition, or a window.
use mathlib.Core.Path.{sym, ◌∙◌}
use Rattle.define.proofs.SideLooks.{side_bounds, short_looks, plain_in, plain_looks, window_looks}
use Rattle.define.proofs.Simulates.{represented_to}
use Rattle.define.proofs.look_up_side.Goals as goal

pub returns-then-s-le1 : goal.returns-then-s-le1
returns-then-s-le1 c =
    λ d. short_looks c.args.s c.args.a d c.if-s-le1.true

pub key-requires : goal.key-requires
key-requires c = side_bounds c.args.s c.args.a c.requires

pub look_up_real-requires : goal.look_up_real-requires
look_up_real-requires c =
    let p = sym c.is_plain.ensures ∙ c.if-is_plain.true in
    rw c.key.ensures (represented_to (λ t u l i. plain_in c.args.s c.args.a c.if-s-le1.false p t l i) c.requires)

pub returns-then-is_plain : goal.returns-then-is_plain
returns-then-is_plain c =
    let p = sym c.is_plain.ensures ∙ c.if-is_plain.true in
    λ d. plain_looks c.args.s c.args.a c.if-s-le1.false d p (rw c.key.ensures at c.look_up_real.ensures)

pub returns : goal.returns
returns c =
    let p = sym c.is_plain.ensures ∙ c.if-is_plain.false in
    λ d. window_looks c.args.s c.args.a c.if-s-le1.false d p c.look_up_window.ensures
