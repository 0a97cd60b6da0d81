use Rattle.std.proofs.Common.{arith}
use mathlib.Core.Path.{refl, sym, ap, ◌∙◌}
use Prim.Native.Nat.{◌-◌}
use Rattle.std.specs.Prelude.{Ok}
use lib.ListN.{length}
use Rattle.cert.specs.State.{start}
use Rattle.player.proofs.NodeBytes.{took_start}
use Rattle.totlog.proofs.Going.{finished, stopped_reading, end_later, end_inside, room_left, goes_on, stops}
use Rattle.totlog.proofs.play.Goals as goal

pub loop-k-init : goal.loop-k-init
loop-k-init c = (
  c.args.o.inside,
  omega arith,
  refl,
  refl,
  refl,
  λ h p st. record { state = start h; standing = st; fuel = length c.args.o.script.now - c.args.o.from; enough = omega arith; is = refl; took = took_start h c.args.o.from },
)

pub returns-in-Ok-None : goal.returns-in-Ok-None
returns-in-Ok-None c =
    λ h p st. finished c.loop-k.invariant.0 (c.loop-k.invariant.5 h p st) (sym c.in-Ok-None.ensures ∙ ap Ok c.in-Ok-None.field-0-is) _ refl refl refl

pub returns-in-Err : goal.returns-in-Err
returns-in-Err c =
    λ h p st. stopped_reading c.loop-k.invariant.0 (c.loop-k.invariant.5 h p st) _ (sym c.in-Err.ensures) _ refl refl refl

pub command-requires : goal.command-requires
command-requires c =
    let g = c.loop-k.invariant.5 c.requires.begun.head c.requires.begun.capacity c.requires.begun.standing in
    let reads = sym c.in-Ok-Some.ensures ∙ ap Ok c.in-Ok-Some.field-0-is in
    (record { head = c.requires.begun.head; capacity = c.requires.begun.capacity; state = g.state; standing = g.standing; room = room_left c.loop-k.invariant.0 g reads c.requires.rows c.loop-k.invariant.2 c.loop-k.invariant.3 }, unfold start in c.requires.begun.standing.variable)

pub returns-in-Err-command : goal.returns-in-Err-command
returns-in-Err-command c =
    λ h p st.
    let g = c.loop-k.invariant.5 h p st in
    let played = c.command.ensures h p g.state (unfold start in st.variable) g.standing in
    stops c.loop-k.invariant.0 g (sym c.in-Ok-Some.ensures ∙ ap Ok c.in-Ok-Some.field-0-is) played c.in-Err-command.is _ refl refl refl

pub loop-k-smaller : goal.loop-k-smaller
loop-k-smaller c =
    let g = c.loop-k.invariant.5 c.requires.begun.head c.requires.begun.capacity c.requires.begun.standing in
    let reads = sym c.in-Ok-Some.ensures ∙ ap Ok c.in-Ok-Some.field-0-is in
    let later = end_later c.loop-k.invariant.0 g reads in
    let inside = end_inside c.loop-k.invariant.0 g reads in
    omega (arith, later, inside)

pub loop-k-preserved : goal.loop-k-preserved
loop-k-preserved c =
    let known = c.loop-k.invariant.5 c.requires.begun.head c.requires.begun.capacity c.requires.begun.standing in
    let reads = sym c.in-Ok-Some.ensures ∙ ap Ok c.in-Ok-Some.field-0-is in
    let later = end_later c.loop-k.invariant.0 known reads in (
      end_inside c.loop-k.invariant.0 known reads,
      omega (arith, later, c.loop-k.invariant.1),
      c.command.auto.nodes ∙ c.loop-k.invariant.2,
      c.command.auto.store ∙ c.loop-k.invariant.3,
      c.command.auto.log ∙ c.loop-k.invariant.4,
      λ h p st.
          let g = c.loop-k.invariant.5 h p st in
          let played = c.command.ensures h p g.state (unfold start in st.variable) g.standing in
          goes_on c.loop-k.invariant.0 g reads played c.in-Ok.is _ refl _ c.closes-closed.ensures,
    )
