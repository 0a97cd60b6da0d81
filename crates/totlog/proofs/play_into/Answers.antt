use mathlib.Core.Path.{sym, subst}
use Prim.Native.Nat.{ℕ}
use lib.ListN.{length}
use Rattle.player.specs.Player.{played, Padded}
use Rattle.player.proofs.Plays.{padded}
use Rattle.totlog.proofs.Answered.{used_within, settled}
use Rattle.totlog.proofs.play_into.Goals as goal

pub slice_bounds-clear-count : goal.slice_bounds-clear-count
slice_bounds-clear-count c =
    used_within (subst (λ (n : ℕ). Padded n (played c.args.script.now (length c.args.log.now))) (sym c.play_script-a.auto.log) (padded (length c.args.log.now) c.args.script.now)) c.play_script-a.ensures

pub slice_bounds-clear-start : goal.slice_bounds-clear-start
slice_bounds-clear-start c =
    used_within (subst (λ (n : ℕ). Padded n (played c.args.script.now (length c.args.log.now))) (sym c.play_script-a.auto.log) (padded (length c.args.log.now) c.args.script.now)) c.play_script-a.ensures

pub returns : goal.returns
returns c =
    (c.play_script-a.ensures.answer, settled (subst (λ (n : ℕ). Padded n (played c.args.script.now (length c.args.log.now))) (sym c.play_script-a.auto.log) (padded (length c.args.log.now) c.args.script.now)) c.play_script-a.ensures _ c.clear.ensures)
