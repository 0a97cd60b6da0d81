-- `replay::play_all`: no more cases are met than played.
use Rattle.std.proofs.Common.{◌≤◌}
use Rattle.replay.proofs.play_all.Given as goal

abbrev pub invariant-loop-case : goal.invariant-loop-case
invariant-loop-case g l = l.met ≤ l.case
