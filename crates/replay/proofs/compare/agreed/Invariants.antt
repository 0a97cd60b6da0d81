-- `replay::compare::agreed`: what was passed is as recorded.
use Rattle.std.proofs.Common.{◌≡◌, ℕ, ◌<◌, get_or}
use Rattle.replay.proofs.compare.agreed.Given as goal

abbrev pub invariant-loop-i : goal.invariant-loop-i
invariant-loop-i l = (k : ℕ) → k < l.i → get_or l.log k 0 ≡ get_or l.recorded k 0
