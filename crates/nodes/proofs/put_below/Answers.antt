-- `nodes::put_below` meets its contract: the low number of a mask and the high one.
use Rattle.std.proofs.Common.{arith, ◌^◌, ◌-◌}
use mathlib.Core.Path.{refl}
use Rattle.std.proofs.lemmas.Grind.{and_numeral}
use Rattle.nodes.proofs.Placing.{two_numbers}
use Rattle.nodes.proofs.put_below.Goals as goal

pub returns : goal.returns
returns c = two_numbers c.args.r.now c.args.below (and_numeral c.args.below (2 ^ 32 - 2) refl) (omega arith)
