-- `nodes::leaf_row` meets its contract: the mask of the leaf alone.
use Rattle.std.proofs.Common.{arith, ◌^◌, ◌-◌}
use mathlib.Core.Path.{refl}
use Rattle.std.proofs.lemmas.Grind.{one_shifted}
use Rattle.nodes.proofs.Placing.{leaf_made}
use Rattle.nodes.proofs.leaf_row.Goals as goal

pub returns : goal.returns
returns c = leaf_made c.args.literal c.args.k (omega (arith, (one_shifted c.args.k (2 ^ 64 - 1) refl (omega arith)).0)) c.put_below.ensures
