-- `nodes::put_row` meets its contract.
use Rattle.std.proofs.Common.{arith}
use mathlib.Core.Path.{◌∙◌}
use Rattle.std.proofs.lemmas.Slice.{put_mid-paste}
use Rattle.sizes.specs.Sizes.{row}
use Rattle.nodes.proofs.put_row.Goals as goal

pub returns : goal.returns
returns c =
    put_mid-paste _ _ c.args.nodes.now c.copy_from_slice.new.self c.args.r.now row c.copy_from_slice.ensures.after (omega arith) (omega arith) ∙ rw c.row_at-at.ensures
