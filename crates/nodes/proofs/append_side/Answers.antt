-- `nodes::append_side` meets its contract: the part that it copies has the side's literals.
use Rattle.std.proofs.Common.{arith}
use mathlib.Core.Path.{ap, ◌∙◌}
use lib.ListN.{length, length-take, length-drop}
use Rattle.std.proofs.lemmas.Slice.{put_mid-paste}
use Rattle.nodes.proofs.Literals.{count_is, literals_are}
use Rattle.nodes.proofs.append_side.Goals as goal

pub copy_from_slice-requires : goal.copy_from_slice-requires
copy_from_slice-requires c =
    let d = c.requires.sided.1 in
    let is = literals_are d c.row_at-row.ensures c.number_at.ensures.0 c.outputs-outputs.ensures c.is_plain.ensures c.literals-l.ensures in
    simp (length-take, length-drop) (omega (arith, c.requires.room, count_is d, ap length is))

pub returns : goal.returns
returns c =
    λ t d.
    let is = literals_are d c.row_at-row.ensures c.number_at.ensures.0 c.outputs-outputs.ensures c.is_plain.ensures c.literals-l.ensures in
    put_mid-paste _ _ c.args.r.now c.copy_from_slice.new.self _ c.args.s.len (c.copy_from_slice.ensures.after ∙ is) (omega arith) (count_is d)
