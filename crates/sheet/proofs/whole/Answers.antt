-- `sheet::whole` meets its contract: no sheet is longer than `text`.
use Rattle.std.proofs.Common.{arith}
use Rattle.text.proofs.Laws.{laid_fits}
use Rattle.lines.specs.Sheet.{sheet}
use Rattle.lines.proofs.Size.{sheet_length}
use Rattle.sheet.proofs.whole.Goals as goal

pub returns : goal.returns
returns c =
    let s = c.sheet-n.ensures in
    (laid_fits c.args.text.now (sheet c.args.script.now) (omega (arith, sheet_length c.args.script.now, c.requires)) s.bytes s.count).0
