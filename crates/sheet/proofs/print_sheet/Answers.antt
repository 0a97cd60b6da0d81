-- `sheet::print_sheet` meets its contract: what was written is the sheet of what was kept, and so of all that was read.
use Rattle.std.proofs.Common.{◌≡◌, ◌+◌, take, [], ◌++◌, IfSome, ℕ, List, Option, Some, None, subst, ap, ◌∙◌}
use Rattle.std.proofs.lemmas.Result.{on_ok_weaker}
use Rattle.std.specs.Io.KnownBytes.{Appends}
use Rattle.sizes.specs.Sizes.{most_bytes}
use Rattle.lines.specs.Sheet.{sheet}
use Rattle.sheet.proofs.Kept.{sheet-take}
use Rattle.sheet.proofs.print_sheet.Goals as goal

printed : (known old new : Option (List ℕ)) (before kept text : List ℕ) → before ≡ [] → IfSome known (λ script. kept ≡ before ++ take (most_bytes + 1) script) → text ≡ sheet kept
    → Appends old new text → IfSome known (λ script. Appends old new (sheet script))
printed None old new before kept text empty k e a = k
printed (Some script) old new before kept text empty k e a =
    subst (Appends old new) (e ∙ ap sheet (k ∙ ap (λ b. b ++ take (most_bytes + 1) script) empty) ∙ sheet-take script) a

pub returns-clause-sheet : goal.returns-clause-sheet
returns-clause-sheet g c =
    let text = c.whole-sheet.ensures ∙ ap sheet c.deref.ensures.value in
    on_ok_weaker c.write_all.result
    (printed (g.R.Read.remaining c.args.input.now) (g.W.Write.contents c.args.output.now) _ c.new-script.result.items c.read_script.new.to.items _
    c.new-script.ensures.items c.in_ok-read_script.ensures.script text) c.write_all.ensures.bytes
