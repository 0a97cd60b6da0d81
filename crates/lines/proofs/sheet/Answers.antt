-- `lines::sheet` meets its contract: the script played, then the refusal, or the header and the lines.
use Rattle.std.proofs.Common.{arith}
use Rattle.text.proofs.Laws.{on_front}
use Rattle.lines.proofs.Sheets.{used_within, cut_length, cut_within, refusal_printed, sheet_printed}
use Rattle.lines.proofs.sheet.Goals as goal

pub returns-then-answer-ne0 : goal.returns-then-answer-ne0
returns-then-answer-ne0 c =
    let t = on_front (refusal_printed c.args.script.now c.play_into-answer.ensures.0 c.play_into-answer.ensures.1 c.refusal.ensures c.if-answer-ne0.true) in
    record { count = t.1; bytes = t.0 }

pub slice_bounds-log-end : goal.slice_bounds-log-end
slice_bounds-log-end c = omega (arith, used_within c.args.script.now c.play_into-answer.ensures.0 c.play_into-answer.ensures.1)

pub slice_bounds-all_lines-end : goal.slice_bounds-all_lines-end
slice_bounds-all_lines-end c = cut_length c.args.script.now c.play_into-answer.ensures.0 c.play_into-answer.ensures.1

pub all_lines-requires : goal.all_lines-requires
all_lines-requires c = cut_within c.args.script.now c.play_into-answer.ensures.0 c.play_into-answer.ensures.1

pub returns : goal.returns
returns c =
    let t = on_front (sheet_printed c.args.script.now c.play_into-answer.ensures.0 c.play_into-answer.ensures.1 c.header-end.ensures c.all_lines.ensures c.if-answer-ne0.false) in
    record { count = t.1; bytes = t.0 }
