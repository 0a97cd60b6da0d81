-- `totlog::play_from` meets its contract: the play begins with the first step in the store.
use Rattle.std.proofs.Common.{arith}
use mathlib.Core.Path.{refl}
use Rattle.totlog.proofs.Answered.{finished_step, finished_at, finished_nodes, finished_tells}
use Rattle.totlog.proofs.Begin.{rows_begun, standing_begin}
use Rattle.totlog.proofs.play_from.Goals as goal

pub play-r-requires : goal.play-r-requires
play-r-requires c =
    record { rows = rows_begun c.args.o c.requires.small c.requires.rows.0 c.requires.rows.1 _; begun = record { head = c.args.o.head; capacity = _; standing = standing_begin c.args.o c.requires.small c.requires.rows.0 c.requires.rows.1 c.args.log.now refl } }

pub answer_to-requires : goal.answer_to-requires
answer_to-requires c =
    let f = c.play-r.ensures c.args.o.head _ (standing_begin c.args.o c.requires.small c.requires.rows.0 c.requires.rows.1 c.args.log.now refl) in
    let at = finished_at f in
    (finished_step f, omega (arith, at, c.requires.small), finished_nodes f)

pub returns : goal.returns
returns c =
    let f = c.play-r.ensures c.args.o.head _ (standing_begin c.args.o c.requires.small c.requires.rows.0 c.requires.rows.1 c.args.log.now refl) in
    finished_tells f _ c.answer_to.ensures
