-- `answer::pad` meets its contract.
use mathlib.Core.Path.{ap}
use mathlib.Core.List.{◌++◌}
use lib.ListN.{drop}
use Rattle.answer.proofs.Fills.{pad_done}
use Rattle.answer.proofs.pad.Goals as goal

pub returns : goal.returns
returns c = pad_done c.args.dst.now c.args.b.now _ _ c.min-n.result c.min-n.ensures (ap (λ l. l ++ drop c.min-n.result c.args.dst.now) c.copy_from_slice.ensures.after) (c.fill.ensures.after (λ y h. h))
