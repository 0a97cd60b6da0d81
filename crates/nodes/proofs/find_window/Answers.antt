-- `nodes::find_window` meets its contract: its closure looks among the sides of one node.
use Rattle.std.proofs.Common.{arith, rules}
use Rattle.nodes.proofs.Windows.{found}
use Rattle.nodes.proofs.find_window.Goals as goal

pub returns : goal.returns
returns c = λ t tb e.
    found t c.args.s.node c.args.s.offset c.args.len (λ a r q k. search rules) (λ i r k h. search rules) (omega arith) (omega (arith, e))
    tb.bounded.sized (omega (arith, c.requires.3)) _ c.find_map.ensures.runs
