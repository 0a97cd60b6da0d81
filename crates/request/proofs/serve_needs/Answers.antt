-- `request::serve_needs` meets its contract: the left side, then the right.
use Rattle.define.specs.Store.{direction}
use Rattle.define.proofs.Simulates.{represented_to, represented_after}
use Rattle.request.proofs.Asks.{asked_left, asked_right_side}
use Rattle.request.proofs.Steps.{join_done}
use Rattle.request.proofs.serve_needs.Goals as goal

pub side_request-a-requires : goal.side_request-a-requires
side_request-a-requires c = represented_to (λ t s l w. asked_left l.bounded w) c.requires

pub side_request-requires : goal.side_request-requires
side_request-requires c =
    represented_to (λ t s l w. asked_right_side l.bounded w)
    (represented_after (λ t s l w. asked_left l.bounded w) c.side_request-a.ensures c.requires)

pub returns : goal.returns
returns c = join_done (direction _) c.side_request-a.ensures c.side_request.ensures
