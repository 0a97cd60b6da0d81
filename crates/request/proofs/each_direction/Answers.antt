-- `request::each_direction` meets its contract: if, then only-if.
use Rattle.define.specs.Store.{direction}
use Rattle.define.proofs.Simulates.{represented_after, sims_then}
use Rattle.request.proofs.each_direction.Goals as goal

pub node_request-requires : goal.node_request-requires
node_request-requires c = represented_after (λ t s l w. w) c.node_request-a.ensures c.requires

pub returns : goal.returns
unfolding direction
returns c = sims_then c.node_request-a.ensures c.node_request.ensures
