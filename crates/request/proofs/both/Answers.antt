-- `request::both` meets its contract: the needs of both, then the clauses of both.
use Rattle.define.specs.Store.{direction}
use Rattle.define.proofs.Simulates.{represented_after}
use Rattle.request.proofs.Steps.{both_done}
use Rattle.request.proofs.both.Goals as goal

pub serve_needs-b-requires : goal.serve_needs-b-requires
serve_needs-b-requires c = represented_after (λ t s l w. w) c.serve_needs-a.ensures c.requires

pub write_request-c-requires : goal.write_request-c-requires
write_request-c-requires c =
    represented_after (λ t s l w. w) c.serve_needs-b.ensures (represented_after (λ t s l w. w) c.serve_needs-a.ensures c.requires)

pub write_request-requires : goal.write_request-requires
write_request-requires c =
    represented_after (λ t s l w. w) c.write_request-c.ensures
    (represented_after (λ t s l w. w) c.serve_needs-b.ensures (represented_after (λ t s l w. w) c.serve_needs-a.ensures c.requires))

pub returns : goal.returns
unfolding direction
returns c = both_done c.serve_needs-a.ensures c.serve_needs-b.ensures c.write_request-c.ensures c.write_request.ensures
