-- `request::request` meets its contract: one direction, or both.
use Rattle.cert.specs.Definitions.{if, only_if}
use Rattle.cert.specs.State.{requests, directions}
use Rattle.define.specs.Store.{direction}
use Rattle.request.proofs.Steps.{one_done}
use Rattle.request.proofs.request.Goals as goal

pub returns-in-If : goal.returns-in-If
unfolding requests directions direction
returns-in-If c = rw c.in-If.is (one_done if c.node_request.ensures)

pub returns-in-OnlyIf : goal.returns-in-OnlyIf
unfolding requests directions direction
returns-in-OnlyIf c = rw c.in-OnlyIf.is (one_done only_if c.node_request-in-OnlyIf.ensures)

pub returns-in-Both : goal.returns-in-Both
returns-in-Both c = rw c.in-Both.is c.request_both.ensures
