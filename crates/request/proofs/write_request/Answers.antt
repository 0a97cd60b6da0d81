-- `request::write_request` meets its contract: the clauses, then the direction.
use Rattle.request.proofs.Steps.{write_done}
use Rattle.request.proofs.write_request.Goals as goal

pub returns : goal.returns
returns c =
    write_done c.args.x c.args.value c.args.only_if c.hold.ensures c.write_clauses-p.ensures
