-- `clauses::write_clause` meets its contract: the lookups, then the clause.
use Rattle.define.proofs.Simulates.{represented_after}
use Rattle.clauses.proofs.Written.{sims_clause}
use Rattle.clauses.proofs.write_clause.Goals as goal

pub put_clause-end-requires : goal.put_clause-end-requires
put_clause-end-requires c =
    (c.before.args.nodes.now, represented_after (λ t s l k. k) c.look_up-found.ensures c.before.requires)

pub returns : goal.returns
returns c =
    rw c.count_clause.ensures (sims_clause c.look_up-found.ensures (c.put_clause-end.ensures c.before.args.nodes.now))
