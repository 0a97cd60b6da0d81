-- `define::count_clause` meets its contract.
use Rattle.define.specs.Store.{clause_counted}
use Rattle.define.proofs.count_clause.Goals as goal

pub returns : goal.returns
unfolding clause_counted
returns c = rw (c.next_step.ensures, c.next_step-2.ensures)
