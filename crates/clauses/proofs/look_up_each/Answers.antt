-- `clauses::look_up_each` meets its contract: the three lookups.
use mathlib.Core.Bool.{not}
use Rattle.define.specs.Store.{direction}
use Rattle.define.proofs.Simulates.{represented_to, represented_after}
use Rattle.clauses.proofs.Joins.{left_in, right_in, this_in}
use Rattle.clauses.proofs.Written.{sims_looks}
use Rattle.clauses.proofs.look_up_each.Goals as goal

pub look_up_side-b-requires : goal.look_up_side-b-requires
look_up_side-b-requires c =
    represented_to (λ t s l k. right_in k) (represented_after (λ t s l k. left_in k) (c.look_up_side-a.ensures (direction (not c.args.k.only_if))) c.requires)

pub look_up_this-requires : goal.look_up_this-requires
look_up_this-requires c =
    let d = direction (not c.args.k.only_if) in
    represented_to (λ t s l k. this_in k l.bounded)
    (represented_after (λ t s l k. right_in k) (c.look_up_side-b.ensures d)
    (represented_after (λ t s l k. left_in k) (c.look_up_side-a.ensures d) c.requires))

pub returns : goal.returns
returns c =
    sims_looks (c.look_up_side-a.ensures (direction (not c.args.k.only_if))) (c.look_up_side-b.ensures (direction (not c.args.k.only_if))) c.look_up_this.ensures
