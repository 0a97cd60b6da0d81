-- `nodes::add_join` meets its contract: the join of the plain forms is put (`plain_joinable`).
use Rattle.totdb.specs.Nodes.{joined}
use Rattle.nodes.proofs.Adding.{plain_joinable}
use Rattle.nodes.proofs.add_join.Goals as goal

pub put_join-requires : goal.put_join-requires
put_join-requires c =
    record { room = c.requires.room; joinable = (c.requires.joinable.0, rw (c.plain_form-left.ensures c.requires.joinable.0 c.requires.joinable.1.table c.requires.joinable.1.left, c.plain_form-right.ensures c.requires.joinable.0 c.requires.joinable.1.table c.requires.joinable.1.right) (plain_joinable c.requires.joinable.1)) }

pub returns : goal.returns
unfolding joined
returns c =
    λ t j.
    let e = c.plain_form-left.ensures t j.table j.left in
    let f = c.plain_form-right.ensures t j.table j.right in
    rw (e, f) at c.put_join.ensures t (plain_joinable j)
