-- The measures at node n: 2n of a request, 2n + 1 of a side. The loop's invariant: the literals below i are asked for.
use Rattle.std.proofs.Common.{◌≡◌, ◌+◌, ◌-◌, ◌*◌, ◌≤◌, length}
use Rattle.rows.specs.declared.Shown.{Shown}
use Rattle.define.specs.Store.{direction}
use Rattle.define.specs.Represents.{memory}
use Rattle.request.proofs.Steps.{Lower}
use Rattle.request.proofs.+node_request_side_request.Given as goal

abbrev pub decreases-node_request : goal.decreases-node_request
decreases-node_request l = 2 * l.node

abbrev pub decreases-side_request : goal.decreases-side_request
decreases-side_request l = 2 * l.s.side.node + 1

abbrev pub invariant-side_request-loop-i : goal.invariant-side_request-loop-i
invariant-side_request-loop-i l =
    (l.low ≤ l.i) × (l.i ≤ l.low + (l.i-end - l.low)) × (length l.store ≡ length l.initial.store) × (length l.log ≡ length l.initial.log)
    × ((z : Shown) → z.side ≡ l.side → l.high ≤ z.len
    → Lower l.nodes z l.q l.value (direction l.only_if) l.low l.i (memory l.initial.store l.initial.log l.initial.p) (memory l.store l.log l.p))
