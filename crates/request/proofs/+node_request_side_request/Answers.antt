-- `request::node_request` and `request::side_request` meet their contracts.
use Rattle.std.proofs.Common.{◌≡◌, ℕ, ◌∙◌, ◌-◌, ◌≤◌, min, max, refl, sym, ap, arith}
use Rattle.rows.specs.declared.Join.{Join}
use Rattle.rows.proofs.Reading.{row_there}
use Rattle.rows.proofs.Sides.{side_inside}
use Rattle.define.specs.Store.{direction}
use Rattle.define.proofs.Simulates.{sims_full, store_room, represented_to, represented_after}
use Rattle.request.proofs.Asks.{asked_room, asked_row, asked_join, asked_left, asked_right_side, asked_below, left_below, right_below}
use Rattle.request.proofs.Grow.{ask_grows}
use Rattle.request.proofs.Steps.{node_leaf, node_held, node_join, held_asks, join_done, side_none, side_more, side_done, side_leaf}
use Rattle.request.proofs.+node_request_side_request.Goals.{node_request-then-log-at-via-then-log-at, node_request-then-log-at-via-else-log-at+then-is_leaf, node_request-then-log-at-via-else-log-at+else-is_leaf+then-is_held}
use Rattle.request.proofs.+node_request_side_request.Goals as goal

-- ---- a node

pub node_request-returns-then-log-at : goal.node_request-returns-then-log-at
node_request-returns-then-log-at t c = elim c.then-log-at.branch [
  | node_request-then-log-at-via-then-log-at w ↦ sims_full (ask_grows _) w.if-log-at.true
  | node_request-then-log-at-via-else-log-at+then-is_leaf w ↦ node_leaf (direction _) (sym w.is_leaf.ensures ∙ w.if-is_leaf.true)
  | node_request-then-log-at-via-else-log-at+else-is_leaf+then-is_held w ↦
      node_held _ w.if-log-at.false (sym w.is_leaf.ensures ∙ w.if-is_leaf.false) (sym w.is_held.ensures ∙ w.if-is_held.true)
]

pub node_request-join_at-x-requires : goal.node_request-join_at-x-requires
node_request-join_at-x-requires t c = asked_row c.requires.table c.requires.holds (sym c.is_leaf.ensures ∙ c.if-is_leaf.false)

pub node_request-side_request-a-requires : goal.node_request-side_request-a-requires
node_request-side_request-a-requires t c =
    let g = sym c.is_leaf.ensures ∙ c.if-is_leaf.false in
    let i = asked_join c.requires.table c.requires.holds g c.join_at-x.ensures in (
      omega (arith, left_below c.requires.table.bounded i.of, ap (λ (x : Join). x.node) c.join_at-x.ensures),
      represented_to (λ u r y k. asked_left y.bounded (asked_join y k g c.join_at-x.ensures)) c.requires,
    )

pub node_request-side_request-b-requires : goal.node_request-side_request-b-requires
node_request-side_request-b-requires t c =
    let g = sym c.is_leaf.ensures ∙ c.if-is_leaf.false in
    let i = asked_join c.requires.table c.requires.holds g c.join_at-x.ensures in
    let v = represented_to (λ u r y k. asked_join y k g c.join_at-x.ensures) c.requires in (
      omega (arith, right_below c.requires.table.bounded i.of, ap (λ (x : Join). x.node) c.join_at-x.ensures),
      represented_to (λ u r y k. asked_right_side y.bounded k)
          (represented_after (λ u r y k. asked_left y.bounded k) c.side_request-a.ensures v),
    )

pub node_request-write_request-requires : goal.node_request-write_request-requires
node_request-write_request-requires t c =
    let g = sym c.is_leaf.ensures ∙ c.if-is_leaf.false in
    let v = represented_to (λ u r y k. asked_join y k g c.join_at-x.ensures) c.requires in
    represented_after (λ u r y k. asked_right_side y.bounded k) c.side_request-b.ensures
    (represented_after (λ u r y k. asked_left y.bounded k) c.side_request-a.ensures v)

pub node_request-returns : goal.node_request-returns
node_request-returns t c =
    node_join _ c.join_at-x.ensures c.if-log-at.false (sym c.is_leaf.ensures ∙ c.if-is_leaf.false) (sym c.is_held.ensures ∙ c.if-is_held.false)
    (join_done (direction _) c.side_request-a.ensures c.side_request-b.ensures) c.write_request.ensures

-- ---- a side

lowest_is : (v q d low : ℕ) → low ≡ max d 1 → d ≡ v - q → low ≡ max 1 (v - q)
lowest_is v q d low e f = omega (arith, e, f)

high_within : (v p h : ℕ) → h ≡ min v p → h ≤ p
high_within v p h e = omega (arith, e)

pub side_request-is_leaf-requires : goal.side_request-is_leaf-requires
side_request-is_leaf-requires t c =
    let r = row_there c.requires.table _ (side_inside c.requires.table.bounded c.requires.holds.shown.of).0 in
    (r.1, r.0)

pub side_request-returns-then-is_leaf : goal.side_request-returns-then-is_leaf
side_request-returns-then-is_leaf t c = side_leaf (direction _) (rw c.is_leaf.ensures at c.if-is_leaf.true)

pub side_request-loop-i-init : goal.side_request-loop-i-init
side_request-loop-i-init t c = (omega arith, omega arith, refl, refl, (λ z e h. side_none (direction _) _))

pub side_request-overflow_add-side : goal.side_request-overflow_add-side
side_request-overflow_add-side t c =
    let f = side_inside c.requires.table.bounded c.requires.holds.shown.of in
    let short = c.requires.table.bounded.short _ f.0 in
    omega (arith, c.loop-i-test.true, c.min-high.ensures, c.requires.holds.shown.length, f.1, short)

pub side_request-is_held-requires : goal.side_request-is_held-requires
side_request-is_held-requires t c =
    let low : 1 ≤ c.loop-i.i = omega (arith, c.loop-i.invariant.0, c.max-low.ensures) in
    let high : c.loop-i.i ≤ c.args.s.len = omega (arith, c.loop-i-test.true, c.min-high.ensures) in
    asked_room c.requires.table.bounded (asked_below c.requires.table.bounded c.requires.holds _ low high) _
    (omega (arith, store_room c.requires.represents, c.loop-i.invariant.2))

pub side_request-loop-i-preserved-then-is_held : goal.side_request-loop-i-preserved-then-is_held
side_request-loop-i-preserved-then-is_held t c = (
  omega (arith, c.loop-i.invariant.0),
  omega (arith, c.loop-i.invariant.0, c.loop-i-test.true),
  c.loop-i.invariant.2,
  c.loop-i.invariant.3,
  (λ z e h. side_more (direction _) _ _ c.loop-i.invariant.0 (omega (arith, c.max-low.ensures)) (omega (arith, c.loop-i-test.true, h))
      (c.loop-i.invariant.4 z e h) (rw e (held_asks _ (sym c.is_held.ensures ∙ c.if-is_held.true)))),
)

pub side_request-overflow_add-side-in-loop-i : goal.side_request-overflow_add-side-in-loop-i
side_request-overflow_add-side-in-loop-i t c =
    let f = side_inside c.requires.table.bounded c.requires.holds.shown.of in
    let short = c.requires.table.bounded.short _ f.0 in
    omega (arith, c.loop-i-test.true, c.min-high.ensures, c.requires.holds.shown.length, f.1, short)

pub side_request-node_request-p-requires : goal.side_request-node_request-p-requires
side_request-node_request-p-requires t c =
    let low : 1 ≤ c.loop-i.i = omega (arith, c.loop-i.invariant.0, c.max-low.ensures) in
    let high : c.loop-i.i ≤ c.args.s.len = omega (arith, c.loop-i-test.true, c.min-high.ensures) in (
      omega (arith, c.decreases),
      represented_to (λ u r y w. asked_below y.bounded w _ low high)
          (represented_after (λ u r y w. w) (c.loop-i.invariant.4 c.args.s refl (high_within _ _ _ c.min-high.ensures)) c.requires),
    )

pub side_request-loop-i-preserved : goal.side_request-loop-i-preserved
side_request-loop-i-preserved t c = (
  omega (arith, c.loop-i.invariant.0),
  omega (arith, c.loop-i.invariant.0, c.loop-i-test.true),
  c.node_request-p.auto.store ∙ c.loop-i.invariant.2,
  c.node_request-p.auto.log ∙ c.loop-i.invariant.3,
  (λ z e h. side_more (direction _) _ _ c.loop-i.invariant.0 (omega (arith, c.max-low.ensures)) (omega (arith, c.loop-i-test.true, h))
      (c.loop-i.invariant.4 z e h) (rw e c.node_request-p.ensures)),
)

pub side_request-returns : goal.side_request-returns
side_request-returns t c =
    side_done (direction _) _ _ c.loop-i.i (lowest_is _ _ _ _ c.max-low.ensures c.saturating_sub.ensures) c.min-high.ensures
    (omega (arith, c.loop-i.invariant.0, c.loop-i.invariant.1, c.loop-i-test.false)) (c.loop-i.invariant.4 c.args.s refl (high_within _ _ _ c.min-high.ensures))
