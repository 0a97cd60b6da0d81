-- `request::request_both` meets its contract: nothing is written, each direction is asked for by itself, or both at once.
use mathlib.Core.Path.{sym, ◌∙◌}
use Rattle.cert.specs.State.{requests, directions}
use Rattle.define.proofs.Simulates.{sims_full, represented_to}
use Rattle.request.proofs.Asks.{asked_row, asked_join}
use Rattle.request.proofs.Grow.{serve_grows}
use Rattle.request.proofs.Steps.{leaf_serves, single_done, once_done}
use Rattle.request.proofs.request_both.Goals.{then-log-at-via-then-log-at, then-log-at-via-else-log-at+then-is_leaf}
use Rattle.request.proofs.request_both.Goals as goal

pub returns-then-log-at : goal.returns-then-log-at
unfolding requests directions
returns-then-log-at c = elim c.then-log-at.branch [
  | then-log-at-via-then-log-at w ↦ sims_full (serve_grows _) w.if-log-at.true
  | then-log-at-via-else-log-at+then-is_leaf w ↦ leaf_serves (sym w.is_leaf.ensures ∙ w.if-is_leaf.true)
]

pub returns-then-store-held_at-ne0 : goal.returns-then-store-held_at-ne0
unfolding requests directions
returns-then-store-held_at-ne0 c =
    single_done c.if-log-at.false (sym c.is_leaf.ensures ∙ c.if-is_leaf.false) (rw c.held_at.ensures at c.if-store-held_at-ne0.true)
    c.each_direction.ensures

pub join_at-x-requires : goal.join_at-x-requires
join_at-x-requires c = asked_row c.requires.table c.requires.holds (sym c.is_leaf.ensures ∙ c.if-is_leaf.false)

pub both-requires : goal.both-requires
both-requires c =
    represented_to (λ t s l w. asked_join l w (sym c.is_leaf.ensures ∙ c.if-is_leaf.false) c.join_at-x.ensures) c.requires

pub returns : goal.returns
unfolding requests directions
returns c =
    once_done c.join_at-x.ensures c.if-log-at.false (sym c.is_leaf.ensures ∙ c.if-is_leaf.false)
    (rw c.held_at.ensures at c.if-store-held_at-ne0.false) c.both.ensures
