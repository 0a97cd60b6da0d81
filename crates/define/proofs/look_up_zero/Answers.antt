-- `define::look_up_zero` meets its contract: the log is too short, the sum is stored, or it is written.
use Rattle.std.proofs.Common.{rules, arith}
use mathlib.Core.Path.{refl}
use Rattle.cert.specs.Definitions.{window_zero, pulls}
use Rattle.define.specs.Store.{slot}
use Rattle.define.specs.Represents.{memory}
use Rattle.define.proofs.Codes.{zero_bounds, zero_writes, zero_count}
use Rattle.define.proofs.Looks.{look_up_grows, sims_there, sims_define, sims_new}
use Rattle.define.proofs.Simulates.{sims_full}
use Rattle.define.proofs.Slots.{zero_named}
use Rattle.define.proofs.look_up_zero.Goals.{then-log-at-via-then-log-at, then-log-at-via-else-log-at+then-store-slot-ne0}
use Rattle.define.proofs.look_up_zero.Goals as goal

pub offset_bounds-store-slot : goal.offset_bounds-store-slot
offset_bounds-store-slot c =
    let b = zero_bounds c.requires.represented.4 in
    search rules

pub bounds-store-slot : goal.bounds-store-slot
bounds-store-slot c =
    let b = zero_bounds c.requires.represented.4 in
    search rules

pub returns-then-log-at : goal.returns-then-log-at
unfolding slot
returns-then-log-at c = λ ns n f m. elim c.then-log-at.branch [
  | then-log-at-via-then-log-at w ↦ sims_full {m = memory c.args.store.now c.args.log.now c.args.at} (look_up_grows (window_zero n f m)) w.if-log-at.true
  | then-log-at-via-else-log-at+then-store-slot-ne0 w ↦
      sims_there (window_zero n f m) c.args.slot (memory c.args.store.now c.args.log.now c.args.at) w.if-log-at.false
      (λ t s l x. zero_named l.bounded x.shown) (λ t s l x. x.slot) w.if-store-slot-ne0.true
]

pub store_key-requires : goal.store_key-requires
store_key-requires c =
    let b = zero_bounds c.requires.represented.4 in
    (b.above, b.inside, b.small, omega arith)

pub returns : goal.returns
unfolding slot pulls
returns c =
    let w = rw (c.default.ensures.0, c.default.ensures.1.0, c.default.ensures.1.1) at c.put_sum-end.ensures in
    λ ns n f m.
    let m₀ = memory c.args.store.now c.args.log.now c.args.at in
    let k = window_zero n f m in
    sims_new k c.args.slot m₀ c.if-log-at.false (λ t s l x. zero_named l.bounded x.shown) (λ t s l x. x.slot) refl c.if-store-slot-ne0.false
    (sims_define k c.args.slot m₀ c.if-log-at.false (λ t s l x. zero_named l.bounded x.shown) (λ t s l x. x.slot) 1
    (λ _ t s l x _ _. zero_writes w t _ x) w.onward (λ t s g l x. zero_count n f m t g) c.store_key.ensures)
