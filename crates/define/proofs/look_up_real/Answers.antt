-- `define::look_up_real` meets its contract: the log is too short, the key is stored, or its records are written.
use Rattle.std.proofs.Common.{arith}
use mathlib.Core.Path.{refl}
use Prim.Native.Nat.{◌+◌}
use Rattle.sizes.specs.Sizes.{list_column, store_at}
use Rattle.totdb.specs.Nodes.{node_at}
use Rattle.cert.specs.Definitions.{real, pulls}
use Rattle.define.specs.Store.{slot}
use Rattle.define.specs.Represents.{memory}
use Rattle.define.proofs.Codes.{part_short, real_bounds, row_length, real_node, real_writes, real_count}
use Rattle.define.proofs.Looks.{look_up_grows, sims_there, sims_define, sims_new}
use Rattle.define.proofs.Simulates.{sims_full}
use Rattle.define.proofs.Slots.{real_named}
use Rattle.define.proofs.look_up_real.Goals.{then-log-at-via-then-log-at, then-log-at-via-else-log-at+then-store-slot-ne0}
use Rattle.define.proofs.look_up_real.Goals as goal

pub returns-then-log-at : goal.returns-then-log-at
unfolding slot
returns-then-log-at c = elim c.then-log-at.branch [
  | then-log-at-via-then-log-at w ↦ sims_full {m = memory c.args.store.now c.args.log.now c.args.at} (look_up_grows (real c.args.node c.args.value)) w.if-log-at.true
  | then-log-at-via-else-log-at+then-store-slot-ne0 w ↦
      sims_there (real c.args.node c.args.value) (store_at c.args.node + c.args.value) (memory c.args.store.now c.args.log.now c.args.at) w.if-log-at.false
      (λ t s l p. real_named l.bounded p) (λ t s l p. refl) (rw c.store_at.ensures at w.if-store-slot-ne0.true)
]

pub put_real-end-requires : goal.put_real-end-requires
put_real-end-requires c =
    let b = real_bounds c.requires in
    let k = row_length c.args.nodes.now c.args.node c.args.value c.row_at-row.ensures c.number_at-len.ensures.0 in
    record { limits = (part_short (c.row_at-row.result + list_column) c.number_at-len.result c.args.nodes.now (omega (arith, b.short, k)), b.values, rw c.row_at-row.ensures b.low); node_of = (node_at c.requires.nodes c.args.node, real_node c.args.nodes.now c.args.node c.args.value c.row_at-row.ensures c.number_at-len.ensures.0 c.requires.nodes c.requires.table c.requires.holds) }

pub returns : goal.returns
unfolding slot pulls
returns c =
    let k = real c.args.node c.args.value in
    let m = memory c.args.store.now c.args.log.now c.args.at in
    let p = store_at c.args.node + c.args.value in
    let on = (c.put_real-end.ensures (node_at c.requires.nodes c.args.node)
    (real_node c.args.nodes.now c.args.node c.args.value c.row_at-row.ensures c.number_at-len.ensures.0 c.requires.nodes c.requires.table c.requires.holds)).onward in
    sims_new k p m c.if-log-at.false (λ t s l q. real_named l.bounded q) (λ t s l q. refl) refl (rw c.store_at.ensures at c.if-store-slot-ne0.false)
    (sims_define k p m c.if-log-at.false (λ t s l q. real_named l.bounded q) (λ t s l q. refl) c.count_real.result
    (λ _ t s l q _ _. real_writes c.args.nodes.now c.args.node c.args.value c.row_at-row.ensures c.number_at-len.ensures.0 c.put_real-end.ensures t _ l q)
    on
    (λ t s f l q. real_count c.args.nodes.now c.args.node c.args.value c.row_at-row.ensures c.number_at-len.ensures.0 c.count_real.ensures.value t f l q)
    (rw c.store_at.ensures at c.store_key.ensures))
