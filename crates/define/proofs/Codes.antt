-- What the code of a lookup is handed, and what it hands to the writers.
use mathlib.Core.Path.{◌≡◌, refl, sym, ap, ◌∙◌}
use mathlib.Core.Bool.{false}
use mathlib.Core.List.{List, [], ◌∷◌, ◌++◌, map, flat_map, map-append}
use Prim.Native.Nat.{ℕ, ◌+◌, ◌-◌, ◌*◌, ◌^◌, ◌≤◌, ◌<◌}
use native.Mathlib.Omega.{arith}
use lib.ListN.{length, get_or, take, drop, length-take}
use Rattle.sizes.specs.Sizes.{most_nodes, width, row, row_at, first_column, list_column, first_at, store_start, store_row, store_at}
use Rattle.pb.specs.Sum.{neg, units, keep}
use Rattle.memo.specs.Visit.{each}
use Rattle.memo.proofs.Unrolled.{each_append}
use Rattle.record.specs.Record.{Record, numbers, steps, sum}
use Rattle.record.specs.Writing.{Buffer, Puts, signed}
use Rattle.totdb.specs.Nodes.{Node, node_at, len, outputs, range}
use Rattle.totdb.proofs.Listed.{length_range}
use Rattle.cert.specs.Definitions.{Key, real, real_records, window_zero, window, key_records, at_least_zero, window_if, window_only_if, window_reals}
use Rattle.cert.specs.State.{State, look_up}
use Rattle.cert.proofs.Counts.{steps_append}
use Rattle.cert.proofs.WindowDerivations.{range_append}
use Rattle.rows.specs.Rows.{Table}
use Rattle.rows.proofs.Reading.{row_there, len_is, first_is, list_is, from_first_lem}
use Rattle.define.specs.Store.{WindowOf, slot}
use Rattle.define.specs.Represents.{Memory, Represented, Simulates}
use Rattle.define.specs.Lookups.{NodeOf, RealOf, WindowIn}
use Rattle.define.proofs.Reals.{at_least_zero_lem}
use Rattle.define.proofs.Simulates.{sims_none, sims_then, sims_under, sims_same, represented_to, store_room}
use Rattle.define.proofs.Slots.{window_inside, slot_inside, zero_named}

-- ---- real definitions

pub record RealBounds (ns store : List ℕ) (n v : ℕ) : Type 0 where
  pub nodes : n < most_nodes
  pub there : row_at n + row ≤ length ns
  pub short : get_or ns (row_at n) 0 ≤ width
  pub values : v ≤ width + 1
  pub room : store_at n + store_row ≤ length store
  pub low : get_or ns (first_at n) 0 ≤ 2 ^ 30

pub real_bounds : {ns : List ℕ} {n v : ℕ} {m : Memory} → Represented ns (λ t s. RealOf t n v) m → RealBounds ns m.store n v
real_bounds {n = n} h =
    let r = h.holds in
    let b = row_there h.table n r.there in
    let k = len_is h.table n r.there in
    record {
      nodes = b.1;
      there = b.0;
      short = omega (arith, b.2, k);
      values = omega (arith, b.2, r.value);
      room = omega (arith, r.there, store_room h.represents);
      low = rw (first_is h.table n r.there) (h.table.bounded.low n 1 r.there (omega arith) (omega (arith, r.long)));
    }

-- By the place r of the node's row, and the length k that stands there.
module _ (ns : List ℕ) (n v : ℕ) {r k : ℕ} (re : r ≡ row_at n) (ke : k ≡ get_or ns r 0) where
  pub row_length : k ≡ get_or ns (row_at n) 0
  row_length = rw re at ke

  pub real_node : (t : List Node) → Table ns t → RealOf t n v
      → NodeOf (take (r + list_column + k - (r + list_column)) (drop (r + list_column) ns)) (get_or ns (r + first_column) 0) (node_at t n)
  real_node t l x =
      let q : row_at n + list_column + k - (row_at n + list_column) ≡ len (node_at t n) = omega (arith, row_length, len_is l n x.there) in
      record {
        leaf_list = rw (re, q) (sym (list_is l n x.there));
        outputs = λ i a b. rw (re, first_is l n x.there) (from_first_lem (node_at t n) i a b);
      }

  pub real_writes : {b d : Buffer}
      → ((x : Node) → NodeOf (take (r + list_column + k - (r + list_column)) (drop (r + list_column) ns)) (get_or ns (r + first_column) 0) x → Puts b (flat_map numbers (real_records x v)) d)
      → (t : List Node) (f : Key → ℕ → ℕ) → Table ns t → RealOf t n v → Puts b (flat_map numbers (key_records f t (real n v))) d
  unfolding key_records
  real_writes w t f l x = w (node_at t n) (real_node t l x)

  pub real_count : {i : ℕ} → ((x : Node) → len x ≡ k → i ≡ steps (real_records x v))
      → (t : List Node) (f : Key → ℕ → ℕ) → Table ns t → RealOf t n v → i ≡ steps (key_records f t (real n v))
  unfolding key_records
  real_count w t f l x = w (node_at t n) (sym (row_length ∙ len_is l n x.there))

pub part_short : (a k : ℕ) (l : List ℕ) → k ≤ width → length (take (a + k - a) (drop a l)) ≤ width
part_short a k l h = rw (length-take (a + k - a) (drop a l)) (omega arith)

-- ---- the sum of value 0 of a window

pub record SlotBounds (store : List ℕ) (p : ℕ) : Type 0 where
  pub above : store_start ≤ p
  pub inside : p < length store
  pub small : p < 4294967296

pub zero_bounds : {ns os : List ℕ} {p n f m : ℕ} {k : Memory} → Represented ns (λ t s. WindowIn t os p n f m) k → SlotBounds k.store p
unfolding slot
zero_bounds h =
    let b = h.table.bounded in
    let w = h.holds.shown in
    let i = slot_inside b (window_zero _ _ _) (zero_named b w).used in
    let e = h.holds.slot in
    record { above = omega (arith, e, i.0); inside = omega (arith, e, i.1, store_room h.represents); small = omega (arith, e, i.2) }

pub zero_writes : {os : List ℕ} {p n f m : ℕ} {b d : Buffer}
    → Puts b (numbers (sum 0 (units (signed false os) ++ keep 0 0 []) 0)) d
    → (t : List Node) (g : Key → ℕ → ℕ) → WindowIn t os p n f m → Puts b (flat_map numbers (key_records g t (window_zero n f m))) d
unfolding key_records signed
zero_writes {n = n} {f = f} {m = m} w t g u = rw (← at_least_zero_lem (outputs (node_at t n) f m), ← u.list) w

pub zero_count : (n f m : ℕ) (t : List Node) (g : Key → ℕ → ℕ) → 1 ≡ steps (key_records g t (window_zero n f m))
unfolding key_records steps at_least_zero
zero_count n f m t g = refl

-- ---- the rest of a window

windows_steps : (f : Key → ℕ → ℕ) (n : ℕ) (x : Node) (o m : ℕ) (vs : List ℕ)
    → steps (flat_map {B = Record} (λ (v : ℕ). window_if f n x o m v ∷ window_only_if f n x o m v ∷ []) vs) ≡ 2 * length vs
unfolding steps flat_map window_if window_only_if
windows_steps f n x o m [] = refl
windows_steps f n x o m (v ∷ vs) = omega (arith, windows_steps f n x o m vs)

pub window_count : (n f m : ℕ) (t : List Node) (g : Key → ℕ → ℕ) → 2 * m + 1 ≡ steps (key_records g t (window n f m))
unfolding key_records
window_count n f m t g =
    simp steps_append (omega (arith, windows_steps g n (node_at t n) f m (range (f + 1) m), length_range (f + 1) m, one))
  where
    one : steps (at_least_zero (map neg (outputs (node_at t n) f m)) ∷ []) ≡ 1
    one = unfold steps at_least_zero in refl

-- ---- the real definitions of a window, one after the other

reals_snoc : (n f i : ℕ) (t : List Node) (s : State)
    → each (look_up t) (window_reals n f (i + 1)) s ≡ look_up t (real n (f + i + 1)) (each (look_up t) (window_reals n f i) s)
unfolding each range
reals_snoc n f i t s =
    let e : f + (1 + i) ≡ f + i + 1 = omega arith in
    let g : ℕ → Key = λ j. real n (f + j) in
    ap (λ (l : List ℕ). each (look_up t) (map g l) s) (range_append 1 i 1)
    ∙ ap (λ (l : List Key). each (look_up t) l s) (map-append g (range 1 i) (range (1 + i) 1))
    ∙ each_append (look_up t) (map g (range 1 i)) (map g (range (1 + i) 1)) s
    ∙ rw e

module _ {ns : List ℕ} {n f m i : ℕ} (h : i < m) where
  real_in : (t : List Node) (s : State) → Table ns t → WindowOf t n f m → RealOf t n (f + i + 1)
  real_in t s l w =
      let b = window_inside l.bounded w in
      record { there = b.0; long = omega (arith, b.1, b.2); value = omega (arith, b.1) }

  pub real_represented : {p : Memory} → Represented ns (λ t s. WindowOf t n f m) p → Represented ns (λ t s. RealOf t n (f + i + 1)) p
  real_represented s = represented_to real_in s

  pub reals_more : {p a b : Memory} → Simulates ns (λ t s. WindowOf t n f m) (λ t s. each (look_up t) (window_reals n f i) s) p a
      → Simulates ns (λ t s. RealOf t n (f + i + 1)) (λ t s. look_up t (real n (f + i + 1)) s) a b
      → Simulates ns (λ t s. WindowOf t n f m) (λ t s. each (look_up t) (window_reals n f (i + 1)) s) p b
  reals_more x y = sims_same (λ t s l w. sym (reals_snoc n f i t s)) (sims_then x (sims_under real_in y))

pub reals_none : {ns : List ℕ} {P : List Node → State → Type 0} (n f : ℕ) {p : Memory} → Simulates ns P (λ t s. each (look_up t) (window_reals n f 0) s) p p
unfolding each range
reals_none n f = sims_none
