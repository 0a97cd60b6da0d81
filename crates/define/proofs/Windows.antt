-- The window of a side, as the table has it: its outputs in a row, its place in the store, and what its records are written from.
use mathlib.Core.Path.{◌≡◌, refl, sym, ap, ◌∙◌}
use mathlib.Core.List.{List, ◌∷◌, map}
use Prim.Native.Nat.{ℕ, zero, suc, ◌+◌, ◌-◌, ◌^◌, ◌≤◌, ◌<◌}
use native.Mathlib.Omega.{arith}
use lib.ListN.{length, get_or, take, drop, replicate, get_or-append}
use lib.Seq.{get_or-take, get_or-drop, drop-append-le, take-append-le}
use lib.ListN.{length-take, length-drop}
use Rattle.sizes.specs.Sizes.{most_nodes, width, store_row, store_start, store_at, left_window_column}
use Rattle.totdb.specs.Nodes.{Node, node_at, len, output, outputs, output_row, from_first, range}
use Rattle.totdb.proofs.Listed.{listed_length, row_length, part_range}
use Rattle.cert.specs.Definitions.{real, window_zero, window}
use Rattle.cert.specs.State.{State, from_in, step_in}
use Rattle.rows.specs.Rows.{Bounded}
use Rattle.rows.specs.declared.Shown.{Shown}
use Rattle.rows.proofs.Reading.{from_first_lem}
use Rattle.rows.proofs.Sides.{side_inside, side_shows}
use Rattle.window.specs.Window.{Handed, Bounds}
use Rattle.define.specs.Store.{WindowOf, Used, slot}
use Rattle.define.specs.Represents.{Memory, Exact, Represents, exact}
use Rattle.define.specs.Lookups.{WindowIn, SideWindowWith, SideWindow, Several}
use Rattle.define.proofs.Defines.{few_steps, step_after_lem}
use Rattle.define.proofs.Simulates.{store_room}
use Rattle.define.proofs.Slots.{zero_named, window_named, slot_inside}

-- ---- values of a range

get_d_range : (g : ℕ → ℕ) (s n i : ℕ) → i < n → get_or (map g (range s n)) i 0 ≡ g (s + i)
unfolding range
get_d_range g s zero i h = absurd (omega arith)
get_d_range g s (suc n) zero h = let e : s + 0 ≡ s = omega arith in rw e
get_d_range g s (suc n) (suc i) h = let e : suc s + i ≡ s + suc i = omega arith in get_d_range g (suc s) n i (omega arith) ∙ ap g e

same_range : (g h : ℕ → ℕ) (s n : ℕ) → ((v : ℕ) → s ≤ v → v < s + n → g v ≡ h v) → map g (range s n) ≡ map h (range s n)
unfolding range
same_range g h s zero k = refl
same_range g h s (suc n) k =
    rw (k s (omega arith) (omega arith)) (ap (λ (l : List ℕ). h s ∷ l) (same_range g h (suc s) n (λ v a b. k v (omega arith) (omega arith))))

-- ---- the outputs of a window, in the row of its node's

module _ (first f m : ℕ) where
  output_at : (v : ℕ) → 1 ≤ v → v ≤ f + m → get_or (output_row first (f + m)) (v - 1) 0 ≡ from_first first v
  unfolding output_row
  output_at v a b =
      let d : 1 + (v - 1) ≡ v = omega arith in
      get_or-append (map (from_first first) (range 1 (f + m))) (replicate (width - (f + m)) 0) 0 (v - 1) (omega (arith, listed_length first (f + m)))
      ∙ get_d_range (from_first first) 1 (f + m) (v - 1) (omega arith) ∙ ap (from_first first) d

  outputs_at : take m (drop f (output_row first (f + m))) ≡ map (from_first first) (range (f + 1) m)
  unfolding output_row
  outputs_at =
      let xs : List ℕ = map (from_first first) (range 1 (f + m)) in
      let long : length xs ≡ f + m = listed_length first (f + m) in
      let e : 1 + f ≡ f + 1 = omega arith in
      ap (take m) (drop-append-le f xs (replicate (width - (f + m)) 0) (omega (arith, long)))
      ∙ take-append-le m (drop f xs) (replicate (width - (f + m)) 0) (omega (arith, long, length-drop f xs))
      ∙ part_range (from_first first) 1 (f + m) f m (omega arith)
      ∙ ap (λ (a : ℕ). map (from_first first) (range a m)) e

module _ {t : List Node} (b : Bounded t) (s : Shown) (w : SideWindow t s) where
  pub window_of : WindowOf t s.side.node s.side.offset s.len
  window_of = record { slot = w.shown.slot; shown = rw w.shown.length (side_shows w.shown.of); long = w.long }

  pub window_fits : (s.side.node < length t) × (s.side.offset + s.len ≤ len (node_at t s.side.node))
  window_fits =
      let i = side_inside b w.shown.of in
      (i.0, rw w.shown.length i.1)

  pub window_slots : (slot t (window_zero s.side.node s.side.offset s.len) ≡ s.window)
      × (slot t (window s.side.node s.side.offset s.len) ≡ s.window + 1)
  unfolding slot
  window_slots = let e = sym (rw (← w.shown.length) at (w.shown.window w.window)) in (e, rw e)

  first_low : s.first ≤ 2 ^ 30
  first_low =
      let i = window_fits in
      rw w.shown.first (b.low s.side.node 1 i.0 (omega arith) (omega (arith, i.1, w.long)))

  -- Its outputs are those of its node.
  same_output : (v : ℕ) → 1 ≤ v → v ≤ s.side.offset + s.len → output (node_at t s.side.node) v ≡ from_first s.first v
  same_output v a h =
      from_first_lem (node_at t s.side.node) v a (omega (arith, window_fits.1)) ∙ ap (λ (l : ℕ). from_first l v) (sym w.shown.first)

  pub window_list : take s.len (drop s.side.offset (output_row s.first (s.side.offset + s.len)))
      ≡ outputs (node_at t s.side.node) s.side.offset s.len
  unfolding outputs
  window_list =
      outputs_at s.first s.side.offset s.len
      ∙ sym (same_range (output (node_at t s.side.node)) (from_first s.first) (s.side.offset + 1) s.len
      (λ v a h. same_output v (omega arith) (omega arith)))

-- ---- bounds

pub record WindowBounds (store : List ℕ) (s : Shown) : Type 0 where
  pub nodes : s.side.node < most_nodes
  pub room : store_at s.side.node + store_row ≤ length store
  pub values : s.side.offset + s.len ≤ width
  pub several : 1 < s.len
  pub low : s.first ≤ 2 ^ 30
  pub above : store_start ≤ s.window
  pub inside : s.window + 1 < length store
  pub small : s.window + 1 < 4294967296

pub window_bounds : {c : ℕ} {t : List Node} {m : Memory} {u : State} {s : Shown} → Bounded t → Represents c t m u → SideWindow t s
    → WindowBounds m.store s
window_bounds {t = t} {m = m} {s = s} b r w =
    let i = window_fits b s w in
    let short = b.short s.side.node i.0 in
    let room = store_room r in
    let k = slot_inside b (window s.side.node s.side.offset s.len) (window_named b (window_of b s w)).used in
    let z = slot_inside b (window_zero s.side.node s.side.offset s.len) (zero_named b (window_of b s w)).used in
    let e = window_slots b s w in
    record {
      nodes = omega (arith, i.0, b.few);
      room = omega (arith, i.0, room);
      values = omega (arith, i.1, short);
      several = w.long;
      low = first_low b s w;
      above = omega (arith, z.0, e.0);
      inside = omega (arith, k.1, e.1, room);
      small = omega (arith, k.2, e.1);
    }

-- ---- what the rest of a window is written from

pub handed : {c : ℕ} {t : List Node} {m : Memory} {u : State} {s : Shown} {os : List ℕ} {r : ℕ} → Bounded t → Exact c t m u → SideWindowWith t os s
    → r ≡ store_at s.side.node
    → Handed (take (r + left_window_column - r) (drop r m.store)) os (step_in u.stored) s.side.node (node_at t s.side.node) s.side.offset s.len
unfolding step_in Used slot
handed {c} {t} {m} {u} {s} {os} {r} b ex w e =
    let n = s.side.node in
    let i = window_fits b s w.window in
    let short = b.short n i.0 in
    let long = w.window.long in
    let q : r + left_window_column - r ≡ left_window_column = omega arith in
    let read : (v : ℕ) → v < left_window_column → get_or (take (r + left_window_column - r) (drop r m.store)) v 0 ≡ get_or m.store (store_at n + v) 0 =
    λ v h. rw q (get_or-take left_window_column (drop r m.store) v 0 h ∙ get_or-drop r m.store v 0 ∙ rw e) in
    let first : (v : ℕ) → s.side.offset < v → v ≤ s.side.offset + s.len
    → get_or (take (r + left_window_column - r) (drop r m.store)) v 0 ≡ from_in u.stored (real n v) =
    λ v a h. read v (omega (arith, i.1, short)) ∙ ex.stores.firsts.is (real n v) (i.0, omega (arith, i.1, long), omega (arith, i.1)) in
    record {
      if_step = λ v a h. let z : from_in u.stored (real n v) + 0 ≡ from_in u.stored (real n v) = omega arith in rw z (sym (first v a h));
      only_if_step = λ v a h. rw (first v a h)
          (sym (step_after_lem (from_in u.stored (real n v)) 1 (omega (arith, ex.consistent.from_few (real n v), ex.consistent.few, few_steps ex))));
      literal = λ v a h.
          rw w.list (same_output b s w.window v (omega arith) h ∙ sym (output_at s.first s.side.offset s.len v (omega arith) h));
    }

pub bounds_of : {c : ℕ} {t : List Node} {m : Memory} {u : State} {s : Shown} {os : List ℕ} {r : ℕ} → Bounded t → Exact c t m u → SideWindowWith t os s
    → r ≡ store_at s.side.node → Bounds (take (r + left_window_column - r) (drop r m.store)) os s.side.offset s.len
bounds_of {c} {t} {m} {u} {s} {os} {r} b ex w e =
    let k = window_bounds b (exact ex) w.window in
    record {
      size = rw (length-take (r + left_window_column - r) (drop r m.store), length-drop r m.store) (omega (arith, e, k.room));
      values = k.values;
      several = k.several;
      inside = rw w.list (omega (arith, row_length s.first (s.side.offset + s.len) k.values, k.values));
      at_step = step_in u.stored;
      node = s.side.node;
      of = node_at t s.side.node;
      handed = handed b ex w e;
    }

-- ---- the outputs of a window as a part of its node's

module _ (s : Shown) {os : List ℕ} (e : os ≡ output_row s.first (s.side.offset + s.len)) where
  abbrev shown_part : List ℕ
  shown_part = take (s.side.offset + s.len - s.side.offset) (drop s.side.offset os)

  pub window_in : {t : List Node} → Bounded t → SideWindow t s → WindowIn t shown_part s.window s.side.node s.side.offset s.len
  unfolding slot
  window_in b w =
      let q : s.side.offset + s.len - s.side.offset ≡ s.len = omega arith in
      record { shown = window_of b s w; slot = (window_slots b s w).0; list = rw (q, e) (window_list b s w) }

  pub window_several : 1 < s.len → s.side.offset + s.len ≤ width → Several shown_part
  window_several long h =
      let k : length shown_part ≡ s.len =
      length-take (s.side.offset + s.len - s.side.offset) (drop s.side.offset os)
      ∙ rw (length-drop s.side.offset os, e, row_length s.first (s.side.offset + s.len) h) (omega arith) in
      record { several = omega (arith, k); short = omega (arith, k) }
