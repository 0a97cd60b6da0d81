-- How many steps the definition of a slot has, by the row and the column of the slot.
use mathlib.Core.Path.{◌≡◌, refl, ap, ◌∙◌}
use mathlib.Core.List.{List, [], ◌∷◌, map, flat_map}
use Prim.Native.Nat.{ℕ, ◌+◌, ◌-◌, ◌*◌, ◌/◌, ◌%◌, ◌≤◌, ◌<◌}
use native.Mathlib.Omega.{arith}
use lib.ListN.{length, get_or}
use Rattle.sizes.specs.Sizes.{most_nodes, width, row, row_at, left_column, side_len_column, store_row, store_at, store_start, left_window_column, right_window_column}
use Rattle.pb.specs.Sum.{neg}
use Rattle.record.specs.Record.{Record, steps}
use Rattle.totdb.specs.Nodes.{Node, node_at, range, outputs}
use Rattle.totdb.specs.declared.Side.{Side}
use Rattle.totdb.proofs.Listed.{length_range}
use Rattle.cert.specs.Definitions.{Key, real, window_zero, window, key_records, real_records, at_least_zero, window_pair, window_if, window_only_if}
use Rattle.cert.proofs.Counts.{steps_append}
use Rattle.rows.specs.Windows.{SideAt, at_left, at_right, window_at}
use Rattle.rows.proofs.Reading.{numbers, row_there}
use Rattle.rows.proofs.Sides.{shows_parts}
use Rattle.define.specs.Store.{WindowOf, Used, slot}
use Rattle.define.proofs.Slots.{window_inside, first_shown, slot_row}
use Rattle.closing.specs.Closing.{SlotOf}

-- ---- the steps of a window

-- How many they are does not depend on the steps that they name.
abbrev steps_of : List Node → Key → ℕ
steps_of t k = steps (key_records (λ j i. 0) t k)

pairs_steps : (f : Key → ℕ → ℕ) (n : ℕ) (x : Node) (o m : ℕ) (vs : List ℕ) → steps (flat_map {B = Record} (window_pair f n x o m) vs) ≡ 2 * length vs
unfolding steps flat_map window_if window_only_if
pairs_steps f n x o m [] = refl
pairs_steps f n x o m (v ∷ vs) = omega (arith, pairs_steps f n x o m vs)

module _ (t : List Node) (n o m : ℕ) where
  zero_steps : 1 ≡ steps_of t (window_zero n o m)
  unfolding key_records steps at_least_zero
  zero_steps = refl

  window_steps : 2 * m + 1 ≡ steps_of t (window n o m)
  unfolding key_records
  window_steps =
      let ls : List ℕ = map neg (outputs (node_at t n) o m) in
      let one : steps (at_least_zero ls ∷ []) ≡ 1 = unfold steps at_least_zero in refl in
      omega (
        arith,
        one,
        steps_append (flat_map {B = Record} (window_pair (λ j i. 0) n (node_at t n) o m) (range (o + 1) m)) (at_least_zero ls ∷ []),
        pairs_steps (λ j i. 0) n (node_at t n) o m (range (o + 1) m),
        length_range (o + 1) m,
      )

-- ---- the row and the column of a slot

abbrev pub node_of : ℕ → ℕ
node_of p = (p - store_start) / store_row

abbrev pub column_of : ℕ → ℕ
column_of p = (p - store_start) % store_row

divided : (n c p : ℕ) → c < store_row → p ≡ store_at n + c → (node_of p ≡ n) × (column_of p ≡ c)
divided n c p h e = (omega arith, omega arith)

-- A side is the left one of its node (0) or the right one (1): the place of its row, and that of its window.
record Column (t : List Node) (p w : ℕ) : Type 0 where
  pub node : ℕ
  pub right : ℕ
  pub there : node < length t
  pub two : right ≤ 1
  pub row : p ≡ row_at node + (left_column + 5 * right)
  pub slot : w ≡ store_at node + (left_window_column + 2 * right)

column : {t : List Node} {p w : ℕ} {s : Side} → SideAt t p w s → Column t p w
column (at_left n ls o l r h e) = record { node = n; right = 0; there = h; two = omega arith; row = omega arith; slot = omega arith }
column (at_right n ls o l r h e) = record { node = n; right = 1; there = h; two = omega arith; row = omega arith; slot = omega arith }

module _ {ns : List ℕ} {t : List Node} {k : Key} {p : ℕ} (s : SlotOf ns t k p) where
  pub place_there : (store_start ≤ p) × (node_of p < length t) × (node_of p < most_nodes)
  place_there =
      let r = slot_row s.table.bounded k s.used in (
        omega (arith, s.is, r.above),
        omega (arith, s.is, r.above, r.below, r.there),
        omega (arith, s.is, r.above, r.below, r.there, s.table.bounded.few),
      )

  -- Its node has a row.
  pub place_row : row_at (node_of p) + row ≤ length ns
  place_row = (row_there s.table (node_of p) place_there.1).0

-- The parts of a slot, by its key.
module _ {t : List Node} where
  real_parts : {ns : List ℕ} {n v p : ℕ} → SlotOf ns t (real n v) p → (node_of p ≡ n) × (column_of p ≡ v) × (v < left_window_column)
  unfolding Used slot
  real_parts {n = n} {v} {p} s =
      let h : v < left_window_column = omega (arith, s.used.2, s.table.bounded.short n s.used.0) in
      let q = divided n v p (omega arith) s.is in
      (q.0, q.1, h)

  -- The sum of value 0 (d = 0), or the rest of the window (d = 1).
  window_parts : {n o m : ℕ} (p : ℕ) (u : WindowOf t n o m) (d : ℕ) → d ≤ 1 → p ≡ window_at t n o m + d
      → (j : ℕ) × (column_of p ≡ left_window_column + 2 * j + d) × (j ≤ 1) × ((first_shown u).row ≡ row_at (node_of p) + (left_column + 5 * j))
  window_parts p u d h e =
      let c = column (first_shown u).of in
      let q = divided c.node (left_window_column + 2 * c.right + d) p (omega (arith, c.two)) (omega (arith, c.slot)) in
      (c.right, q.1, c.two, rw q.0 c.row)

-- ---- the steps, by the column

module _ {ns : List ℕ} {t : List Node} where
  -- A column before those of the windows.
  pub real_case : (k : Key) {p : ℕ} → SlotOf ns t k p → column_of p < left_window_column
      → steps (real_records (node_at t (node_of p)) (column_of p)) ≡ steps_of t k
  unfolding key_records Used slot
  real_case (real n v) s h = let q = real_parts s in rw (q.0, q.1)
  real_case (window_zero n o m) {p} s h = let q = window_parts p s.used 0 (omega arith) (omega (arith, s.is)) in absurd (omega (arith, q.1))
  real_case (window n o m) {p} s h = let q = window_parts p s.used 1 (omega arith) s.is in absurd (omega (arith, q.1))

  -- The second column of a window: of the left side (0), or of the right one (1).
  pub window_case : (j : ℕ) (k : Key) {p : ℕ} → SlotOf ns t k p → column_of p ≡ left_window_column + 1 + 2 * j
      → (get_or ns (row_at (node_of p) + (left_column + 5 * j) + side_len_column) 0 ≤ width) × (2 * get_or ns (row_at (node_of p) + (left_column + 5 * j) + side_len_column) 0 + 1 ≡ steps_of t k)
  unfolding Used slot
  window_case j (real n v) s h = let q = real_parts s in absurd (omega (arith, q.1, q.2))
  window_case j (window_zero n o m) {p} s h = let q = window_parts p s.used 0 (omega arith) (omega (arith, s.is)) in absurd (omega (arith, q.1))
  window_case j (window n o m) {p} s h =
      let u = s.used in
      let f = first_shown u in
      let b = s.table.bounded in
      let c = window_parts p u 1 (omega arith) s.is in
      let side : j ≡ c.0 = omega (arith, c.1) in
      let q = window_inside b u in
      let is : get_or ns (row_at (node_of p) + (left_column + 5 * j) + side_len_column) 0 ≡ m =
      rw (side, ← c.3) ((numbers s.table f.of).1 ∙ (shows_parts t n o m f.side f.is).2) in
      (omega (arith, is, q.1, b.short n q.0), rw is (window_steps t n o m))

  -- The first column of a window.
  pub zero_case : (k : Key) {p : ℕ} → SlotOf ns t k p → left_window_column ≤ column_of p → (column_of p ≡ left_window_column + 1 → ⊥) → (column_of p ≡ right_window_column + 1 → ⊥)
      → 1 ≡ steps_of t k
  unfolding Used slot
  zero_case (real n v) s low a b = let q = real_parts s in absurd (omega (arith, q.1, q.2))
  zero_case (window_zero n o m) {p} s low a b = zero_steps t n o m
  zero_case (window n o m) {p} s low a b = let q = window_parts p s.used 1 (omega arith) s.is in absurd (omega (arith, q.1, q.2))
