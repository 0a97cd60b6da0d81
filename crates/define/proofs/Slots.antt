-- The keys that a lookup names: they are inside their nodes, and each has a place of its own in the store.
use mathlib.Core.Path.{◌≡◌, refl, sym, ap, subst, ◌∙◌}
use mathlib.Core.List.{List}
use Prim.Native.Nat.{ℕ, ◌+◌, ◌*◌, ◌≤◌, ◌<◌}
use native.Mathlib.Omega.{arith}
use lib.ListN.{length}
use Rattle.sizes.specs.Sizes.{store_start, store_at, left_window_column, right_window_column}
use Rattle.totdb.specs.Nodes.{Node, node_at, len, side_len}
use Rattle.totdb.specs.declared.Side.{Side}
use Rattle.cert.specs.Definitions.{Key, real, window_zero, window}
use Rattle.cert.proofs.Fits.{KeyFits}
use Rattle.rows.specs.Windows.{SideAt, at_left, at_right, Showing, window_at}
use Rattle.rows.specs.Rows.{Bounded}
use Rattle.rows.proofs.Sides.{side_inside, shows_parts, window_first}
use Rattle.define.specs.Store.{WindowOf, Used, slot}
use Rattle.define.specs.Lookups.{RealOf}

-- A key that a lookup names: it has a place, and it is inside its node.
pub record Named (t : List Node) (k : Key) : Type 0 where
  pub used : Used t k
  pub fits : KeyFits t k

-- The row of a window's place.
pub record WindowPlace (t : List Node) (p : ℕ) : Type 0 where
  pub node : ℕ
  pub there : node < length t
  pub above : store_at node + left_window_column ≤ p
  pub below : p ≤ store_at node + right_window_column
  pub even : ℕ
  pub is : p ≡ store_at node + left_window_column + 2 * even

window_place : {t : List Node} {p w : ℕ} {s : Side} → SideAt t p w s → WindowPlace t w
window_place (at_left n ls o l r h e) = record { node = n; there = h; above = omega arith; below = omega arith; even = 0; is = omega arith }
window_place (at_right n ls o l r h e) = record { node = n; there = h; above = omega arith; below = omega arith; even = 1; is = omega arith }

-- Sides with one place for their windows are one.
one_side : {t : List Node} {p q w : ℕ} {s u : Side} → SideAt t p w s → SideAt t q w u → s ≡ u
one_side {t} x y = go x y refl
  where
    go : {p q v w : ℕ} {s u : Side} → SideAt t p v s → SideAt t q w u → v ≡ w → s ≡ u
    go (at_left n ls o l r h e) (at_left i ks q a b g f) z =
        let k : n ≡ i = omega arith in
        ap (λ (x : Node). side_of x) (sym e ∙ ap (node_at t) k ∙ f)
      where
        side_of : Node → Side
        side_of (Rattle.totdb.specs.Nodes.leaf m) = l
        side_of (Rattle.totdb.specs.Nodes.join m v c d) = c
    go (at_right n ls o l r h e) (at_right i ks q a b g f) z =
        let k : n ≡ i = omega arith in
        ap (λ (x : Node). side_of x) (sym e ∙ ap (node_at t) k ∙ f)
      where
        side_of : Node → Side
        side_of (Rattle.totdb.specs.Nodes.leaf m) = r
        side_of (Rattle.totdb.specs.Nodes.join m v c d) = d
    go (at_left n ls o l r h e) (at_right i ks q a b g f) z = absurd (omega arith)
    go (at_right n ls o l r h e) (at_left i ks q a b g f) z = absurd (omega arith)

-- The place of a window is that of the first side that shows it.
pub first_shown : {t : List Node} {n f m : ℕ} → WindowOf t n f m → Showing t n f m (window_at t n f m)
first_shown w = window_first _ _ _ _ w.shown

first_place : {t : List Node} {n f m : ℕ} → WindowOf t n f m → WindowPlace t (window_at t n f m)
first_place w = window_place (first_shown w).of

-- Windows with one place are one.
one_window : {t : List Node} {n f m i g l : ℕ} → WindowOf t n f m → WindowOf t i g l → window_at t n f m ≡ window_at t i g l
    → (n ≡ i) × (f ≡ g) × (m ≡ l)
one_window {t} {n} {f} {m} {i} {g} {l} w u e =
    let x = first_shown w in
    let y = first_shown u in
    let s = one_side x.of (subst (λ (p : ℕ). SideAt t y.row p y.side) (sym e) y.of) in
    let a = shows_parts t n f m x.side x.is in
    let c = shows_parts t i g l y.side y.is in (
      sym a.0 ∙ ap (λ (x : Side). x.node) s ∙ c.0,
      sym a.1 ∙ ap (λ (x : Side). x.offset) s ∙ c.1,
      sym a.2 ∙ ap (side_len t) s ∙ c.2,
    )

module _ {t : List Node} (b : Bounded t) where
  pub window_inside : {n f m : ℕ} → WindowOf t n f m → (n < length t) × (f + m ≤ len (node_at t n)) × (1 < m)
  window_inside w =
      let q = side_inside b w.shown.of in
      let e = shows_parts t _ _ _ w.shown.side w.shown.is in
      rw (← e.0, ← e.1, ← e.2) (q.0, q.1, rw e.2 w.long)

  pub real_named : {n v : ℕ} → RealOf t n v → Named t (real n v)
  unfolding Used KeyFits
  real_named r = record { used = (r.there, r.long, r.value); fits = (r.there, r.value) }

  pub zero_named : {n f m : ℕ} → WindowOf t n f m → Named t (window_zero n f m)
  unfolding Used KeyFits
  zero_named w = record { used = w; fits = window_inside w }

  pub window_named : {n f m : ℕ} → WindowOf t n f m → Named t (window n f m)
  unfolding Used KeyFits
  window_named w = record { used = w; fits = window_inside w }

  -- ---- places

  -- A row of the store: real definitions, then the windows of a join.
  pub record InRow (p : ℕ) : Type 0 where
    pub node : ℕ
    pub there : node < length t
    pub above : store_at node ≤ p
    pub below : p < store_at node + 70

  pub slot_row : (k : Key) → Used t k → InRow (slot t k)
  unfolding Used slot
  slot_row (real n v) u = record { node = n; there = u.0; above = omega arith; below = omega (arith, u.2, b.short n u.0) }
  slot_row (window_zero n f m) u =
      let p = first_place u in record { node = p.node; there = p.there; above = omega (arith, p.above); below = omega (arith, p.below) }
  slot_row (window n f m) u =
      let p = first_place u in record { node = p.node; there = p.there; above = omega (arith, p.above); below = omega (arith, p.below) }

  pub slot_inside : (k : Key) → Used t k → (store_start ≤ slot t k) × (slot t k < store_at (length t)) × (slot t k < 4294967296)
  slot_inside k u =
      let r = slot_row k u in
      let n = r.node in
      let h = r.there in
      (omega (arith, r.above), omega (arith, h, r.below), omega (arith, h, r.below, b.few))

  pub slot_once : (j k : Key) → Used t j → Used t k → slot t j ≡ slot t k → j ≡ k
  unfolding Used slot
  slot_once (real n v) (real i w) u x e =
      let a = b.short n u.0 in
      let c = b.short i x.0 in
      let p : n ≡ i = omega (arith, u.2, x.2, a, c) in
      let q : v ≡ w = omega (arith, u.2, x.2, a, c) in
      cc
  slot_once (window_zero n f m) (window_zero i g l) u x e =
      let z = one_window u x e in
      let p = z.0 in
      let q = z.1 in
      let r = z.2 in
      cc
  slot_once (window n f m) (window i g l) u x e =
      let y : window_at t n f m ≡ window_at t i g l = omega arith in
      let z = one_window u x y in
      let p = z.0 in
      let q = z.1 in
      let r = z.2 in
      cc
  slot_once (real n v) (window_zero i g l) u x e = let p = first_place x in absurd (omega (arith, u.2, b.short n u.0, p.is, p.above, p.below))
  slot_once (real n v) (window i g l) u x e = let p = first_place x in absurd (omega (arith, u.2, b.short n u.0, p.is, p.above, p.below))
  slot_once (window_zero i g l) (real n v) x u e = let p = first_place x in absurd (omega (arith, u.2, b.short n u.0, p.is, p.above, p.below))
  slot_once (window i g l) (real n v) x u e = let p = first_place x in absurd (omega (arith, u.2, b.short n u.0, p.is, p.above, p.below))
  slot_once (window_zero n f m) (window i g l) u x e = absurd (omega (arith, (first_place u).is, (first_place x).is))
  slot_once (window n f m) (window_zero i g l) u x e = absurd (omega (arith, (first_place u).is, (first_place x).is))
