-- The sides of a table of nodes: inside their nodes, and the place of each window, which is that of the first side that shows the same outputs.
use Rattle.std.proofs.lemmas.Bool.{or_right}
use mathlib.Core.Path.{◌≡◌, refl, sym, subst, ◌∙◌}
use mathlib.Core.Bool.{Bool, true, false, true≢false, cond, ◌&&◌, ◌||◌}
use mathlib.Core.Logic.{◌≢◌}
use mathlib.Core.List.{List, [], ◌∷◌, ◌++◌}
use Prim.Native.Nat.{ℕ, zero, suc, ◌+◌, ◌≤◌, ◌<◌}
use native.Mathlib.Omega.{arith}
use borrow.Author.Tests.{eqb-true, eq-eqb, ne_eqb}
use lib.Dec.{eqb}
use lib.ListN.{length}
use Rattle.sizes.specs.Sizes.{left_window, right_window}
use Rattle.std.specs.Cmp.Derive.{both_true}
use Rattle.memo.proofs.Booleans.{and_true}
use Rattle.totdb.specs.Nodes.{Node, leaf, join, node_at, len, side_len}
use Rattle.totdb.specs.declared.Side.{Side}
use Rattle.cert.specs.Sized.{Sized, Fit}
use Rattle.cert.proofs.Apart.{sized_ok}
use Rattle.cert.proofs.Rules.{Below, side_len-more, sides_in}
use Rattle.rows.specs.Windows.{SideAt, at_left, at_right, shows, Showing, window_from, window_at}
use Rattle.rows.specs.Rows.{Bounded}

module _ {t : List Node} (b : Bounded t) where
  pub side_inside : {p w : ℕ} {s : Side} → SideAt t p w s
      → (s.node < length t) × (s.offset + side_len t s ≤ len (node_at t s.node)) × (1 ≤ side_len t s)
  unfolding Sized Fit
  side_inside (at_left n ls o l r h e) =
      let f : Fit t n (join ls o l r) = subst (Fit t n) e (b.sized n h) in
      (omega (arith, f.0), f.3, f.7)
  side_inside (at_right n ls o l r h e) =
      let f : Fit t n (join ls o l r) = subst (Fit t n) e (b.sized n h) in
      (omega (arith, f.1), f.4, f.8)

-- ---- what a side shows

shows_self : (t : List Node) (s : Side) → shows t s.node s.offset (side_len t s) s ≡ true
unfolding shows
shows_self t s =
    both_true (both_true (eq-eqb s.node s.node refl) (eq-eqb s.offset s.offset refl)) (eq-eqb (side_len t s) (side_len t s) refl)

pub side_shows : {t : List Node} {p w : ℕ} {s : Side} → SideAt t p w s → Showing t s.node s.offset (side_len t s) w
side_shows {t} {s = s} of = record { row = _; side = s; of = of; is = shows_self t s }

pub shows_parts : (t : List Node) (n f m : ℕ) (s : Side) → shows t n f m s ≡ true → (s.node ≡ n) × (s.offset ≡ f) × (side_len t s ≡ m)
unfolding shows
shows_parts t n f m s e =
    let x = and_true (eqb s.node n && eqb s.offset f) (eqb (side_len t s) m) e in
    let y = and_true (eqb s.node n) (eqb s.offset f) x.0 in
    (eqb-true s.node n y.0, eqb-true s.offset f y.1, eqb-true (side_len t s) m x.1)

pub shows_not : (t : List Node) (n f m : ℕ) (s : Side) → s.node ≢ n → shows t n f m s ≡ false
unfolding shows
shows_not t n f m s h = rw (ne_eqb s.node n h)

pub shows_more : (t u : List Node) (n f m : ℕ) (s : Side) → s.node < length t → shows t n f m s ≡ shows (t ++ u) n f m s
unfolding shows
shows_more t u n f m s h = rw (side_len-more t u s h)

-- ---- the first side that shows some outputs

place_above : {t : List Node} {p w : ℕ} {s : Side} → SideAt t p w s → 1 ≤ w
place_above (at_left n ls o l r h e) = omega arith
place_above (at_right n ls o l r h e) = omega arith

module _ (t : List Node) (n f m : ℕ) where
  -- A side of this node shows them.
  shown_by : Node → Bool
  shown_by (leaf a) = false
  shown_by (join ls o l r) = shows t n f m l || shows t n f m r

  -- The place p is that of a side that shows them, or it is 0 and no side of the nodes u shows them.
  data First (u : List Node) (p : ℕ) : Type 0 where
    found : Showing t n f m p → First u p
    none : p ≡ 0 → ((j : ℕ) → j < length u → shown_by (node_at u j) ≡ false) → First u p

  none_more : (x : Node) (u : List Node) → shown_by x ≡ false → ((j : ℕ) → j < length u → shown_by (node_at u j) ≡ false)
      → (j : ℕ) → j < length (x ∷ u) → shown_by (node_at (x ∷ u) j) ≡ false
  unfolding node_at
  none_more x u e out zero h = e
  none_more x u e out (suc j) h = out j (omega arith)

  first_more : (x : Node) (u : List Node) (p : ℕ) → shown_by x ≡ false → First u p → First (x ∷ u) p
  first_more x u p e (found s) = found s
  first_more x u p e (none z out) = none z (none_more x u e out)

  -- The rest of the table from its node i on.
  first_from : (u : List Node) (i : ℕ) → ((j : ℕ) → j < length u → node_at t (i + j) ≡ node_at u j) → i + length u ≤ length t
      → First u (window_from t n f m u i)
  unfolding window_from node_at shown_by
  first_from [] i same all = none refl (λ j h. absurd (omega arith))
  first_from (x ∷ u) i same all =
      here x (let z : i + 0 ≡ i = omega arith in rw z at (same 0 (omega arith)))
      (first_from u (suc i) (λ j h. let e : i + suc j ≡ suc i + j = omega arith in rw e at (same (suc j) (omega arith))) (omega arith))
    where
      here : (x : Node) → node_at t i ≡ x → First u (window_from t n f m u (suc i)) → First (x ∷ u) (window_from t n f m (x ∷ u) i)
      here (leaf a) e more = first_more (leaf a) u _ refl more
      here (join ls o l r) e more = test (shows t n f m l) refl (shows t n f m r) refl
        where
          test : (c : Bool) → shows t n f m l ≡ c → (d : Bool) → shows t n f m r ≡ d
              → First (join ls o l r ∷ u) (window_from t n f m (join ls o l r ∷ u) i)
          test true p d q = rw p (found (record { row = _; side = l; of = at_left i ls o l r (omega arith) e; is = p }))
          test false p true q = rw (p, q) (found (record { row = _; side = r; of = at_right i ls o l r (omega arith) e; is = q }))
          test false p false q = rw (p, q) (first_more (join ls o l r) u _ (rw (p, q)) more)

  first_of : First t (window_at t n f m)
  unfolding window_at
  first_of = first_from t 0 (λ j h. let e : 0 + j ≡ j = omega arith in rw e) (omega arith)

  -- Where there is a place, the side there shows them.
  pub window_shown : window_at t n f m ≢ 0 → Showing t n f m (window_at t n f m)
  window_shown h = by first_of
    where
      by : First t (window_at t n f m) → Showing t n f m (window_at t n f m)
      by (found s) = s
      by (none e out) = absurd (h e)

  -- Where a side shows them, there is a place.
  window_some : {w : ℕ} → Showing t n f m w → window_at t n f m ≢ 0
  unfolding shown_by
  window_some s = by first_of
    where
      clash : {p w : ℕ} {u : Side} → SideAt t p w u → shows t n f m u ≡ true → ((j : ℕ) → j < length t → shown_by (node_at t j) ≡ false) → ⊥
      clash (at_left k ls o l r h e) q out = true≢false (sym (rw (e, q) refl) ∙ out k h)
      clash (at_right k ls o l r h e) q out = true≢false (sym (rw (e, q) (or_right (shows t n f m l) true refl)) ∙ out k h)

      by : First t (window_at t n f m) → window_at t n f m ≢ 0
      by (found u) e = omega (arith, place_above u.of, e)
      by (none z out) e = clash s.of s.is out

  -- The first that shows them.
  pub window_first : {w : ℕ} → Showing t n f m w → Showing t n f m (window_at t n f m)
  window_first s = window_shown (window_some s)

-- ---- a table with more nodes

if_zero : (w a : ℕ) → w ≢ 0 → cond (eqb w 0) a w ≡ w
if_zero w a h = rw (ne_eqb w 0 h)

module _ (t : List Node) (n f m : ℕ) where
  pub from_append : (u v : List Node) (i : ℕ)
      → window_from t n f m (u ++ v) i ≡ cond (eqb (window_from t n f m u i) 0) (window_from t n f m v (i + length u)) (window_from t n f m u i)
  unfolding window_from
  from_append [] v i = let z : i + 0 ≡ i = omega arith in rw z
  from_append (leaf a ∷ u) v i = let e : i + suc (length u) ≡ suc i + length u = omega arith in rw e (from_append u v (suc i))
  from_append (join ls o l r ∷ u) v i = test (from_append u v (suc i)) (shows t n f m l) refl (shows t n f m r) refl
    where
      test : window_from t n f m (u ++ v) (suc i) ≡ cond (eqb (window_from t n f m u (suc i)) 0) (window_from t n f m v (suc i + length u)) (window_from t n f m u (suc i))
          → (c : Bool) → shows t n f m l ≡ c → (d : Bool) → shows t n f m r ≡ d
          → window_from t n f m (join ls o l r ∷ u ++ v) i
          ≡ cond (eqb (window_from t n f m (join ls o l r ∷ u) i) 0) (window_from t n f m v (i + suc (length u))) (window_from t n f m (join ls o l r ∷ u) i)
      test more true p d q = rw p (sym (if_zero (left_window i) _ (λ e. omega arith)))
      test more false p true q = rw (p, q) (sym (if_zero (right_window i) _ (λ e. omega arith)))
      test more false p false q = let e : i + suc (length u) ≡ suc i + length u = omega arith in rw (p, q, e) more

  -- Sides at nodes of the table show the same in a longer one.
  from_more : (v u : List Node) (i : ℕ) → ((j : ℕ) → j < length u → Below (length t) (node_at u j))
      → window_from t n f m u i ≡ window_from (t ++ v) n f m u i
  unfolding window_from node_at Below
  from_more v [] i h = refl
  from_more v (leaf a ∷ u) i h = from_more v u (suc i) (λ j k. h (suc j) (omega arith))
  from_more v (join ls o l r ∷ u) i h =
      let k = h 0 (omega arith) in
      rw (shows_more t v n f m l k.0, shows_more t v n f m r k.1, from_more v u (suc i) (λ j k. h (suc j) (omega arith)))

module _ {t : List Node} (b : Bounded t) (v : List Node) where
  window_append : (n f m : ℕ)
      → window_at (t ++ v) n f m ≡ cond (eqb (window_at t n f m) 0) (window_from (t ++ v) n f m v (length t)) (window_at t n f m)
  unfolding window_at
  window_append n f m =
      let z : 0 + length t ≡ length t = omega arith in
      rw (from_more t n f m v t 0 (sides_in t (sized_ok t b.sized)), ← z) (from_append (t ++ v) n f m t v 0)

  -- A place that is given stays.
  pub window_more : {n f m w : ℕ} → Showing t n f m w → window_at (t ++ v) n f m ≡ window_at t n f m
  window_more {n} {f} {m} s = window_append n f m ∙ if_zero (window_at t n f m) _ (window_some t n f m s)

-- The sides of a new join have places of their own where no side before shows the same.
module _ {t : List Node} (b : Bounded t) (ls : List ℕ) (o : ℕ) (l r : Side) where
  pub left_place : l.node < length t
      → window_at (t ++ (join ls o l r ∷ [])) l.node l.offset (side_len t l)
      ≡ cond (eqb (window_at t l.node l.offset (side_len t l)) 0) (left_window (length t)) (window_at t l.node l.offset (side_len t l))
  unfolding window_from
  left_place h =
      rw (window_append b (join ls o l r ∷ []) l.node l.offset (side_len t l), ← shows_more t (join ls o l r ∷ []) l.node l.offset (side_len t l) l h, shows_self t l)

  pub right_place : r.node < length t → l.node ≢ r.node
      → window_at (t ++ (join ls o l r ∷ [])) r.node r.offset (side_len t r)
      ≡ cond (eqb (window_at t r.node r.offset (side_len t r)) 0) (right_window (length t)) (window_at t r.node r.offset (side_len t r))
  unfolding window_from
  right_place h d =
      let v : List Node = join ls o l r ∷ [] in
      rw (
        window_append b v r.node r.offset (side_len t r),
        shows_not (t ++ v) r.node r.offset (side_len t r) l d,
        ← shows_more t v r.node r.offset (side_len t r) r h,
        shows_self t r,
      )
