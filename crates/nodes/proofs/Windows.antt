-- Where a window's first steps stand: the first side that shows the same is looked for.
use Rattle.std.proofs.lemmas.List.{drop_all}
use Rattle.std.specs.Prelude.{Option, None, Some, is_some, MatchOption}
use Rattle.std.specs.Option.{unwrap_or}
use Rattle.std.specs.Bool.{IsTrue}
use Rattle.std.specs.Iterator.Runs.{Run, SomeRun, ItemsCountUp, CallKeepsClosure, AllItemsGive, IsFirstToGive}
use Rattle.std.proofs.iter.Yields.{nat_range_steps}
use Rattle.std.proofs.iter.runs.Sources.{range_runs}
use Rattle.std.proofs.lemmas.Iterator.Adapters.{option_map_id}
use denote.Param.Members.{Mut, Called}
use mathlib.Core.Path.{◌≡◌, refl, sym, ap, subst, ◌∙◌}
use mathlib.Core.Bool.{Bool, true, false, true≢false, ◌&&◌, cond}
use mathlib.Core.Logic.{◌≢◌}
use mathlib.Core.List.{List, [], ◌∷◌}
use Prim.Native.Nat.{ℕ, zero, suc, ◌+◌, ◌^◌, ◌≤◌, ◌<◌}
use native.Mathlib.Omega.{arith}
use borrow.Author.Tests.{eq-eqb, ne_eqb}
use lib.Dec.{eqb}
use lib.ListN.{length, get_or, drop}
use lib.Seq.{drop-cons}
use Rattle.sizes.specs.Sizes.{most_nodes, kind_column, kind_at, side_len_column, left_at, right_at, left_window, right_window}
use Rattle.totdb.specs.Nodes.{Node, leaf, join, node_at, plain_or}
use Rattle.totdb.specs.declared.Side.{Side}
use Rattle.cert.specs.Sized.{Sized, Fit}
use Rattle.rows.specs.Rows.{row_of, KindOf, Table}
use Rattle.rows.specs.Windows.{SideAt, at_left, at_right, shows, window_from, window_at}
use Rattle.rows.proofs.Reading.{in_row, numbers}
use Rattle.rows.proofs.Sides.{shows_not, from_append, window_shown}
use Rattle.nodes.specs.Added.{place_or_none, window_place}

-- ---- a place, or none

pub place_some : (p : ℕ) → p ≢ 0 → place_or_none p ≡ Some p
place_some p h = rw (ne_eqb p 0 h)

some_place : (p : ℕ) → is_some (place_or_none p) ≡ true → p ≢ 0
some_place zero e = absurd (true≢false (sym e))
some_place (suc p) e = λ z. omega (arith, z)

none_place : (p : ℕ) → is_some (place_or_none p) ≡ false → p ≡ 0
none_place zero e = refl
none_place (suc p) e = absurd (true≢false (rw (place_some (suc p) (λ z. omega (arith, z))) at e))

pub place_or : (p w : ℕ) → unwrap_or (place_or_none p) w ≡ cond (eqb p 0) w p
place_or zero w = refl
place_or (suc p) w = rw (ne_eqb (suc p) 0 (λ z. omega (arith, z)))

-- ---- the sides of one node

module _ {ns : List ℕ} {t : List Node} (tb : Table ns t) (n f m : ℕ) where
  -- The side whose numbers stand at p.
  pub shows_read : {p w : ℕ} {s : Side} → SideAt t p w s
      → (eqb (get_or ns p 0) n && eqb (get_or ns (p + 1) 0) f && eqb (get_or ns (p + side_len_column) 0) m) ≡ shows t n f m s
  unfolding shows
  shows_read of =
      let e = (numbers tb of).0 in
      rw (ap (λ (u : Side). u.node) e, ap (λ (u : Side). u.offset) e, (numbers tb of).1)

  -- Where the node and the offset are these, the length decides.
  pub shows_length : {p w : ℕ} {s : Side} → SideAt t p w s → eqb (get_or ns p 0) n ≡ true → eqb (get_or ns (p + 1) 0) f ≡ true
      → eqb (get_or ns (p + side_len_column) 0) m ≡ shows t n f m s
  shows_length of node offset = rw (node, offset) at (shows_read of)

  module _ (i : ℕ) (there : i < length t) where
    kind : (x : Node) → node_at t i ≡ x → KindOf (row_of ns i) t x
    kind x e = subst (KindOf (row_of ns i) t) e (tb.has.row i there).kind

    -- A leaf has no sides.
    pub window_leaf : get_or ns (kind_at i) 0 ≡ 0 → window_from t n f m (node_at t i ∷ []) i ≡ 0
    unfolding KindOf window_from
    window_leaf z = by (node_at t i) refl
      where
        by : (x : Node) → node_at t i ≡ x → window_from t n f m (x ∷ []) i ≡ 0
        by (leaf l) e = refl
        by (join ls o l r) e = absurd (omega (arith, (kind (join ls o l r) e).0, in_row ns i kind_column (omega arith)))

    -- The sides of a join.
    pub record JoinSides : Type 0 where
      pub left : Side
      pub right : Side
      pub left_of : SideAt t (left_at i) (left_window i) left
      pub right_of : SideAt t (right_at i) (right_window i) right
      pub is : window_from t n f m (node_at t i ∷ []) i ≡ cond (shows t n f m left) (left_window i) (cond (shows t n f m right) (right_window i) 0)

    pub join_sides : get_or ns (kind_at i) 0 ≢ 0 → JoinSides
    unfolding KindOf window_from
    join_sides z = by (node_at t i) refl
      where
        by : (x : Node) → node_at t i ≡ x → JoinSides
        by (leaf l) e = absurd (z (in_row ns i kind_column (omega arith) ∙ kind (leaf l) e))
        by (join ls o l r) e = record {
          left = l;
          right = r;
          left_of = at_left i ls o l r there e;
          right_of = at_right i ls o l r there e;
          is = rw e;
        }

-- ---- the sides of all nodes

module _ (t : List Node) (n f m : ℕ) where
  -- The sides of the node i, then those of the nodes after it.
  from_next : (i : ℕ) → i < length t
      → window_from t n f m (drop i t) i
      ≡ cond (eqb (window_from t n f m (node_at t i ∷ []) i) 0) (window_from t n f m (drop (suc i) t) (suc i)) (window_from t n f m (node_at t i ∷ []) i)
  unfolding node_at
  from_next i h =
      let e : i + 1 ≡ suc i = omega arith in
      rw (drop-cons t i (leaf 0) h) (rw e at (from_append t n f m (node_at t i ∷ []) (drop (suc i) t) i))

  -- No node up to n has a side over n.
  window_low : Sized t → (i : ℕ) → i ≤ n → i < length t → window_from t n f m (node_at t i ∷ []) i ≡ 0
  unfolding window_from Sized Fit
  window_low sized i low h = by (node_at t i) (sized i h)
    where
      by : (x : Node) → Fit t i x → window_from t n f m (x ∷ []) i ≡ 0
      by (leaf l) k = refl
      by (join ls o l r) k = rw (shows_not t n f m l (λ e. omega (arith, k.0)), shows_not t n f m r (λ e. omega (arith, k.1)))

  from_after : Sized t → (i : ℕ) → i ≤ suc n → i ≤ length t → window_from t n f m (drop i t) i ≡ window_at t n f m
  unfolding window_at
  from_after sized zero low h = refl
  from_after sized (suc i) low h =
      sym (rw (window_low sized i (omega arith) (omega arith)) at (from_next i (omega arith))) ∙ from_after sized i (omega arith) (omega arith)

  -- No side of the nodes before suc n + k shows these outputs.
  none_before : Sized t → (k : ℕ) → suc n + k ≤ length t → ((j : ℕ) → j < k → window_from t n f m (node_at t (suc n + j) ∷ []) (suc n + j) ≡ 0)
      → window_from t n f m (drop (suc n + k) t) (suc n + k) ≡ window_at t n f m
  none_before sized zero h none = from_after sized (suc n + 0) (omega arith) h
  none_before sized (suc k) h none =
      let next : suc n + suc k ≡ suc (suc n + k) = omega arith in
      rw next (sym (rw (none k (omega arith)) at (from_next (suc n + k) (omega arith))) ∙ none_before sized k (omega arith) (λ j l. none j (omega arith)))

  -- What `find_map` gives over the nodes after n, where its closure looks among the sides of a node.
  module _ {F : Type 0} {g : Mut F (ℕ × Unit {0}) (Option ℕ)} {c : F} (keeps : CallKeepsClosure g c)
      (looks : (i : ℕ) (r : Option ℕ) → Called g c (i, tt) r c → i < length t → r ≡ place_or_none (window_from t n f m (node_at t i ∷ []) i))
      {a b : ℕ} (after : a ≡ n + 1) (all : b ≡ length t) where
    module _ (p : Run nat_range_steps) (from : p.from ≡ record { start = a; end = b }) where
      counted : ItemsCountUp p (n + 1) (length t)
      counted = rw (from, after, all) at (range_runs p p.seen)

      at_is : (k : ℕ) → k < p.len → p.at k ≡ Some (suc n + k)
      at_is k h = sym (option_map_id (p.at k)) ∙ counted.3 k h ∙ ap Some (omega arith)

      none_at : (k : ℕ) → k < p.len → Called g c (suc n + k, tt) None c → window_from t n f m (node_at t (suc n + k) ∷ []) (suc n + k) ≡ 0
      none_at k h called = none_place _ (ap is_some (sym (looks (suc n + k) None called (omega (arith, counted.0)))))

    pub found : Sized t → n < length t → (r : Option ℕ)
        → SomeRun nat_range_steps (record { start = a; end = b }) (λ p. MatchOption r (IsTrue p.whole × AllItemsGive p g c None)
        (λ y. (i : ℕ) × (i < p.len) × (p.len ≡ i + 1) × IsFirstToGive p g c (Some y) None i))
        → r ≡ place_or_none (window_at t n f m)
    unfolding window_from
    found sized h None (p, from, (whole, none)) =
        let long = (counted p from).1 whole in
        let none = none_before sized p.len (omega (arith, long)) (λ k l. none_at p from k l (rw (at_is p from k l) at (none keeps k))) in
        rw (sym (rw (drop_all (suc n + p.len) t (omega (arith, long))) at none))
    found sized h (Some y) (p, from, (i, here, last, first)) =
        let inside : suc n + i < length t = omega (arith, here, (counted p from).0) in
        let none = none_before sized i (omega arith) (λ k l. none_at p from k (omega (arith, here)) (rw (at_is p from k (omega (arith, here))) at ((first keeps).1 k l))) in
        let is = looks (suc n + i) (Some y) (rw (at_is p from i here) at (first keeps).0) inside in
        is ∙ ap place_or_none (sym (from_next (suc n + i) inside ∙ rw (ne_eqb _ 0 (some_place _ (ap is_some (sym is))))) ∙ none)

-- ---- a new side

pub place_low : (t : List Node) (s : Side) (m w : ℕ) → length t ≤ most_nodes → w < 2 ^ 32 → window_place t s m w < 2 ^ 32
unfolding window_place
place_low t s m w few low = by (plain_or s.offset s.limit true false) (eqb (window_at t s.node s.offset m) 0) refl
  where
    inside : {p v : ℕ} {u : Side} → SideAt t p v u → v < 2 ^ 32
    inside (at_left i ls o l r h e) = omega arith
    inside (at_right i ls o l r h e) = omega arith

    by : (p b : Bool) → eqb (window_at t s.node s.offset m) 0 ≡ b → cond p w (unwrap_or (cond b None (Some (window_at t s.node s.offset m))) w) < 2 ^ 32
    by true b e = low
    by false true e = low
    by false false e = inside (window_shown t s.node s.offset m (λ z. true≢false (sym (eq-eqb (window_at t s.node s.offset m) 0 z) ∙ e))).of
