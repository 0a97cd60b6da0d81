-- A node more: the store and the log represent the state as before.
use mathlib.Core.Path.{◌≡◌, refl, sym, ◌∙◌, ap}
use mathlib.Core.Logic.{◌⊎◌, inl, inr, ⊎_elim}
use mathlib.Core.List.Memᴰ
use mathlib.Core.List.{List, [], ◌∷◌, ◌++◌, Memᴰ}
use Prim.Native.Nat.{ℕ, ◌+◌, ◌≤◌, ◌<◌}
use native.Mathlib.Omega.{arith}
use lib.ListN.{length, get_or}
use Rattle.sizes.specs.Sizes.{store_at, held_at}
use Rattle.memo.proofs.Lists.{map_agree}
use Rattle.totdb.specs.Nodes.{Node, leaf, join, node_at}
use Rattle.totdb.specs.declared.Side.{Side}
use Rattle.cert.specs.Definitions.{Key, real, window_zero, window, Direction, if, only_if}
use Rattle.cert.specs.Requests.{request, Right}
use Rattle.cert.specs.State.{Stored, State, keys, from_in}
use Rattle.cert.proofs.Rules.{at_more}
use Rattle.cert.proofs.Tables.{length_snoc, old_or_new}
use Rattle.rows.specs.Windows.{SideAt, Showing, window_at}
use Rattle.rows.specs.Rows.{Bounded}
use Rattle.rows.proofs.Sides.{side_inside, shows_more, window_more}
use Rattle.rows.proofs.Growing.{SidesOf, side_more, side_cases}
use Rattle.define.specs.Store.{WindowOf, Used, slot, held_of, IsJoin}
use Rattle.define.specs.Represents.{Memory, Exact}
use Rattle.define.proofs.Entries.{from_missing}
use Rattle.define.proofs.Slots.{first_shown, slot_inside}
use Rattle.request.proofs.Flags.{flag_out}
use Rattle.player.specs.Formed.{Held}
use Rattle.player.specs.Player.{make}

module _ (t : List Node) (a : Node) (b : Bounded t) where
  -- ---- keys that had a place

  shown_more : {n f m p : ℕ} → Showing t n f m p → Showing (t ++ (a ∷ [])) n f m p
  shown_more {n} {f} {m} s = record {
    row = s.row;
    side = s.side;
    of = side_more t a s.of;
    is = sym (shows_more t (a ∷ []) n f m s.side (side_inside b s.of).0) ∙ s.is;
  }

  window_used : {n f m : ℕ} → WindowOf t n f m → WindowOf (t ++ (a ∷ [])) n f m
  window_used w = record { slot = w.slot; shown = shown_more w.shown; long = w.long }

  used_more : (k : Key) → Used t k → Used (t ++ (a ∷ [])) k
  unfolding Used
  used_more (real n v) u = (omega (arith, length_snoc t a, u.0), rw (← at_more t (a ∷ []) n u.0) u.1, rw (← at_more t (a ∷ []) n u.0) u.2)
  used_more (window_zero n f m) u = window_used u
  used_more (window n f m) u = window_used u

  window_same : {n f m : ℕ} → WindowOf t n f m → window_at t n f m ≡ window_at (t ++ (a ∷ [])) n f m
  window_same w = sym (window_more b (a ∷ []) w.shown)

  slot_same : (k : Key) → Used t k → slot t k ≡ slot (t ++ (a ∷ [])) k
  unfolding Used slot
  slot_same (real n v) u = refl
  slot_same (window_zero n f m) u = window_same u
  slot_same (window n f m) u = ap (λ (p : ℕ). p + 1) (window_same u)

  -- ---- the others

  -- A key that has its place in the new row had none.
  record New (k : Key) : Type 0 where
    pub high : store_at (length t) ≤ slot (t ++ (a ∷ [])) k
    pub none : Used t k → ⊥

  -- What was used had a place below.
  new_key : (k : Key) → store_at (length t) ≤ slot (t ++ (a ∷ [])) k → New k
  new_key k h = record { high = h; none = λ u. omega (arith, h, slot_same k u, (slot_inside b k u).1) }

  abbrev Before : ℕ → ℕ → Side → Type 0
  Before p w s = SideAt t p w s ⊎ (store_at (length t) ≤ w)

  side_split : {p w : ℕ} {s : Side} → SideAt (t ++ (a ∷ [])) p w s → Before p w s
  unfolding SidesOf
  side_split {p} {w} {s} i = side_cases t a Before (λ p w s j. inl j) (new a) p w s i
    where
      new : (x : Node) → SidesOf Before (length t) x
      new (leaf l) = tt
      new (join m o l r) = (inr (omega arith), inr (omega arith))

  -- The first side that shows a window is one of the table, or one of the new node.
  window_split : {n f m : ℕ} → WindowOf (t ++ (a ∷ [])) n f m → WindowOf t n f m ⊎ (store_at (length t) ≤ window_at (t ++ (a ∷ [])) n f m)
  window_split {n} {f} {m} w =
      let s = first_shown w in
      ⊎_elim (λ o. inl (record {
        slot = window_at (t ++ (a ∷ [])) n f m;
        shown = record { row = s.row; side = s.side; of = o; is = shows_more t (a ∷ []) n f m s.side (side_inside b o).0 ∙ s.is };
        long = w.long;
      })) (λ h. inr h) (side_split s.of)

  used_split : (k : Key) → Used (t ++ (a ∷ [])) k → Used t k ⊎ New k
  unfolding Used slot
  used_split (real n v) u =
      ⊎_elim (λ i. inl (i.0, rw (at_more t (a ∷ []) n i.0) u.1, rw (at_more t (a ∷ []) n i.0) u.2))
      (λ i. inr (new_key (real n v) (omega (arith, i.0)))) (old_or_new t a n (node_at (t ++ (a ∷ [])) n) u.0 refl)
  used_split (window_zero n f m) u =
      ⊎_elim (λ w. inl w) (λ h. inr (new_key (window_zero n f m) h)) (window_split u)
  used_split (window n f m) u =
      ⊎_elim (λ w. inl w) (λ h. inr (new_key (window n f m) (omega arith))) (window_split u)

  -- ---- the memory

  module _ {c : ℕ} (i : ℕ) {m : Memory} {s : State} (room : store_at (length t + 1) ≤ length m.store) (held : Held t s) (x : Exact c t m s) where
    stored_used : (e : Stored) → Memᴰ e s.stored → Used t e.key
    stored_used e j = x.consistent.used e.key (unfold keys in Memᴰ.map (λ (e : Stored). e.key) j)

    first_more : (k : Key) → Used (t ++ (a ∷ [])) k → get_or m.store (slot (t ++ (a ∷ [])) k) 0 ≡ from_in s.stored k
    first_more k u = ⊎_elim old new (used_split k u)
      where
        old : Used t k → get_or m.store (slot (t ++ (a ∷ [])) k) 0 ≡ from_in s.stored k
        old w = rw (← slot_same k w) (x.stores.firsts.is k w)

        new : New k → get_or m.store (slot (t ++ (a ∷ [])) k) 0 ≡ from_in s.stored k
        new w =
            x.stores.blank.is (slot (t ++ (a ∷ [])) k) w.high
            ∙ sym (from_missing s.stored k (λ j. w.none (x.consistent.used k (unfold keys in j))))

    not_held : (v : ℕ) (d : Direction) → ¬ Memᴰ (request (length t) v d) s.held
    unfolding Right
    not_held v d j = omega (arith, (held (request (length t) v d) j).0)

    held_more : (n v : ℕ) → n < length (t ++ (a ∷ [])) → IsJoin (node_at (t ++ (a ∷ [])) n) → 1 ≤ v → v ≤ 64
        → get_or m.store (held_at n v) 0 ≡ held_of s.held n v
    unfolding held_of
    held_more n v h j p q =
        ⊎_elim (λ y. x.stores.holds.is n v y.0 (rw (at_more t (a ∷ []) n y.0) j) p q)
        (λ y. x.stores.blank.is (held_at n v) (omega (arith, y.0))
        ∙ rw (y.0, flag_out s.held (request (length t) v if) (not_held v if), flag_out s.held (request (length t) v only_if) (not_held v only_if)))
        (old_or_new t a n (node_at (t ++ (a ∷ [])) n) h refl)

    pub exact_make : Exact c (t ++ (a ∷ [])) m (make a i s)
    unfolding make
    exact_make = record {
      small = x.small;
      logged = record { size = x.logged.size; is = x.logged.is };
      stores = record {
        room = rw (length_snoc t a) room;
        firsts = record { is = first_more };
        trail = record {
          count = x.stores.trail.count;
          is = x.stores.trail.is ∙ map_agree s.stored (λ e j. slot_same e.key (stored_used e j));
        };
        counters = record { step = x.stores.counters.step; clauses = x.stores.counters.clauses };
        holds = record { is = held_more };
        blank = record { is = λ k h. x.stores.blank.is k (omega (arith, length_snoc t a)) };
      };
      consistent = record {
        one = x.consistent.one;
        used = λ k j. used_more k (x.consistent.used k (unfold keys in j));
        entry = x.consistent.entry;
        from_one = λ k j. x.consistent.from_one k (unfold keys in j);
        from_few = x.consistent.from_few;
        few = x.consistent.few;
        few_clauses = x.consistent.few_clauses;
        few_stored = x.consistent.few_stored;
      };
    }
