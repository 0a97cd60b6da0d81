-- What the functions do, from what their calls do.
use mathlib.Core.Path.{◌≡◌, refl, sym, ◌∙◌}
use mathlib.Core.Bool.{Bool, true, false}
use mathlib.Core.Logic.{⊎_elim}
use mathlib.Core.List.{List, [], ◌∷◌, append-nil, flat_map, Memᴰ}
use Prim.Native.Nat.{ℕ, zero, suc, ◌+◌, ◌-◌, ◌≤◌, ◌<◌, min, max}
use native.Mathlib.Decide.{dec_le}
use native.Mathlib.Numerals.{unary_clauses}
use native.Mathlib.Omega.{arith}
use lib.Dec.{eqb}
use lib.ListN.{length, get_or, set}
use Rattle.sizes.specs.Sizes.{kind_at, held_at}
use Rattle.memo.specs.Visit.{each, dec_memᴰ}
use Rattle.memo.proofs.Unrolled.{each_append}
use Rattle.totdb.specs.Nodes.{Node, leaf, node_at, range}
use Rattle.cert.specs.Definitions.{Direction, if, only_if}
use Rattle.cert.specs.Equal.{request_dec}
use Rattle.cert.specs.Requests.{request, needs, below, named, clauses_of}
use Rattle.cert.specs.State.{State, write_clause, write_request, serve}
use Rattle.rows.specs.Rows.{Table, read_join}
use Rattle.rows.specs.declared.Join.{Join}
use Rattle.rows.specs.declared.Shown.{Shown}
use Rattle.record.proofs.Writing.{onward_then, stays}
use Rattle.define.specs.Store.{direction, held_of}
use Rattle.define.specs.Represents.{Memory, memory, Exact, Represents, exact, Simulates}
use Rattle.define.proofs.Simulates.{sims_none, sims_then, sims_same, sims_full, sims_open}
use Rattle.clauses.specs.Joins.{JoinIn}
use Rattle.request.specs.Asked.{ask_for, ask_both, write_both, is_held, held_with, RequestIn, SideAsked}
use Rattle.request.proofs.Asks.{kind_leaf, kind_join, leaf_no_join, join_is_join, join_needs, asked_right, asked_flagged, join_flagged, asked_left, asked_right_side, asked_below, asked_join}
use Rattle.request.proofs.Flags.{held_in, not_held, if_new, only_if_new, none_held, some_held, sims_hold, represents_leaf}
use Rattle.request.proofs.Grow.{ask_grows}
use Rattle.request.proofs.Named.{named_range, below_more}
use Rattle.request.proofs.Served.{together, asked_held, asked_new, leaf_asked, serve_one, serve_first_held, serve_second_held, serve_new, serve_leaf}

-- ---- the contracts, by what is done

module _ (ns : List ℕ) where
  abbrev pub Writes : Join → ℕ → Direction → Memory → Memory → Type 0
  Writes x v d m b = Simulates ns (λ t s. JoinIn t x v) (λ t s. write_request t (request x.node v d) s) m b

  abbrev pub Asks : ℕ → ℕ → Direction → Memory → Memory → Type 0
  Asks n v d m b = Simulates ns (λ t s. RequestIn t n v) (λ t s. ask_for t (request n v d) s) m b

  abbrev pub Singly : ℕ → ℕ → Memory → Memory → Type 0
  Singly n v m b = Simulates ns (λ t s. RequestIn t n v) (λ t s. ask_both t n v s) m b

  abbrev pub Serves : ℕ → ℕ → Memory → Memory → Type 0
  Serves n v m b = Simulates ns (λ t s. RequestIn t n v) (λ t s. serve t (request n v if ∷ request n v only_if ∷ []) s) m b

  abbrev pub Needs : Join → ℕ → Direction → Memory → Memory → Type 0
  Needs x v d m b = Simulates ns (λ t s. JoinIn t x v) (λ t s. each (ask_for t) (needs t (request x.node v d)) s) m b

  abbrev pub Side-asks : Shown → ℕ → ℕ → Direction → Memory → Memory → Type 0
  Side-asks z q v d m b = Simulates ns (λ t s. SideAsked t z q v) (λ t s. each (ask_for t) (below d z.side (named d v z.len q)) s) m b

  -- The literals from low up to i.
  abbrev pub Lower : Shown → ℕ → ℕ → Direction → ℕ → ℕ → Memory → Memory → Type 0
  Lower z q v d low i m b = Simulates ns (λ t s. SideAsked t z q v) (λ t s. each (ask_for t) (below d z.side (range low (i - low))) s) m b

-- The needs of both, then the clauses of both.
two_new : (t : List Node) (n v : ℕ) (s : State)
    → together t (request n v if ∷ request n v only_if ∷ []) s ≡ write_both t n v s
unfolding each flat_map
two_new t n v s = rw (append-nil (needs t (request n v only_if)), each_append (ask_for t) (needs t (request n v if)) (needs t (request n v only_if)) s)

module _ {ns : List ℕ} where
  -- ---- write_request

  pub write_done : {m n : Memory} {store : List ℕ} (x : Join) (v : ℕ) (b : Bool)
      → store ≡ set n.store (held_at x.node v) (held_with b (get_or n.store (held_at x.node v) 0))
      → Simulates ns (λ t s. JoinIn t x v) (λ t s. each (write_clause t) (clauses_of t (request x.node v (direction b))) s) m n
      → Writes ns x v (direction b) m (memory store n.log n.at)
  unfolding write_request
  write_done x v b e a = sims_hold x.node v b (λ t s y w. join_flagged y.bounded w) e a

  -- ---- node_request

  module _ {n v : ℕ} where
    -- A leaf: whatever is held, nothing is written.
    leaf_represents : {c : ℕ} {t : List Node} {m : Memory} {s : State} (d : Direction) → Table ns t → RequestIn t n v → (a : ℕ) → node_at t n ≡ leaf a
        → Represents c t m s → Represents c t m (ask_for t (request n v d) s)
    leaf_represents {c} {t} {m} {s} d y w a e x = by (dec_memᴰ request_dec (request n v d) s.held)
      where
        by : Dec (Memᴰ (request n v d) s.held) → Represents c t m (ask_for t (request n v d) s)
        by (yes i) = rw (asked_held t y.bounded.sized (request n v d) (asked_right y.bounded w d) s i) x
        by (no k) =
            rw (leaf_asked t y.bounded.sized n v d a e (asked_right y.bounded w d) s k) (represents_leaf n v d (leaf_no_join e) x)

    pub node_leaf : (d : Direction) {m : Memory} → eqb (get_or ns (kind_at n) 0) 0 ≡ true → Asks ns n v d m m
    node_leaf d g = record {
      does = λ c t s y w x. let q = kind_leaf y n w.there g in leaf_represents d y w q.0 q.1 x;
      onward = stays;
    }

    module _ (b : Bool) {m : Memory} where
      -- The directions held of a value of a join, in the case that the memory is exact.
      held_is : {c : ℕ} {t : List Node} {s : State} → eqb (get_or ns (kind_at n) 0) 0 ≡ false → Table ns t → RequestIn t n v → Exact c t m s
          → get_or m.store (held_at n v) 0 ≡ held_of s.held n v
      held_is g y w x =
          let f = asked_flagged y.bounded w (join_is_join (kind_join y n w.there g).4) in
          x.stores.holds.is n v f.there f.join f.above f.within

      pub node_held : m.at ≤ length m.log → eqb (get_or ns (kind_at n) 0) 0 ≡ false → is_held b (get_or m.store (held_at n v) 0) ≡ true
          → Asks ns n v (direction b) m m
      node_held room g z = sims_open room stays
          (λ c t s y w x.
          rw (asked_held t y.bounded.sized (request n v (direction b)) (asked_right y.bounded w (direction b)) s
          (held_in s.held n v b (rw (held_is g y w x) at z))) (exact x))

      pub node_join : {a k : Memory} {x : Join} → x ≡ read_join ns n → m.at ≤ length m.log → eqb (get_or ns (kind_at n) 0) 0 ≡ false
          → is_held b (get_or m.store (held_at n v) 0) ≡ false → Needs ns x v (direction b) m a → Writes ns x v (direction b) a k
          → Asks ns n v (direction b) m k
      node_join {x = x} q room g z a k = sims_open room (onward_then a.onward k.onward)
          (λ c t s y w u.
          let j = asked_join y w g q in
          let r : request n v (direction b) ≡ request x.node v (direction b) = rw q in
          rw (
            asked_new t y.bounded.sized (request n v (direction b)) (asked_right y.bounded w (direction b)) s
                (not_held s.held n v b (rw (held_is g y w u) at z)),
            r,
          )
          (k.does c t (each (ask_for t) (needs t (request x.node v (direction b))) s) y j (a.does c t s y j (exact u))))

      -- The number of a request has its direction, whatever the log and the node.
      pub held_asks : is_held b (get_or m.store (held_at n v) 0) ≡ true → Asks ns n v (direction b) m m
      held_asks h = by (dec_le m.at (length m.log)) (eqb (get_or ns (kind_at n) 0) 0) refl
        where
          by : Dec (m.at ≤ length m.log) → (k : Bool) → eqb (get_or ns (kind_at n) 0) 0 ≡ k → Asks ns n v (direction b) m m
          by (yes room) true g = node_leaf (direction b) g
          by (yes room) false g = node_held room g h
          by (no room) k g = sims_full (ask_grows (request n v (direction b))) (omega arith)

    -- ---- both directions

    pub leaf_serves : {m : Memory} → eqb (get_or ns (kind_at n) 0) 0 ≡ true → Serves ns n v m m
    leaf_serves g = sims_same
        (λ t s y w. let q = kind_leaf y n w.there g in
        sym (serve_leaf t y.bounded.sized n v q.0 q.1 (λ d. asked_right y.bounded w d) s))
        (sims_then (node_leaf if g) (node_leaf only_if g))

    pub single_done : {m b : Memory} → m.at ≤ length m.log → eqb (get_or ns (kind_at n) 0) 0 ≡ false
        → (get_or m.store (held_at n v) 0 ≡ 0 → ⊥) → Singly ns n v m b → Serves ns n v m b
    single_done {m} {b} room g z a = sims_open room a.onward
        (λ c t s y w x.
        ⊎_elim {C = Represents c t b (serve t (request n v if ∷ request n v only_if ∷ []) s)}
        (λ i. rw (serve_first_held t y.bounded.sized s (request n v if) (request n v only_if) (asked_right y.bounded w if) (asked_right y.bounded w only_if) i)
        (a.does c t s y w (exact x)))
        (λ j. rw (serve_second_held t y.bounded.sized s (request n v if) (request n v only_if) (asked_right y.bounded w if) (asked_right y.bounded w only_if) j)
        (a.does c t s y w (exact x)))
        (some_held s.held n v (λ e. z (held_is true g y w x ∙ e))))

    pub once_done : {m b : Memory} {x : Join} → x ≡ read_join ns n → m.at ≤ length m.log → eqb (get_or ns (kind_at n) 0) 0 ≡ false
        → get_or m.store (held_at n v) 0 ≡ 0
        → Simulates ns (λ t s. JoinIn t x v) (λ t s. write_both t x.node v s) m b → Serves ns n v m b
    once_done {x = x} q room g z a = sims_open room a.onward
        (λ c t s y w p.
        let o : n ≡ x.node = rw q in
        let none = none_held s.held n v (sym (held_is true g y w p) ∙ z) in
        rw (
          serve_new t y.bounded.sized s (request n v if) (request n v only_if) (asked_right y.bounded w if) (asked_right y.bounded w only_if)
              (if_new s.held n v (none false)) (only_if_new s.held n v (none true)),
          two_new t n v s,
          o,
        )
        (a.does c t s y (asked_join y w g q) (exact p)))

  -- ---- what a request needs, by the two sides

  pub join_done : {x : Join} {v : ℕ} {m a b : Memory} (d : Direction) → Side-asks ns x.left x.right.len v d m a
      → Side-asks ns x.right x.left.len v d a b → Needs ns x v d m b
  join_done {x} {v} d a b = record {
    does = λ c t s y w u.
        rw (
          ← join_needs y.bounded w.of v d,
          each_append (ask_for t) (below d x.left.side (named d v x.left.len x.right.len))
              (below d x.right.side (named d v x.right.len x.left.len)) s,
        )
        (b.does c t (each (ask_for t) (below d x.left.side (named d v x.left.len x.right.len)) s) y (asked_right_side y.bounded w)
        (a.does c t s y (asked_left y.bounded w) u));
    onward = onward_then a.onward b.onward;
  }

  -- ---- side_request

  module _ {z : Shown} {q v : ℕ} (d : Direction) where
    pub side_none : {m : Memory} (low : ℕ) → Lower ns z q v d low low m m
    unfolding range below each
    side_none low = let e : low - low ≡ 0 = omega arith in rw e sims_none

    pub side_more : {m a b : Memory} (low i : ℕ) → low ≤ i → 1 ≤ low → i ≤ z.len → Lower ns z q v d low i m a
        → Asks ns z.side.node (z.side.offset + i) d a b
        → Lower ns z q v d low (i + 1) m b
    unfolding each
    side_more low i h g k a b = record {
      does = λ c t s y w x.
          let e : i + 1 - low ≡ i - low + 1 = omega arith in
          let f : low + (i - low) ≡ i = omega arith in
          rw (
            e,
            below_more d z.side low (i - low),
            f,
            each_append (ask_for t) (below d z.side (range low (i - low))) (request z.side.node (z.side.offset + i) d ∷ []) s,
          )
          (b.does c t (each (ask_for t) (below d z.side (range low (i - low))) s) y (asked_below y.bounded w i (omega arith) k) (a.does c t s y w x));
      onward = onward_then a.onward b.onward;
    }

    pub side_done : {m b : Memory} (low high i : ℕ) → low ≡ max 1 (v - q) → high ≡ min v z.len → i - low ≡ suc high - low
        → Lower ns z q v d low i m b → Side-asks ns z q v d m b
    side_done low high i f h e a = record {
      does = λ c t s y w x. rw (named_range d v z.len q low high w.above f h, ← e) (a.does c t s y w x);
      onward = a.onward;
    }

    -- A side of a leaf.
    module _ {m : Memory} (g : eqb (get_or ns (kind_at z.side.node) 0) 0 ≡ true) where
      lower_leaf : (low k : ℕ) → 1 ≤ low → ((i : ℕ) → i < k → low + i ≤ z.len) → Lower ns z q v d low (low + k) m m
      lower_leaf low zero h a = simp unary_clauses (side_none low)
      lower_leaf low (suc k) h a =
          let e : low + suc k ≡ low + k + 1 = omega arith in
          rw e (side_more low (low + k) (omega arith) h (a k (omega arith)) (lower_leaf low k h (λ i l. a i (omega arith))) (node_leaf d g))

      pub side_leaf : Side-asks ns z q v d m m
      side_leaf =
          let low = max 1 (v - q) in
          let high = min v z.len in
          side_done low high (low + (suc high - low)) refl refl (omega arith) (lower_leaf low (suc high - low) (omega arith) (λ i l. omega arith))

  -- ---- both, one direction

  pub both_done : {x : Join} {v : ℕ} {m a b c k : Memory} → Needs ns x v if m a → Needs ns x v only_if a b → Writes ns x v if b c
      → Writes ns x v only_if c k → Simulates ns (λ t s. JoinIn t x v) (λ t s. write_both t x.node v s) m k
  both_done e f g h = sims_then (sims_then (sims_then e f) g) h

  pub one_done : {n v : ℕ} {m a : Memory} (d : Direction) → Asks ns n v d m a
      → Simulates ns (λ t s. RequestIn t n v) (λ t s. serve t (request n v d ∷ []) s) m a
  one_done {n = n} {v = v} d a =
      sims_same (λ t s y w. sym (serve_one t y.bounded.sized s (request n v d) (asked_right y.bounded w d))) a
