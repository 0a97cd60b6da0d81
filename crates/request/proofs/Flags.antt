-- The directions held of a value, and a request that is held from now on.
use mathlib.Core.Path.{◌≡◌, refl, sym, ap, subst, ◌∙◌}
use mathlib.Core.Bool.{Bool, true, false, cond}
use mathlib.Core.Logic.{dite, ◌⊎◌, inl, inr, ⊎_elim}
use mathlib.Core.List.Memᴰ
use mathlib.Core.List.{List, [], ◌∷◌, ◌++◌, Memᴰ}
use Prim.Native.Nat.{ℕ, ◌+◌, ◌*◌, ◌≤◌, ◌<◌, ◌%◌}
use native.Mathlib.Decide.{ℕ_discrete}
use native.Mathlib.Omega.{arith}
use borrow.Author.Tests.{eqb-true, eqb-false, leb-true, leb-false}
use lib.Dec.{eqb, leb}
use lib.ListN.{length, get_or, set, length-set}
use lib.Seq.{get_or-set_same, get_or-set_other, take-set-le}
use Rattle.sizes.specs.Sizes.{width, marks_at, step_at, clauses_at, held_at}
use Rattle.memo.specs.Visit.{dec_memᴰ}
use Rattle.totdb.specs.Nodes.{Node, node_at}
use Rattle.cert.specs.Definitions.{Direction, if, only_if}
use Rattle.cert.specs.Equal.{request_dec}
use Rattle.cert.specs.Requests.{Request, request}
use Rattle.cert.specs.State.{State, keys, hold}
use Rattle.rows.specs.Rows.{Bounded, Table}
use Rattle.define.specs.Store.{flag, direction, held_of, IsJoin, slot, HeldFlags}
use Rattle.define.specs.Represents.{Memory, memory, Stores, Exact, Represents, exact, over, Simulates}
use Rattle.define.proofs.Defines.{few_marks}
use Rattle.define.proofs.Slots.{slot_row}
use Rattle.request.specs.Asked.{is_held, held_with}

-- ---- flags

module _ (h : List Request) (x : Request) where
  flag_in : Memᴰ x h → flag h x ≡ 1
  unfolding flag
  flag_in m = by (dec_memᴰ request_dec x h)
    where
      by : (d : Dec (Memᴰ x h)) → dite {C = ℕ} d (λ _. 1) (λ _. 0) ≡ 1
      by (yes i) = refl
      by (no k) = absurd (k m)

  pub flag_out : ¬ Memᴰ x h → flag h x ≡ 0
  unfolding flag
  flag_out n = by (dec_memᴰ request_dec x h)
    where
      by : (d : Dec (Memᴰ x h)) → dite {C = ℕ} d (λ _. 1) (λ _. 0) ≡ 0
      by (yes i) = absurd (n i)
      by (no k) = refl

  flag_low : flag h x ≤ 1
  flag_low = by (dec_memᴰ request_dec x h)
    where
      by : Dec (Memᴰ x h) → flag h x ≤ 1
      by (yes i) = omega (arith, flag_in i)
      by (no k) = omega (arith, flag_out k)

  pub flag_held : flag h x ≡ 1 → Memᴰ x h
  flag_held e = by (dec_memᴰ request_dec x h)
    where
      by : Dec (Memᴰ x h) → Memᴰ x h
      by (yes i) = i
      by (no k) = absurd (omega (arith, e, flag_out k))

  pub flag_new : flag h x ≡ 0 → ¬ Memᴰ x h
  flag_new e m = omega (arith, e, flag_in m)

flag_other : (h : List Request) (x y : Request) → (x ≡ y → ⊥) → flag (h ++ (y ∷ [])) x ≡ flag h x
flag_other h x y n = by (dec_memᴰ request_dec x h)
  where
    by : Dec (Memᴰ x h) → flag (h ++ (y ∷ [])) x ≡ flag h x
    by (yes i) = flag_in (h ++ (y ∷ [])) x (Memᴰ.append_left (y ∷ []) i) ∙ sym (flag_in h x i)
    by (no k) = flag_out (h ++ (y ∷ [])) x (λ i. ⊎_elim k (λ j. n (Memᴰ.eq_of_singleton j)) (Memᴰ.append_cases h i)) ∙ sym (flag_out h x k)

flag_last : (h : List Request) (x : Request) → flag (h ++ (x ∷ [])) x ≡ 1
flag_last h x = flag_in (h ++ (x ∷ [])) x (Memᴰ.append_right h (Memᴰ.head refl))

-- ---- the directions held of a value

other_direction : (n v : ℕ) → request n v if ≡ request n v only_if → ⊥
other_direction n v e = let z : ◌≡◌ {A = ℕ} 0 1 = cc in omega arith

other_value : (n v m w : ℕ) (d e : Direction) → (n ≡ m → v ≡ w → ⊥) → request n v d ≡ request m w e → ⊥
other_value n v m w d e h q = let i : n ≡ m = cc in let j : v ≡ w = cc in h i j

module _ (h : List Request) (n v : ℕ) where
  -- A direction that the number has is held; one that it has not is new.
  pub held_in : (b : Bool) → is_held b (held_of h n v) ≡ true → Memᴰ (request n v (direction b)) h
  unfolding is_held held_of direction
  held_in true e =
      let k = leb-true 2 (flag h (request n v if) + 2 * flag h (request n v only_if)) e in
      let l = flag_low h (request n v if) in
      let r = flag_low h (request n v only_if) in
      flag_held h (request n v only_if) (omega arith)
  held_in false e =
      let k = eqb-true ((flag h (request n v if) + 2 * flag h (request n v only_if)) % 2) 1 e in
      let l = flag_low h (request n v if) in
      let r = flag_low h (request n v only_if) in
      flag_held h (request n v if) (omega arith)

  pub not_held : (b : Bool) → is_held b (held_of h n v) ≡ false → ¬ Memᴰ (request n v (direction b)) h
  unfolding is_held held_of direction
  not_held true e =
      let k = leb-false 2 (flag h (request n v if) + 2 * flag h (request n v only_if)) e in
      let l = flag_low h (request n v if) in
      let r = flag_low h (request n v only_if) in
      flag_new h (request n v only_if) (omega arith)
  not_held false e =
      let k = eqb-false ((flag h (request n v if) + 2 * flag h (request n v only_if)) % 2) 1 e in
      let l = flag_low h (request n v if) in
      let r = flag_low h (request n v only_if) in
      flag_new h (request n v if) (omega (arith, k))

  pub if_new : is_held false (held_of h n v) ≡ false → ¬ Memᴰ (request n v if) h
  unfolding direction
  if_new e = not_held false e

  pub only_if_new : is_held true (held_of h n v) ≡ false → ¬ Memᴰ (request n v only_if) h
  unfolding direction
  only_if_new e = not_held true e

-- One direction more.
module _ (h : List Request) (n v : ℕ) where
  more_if : held_with false (held_of h n v) ≡ held_of (h ++ (request n v if ∷ [])) n v
  unfolding held_with is_held held_of
  more_if =
      let r = flag_low h (request n v only_if) in
      let l = flag_low h (request n v if) in
      let same = flag_other h (request n v only_if) (request n v if) (λ e. other_direction n v (sym e)) in
      rw (flag_last h (request n v if), same) (by (leb 2 (flag h (request n v if) + 2 * flag h (request n v only_if))) refl)
    where
      by : (q : Bool) → leb 2 (flag h (request n v if) + 2 * flag h (request n v only_if)) ≡ q
          → cond {A = ℕ} q 3 1 ≡ 1 + 2 * flag h (request n v only_if)
      by true e =
          omega (arith, flag_low h (request n v only_if), flag_low h (request n v if), leb-true 2 (flag h (request n v if) + 2 * flag h (request n v only_if)) e)
      by false e =
          omega (arith, flag_low h (request n v only_if), flag_low h (request n v if), leb-false 2 (flag h (request n v if) + 2 * flag h (request n v only_if)) e)

  more_only : held_with true (held_of h n v) ≡ held_of (h ++ (request n v only_if ∷ [])) n v
  unfolding held_with is_held held_of
  more_only =
      let same = flag_other h (request n v if) (request n v only_if) (other_direction n v) in
      rw (flag_last h (request n v only_if), same) (by (eqb ((flag h (request n v if) + 2 * flag h (request n v only_if)) % 2) 1) refl)
    where
      by : (q : Bool) → eqb ((flag h (request n v if) + 2 * flag h (request n v only_if)) % 2) 1 ≡ q
          → cond {A = ℕ} q 3 2 ≡ flag h (request n v if) + 2 * 1
      by true e =
          omega (
            arith,
            flag_low h (request n v only_if),
            flag_low h (request n v if),
            eqb-true ((flag h (request n v if) + 2 * flag h (request n v only_if)) % 2) 1 e,
          )
      by false e =
          let k = eqb-false ((flag h (request n v if) + 2 * flag h (request n v only_if)) % 2) 1 e in
          omega (arith, k, flag_low h (request n v only_if), flag_low h (request n v if))

  held_more : (b : Bool) → held_with b (held_of h n v) ≡ held_of (h ++ (request n v (direction b) ∷ [])) n v
  unfolding direction
  held_more true = more_only
  held_more false = more_if

  held_other : (m w : ℕ) (d : Direction) → (n ≡ m → v ≡ w → ⊥) → held_of (h ++ (request m w d ∷ [])) n v ≡ held_of h n v
  unfolding held_of
  held_other m w d k =
      rw (
        flag_other h (request n v if) (request m w d) (other_value n v m w if d k),
        flag_other h (request n v only_if) (request m w d) (other_value n v m w only_if d k),
      )

-- No direction is held, or one is.
pub none_held : (h : List Request) (n v : ℕ) → held_of h n v ≡ 0 → (b : Bool) → is_held b (held_of h n v) ≡ false
unfolding is_held
none_held h n v e true = rw e
none_held h n v e false = rw e

pub some_held : (h : List Request) (n v : ℕ) → (held_of h n v ≡ 0 → ⊥)
    → Memᴰ (request n v if) h ⊎ Memᴰ (request n v only_if) h
unfolding held_of
some_held h n v k = by (dec_memᴰ request_dec (request n v if) h) (dec_memᴰ request_dec (request n v only_if) h)
  where
    by : Dec (Memᴰ (request n v if) h) → Dec (Memᴰ (request n v only_if) h)
        → Memᴰ (request n v if) h ⊎ Memᴰ (request n v only_if) h
    by (yes i) e = inl i
    by (no i) (yes j) = inr j
    by (no i) (no j) = absurd (k (omega (arith, flag_out h (request n v if) i, flag_out h (request n v only_if) j)))

-- ---- a request that is held from now on

-- A value of a join, which has a place.
pub record Flagged (t : List Node) (n v : ℕ) : Type 0 where
  pub there : n < length t
  pub join : IsJoin (node_at t n)
  pub above : 1 ≤ v
  pub within : v ≤ width

module _ {t : List Node} (bd : Bounded t) (n v : ℕ) (b : Bool) (f : Flagged t n v) where
  abbrev held : ℕ → List ℕ → List ℕ
  held p store = set store p (held_with b (get_or store p 0))

  module _ {c : ℕ} {m : Memory} {s : State} (x : Exact c t m s) where
    elsewhere : (i : ℕ) → (i ≡ held_at n v → ⊥) → get_or (held (held_at n v) m.store) i 0 ≡ get_or m.store i 0
    elsewhere i h = get_or-set_other m.store (held_at n v) i (held_with b (get_or m.store (held_at n v) 0)) 0 h

    holds_more : HeldFlags t (held (held_at n v) m.store) (s.held ++ (request n v (direction b) ∷ []))
    holds_more = record { is = λ i w there inner low high. by i w there inner low high (ℕ_discrete i n) (ℕ_discrete w v) }
      where
        by : (i w : ℕ) → i < length t → IsJoin (node_at t i) → 1 ≤ w → w ≤ width → Dec (i ≡ n) → Dec (w ≡ v)
            → get_or (held (held_at n v) m.store) (held_at i w) 0 ≡ held_of (s.held ++ (request n v (direction b) ∷ [])) i w
        by i w there inner low high (yes p) (yes q) =
            rw (p, q)
            (get_or-set_same m.store (held_at n v) (held_with b (get_or m.store (held_at n v) 0)) 0 (omega (arith, f.there, f.within, x.stores.room))
            ∙ ap (held_with b) (x.stores.holds.is n v f.there f.join f.above f.within)
            ∙ held_more s.held n v b)
        by i w there inner low high (yes p) (no q) =
            elsewhere (held_at i w) (λ z. q (omega arith)) ∙ x.stores.holds.is i w there inner low high
            ∙ sym (held_other s.held i w n v (direction b) (λ e g. q g))
        by i w there inner low high (no p) e =
            elsewhere (held_at i w) (λ z. p (omega (arith, f.within, f.above))) ∙ x.stores.holds.is i w there inner low high
            ∙ sym (held_other s.held i w n v (direction b) (λ e g. p e))

    same_marks : get_or (held (held_at n v) m.store) marks_at 0 ≡ get_or m.store marks_at 0
    same_marks = elsewhere marks_at (λ z. absurd (omega arith))

    stores_more : Stores t (memory (held (held_at n v) m.store) m.log m.at) (hold (request n v (direction b)) s)
    unfolding hold
    stores_more = record {
      room = omega (arith, x.stores.room, length-set m.store (held_at n v) (held_with b (get_or m.store (held_at n v) 0)));
      firsts = record {
        is = λ k u. let r = slot_row bd k u in
            elsewhere (slot t k) (λ z. absurd (omega (arith, r.above, r.below, f.above, f.within))) ∙ x.stores.firsts.is k u;
      };
      trail = record {
        count = same_marks ∙ x.stores.trail.count;
        is = rw same_marks
            (take-set-le (get_or m.store marks_at 0) m.store (held_at n v) (held_with b (get_or m.store (held_at n v) 0)) (omega (arith, few_marks x))
            ∙ x.stores.trail.is);
      };
      counters = record {
        step = elsewhere step_at (λ z. absurd (omega arith)) ∙ x.stores.counters.step;
        clauses = elsewhere clauses_at (λ z. absurd (omega arith)) ∙ x.stores.counters.clauses;
      };
      holds = holds_more;
      blank = record { is = λ i l. elsewhere i (λ z. absurd (omega (arith, f.there, f.within))) ∙ x.stores.blank.is i l };
    }

    exact_hold : Exact c t (memory (held (held_at n v) m.store) m.log m.at) (hold (request n v (direction b)) s)
    unfolding hold keys
    exact_hold = record {
      small = x.small;
      logged = record { size = x.logged.size; is = x.logged.is };
      stores = stores_more;
      consistent = record {
        one = x.consistent.one;
        used = x.consistent.used;
        entry = x.consistent.entry;
        from_one = x.consistent.from_one;
        from_few = x.consistent.from_few;
        few = x.consistent.few;
        few_clauses = x.consistent.few_clauses;
        few_stored = x.consistent.few_stored;
      };
    }

  represents_hold : {c : ℕ} {m : Memory} {s : State} → Represents c t m s
      → Represents c t (memory (held (held_at n v) m.store) m.log m.at) (hold (request n v (direction b)) s)
  represents_hold (exact x) = exact (exact_hold x)
  represents_hold {m = m} (over x) = over (record {
    size = x.size;
    past = x.past;
    room = omega (arith, x.room, length-set m.store (held_at n v) (held_with b (get_or m.store (held_at n v) 0)));
    more = unfold hold in x.more;
  })

pub sims_hold : {ns : List ℕ} {P : List Node → State → Type 0} {g : List Node → State → State} {m n : Memory} {store : List ℕ} (i v : ℕ) (b : Bool)
    → ((t : List Node) (s : State) → Table ns t → P t s → Flagged t i v)
    → store ≡ set n.store (held_at i v) (held_with b (get_or n.store (held_at i v) 0))
    → Simulates ns P g m n → Simulates ns P (λ t s. hold (request i v (direction b)) (g t s)) m (memory store n.log n.at)
sims_hold i v b q e a = record {
  does = λ c t s y p x. rw e (represents_hold y.bounded i v b (q t s y p) (a.does c t s y p x));
  onward = a.onward;
}

-- ---- a leaf, whose requests have no place

module _ {t : List Node} (n v : ℕ) (d : Direction) (leaf_at : IsJoin (node_at t n) → ⊥) where
  holds_leaf : {store : List ℕ} {h : List Request} → HeldFlags t store h → HeldFlags t store (h ++ (request n v d ∷ []))
  holds_leaf {h = h} x = record {
    is = λ i w there inner low high.
        x.is i w there inner low high ∙ sym (held_other h i w n v d (λ e g. leaf_at (subst (λ (k : ℕ). IsJoin (node_at t k)) e inner)));
  }

  pub represents_leaf : {c : ℕ} {m : Memory} {s : State} → Represents c t m s → Represents c t m (hold (request n v d) s)
  unfolding hold keys
  represents_leaf (over x) = over (record { size = x.size; past = x.past; room = x.room; more = x.more })
  represents_leaf (exact x) = exact (record {
    small = x.small;
    logged = record { size = x.logged.size; is = x.logged.is };
    stores = record {
      room = x.stores.room;
      firsts = x.stores.firsts;
      trail = x.stores.trail;
      counters = record { step = x.stores.counters.step; clauses = x.stores.counters.clauses };
      holds = holds_leaf x.stores.holds;
      blank = x.stores.blank;
    };
    consistent = record {
      one = x.consistent.one;
      used = x.consistent.used;
      entry = x.consistent.entry;
      from_one = x.consistent.from_one;
      from_few = x.consistent.from_few;
      few = x.consistent.few;
      few_clauses = x.consistent.few_clauses;
      few_stored = x.consistent.few_stored;
    };
  })
