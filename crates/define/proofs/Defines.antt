-- A key that is not stored: its records are written, its first step and its place are stored, and the memory represents the state after `define`.
use mathlib.Core.Path.{◌≡◌, sym, ap, subst, ◌∙◌}
use mathlib.Core.Bool.{Bool, true, false, cond}
use mathlib.Core.Logic.{⊎_elim}
use mathlib.Core.List.Memᴰ
use mathlib.Core.List.{List, [], ◌∷◌, ◌++◌, map, map-append, flat_map, Memᴰ}
use Prim.Native.Nat.{ℕ, ◌+◌, ◌*◌, ◌≤◌, ◌<◌}
use native.Mathlib.Numerals.{add-one}
use native.Mathlib.Omega.{arith}
use borrow.Author.Tests.{lt-ltb}
use lib.Dec.{ltb}
use lib.ListN.{length, get_or, set, length-set, length-append, length-map}
use lib.Seq.{get_or-set_same, get_or-set_other, take-set-le, take-suc-set}
use Rattle.sizes.specs.Sizes.{most_bytes, trail, marks_at, step_at, clauses_at, store_start, step_stop, held_at}
use Rattle.pb.specs.Sum.{neg}
use Rattle.record.specs.Record.{Record, numbers, steps, bytes}
use Rattle.record.specs.Writing.{buffer, content, written, Puts}
use Rattle.record.proofs.Bytes.{two_bytes, length_bytes}
use Rattle.record.proofs.Writing.{content_length, not_over}
use Rattle.totdb.specs.Nodes.{Node, node_at, output, outputs, range}
use Rattle.totdb.proofs.Listed.{length_range}
use Rattle.cert.specs.Definitions.{Key, real, window_zero, window, key_records, at_least_zero, window_pair}
use Rattle.cert.specs.Equal.{key_dec}
use Rattle.cert.specs.State.{State, Stored, keys, from_in, step_in, define}
use Rattle.cert.proofs.Counts.{steps_append}
use Rattle.cert.proofs.Serving.{define_keys, define_clauses}
use Rattle.rows.specs.Rows.{Bounded}
use Rattle.derivation.specs.Operands.{step_after}
use Rattle.define.specs.Store.{Used, slot, Firsts, Trail, Counters, HeldFlags, Blank, steps_stored, key_stored}
use Rattle.define.specs.Represents.{Memory, memory, Consistent, Exact, Represents, exact, over}
use Rattle.define.proofs.Entries.{entry, from_same, from_other}
use Rattle.define.proofs.Reals.{zero_bytes, real_bytes}
use Rattle.define.proofs.Slots.{slot_inside, slot_once, slot_row}
use Rattle.define.proofs.Written.{Took, fits, past, took}

-- ---- the bytes of a key

outputs_length : (x : Node) (f m : ℕ) → length (outputs x f m) ≡ m
unfolding outputs
outputs_length x f m = length-map (range (f + 1) m) (output x) ∙ length_range (f + 1) m

key_bytes : (t : List Node) → Bounded t → (f : Key → ℕ → ℕ) (k : Key) → Used t k → 8 ≤ length (bytes (key_records f t k))
unfolding key_records Used
key_bytes t b f (real n v) u = real_bytes (node_at t n) v u.1
key_bytes t b f (window_zero n o m) u = zero_bytes (outputs (node_at t n) o m) (omega (arith, u.long, outputs_length (node_at t n) o m))
key_bytes t b f (window n o m) u =
    let os : List ℕ = map neg (outputs (node_at t n) o m) in
    let long : length os ≡ m = length-map (outputs (node_at t n) o m) neg ∙ outputs_length (node_at t n) o m in
    omega (
      arith,
      length_bytes (flat_map {B = Record} (window_pair f n (node_at t n) o m) (range (o + 1) m)) (at_least_zero os ∷ []),
      zero_bytes os (omega (arith, long, u.long)),
    )

-- ---- the memory after

-- What is written fits in the log, so the steps are few.
pub few_steps : {c : ℕ} {t : List Node} {m : Memory} {s : State} → Exact c t m s → 2 * steps s.log ≤ most_bytes
few_steps {m = m} {s = s} ex =
    let l = ex.logged in
    omega (arith, ex.small, l.size, content_length m.log m.at l.is, not_over m.log m.at l.is, two_bytes s.log)

-- And the definitions, so the trail has room for them.
pub few_marks : {c : ℕ} {t : List Node} {m : Memory} {s : State} → Exact c t m s → get_or m.store marks_at 0 ≤ trail
few_marks {m = m} {s = s} ex =
    let l = ex.logged in
    omega (
      arith,
      ex.small,
      l.size,
      content_length m.log m.at l.is,
      not_over m.log m.at l.is,
      ex.consistent.few_stored,
      ex.stores.trail.count,
    )

pub step_after_lem : (n k : ℕ) → n < step_stop → step_after n k ≡ n + k
unfolding step_after
step_after_lem n k h = rw (lt-ltb n step_stop h)

-- ---- `key_stored`

module _ (p n : ℕ) (store : List ℕ) where
  steps_size : length (steps_stored p n store) ≡ length store
  unfolding steps_stored
  steps_size = length-set (set store p (get_or store step_at 0)) step_at _ ∙ length-set store p (get_or store step_at 0)

  marked_size : (i a v : ℕ) → length (set (set (steps_stored p n store) i a) marks_at v) ≡ length store
  marked_size i a v = length-set (set (steps_stored p n store) i a) marks_at v ∙ length-set (steps_stored p n store) i a ∙ steps_size

  stored_marked : get_or store marks_at 0 < trail
      → key_stored p n store ≡ set (set (steps_stored p n store) (get_or store marks_at 0) p) marks_at (get_or store marks_at 0 + 1)
  unfolding key_stored
  stored_marked h = rw (lt-ltb (get_or store marks_at 0) trail h)

  pub stored_size : length (key_stored p n store) ≡ length store
  unfolding key_stored
  stored_size = by (ltb (get_or store marks_at 0) trail)
    where
      by : (q : Bool)
          → length (cond q (set (set (steps_stored p n store) (get_or store marks_at 0) p) marks_at (get_or store marks_at 0 + 1)) (steps_stored p n store)) ≡ length store
      by true = marked_size (get_or store marks_at 0) p (get_or store marks_at 0 + 1)
      by false = steps_size

-- ---- the state after

module _ {c : ℕ} {t : List Node} {m : Memory} {s : State} (b : Bounded t) (ex : Exact c t m s) (k : Key) (used : Used t k)
    (new : ¬ Memᴰ k (keys s)) (n : ℕ) where
  abbrev records : List Record
  records = key_records (step_in s.stored) t k

  abbrev marks : ℕ
  marks = get_or m.store marks_at 0

  abbrev stepped : List ℕ
  stepped = steps_stored (slot t k) n m.store

  abbrev after : List ℕ
  after = set (set stepped marks (slot t k)) marks_at (marks + 1)

  -- A place that is neither the key's nor on the trail, nor that of a counter which changes.
  elsewhere : (i : ℕ) → marks < trail → trail ≤ i → (i ≡ marks_at → ⊥) → (i ≡ step_at → ⊥) → (i ≡ slot t k → ⊥) → get_or after i 0 ≡ get_or m.store i 0
  unfolding steps_stored
  elsewhere i h l a d e =
      get_or-set_other (set stepped marks (slot t k)) marks_at i (marks + 1) 0 a
      ∙ get_or-set_other stepped marks i (slot t k) 0 (λ q. absurd (omega arith))
      ∙ get_or-set_other (set m.store (slot t k) (get_or m.store step_at 0)) step_at i _ 0 d
      ∙ get_or-set_other m.store (slot t k) i (get_or m.store step_at 0) 0 e

  in_rows : (i : ℕ) → marks < trail → store_start ≤ i → (i ≡ slot t k → ⊥) → get_or after i 0 ≡ get_or m.store i 0
  in_rows i h l e = elsewhere i h (omega arith) (λ q. absurd (omega arith)) (λ q. absurd (omega arith)) e

  key_first : marks < trail → get_or after (slot t k) 0 ≡ s.next_step
  unfolding steps_stored
  key_first h =
      let p = slot_inside b k used in
      get_or-set_other (set stepped marks (slot t k)) marks_at (slot t k) (marks + 1) 0 (λ q. absurd (omega (arith, p.0)))
      ∙ get_or-set_other stepped marks (slot t k) (slot t k) 0 (λ q. absurd (omega (arith, p.0)))
      ∙ get_or-set_other (set m.store (slot t k) (get_or m.store step_at 0)) step_at (slot t k) _ 0 (λ q. absurd (omega (arith, p.0)))
      ∙ get_or-set_same m.store (slot t k) (get_or m.store step_at 0) 0 (omega (arith, p.1, ex.stores.room))
      ∙ ex.stores.counters.step

  firsts_more : marks < trail → Firsts t after (s.stored ++ (entry k s.next_step ∷ []))
  unfolding keys
  firsts_more h = record { is = λ j u. by j u (key_dec k j) }
    where
      by : (j : Key) → Used t j → Dec (k ≡ j) → get_or after (slot t j) 0 ≡ from_in (s.stored ++ (entry k s.next_step ∷ [])) j
      by j u (yes e) = rw (← e) (key_first h ∙ sym (from_same s.stored k s.next_step new))
      by j u (no e) =
          in_rows (slot t j) h (slot_inside b j u).0 (λ q. e (sym (slot_once b j k u used q)))
          ∙ ex.stores.firsts.is j u ∙ sym (from_other s.stored k j s.next_step e)

  marks_more : get_or after marks_at 0 ≡ marks + 1
  marks_more =
      get_or-set_same (set stepped marks (slot t k)) marks_at (marks + 1) 0
      (omega (arith, length-set stepped marks (slot t k), steps_size (slot t k) n m.store, ex.stores.room))

  trail_more : marks < trail → Trail t after (marks + 1) (s.stored ++ (entry k s.next_step ∷ []))
  unfolding steps_stored
  trail_more h =
      let p = slot_inside b k used in
      let g : Stored → ℕ = λ e. slot t e.key in
      record {
        count = rw (length-append s.stored (entry k s.next_step ∷ [])) (omega (arith, ex.stores.trail.count));
        is = take-set-le (marks + 1) (set stepped marks (slot t k)) marks_at (marks + 1) (omega arith)
            ∙ rw (add-one marks)
            (take-suc-set stepped marks (slot t k) (omega (arith, steps_size (slot t k) n m.store, ex.stores.room))
            ∙ ap (λ (l : List ℕ). l ++ (slot t k ∷ []))
            (take-set-le marks (set m.store (slot t k) (get_or m.store step_at 0)) step_at _ (omega arith)
            ∙ take-set-le marks m.store (slot t k) (get_or m.store step_at 0) (omega (arith, p.0)) ∙ ex.stores.trail.is)
            ∙ sym (map-append g s.stored (entry k s.next_step ∷ [])));
      }

  step_more : marks < trail → get_or after step_at 0 ≡ step_after s.next_step n
  unfolding steps_stored
  step_more h =
      get_or-set_other (set stepped marks (slot t k)) marks_at step_at (marks + 1) 0 (λ q. absurd (omega arith))
      ∙ get_or-set_other stepped marks step_at (slot t k) 0 (λ q. absurd (omega arith))
      ∙ get_or-set_same (set m.store (slot t k) (get_or m.store step_at 0)) step_at _ 0
      (omega (arith, length-set m.store (slot t k) (get_or m.store step_at 0), ex.stores.room))
      ∙ ap (λ (i : ℕ). step_after i n) ex.stores.counters.step

  counters_more : n ≡ steps records → marks < trail → Counters after (define t k s)
  unfolding define
  counters_more count h =
      let low : s.next_step < step_stop = omega (arith, ex.consistent.few, few_steps ex) in
      record {
        step = step_more h ∙ step_after_lem s.next_step n low ∙ rw count;
        clauses = elsewhere clauses_at h (omega arith) (λ q. absurd (omega arith)) (λ q. absurd (omega arith)) (λ q. absurd (omega (arith, (slot_inside b k used).0)))
            ∙ ex.stores.counters.clauses ∙ sym (ap length (define_clauses t k s));
      }

  holds_more : marks < trail → HeldFlags t after s.held
  holds_more h = record {
    is = λ i v there join low high.
        let r = slot_row b k used in
        in_rows (held_at i v) h (omega arith) (λ q. absurd (omega (arith, r.above, r.below))) ∙ ex.stores.holds.is i v there join low high;
  }

  blank_more : marks < trail → Blank t after
  blank_more h = record {
    is = λ i l. in_rows i h (omega arith) (λ q. absurd (omega (arith, (slot_inside b k used).1))) ∙ ex.stores.blank.is i l;
  }

  -- What holds of the first step of every key: of the new one, and of the others.
  from_all : (P : ℕ → Type 0) → P s.next_step → (j : Key) → ((k ≡ j → ⊥) → P (from_in s.stored j))
      → P (from_in (s.stored ++ (entry k s.next_step ∷ [])) j)
  unfolding keys
  from_all P p j q = by (key_dec k j)
    where
      by : Dec (k ≡ j) → P (from_in (s.stored ++ (entry k s.next_step ∷ [])) j)
      by (yes e) = rw (← e, from_same s.stored k s.next_step new) p
      by (no e) = rw (from_other s.stored k j s.next_step e) (q e)

  old_key : (j : Key) → (k ≡ j → ⊥) → Memᴰ j (keys (define t k s)) → Memᴰ j (keys s)
  old_key j e i =
      ⊎_elim (λ h. h) (λ h. absurd (e (sym (Memᴰ.eq_of_singleton h))))
      (Memᴰ.append_cases (keys s) (subst (Memᴰ j) (define_keys t k s) i))

  used_more : (j : Key) → Memᴰ j (keys (define t k s)) → Used t j
  used_more j i = by (key_dec k j)
    where
      by : Dec (k ≡ j) → Used t j
      by (yes e) = subst (Used t) e used
      by (no e) = ex.consistent.used j (old_key j e i)

  entry_more : (e : Stored) → Memᴰ e (s.stored ++ (entry k s.next_step ∷ [])) → from_in (s.stored ++ (entry k s.next_step ∷ [])) e.key ≡ e.from
  unfolding keys
  entry_more e i =
      ⊎_elim
      (λ m. from_other s.stored k e.key s.next_step (λ q. new (subst (λ (j : Key). Memᴰ j (keys s)) (sym q) (Memᴰ.map (λ (e : Stored). e.key) m)))
      ∙ ex.consistent.entry e m)
      (λ m. let q = Memᴰ.eq_of_singleton m in rw q (from_same s.stored k s.next_step new))
      (Memᴰ.append_cases s.stored i)

  consistent_more : Consistent t (define t k s)
  unfolding define
  consistent_more =
      let y = ex.consistent in
      record {
        one = omega (arith, y.one);
        used = used_more;
        entry = entry_more;
        from_one = λ j i. from_all (λ (n : ℕ). 1 ≤ n) y.one j (λ e. y.from_one j (old_key j e i));
        from_few = λ j. from_all (λ (n : ℕ). n ≤ s.next_step + steps records) (omega arith) j (λ e. omega (arith, y.from_few j));
        few = omega (arith, y.few, steps_append s.log records);
        few_clauses = rw (define_clauses t k s) (omega (arith, y.few_clauses, steps_append s.log records));
        few_stored = rw (length-append s.stored (entry k s.next_step ∷ []))
            (omega (arith, y.few_stored, length_bytes s.log records, key_bytes t b (step_in s.stored) k used));
      }

  module _ {store' log' : List ℕ} {a : ℕ} (put : Puts (buffer m.log m.at) (flat_map numbers records) (buffer log' a))
      (count : n ≡ steps records) (is : store' ≡ key_stored (slot t k) n m.store) where
    size : length log' ≡ c
    size = put.onward.size ∙ ex.logged.size

    -- With room on the trail.
    exact_after : content (buffer log' a) ≡ written (bytes (s.log ++ records)) → Exact c t (memory store' log' a) (define t k s)
    unfolding define
    exact_after fit =
        let y = consistent_more in
        let whole : length (bytes (s.log ++ records)) ≤ c = omega (arith, content_length log' a fit, not_over log' a fit, size) in
        let h : marks < trail =
        omega (arith, ex.small, ex.stores.trail.count, y.few_stored, length-append s.stored (entry k s.next_step ∷ [])) in
        let store_is : store' ≡ after = is ∙ stored_marked (slot t k) n m.store h in
        record {
          small = ex.small;
          logged = record { size = size; is = fit };
          stores = rw store_is (record {
            room = omega (arith, ex.stores.room, marked_size (slot t k) n m.store marks (slot t k) (marks + 1));
            firsts = firsts_more h;
            trail = rw marks_more (trail_more h);
            counters = counters_more count h;
            holds = holds_more h;
            blank = blank_more h;
          });
          consistent = y;
        }

    pub defined : Represents c t (memory store' log' a) (define t k s)
    unfolding define
    defined = by (took s.log records ex.logged.size ex.logged.is put)
      where
        by : Took c s.log records (buffer log' a) → Represents c t (memory store' log' a) (define t k s)
        by (fits e) = exact (exact_after e)
        by (past h more) = over (record {
          size = size;
          past = h;
          room = omega (arith, ex.stores.room, ap length is ∙ stored_size (slot t k) n m.store);
          more = more;
        })
