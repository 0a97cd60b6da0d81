-- A memory that represents a state, before and after a clause is written.
use mathlib.Core.Path.{◌≡◌, refl, sym, ap, ◌∙◌}
use mathlib.Core.Bool.{not}
use mathlib.Core.List.{List, [], ◌∷◌, ◌++◌, append-nil, flat_map}
use Prim.Native.Nat.{ℕ, ◌+◌, ◌≤◌, ◌<◌}
use native.Mathlib.Omega.{arith}
use lib.ListN.{length, get_or, length-append}
use Rattle.sizes.specs.Sizes.{step_stop, marks_at, held_at}
use Rattle.memo.specs.Visit.{each}
use Rattle.memo.proofs.Unrolled.{each_append}
use Rattle.record.specs.Record.{Record, derivation, clause, numbers, steps, clauses}
use Rattle.record.specs.Writing.{Buffer, buffer, Onward, Puts}
use Rattle.record.proofs.Bytes.{length_bytes}
use Rattle.totdb.specs.Nodes.{Node}
use Rattle.cert.specs.Definitions.{real, side_def}
use Rattle.cert.specs.Requests.{Clause, clause_tokens, definition, key_of, looks_of}
use Rattle.cert.specs.State.{State, keys, step_in, look_up, write, write_clause}
use Rattle.cert.proofs.Counts.{steps_append}
use Rattle.cert.proofs.Keyed.{real_key}
use Rattle.cert.proofs.Serving.{clauses_append}
use Rattle.derivation.specs.Operands.{operand, part, step_tokens, clause_numbers, next_step}
use Rattle.derivation.specs.declared.SemDefinition.{SemDefinition}
use Rattle.derivation.proofs.ClauseRecords.{clause_step}
use Rattle.rows.specs.Rows.{Bounded, Table}
use Rattle.rows.specs.declared.Join.{Join}
use Rattle.define.specs.Store.{direction, slot, Counters, clause_counted}
use Rattle.define.specs.Represents.{Memory, memory, Stores, Consistent, Exact, Represents, exact, over, Simulates}
use Rattle.define.specs.Lookups.{RealOf, SideIn}
use Rattle.define.proofs.Counted.{counted_size, counted_row, counted_marks, counted_trail, counted_step, counted_clauses}
use Rattle.define.proofs.Defines.{few_steps, few_marks, step_after_lem}
use Rattle.define.proofs.Simulates.{Grows, grown, sims_open, sims_then, sims_under, sims_same}
use Rattle.define.proofs.Slots.{slot_inside}
use Rattle.define.proofs.Written.{Took, fits, past, took}
use Rattle.clauses.specs.Firsts.{FirstsOf, SideRead}
use Rattle.clauses.specs.declared.Split.{Split}
use Rattle.clauses.specs.Joins.{ClauseIn, clause_of}
use Rattle.clauses.proofs.Joins.{left_in, right_in, this_in}

-- ---- an exact memory

module _ {c : ℕ} {t : List Node} {m : Memory} {s : State} (x : Exact c t m s) where
  low_step : s.next_step < step_stop
  low_step = omega (arith, few_steps x, x.consistent.few)

  low_clauses : length (clauses s.log) < step_stop
  low_clauses = omega (arith, few_steps x, x.consistent.few_clauses)

  pub firsts_of : FirstsOf t m.store s.stored
  firsts_of = record { firsts = x.stores.firsts; few = λ k. omega (arith, x.consistent.from_few k, low_step) }

-- ---- a clause and its step

-- The two records of a clause.
abbrev pub clause_records : List Node → Clause → State → List Record
clause_records t k s = derivation (clause_tokens (step_in s.stored) t k) ∷ clause s.next_step k.literals ∷ []

-- The memory after a clause: two records in the log, one step and one clause more.
module _ {c : ℕ} {t : List Node} {m : Memory} {s : State} (b : Bounded t) (x : Exact c t m s) (k : Clause) where
  more_steps : steps (s.log ++ clause_records t k s) ≡ steps s.log + 1
  unfolding steps
  more_steps = steps_append s.log (clause_records t k s)

  more_clauses : length (clauses (s.log ++ clause_records t k s)) ≡ length (clauses s.log) + 1
  unfolding clauses
  more_clauses = rw (clauses_append s.log (clause_records t k s)) (length-append (clauses s.log) (clauses (clause_records t k s)))

  counters_write : Counters (clause_counted m.store) (write t k s)
  unfolding write
  counters_write =
      let z = x.stores in
      record {
        step = counted_step m.store (omega (arith, z.room)) ∙ ap next_step z.counters.step ∙ step_after_lem s.next_step 1 (low_step x);
        clauses = counted_clauses m.store (omega (arith, z.room)) ∙ ap next_step z.counters.clauses
            ∙ step_after_lem (length (clauses s.log)) 1 (low_clauses x) ∙ sym more_clauses;
      }

  stores_write : (log' : List ℕ) (a : ℕ) → Stores t (memory (clause_counted m.store) log' a) (write t k s)
  unfolding write
  stores_write log' a =
      let z = x.stores in
      let row = counted_row m.store in
      let same = counted_marks m.store in
      record {
        room = omega (arith, z.room, counted_size m.store);
        firsts = record { is = λ j q. row (slot t j) (slot_inside b j q).0 ∙ z.firsts.is j q };
        trail = record {
          count = same ∙ z.trail.count;
          is = rw same (counted_trail m.store (get_or m.store marks_at 0) (few_marks x) ∙ z.trail.is);
        };
        counters = counters_write;
        holds = record { is = λ i v there join low high. row (held_at i v) (omega arith) ∙ z.holds.is i v there join low high };
        blank = record { is = λ i h. row i (omega arith) ∙ z.blank.is i h };
      }

  consistent_write : Consistent t (write t k s)
  unfolding write keys
  consistent_write =
      let y = x.consistent in
      record {
        one = omega (arith, y.one);
        used = y.used;
        entry = y.entry;
        from_one = y.from_one;
        from_few = λ j. omega (arith, y.from_few j);
        few = omega (arith, y.few, more_steps);
        few_clauses = omega (arith, y.few_clauses, more_steps, more_clauses);
        few_stored = omega (arith, y.few_stored, length_bytes s.log (clause_records t k s));
      }

  exact_write : (log' : List ℕ) (a : ℕ) → Puts (buffer m.log m.at) (flat_map numbers (clause_records t k s)) (buffer log' a)
      → Represents c t (memory (clause_counted m.store) log' a) (write t k s)
  unfolding write
  exact_write log' a put = by (took s.log (clause_records t k s) x.logged.size x.logged.is put)
    where
      size : length log' ≡ c
      size = put.onward.size ∙ x.logged.size

      by : Took c s.log (clause_records t k s) (buffer log' a) → Represents c t (memory (clause_counted m.store) log' a) (write t k s)
      by (past h more) = over (record { size = size; past = h; room = omega (arith, x.stores.room, counted_size m.store); more = more })
      by (fits e) = exact (record {
        small = x.small;
        logged = record { size = size; is = e };
        stores = stores_write log' a;
        consistent = consistent_write;
      })

-- A clause is written, or skipped where the log is too short.
pub write_grows : (k : List Node → Clause) → Grows (λ t s. write t (k t) s)
unfolding write
write_grows k t s = grown s (write t (k t) s) (clause_records t (k t) s) refl

pub sims_write : {ns : List ℕ} {P : List Node → State → Type 0} {m : Memory} {log' : List ℕ} {a : ℕ} (k : List Node → Clause) → m.at ≤ length m.log
    → Onward (buffer m.log m.at) (buffer log' a)
    → ((c : ℕ) (t : List Node) (s : State) → Table ns t → P t s → Exact c t m s
    → Puts (buffer m.log m.at) (flat_map numbers (clause_records t (k t) s)) (buffer log' a))
    → Simulates ns P (λ t s. write t (k t) s) m (memory (clause_counted m.store) log' a)
sims_write {log' = log'} {a} k h on w = sims_open h on (λ c t s l p x. exact_write l.bounded x (k t) log' a (w c t s l p x))

-- ---- the records of a clause

pub three_parts : {a b p q : List ℕ} {l o : ℕ} → p ≡ a → q ≡ b → o ≡ l → p ++ q ++ (o ∷ []) ≡ a ++ b ++ (l ∷ [])
three_parts e f g = rw (e, f, g)

pub clause_puts : {b d : Buffer} (t : List Node) (k : Clause) (u : State) (this left right : SemDefinition) (c : Rattle.derivation.specs.declared.Clause.Clause)
    → this ≡ operand (step_in u.stored) (definition t k.this) → left ≡ operand (step_in u.stored) (definition t k.left)
    → right ≡ operand (step_in u.stored) (definition t k.right)
    → part c.left ++ part c.right ++ (c.output ∷ []) ≡ k.literals
    → c.step ≡ u.next_step
    → Puts b (numbers (derivation (step_tokens this left right)) ++ clause_numbers c) d
    → Puts b (flat_map numbers (clause_records t k u)) d
unfolding flat_map clause_numbers
clause_puts t k u this left right c et el er ek es x =
    rw (append-nil (numbers (clause u.next_step k.literals)), ← clause_step (step_in u.stored) t k, ← et, ← el, ← er, ← ek, ← es) x

-- ---- a clause after its lookups

looks_is : (x : Join) (z : Split) (t : List Node) (s : State)
    → look_up t (real x.node z.value)
    (each (look_up t) (key_of (side_def t x.right.side z.right (direction (not z.only_if))))
    (each (look_up t) (key_of (side_def t x.left.side z.left (direction (not z.only_if)))) s))
    ≡ each (look_up t) (looks_of t (clause_of t x z)) s
unfolding looks_of definition clause_of each flat_map
looks_is x z t s =
    let left = key_of (side_def t x.left.side z.left (direction (not z.only_if))) in
    let right = key_of (side_def t x.right.side z.right (direction (not z.only_if))) in
    let this = real x.node z.value ∷ [] in
    rw (real_key x.node z.value (direction z.only_if), each_append (look_up t) left (right ++ this) s, each_append (look_up t) right this (each (look_up t) left s))

module _ {x : Join} {z : Split} where
  pub sims_looks : {ns : List ℕ} {m n p q : Memory}
      → Simulates ns (λ t u. SideIn t x.left z.left) (λ t u. each (look_up t) (key_of (side_def t x.left.side z.left (direction (not z.only_if)))) u) m n
      → Simulates ns (λ t u. SideIn t x.right z.right) (λ t u. each (look_up t) (key_of (side_def t x.right.side z.right (direction (not z.only_if)))) u) n p
      → Simulates ns (λ t u. RealOf t x.node z.value) (λ t u. look_up t (real x.node z.value) u) p q
      → Simulates ns (λ t u. ClauseIn t x z) (λ t u. each (look_up t) (looks_of t (clause_of t x z)) u) m q
  sims_looks d e f =
      sims_same (λ t s l k. looks_is x z t s)
      (sims_then (sims_under (λ t s l k. left_in k) d)
      (sims_then (sims_under (λ t s l k. right_in k) e) (sims_under (λ t s l k. this_in k l.bounded) f)))

  -- What is read of the sides, of an exact memory.
  module _ {c : ℕ} {ns : List ℕ} {m : Memory} {t : List Node} {s : State} (l : Table ns t) (k : ClauseIn t x z) (e : Exact c t m s) where
    pub left_read : SideRead m.store t s.stored x.left z.left
    left_read = record { bounded = l.bounded; side = left_in k; room = e.stores.room; firsts_of = firsts_of e }

    pub right_read : SideRead m.store t s.stored x.right z.right
    right_read = record { bounded = l.bounded; side = right_in k; room = e.stores.room; firsts_of = firsts_of e }

  pub sims_clause : {ns : List ℕ} {m q r : Memory}
      → Simulates ns (λ t u. ClauseIn t x z) (λ t u. each (look_up t) (looks_of t (clause_of t x z)) u) m q
      → Simulates ns (λ t u. ClauseIn t x z) (λ t u. write t (clause_of t x z) u) q r
      → Simulates ns (λ t u. ClauseIn t x z) (λ t u. write_clause t (clause_of t x z) u) m r
  unfolding write_clause
  sims_clause d e = sims_then d e
