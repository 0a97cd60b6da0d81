-- The i-th mark of the trail is the place of the i-th stored definition, and its steps follow those before.
use Rattle.std.proofs.lemmas.List.{length-take-le}
use mathlib.Core.Path.{◌≡◌, refl, sym, ap, ◌∙◌}
use mathlib.Core.List.{List, [], ◌∷◌, ◌++◌, map, Memᴰ}
use Prim.Native.Nat.{ℕ, zero, suc, ◌+◌, ◌≤◌, ◌<◌}
use native.Mathlib.Omega.{arith}
use lib.ListN.{length, get_or, take}
use lib.Seq.{take-suc, take_all}
use Rattle.sizes.specs.Sizes.{trail, step_stop}
use Rattle.record.specs.Record.{steps}
use Rattle.totdb.specs.Nodes.{Node, range}
use Rattle.cert.specs.Definitions.{real, key_records}
use Rattle.cert.specs.State.{Stored, stored_steps}
use Rattle.define.specs.Store.{slot}
use Rattle.define.proofs.Entries.{entry, stored_more, stored_length}
use Rattle.define.proofs.Slots.{slot_inside}
use Rattle.closing.specs.Closing.{MarkedKeys, SlotOf}

abbrev none : Stored
none = entry (real 0 0) 0

one_of : {A : Type 0} (l : List A) (i : ℕ) (d : A) → i < length l → Memᴰ (get_or l i d) l
one_of [] i d h = absurd (omega arith)
one_of (a ∷ l) zero d h = Memᴰ.head refl
one_of (a ∷ l) (suc i) d h = Memᴰ.tail (one_of l i d (omega arith))

at_map : {A B : Type 0} (f : A → B) (l : List A) (i : ℕ) (d : B) (e : A) → i < length l → get_or (map f l) i d ≡ f (get_or l i e)
at_map f [] i d e h = absurd (omega arith)
at_map f (a ∷ l) zero d e h = refl
at_map f (a ∷ l) (suc i) d e h = at_map f l i d e (omega arith)

abbrev pub stored_at : List Stored → ℕ → Stored
stored_at es i = get_or es i none

module _ {ns store : List ℕ} {marks : ℕ} {t : List Node} {es : List Stored} (l : MarkedKeys ns store marks t es) where
  pub mark_count : marks ≡ length (take marks store)
  mark_count = sym (length-take-le marks store (omega (arith, l.few, l.room)))

  marked : length (take marks store) ≡ length es
  marked = sym mark_count ∙ l.trail.count

  pub marked_few : length (take marks store) ≤ trail
  marked_few = omega (arith, marked, l.trail.count, l.few)

  module _ (i : ℕ) (h : i < length (take marks store)) where
    abbrev e : Stored
    e = stored_at es i

    abbrev mark : ℕ
    mark = get_or (take marks store) i 0

    within : Memᴰ e es
    within = one_of es i none (omega (arith, marked))

    pub mark_is : SlotOf ns t e.key mark
    mark_is = record {
      table = l.table;
      used = l.used e within;
      is = ap (λ (z : List ℕ). get_or z i 0) l.trail.is ∙ at_map (λ (x : Stored). slot t x.key) es i 0 none (omega (arith, marked));
    }

    pub mark_inside : mark < length store
    mark_inside = omega (arith, mark_is.is, (slot_inside l.table.bounded e.key (l.used e within)).1, l.room)

    pub first_is : get_or store mark 0 ≡ e.from
    first_is = ap (λ (p : ℕ). get_or store p 0) mark_is.is ∙ l.firsts.is e.key (l.used e within) ∙ l.entry e within

    pub first_low : get_or store mark 0 ≤ step_stop
    first_low = omega (arith, first_is, l.low e within)

    more : take (suc i) es ≡ take i es ++ (e ∷ [])
    more = take-suc es i none (omega (arith, marked))

    pub steps_more : stored_steps t (take (suc i) es) ≡ stored_steps t (take i es) ++ range e.from (steps (key_records (λ j i. 0) t e.key))
    steps_more = ap (stored_steps t) more ∙ stored_more t (take i es) e.key e.from (λ j i. 0)

    pub length_more : length (stored_steps t (take (suc i) es)) ≡ length (stored_steps t (take i es)) + steps (key_records (λ j i. 0) t e.key)
    length_more = ap (λ (z : List Stored). length (stored_steps t z)) more ∙ stored_length t (take i es) e.key e.from (λ j i. 0)

  pub all_marks : (i : ℕ) → length (take marks store) ≤ i → take i es ≡ es
  all_marks i h = take_all i es (omega (arith, marked))
