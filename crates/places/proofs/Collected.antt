-- The walk of `collect`: the places of the clauses before a place, and those from it on.
use mathlib.Core.Path.{◌≡◌, refl, sym, ap, ◌∙◌}
use mathlib.Core.Bool.{Bool, true, false, cond}
use mathlib.Core.List.{List, [], ◌∷◌, ◌++◌, append-nil, append_assoc}
use Prim.Native.Nat.{ℕ, zero, suc, ◌+◌, ◌*◌, ◌≤◌, ◌<◌}
use native.Mathlib.Omega.{arith}
use borrow.Author.Tests.{lt-ltb, le-ltb}
use Rattle.std.specs.Prelude.{Option, Some, None}
use Rattle.std.specs.Option.{unwrap_or}
use Rattle.std.proofs.lemmas.Option.{none-some}
use lib.ListN.{length}
use Rattle.places.specs.Walk.{item_at, is_clause, count_place, places_from, clause_places, after_record}
use Rattle.places.proofs.Within.{item_within, record_after, clause_after}

-- The place of the clause of a record, as the code finds it.
module _ (log : List ℕ) (at : ℕ) where
  pub found_some : {p : ℕ} → Some p ≡ cond (is_clause log at) (Some (count_place log at)) None → (is_clause log at ≡ true) × (p ≡ count_place log at)
  found_some {p} e = go (is_clause log at) refl e
    where
      go : (t : Bool) → is_clause log at ≡ t → Some p ≡ cond t (Some (count_place log at)) None → (is_clause log at ≡ true) × (p ≡ count_place log at)
      go true i e = (i, ap (λ (o : Option ℕ). unwrap_or o 0) e)
      go false i e = absurd (none-some p (sym e))

  pub found_none : ◌≡◌ {A = Option ℕ} None (cond (is_clause log at) (Some (count_place log at)) None) → is_clause log at ≡ false
  found_none e = go (is_clause log at) refl e
    where
      go : (t : Bool) → is_clause log at ≡ t → ◌≡◌ {A = Option ℕ} None (cond t (Some (count_place log at)) None) → is_clause log at ≡ false
      go true i e = absurd (none-some (count_place log at) e)
      go false i e = i

  pub count_within : at ≤ length log → count_place log at ≤ length log
  count_within h = (item_within log (item_at log at).end (item_within log at h).1).1

-- What a record adds.
abbrev pub here : List ℕ → ℕ → List ℕ
here log at = cond (is_clause log at) (count_place log at ∷ []) []

pub record Collected (log found : List ℕ) (at : ℕ) : Type 0 where
  pub fuel : ℕ
  pub enough : length log ≤ at + fuel
  pub is : found ++ places_from log fuel at ≡ clause_places log

module _ (log : List ℕ) where
  pub collected_none : Collected log [] 0
  collected_none = record { fuel = length log; enough = omega arith; is = refl }

  pub collected_all : {found : List ℕ} {at : ℕ} → length log ≤ at → Collected log found at → found ≡ clause_places log
  unfolding places_from
  collected_all {found} {at} h c = go c.fuel c.is
    where
      go : (k : ℕ) → found ++ places_from log k at ≡ clause_places log → found ≡ clause_places log
      go zero e = rw append-nil at e
      go (suc k) e = rw (le-ltb at (length log) h, places_from, append-nil) at e

  pub collected_more : {found more : List ℕ} (at : ℕ) → at < length log → more ≡ found ++ here log at → Collected log found at → Collected log more (after_record log at)
  unfolding places_from
  collected_more {found} {more} at h e c = go c.fuel c.enough c.is
    where
      left : (k : ℕ) (t : Bool) → (found ++ cond t (count_place log at ∷ []) []) ++ places_from log k (after_record log at)
          ≡ found ++ cond t (count_place log at ∷ places_from log k (after_record log at)) (places_from log k (after_record log at))
      left k true = append_assoc found (count_place log at ∷ []) (places_from log k (after_record log at))
      left k false = rw (append-nil found)

      go : (k : ℕ) → length log ≤ at + k → found ++ places_from log k at ≡ clause_places log → Collected log more (after_record log at)
      go zero f i = absurd (omega arith)
      go (suc k) f i =
          let i : found ++ cond (is_clause log at) (count_place log at ∷ places_from log k (after_record log at)) (places_from log k (after_record log at)) ≡ clause_places log =
          rw (lt-ltb at (length log) h, places_from) at i in
          record { fuel = k; enough = omega (arith, record_after log at h); is = rw e (left k (is_clause log at) ∙ i) }

-- n clauses found before a place, each of three bytes but the last, which the end may cut off.
pub record Room (log : List ℕ) (n at : ℕ) : Type 0 where
  pub so_far : at < length log → 3 * n ≤ at
  pub at_end : 3 * n ≤ length log + 2

pub room_none : (log : List ℕ) → Room log 0 0
room_none log = record { so_far = λ h. omega arith; at_end = omega arith }

pub room_more : (log : List ℕ) (n at : ℕ) {m : ℕ} → at < length log → m ≡ cond (is_clause log at) (n + 1) n → Room log n at → Room log m (after_record log at)
room_more log n at {m} h e r = by (is_clause log at) refl
  where
    by : (t : Bool) → is_clause log at ≡ t → Room log m (after_record log at)
    by true i =
        let one : m ≡ n + 1 = e ∙ rw i in
        let c = clause_after log at (omega arith) i in
        record { so_far = λ g. omega (arith, r.so_far h); at_end = omega (arith, r.so_far h) }
    by false i =
        let none : m ≡ n = e ∙ rw i in
        record { so_far = λ g. omega (arith, r.so_far h, record_after log at h); at_end = omega (arith, r.at_end) }
