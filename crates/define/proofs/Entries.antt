-- One more stored key: its first step, those of the others, and the steps that are stored.
use mathlib.Core.Path.{◌≡◌, refl, sym, ap, ◌∙◌}
use mathlib.Core.Logic.{dite}
use mathlib.Core.List.{List, [], ◌∷◌, ◌++◌, map, flat_map, append-nil, Memᴰ}
use Prim.Native.Nat.{ℕ, ◌+◌}
use lib.ListN.{length, length-append}
use Rattle.memo.proofs.Lists.{flat_map_append}
use Rattle.record.specs.Record.{steps}
use Rattle.totdb.specs.Nodes.{Node, range}
use Rattle.totdb.proofs.Listed.{length_range}
use Rattle.cert.specs.Definitions.{Key, key_records}
use Rattle.cert.specs.Equal.{key_dec}
use Rattle.cert.specs.State.{Stored, from_in, stored_steps}
use Rattle.cert.proofs.Counts.{key_count}

abbrev keys_of : List Stored → List Key
keys_of es = map {B = Key} (λ (e : Stored). e.key) es

abbrev pub entry : Key → ℕ → Stored
entry k n = record { key = k; from = n }

pub from_missing : (es : List Stored) (k : Key) → ¬ Memᴰ k (keys_of es) → from_in es k ≡ 0
unfolding from_in
from_missing [] k h = refl
from_missing (e ∷ es) k h = by (key_dec e.key k) (from_missing es k (λ m. h (Memᴰ.tail m)))
  where
    by : (d : Dec (e.key ≡ k)) → from_in es k ≡ 0 → dite {C = ℕ} d (λ _. e.from) (λ _. from_in es k) ≡ 0
    by (yes p) q = absurd (h (Memᴰ.head (sym p)))
    by (no p) q = q

pub from_same : (es : List Stored) (k : Key) (n : ℕ) → ¬ Memᴰ k (keys_of es) → from_in (es ++ (entry k n ∷ [])) k ≡ n
unfolding from_in
from_same [] k n h = by (key_dec k k)
  where
    by : (d : Dec (k ≡ k)) → dite {C = ℕ} d (λ _. n) (λ _. 0) ≡ n
    by (yes p) = refl
    by (no p) = absurd (p refl)
from_same (e ∷ es) k n h = by (key_dec e.key k) (from_same es k n (λ m. h (Memᴰ.tail m)))
  where
    by : (d : Dec (e.key ≡ k)) → from_in (es ++ (entry k n ∷ [])) k ≡ n
        → dite {C = ℕ} d (λ _. e.from) (λ _. from_in (es ++ (entry k n ∷ [])) k) ≡ n
    by (yes p) q = absurd (h (Memᴰ.head (sym p)))
    by (no p) q = q

pub from_other : (es : List Stored) (k j : Key) (n : ℕ) → (k ≡ j → ⊥) → from_in (es ++ (entry k n ∷ [])) j ≡ from_in es j
unfolding from_in
from_other [] k j n h = by (key_dec k j)
  where
    by : (d : Dec (k ≡ j)) → dite {C = ℕ} d (λ _. n) (λ _. 0) ≡ 0
    by (yes p) = absurd (h p)
    by (no p) = refl
from_other (e ∷ es) k j n h = by (key_dec e.key j) (from_other es k j n h)
  where
    by : (d : Dec (e.key ≡ j)) → from_in (es ++ (entry k n ∷ [])) j ≡ from_in es j
        → dite {C = ℕ} d (λ _. e.from) (λ _. from_in (es ++ (entry k n ∷ [])) j) ≡ dite {C = ℕ} d (λ _. e.from) (λ _. from_in es j)
    by (yes p) q = refl
    by (no p) q = q

-- ---- the stored steps

module _ (t : List Node) (es : List Stored) (k : Key) (n : ℕ) (f : Key → ℕ → ℕ) where
  pub stored_more : stored_steps t (es ++ (entry k n ∷ [])) ≡ stored_steps t es ++ range n (steps (key_records f t k))
  unfolding stored_steps flat_map
  stored_more =
      flat_map_append (λ (e : Stored). range e.from (steps (key_records (λ k i. 0) t e.key))) es (entry k n ∷ [])
      ∙ rw (append-nil (range n (steps (key_records (λ k i. 0) t k))), key_count (λ k i. 0) t k, key_count f t k)

  pub stored_length : length (stored_steps t (es ++ (entry k n ∷ []))) ≡ length (stored_steps t es) + steps (key_records f t k)
  stored_length =
      ap length stored_more
      ∙ length-append (stored_steps t es) (range n (steps (key_records f t k)))
      ∙ rw (length_range n (steps (key_records f t k)))
