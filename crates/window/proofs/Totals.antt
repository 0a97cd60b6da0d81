-- Sequences added up: the first that is not empty, then each other with its addition.
use mathlib.Core.Path.{◌≡◌, refl, ◌∙◌, ap}
use mathlib.Core.List.{List, [], ◌∷◌, ◌++◌, map, flat_map, append_assoc, append-nil, Memᴰ}
use Prim.Native.Nat.{ℕ, zero, suc, ◌+◌, ◌-◌, ◌*◌, ◌≤◌, ◌<◌}
use native.Mathlib.Nat.{suc-mul}
use native.Mathlib.Numerals.{add-one}
use native.Mathlib.Omega.{arith}
use lib.ListN.{length, length-append}
use Rattle.pb.specs.Rules.{Token, add}
use Rattle.record.specs.Record.{token_numbers}
use Rattle.record.proofs.Tokens.{tokens_append}
use Rattle.totdb.specs.Nodes.{range}
use Rattle.memo.proofs.Lists.{flat_map_append}
use Rattle.cert.specs.Definitions.{add_sequence, total}
use Rattle.cert.proofs.WindowDerivations.{range_append}
use Rattle.derivation.proofs.ClauseRecords.{add_append}
use Rattle.window.specs.Window.{added}

module _ {A : Type 0} (p : A → List Token) where
  total_started : (k : Token) (ks : List Token) (l : List A) → total (k ∷ ks) (map p l) ≡ k ∷ ks ++ flat_map (added p) l
  unfolding total flat_map
  total_started k ks [] = rw (append-nil (k ∷ ks))
  total_started k ks (a ∷ l) =
      ap (λ (js : List Token). total js (map p l)) (add_append (k ∷ ks) (p a))
      ∙ total_started k (ks ++ added p a) l
      ∙ append_assoc (k ∷ ks) (added p a) (flat_map (added p) l)

  total_first : (a : A) (l : List A) → 0 < length (p a) → total [] (map p (a ∷ l)) ≡ p a ++ flat_map (added p) l
  unfolding total
  total_first a l h = go (p a) h
    where
      go : (js : List Token) → 0 < length js → total js (map p l) ≡ js ++ flat_map (added p) l
      go [] h = absurd (omega arith)
      go (j ∷ js) h = total_started j js l

  total_skip : (a : A) (l : List A) → p a ≡ [] → total [] (map p (a ∷ l)) ≡ total [] (map p l)
  unfolding total
  total_skip a l e = rw e

  pub total_length : (l : List A) → length (total [] (map p l)) ≡ length (flat_map (added p) l) - 1
  unfolding total flat_map add_sequence
  total_length [] = omega arith
  total_length (a ∷ l) = go (p a) (total_length l)
    where
      go : (js : List Token) → length (total [] (map p l)) ≡ length (flat_map (added p) l) - 1
          → length (total js (map p l)) ≡ length (add_sequence [] js ++ flat_map (added p) l) - 1
      go [] more = more
      go (j ∷ js) more = rw (total_started j js l) (simp length-append (omega arith))

  -- All of one length.
  pub added_length : (n : ℕ) (l : List A) → ((a : A) → Memᴰ a l → length (p a) ≡ suc n) → length (flat_map (added p) l) ≡ length l * (n + 2)
  unfolding flat_map add_sequence
  added_length n [] h = omega arith
  added_length n (a ∷ l) h =
      let one = one_added (p a) (h a (Memᴰ.head refl)) in
      let more = added_length n l (λ b m. h b (Memᴰ.tail m)) in
      rw (suc-mul (length l) (n + 2)) (simp length-append (omega arith))
    where
      one_added : (js : List Token) → length js ≡ suc n → length (add_sequence [] js) ≡ n + 2
      one_added [] e = absurd (omega arith)
      one_added (j ∷ js) e = simp length-append (omega arith)

pub added_some : (js : List Token) → 0 < length js → token_numbers (add_sequence [] js) ≡ token_numbers js ++ (2 ∷ [])
unfolding add_sequence token_numbers
added_some [] h = absurd (omega arith)
added_some (j ∷ js) h = tokens_append (j ∷ js) (add ∷ [])

-- ---- over the numbers from a up

module _ (p : ℕ → List Token) (a : ℕ) where
  pub range_first : (i : ℕ) → 0 < i → 0 < length (p a) → total [] (map p (range a i)) ≡ p a ++ flat_map (added p) (range (a + 1) (i - 1))
  unfolding range
  range_first zero h k = absurd (omega arith)
  range_first (suc i) h k =
      let e : suc i - 1 ≡ i = omega arith in
      rw (add-one, e) (total_first p a (range (suc a) i) k)

  pub range_skip : (i : ℕ) → 0 < i → p a ≡ [] → total [] (map p (range a i)) ≡ total [] (map p (range (a + 1) (i - 1)))
  unfolding range
  range_skip zero h k = absurd (omega arith)
  range_skip (suc i) h k =
      let e : suc i - 1 ≡ i = omega arith in
      rw (add-one, e) (total_skip p a (range (suc a) i) k)

-- One more turn of a loop.
pub range_more : {B : Type 0} (g : ℕ → List B) (a s : ℕ) → a ≤ s → flat_map g (range a (s + 1 - a)) ≡ flat_map g (range a (s - a)) ++ g s
unfolding flat_map range
range_more g a s h =
    let e : s + 1 - a ≡ (s - a) + 1 = omega arith in
    let f : a + (s - a) ≡ s = omega arith in
    rw (e, range_append a (s - a) 1, flat_map_append g, f, append-nil)
