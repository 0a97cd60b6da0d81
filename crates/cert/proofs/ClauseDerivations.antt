-- A clause's derivation, in normal form after every token, comes to the clause: this definition, plus left, plus right, saturated.
use mathlib.Core.Path.{◌≡◌, ◌∙◌, ap, refl, sym, subst}
use mathlib.Core.Logic.{◌≢◌, dite}
use mathlib.Core.List.{List, [], ◌∷◌, ◌++◌, map, append_assoc}
use mathlib.Core.Option.{Option, some}
use Prim.Native.Nat.{ℕ, ◌+◌, ◌-◌, ◌≤◌, ◌<◌, zero, suc}
use native.Mathlib.Decide.{dec_le}
use native.Mathlib.Omega.{arith}
use lib.ListN.{length, length-append}
use Rattle.pb.specs.Rules.{Token, addition, evaluate, step, saturate}
use Rattle.pb.specs.Sum.{Sum, units, neg, variable, normal, clause_sum, keep, ◌·◌, ◌≥◌}
use Rattle.pb.proofs.Normal.{SameSum, Off, Apart, Clean, Apart-clean, same_room, weight}
use Rattle.pb.proofs.Rules.{same_trans, same_add, literal_part, same_refl, Apart-keep, coef_units, weight_units, coef_negs, weight_negs}
use Rattle.pb.proofs.Terms.{variable_neg}
use Rattle.totdb.specs.Nodes.{Node, side_lit, side_len}
use Rattle.totdb.specs.declared.Side.{Side}
use Rattle.cert.specs.Definitions.{add_sequence}
use Rattle.cert.specs.Requests.{neg_part, pos_part}
use Rattle.cert.proofs.Derivations.{Gives, Room, gives_add, gives_step, clean_room, evaluate_gives, gives_saturate}
use Rattle.cert.proofs.Totalizer.{real_if_sum, real_only_if_sum, if_clause_lem, ats, levels, only_if_clause_lem}

-- The text stands for t: it is empty, and to add t changes nothing; or it gives a sum with room that says the same as t.
pub data Stands (sums : ℕ → Option Sum) : List Token → Sum → Type 0 where
  stands_nothing : {t : Sum} → ((s : Sum) → SameSum s (addition s t)) → Stands sums [] t
  stands_given : {k : Token} {ks : List Token} {x t : Sum} → Gives sums (k ∷ ks) x → SameSum x t → Room x → Stands sums (k ∷ ks) t

-- A text that gives a sum which says the same as t.
record Like (sums : ℕ → Option Sum) (ks : List Token) (t : Sum) : Type 0 where
  value : Sum
  gives : Gives sums ks value
  same : SameSum value t

like_more : {sums : ℕ → Option Sum} {ks js : List Token} {s t : Sum} (g : Like sums ks s) → Room g.value → Stands sums js t
    → Like sums (add_sequence ks js) (addition s t)
unfolding add_sequence
like_more {s = s} g r (stands_nothing h) = record { value = g.value; gives = g.gives; same = same_trans g.same (h s) }
like_more g r (stands_given {x = x} h e q) = record { value = addition g.value x; gives = gives_add g.gives h r q; same = same_add g.same e }

pub off_negs : (x : ℕ) (ls : List ℕ) → Off x (units ls) → Off x (units (map neg ls))
unfolding units
off_negs x [] h = tt
off_negs x (l ∷ ls) h = (rw variable_neg h.0, off_negs x ls h.1)

pub apart_negs : (ls : List ℕ) → Apart (units ls) → Apart (units (map neg ls))
unfolding units
apart_negs [] h = tt
apart_negs (l ∷ ls) h = (rw variable_neg (off_negs (variable l) ls h.0), apart_negs ls h.1)

module _ (ls rs : List ℕ) (o p q v a b : ℕ) (ha : a ≤ length ls) (hb : b ≤ length rs) where
  -- this and the left side: the left leaves cancel
  pub half : a + b ≡ v
      → SameSum (addition (real_if_sum (ls ++ rs) o v) (real_only_if_sum ls p a))
      (keep a (neg p) ((length ls + length rs + 1 - v) · o ∷ units (map neg rs)) ≥ length rs + 1 - b)
  unfolding weight
  half e = record {
    at = λ (l : ℕ). simp (ats, coef_units, coef_negs, length-append) (omega arith);
    level = simp (levels, weight_negs, length-append) (omega arith);
  }

module _ (sums : ℕ → Option Sum) (m : ℕ) (left right : List Token) (ls rs : List ℕ) (o p q v a b : ℕ) (ha : a ≤ length ls) (hb : b ≤ length rs)
    (apart : Apart (units rs)) (own : Off (variable o) (units rs)) where
  -- If of v = a + b, with the left only-if of a and the right only-if of b.
  pub if_evaluates : sums m ≡ some (normal (real_if_sum (ls ++ rs) o v)) → Clean (real_if_sum (ls ++ rs) o v).terms → Stands sums left (real_only_if_sum ls p a)
      → Stands sums right (real_only_if_sum rs q b) → a + b ≡ v
      → (0 < a → variable p ≢ variable o) → (0 < b → variable q ≢ variable o) → (0 < a → 0 < b → variable p ≢ variable q)
      → (0 < a → Off (variable p) (units rs))
      → evaluate sums (add_sequence (add_sequence (step m ∷ []) left) right ++ (saturate ∷ [])) ≡ some
      (normal (clause_sum (literal_part a (neg p) (literal_part b (neg q) (o ∷ [])))))
  if_evaluates e clean f g s i j k off =
      let x = like_more (record { value = real_if_sum (ls ++ rs) o v; gives = gives_step m (real_if_sum (ls ++ rs) o v) e; same = same_refl _ })
      (clean_room _ clean) f in
      let tidy : Clean (keep a (neg p) ((length ls + length rs + 1 - v) · o ∷ units (map neg rs))) =
      Apart-clean _ (Apart-keep a (neg p) ((length ls + length rs + 1 - v) · o ∷ units (map neg rs))
      (λ h. (rw variable_neg (i h), subst (λ (x : ℕ). Off x (units (map neg rs))) (sym (variable_neg p)) (off_negs (variable p) rs (off h)))) (off_negs (variable o) rs own, apart_negs rs apart)) in
      let y = like_more x (same_room _ _ (same_trans x.same (half ls rs o p q v a b ha hb s)) tidy) g in
      evaluate_gives (gives_saturate y.gives) ∙ ap some (if_clause_lem ls rs o p q v a b ha hb s i j k y.value y.same)

  only_half : a + b + 1 ≡ v
      → SameSum (addition (real_only_if_sum (ls ++ rs) o v) (real_if_sum ls p (a + 1))) (keep (length ls - a) p (v · neg o ∷ units rs) ≥ b + 1)
  unfolding weight
  only_half s = record {
    at = λ (l : ℕ). simp (ats, coef_units, one_less) (omega arith);
    level = simp (levels, weight_units, length-append) (omega arith);
  }
    where
      one_less : length ls + 1 - (a + 1) ≡ length ls - a
      one_less = omega arith

  -- Only-if of v = a + b + 1, with the left if of a + 1 and the right if of b + 1.
  pub only_if_evaluates : sums m ≡ some (normal (real_only_if_sum (ls ++ rs) o v)) → Clean (real_only_if_sum (ls ++ rs) o v).terms
      → Stands sums left (real_if_sum ls p (a + 1)) → Stands sums right (real_if_sum rs q (b + 1)) → a + b + 1 ≡ v
      → (a < length ls → variable p ≢ variable o) → (b < length rs → variable q ≢ variable o)
      → (a < length ls → b < length rs → variable p ≢ variable q) → (a < length ls → Off (variable p) (units rs))
      → evaluate sums (add_sequence (add_sequence (step m ∷ []) left) right ++ (saturate ∷ [])) ≡ some
      (normal (clause_sum (literal_part (length ls - a) p (literal_part (length rs - b) q (neg o ∷ [])))))
  only_if_evaluates e clean f g s i j k off =
      let x = like_more (record { value = real_only_if_sum (ls ++ rs) o v; gives = gives_step m (real_only_if_sum (ls ++ rs) o v) e; same = same_refl _ })
      (clean_room _ clean) f in
      let tidy : Clean (keep (length ls - a) p (v · neg o ∷ units rs)) =
      Apart-clean _ (Apart-keep (length ls - a) p (v · neg o ∷ units rs) (λ h. (rw variable_neg (i (omega arith)), off (omega arith)))
      (rw variable_neg own, apart)) in
      let y = like_more x (same_room _ _ (same_trans x.same (only_half s)) tidy) g in
      evaluate_gives (gives_saturate y.gives) ∙ ap some (only_if_clause_lem ls rs o p q v a b ha hb s i j k y.value y.same)

-- ---- the literals of a clause, as the definitions have them

pub if_literals : (t : List Node) (l r : Side) (a b o : ℕ)
    → literal_part a (neg (side_lit t l a)) (literal_part b (neg (side_lit t r b)) (o ∷ [])) ≡ neg_part t l a ++ neg_part t r b ++ (o ∷ [])
unfolding literal_part neg_part
if_literals t l r zero zero o = refl
if_literals t l r zero (suc b) o = refl
if_literals t l r (suc a) zero o = refl
if_literals t l r (suc a) (suc b) o = refl

pos_part_lem : (t : List Node) (s : Side) (a : ℕ) (ls : List ℕ) → literal_part (side_len t s - a) (side_lit t s (suc a)) ls ≡ pos_part t s (suc a) ++ ls
unfolding pos_part
pos_part_lem t s a ls = by (dec_le (suc a) (side_len t s)) (side_len t s - a) refl
  where
    by : (c : Dec (suc a ≤ side_len t s)) (n : ℕ) → side_len t s - a ≡ n
        → literal_part n (side_lit t s (suc a)) ls ≡ dite {C = List ℕ} c (λ _. side_lit t s (suc a) ∷ []) (λ _. []) ++ ls
    by (yes e) zero q = absurd (omega arith)
    by (yes e) (suc n) q = unfold literal_part in refl
    by (no e) zero q = unfold literal_part in refl
    by (no e) (suc n) q = absurd (omega arith)

pub only_literals : (t : List Node) (l r : Side) (a b o : ℕ)
    → literal_part (side_len t l - a) (side_lit t l (suc a)) (literal_part (side_len t r - b) (side_lit t r (suc b)) (neg o ∷ [])) ≡ pos_part t l
    (suc a) ++ pos_part t r (suc b) ++ (neg o ∷ [])
only_literals t l r a b o = ap (literal_part (side_len t l - a) (side_lit t l (suc a))) (pos_part_lem t r b (neg o ∷ []))
    ∙ pos_part_lem t l a (pos_part t r (suc b) ++ (neg o ∷ [])) ∙ sym (append_assoc (pos_part t l (suc a)) (pos_part t r (suc b)) (neg o ∷ []))
