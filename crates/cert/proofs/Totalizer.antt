-- The sums that define a counter's outputs, and what the derivations of document 01 come to.
use mathlib.Core.Path.{◌≡◌, refl, ap, ◌∙◌}
use mathlib.Core.Logic.{◌≢◌}
use mathlib.Core.List.{List, [], ◌∷◌, ◌++◌, map}
use Prim.Native.Nat.{ℕ, suc, ◌+◌, ◌-◌, ◌≤◌, ◌<◌}
use native.Mathlib.Omega.{arith}
use lib.ListN.{length, length-append}
use Rattle.pb.specs.Rules.{addition, saturation, division, literal_axiom}
use Rattle.pb.specs.Sum.{Sum, units, keep, neg, ◌≥◌, coef, hit, ◌·◌, variable, normal, clause_sum}
use Rattle.pb.proofs.Normal.{weight, weight_keep, SameSum, normal_same}
use Rattle.pb.proofs.Rules.{coef_append, coef_negs, weight_append, weight_negs, weight_units, add_at, add_weight, add_bound, literals, divide_normal, divide_clause, same_swap, literal_part, saturate_clause, Apart-keep, Off-keep, Positive-keep, literals_keep, coef_units, saturate_normal, same_trans}
use Rattle.pb.proofs.Terms.{coef_keep, coef_nil, coef_cons, hit_neg, neg_neg, variable_neg, hit_add}
use Rattle.cert.specs.Definitions.{window_if_of, window_only_if_of}

-- ---- the definitions of a real output: leaf literals ls, output o, value v from 0 to n + 1

-- all ¬l, then o with coefficient n - v + 1, is at least n - v + 1. At n + 1 there is no output.
unfoldable pub real_if_sum : List ℕ → ℕ → ℕ → Sum
unfolding units keep
real_if_sum ls o v = (units (map neg ls) ++ keep (length ls + 1 - v) o []) ≥ length ls + 1 - v

-- all l, then ¬o with coefficient v, is at least v. At 0 there is no output.
unfoldable pub real_only_if_sum : List ℕ → ℕ → ℕ → Sum
unfolding units keep
real_only_if_sum ls o v = (units ls ++ keep v (neg o) []) ≥ v

-- both as functions of the literal
pub if_at : (ls : List ℕ) (o v l : ℕ) → coef (real_if_sum ls o v).terms l ≡ coef (units ls) (neg l) + hit (length ls + 1 - v) o l
unfolding real_if_sum
if_at ls o v l = rw coef_append (omega (arith, coef_negs ls l, coef_keep (length ls + 1 - v) o [] l, coef_nil l))

pub if_weight : (ls : List ℕ) (o v : ℕ) → weight (real_if_sum ls o v).terms ≡ length ls + (length ls + 1 - v)
unfolding real_if_sum weight
if_weight ls o v = rw weight_append (omega (arith, weight_negs ls, weight_keep (length ls + 1 - v) o []))

pub only_if_at : (ls : List ℕ) (o v l : ℕ) → coef (real_only_if_sum ls o v).terms l ≡ coef (units ls) l + hit v (neg o) l
unfolding real_only_if_sum
only_if_at ls o v l = rw coef_append (omega (arith, coef_keep v (neg o) [] l, coef_nil l))

pub only_if_weight : (ls : List ℕ) (o v : ℕ) → weight (real_only_if_sum ls o v).terms ≡ length ls + v
unfolding real_only_if_sum weight
only_if_weight ls o v = rw weight_append (omega (arith, weight_units ls, weight_keep v (neg o) []))

pub if_bound : (ls : List ℕ) (o v : ℕ) → (real_if_sum ls o v).bound ≡ length ls + 1 - v
unfolding real_if_sum
if_bound ls o v = refl

pub only_if_bound : (ls : List ℕ) (o v : ℕ) → (real_only_if_sum ls o v).bound ≡ v
unfolding real_only_if_sum
only_if_bound ls o v = refl

above_one : (n a : ℕ) → n + 1 - (a + 1) ≡ n - a
above_one n a = omega arith

-- a sum read as coefficients, and as weight and bound
pub ruleset ats = (add_at, if_at, only_if_at, coef_cons, coef_keep, coef_nil, hit_neg, neg_neg)

pub ruleset levels = (add_weight, add_bound, if_weight, if_bound, only_if_weight, only_if_bound, weight_keep)

-- ---- a piece of a window

-- Real if of v and real only-if of s, added: the leaves cancel.
piece_same : (ls : List ℕ) (o p v s : ℕ) → 1 ≤ v → v < s → s ≤ length ls →
    SameSum (addition (real_if_sum ls o v) (real_only_if_sum ls p s)) (((length ls + 1 - v) · o ∷ s · neg p ∷ []) ≥ s - v + 1)
unfolding weight
piece_same ls o p v s h i j = record {
  at = λ (l : ℕ). simp ats (omega arith);
  level = simp levels (omega arith);
}

-- Divided by s - v + 1 and saturated, they come to o(v) + ¬o(s) ≥ 1.
pub piece : (ls : List ℕ) (o p v s : ℕ) → 1 ≤ v → v < s → s ≤ length ls → variable o ≢ variable p →
    normal (saturation (division (s - v + 1) (addition (real_if_sum ls o v) (real_only_if_sum ls p s)))) ≡ normal (clause_sum (o ∷ neg p ∷ []))
unfolding literals
piece ls o p v s h i j ne =
    ap (λ (t : Sum). normal (saturation t)) (divide_normal (s - v + 1) _ _ (normal_same _ _ (piece_same ls o p v s h i j)))
    ∙ divide_clause (s - v + 1) ((length ls + 1 - v) · o ∷ s · neg p ∷ []) (omega arith) ((rw variable_neg ne, tt), (tt, tt)) (omega arith)

-- The other way round, as an only-if has it.
pub piece_back : (ls : List ℕ) (o p v s : ℕ) → 1 ≤ v → v < s → s ≤ length ls → variable o ≢ variable p →
    normal (saturation (division (s - v + 1) (addition (real_only_if_sum ls p s) (real_if_sum ls o v)))) ≡ normal (clause_sum (o ∷ neg p ∷ []))
piece_back ls o p v s h i j ne =
    ap (λ (t : Sum). normal (saturation t)) (divide_normal (s - v + 1) _ _ (normal_same _ _ (same_swap (real_only_if_sum ls p s) (real_if_sum ls o v))))
    ∙ piece ls o p v s h i j ne

-- ---- the clauses of a request

-- The sides' sums, and this one's, need only say the same as the real ones: then a leaf's own value, which contributes nothing, and a window's
-- definition go the same way.

-- saturated, terms over three variables that are different, as far as the first two are there, come to a clause
three : (a b c m n o : ℕ) → 0 < c → (0 < a → variable m ≢ variable o) → (0 < b → variable n ≢ variable o)
    → (0 < a → 0 < b → variable m ≢ variable n) →
    normal (saturation (keep a m (keep b n (c · o ∷ [])) ≥ 1)) ≡ normal (clause_sum (literal_part a m (literal_part b n (o ∷ []))))
unfolding literals
three a b c m n o h i j k =
    saturate_clause (keep a m (keep b n (c · o ∷ [])))
    (Apart-keep a m (keep b n (c · o ∷ [])) (λ (x : 0 < a). Off-keep (variable m) b n (c · o ∷ []) (k x) (i x, tt))
    (Apart-keep b n (c · o ∷ []) (λ (y : 0 < b). (j y, tt)) (tt, tt)))
    (Positive-keep a m (keep b n (c · o ∷ [])) (Positive-keep b n (c · o ∷ []) (h, tt)))
    ∙ rw (literals_keep a m (keep b n (c · o ∷ [])), literals_keep b n (c · o ∷ []))

module _ (ls rs : List ℕ) (o p q v a b : ℕ) (ha : a ≤ length ls) (hb : b ≤ length rs) where
  -- If of v = a + b, left only-if of a, right only-if of b: the leaves cancel. A part with value 0 has no term.
  if_same : a + b ≡ v →
      SameSum (addition (addition (real_if_sum (ls ++ rs) o v) (real_only_if_sum ls p a)) (real_only_if_sum rs q b))
      (keep a (neg p) (keep b (neg q) ((length ls + length rs + 1 - v) · o ∷ [])) ≥ 1)
  unfolding weight
  if_same e = record {
    at = λ (l : ℕ). simp (ats, coef_units, length-append) (omega arith);
    level = simp (levels, length-append) (omega arith);
  }

  pub if_clause_lem : a + b ≡ v → (0 < a → variable p ≢ variable o) → (0 < b → variable q ≢ variable o) → (0 < a → 0 < b → variable p ≢ variable q) →
      (s : Sum) → SameSum s (addition (addition (real_if_sum (ls ++ rs) o v) (real_only_if_sum ls p a)) (real_only_if_sum rs q b)) →
      normal (saturation s) ≡ normal (clause_sum (literal_part a (neg p) (literal_part b (neg q) (o ∷ []))))
  if_clause_lem e i j k s h =
      ap normal (saturate_normal _ _ (normal_same _ _ (same_trans h (if_same e))))
      ∙ three a b (length ls + length rs + 1 - v) (neg p) (neg q) o (omega arith) (simp variable_neg i) (simp variable_neg j) (simp variable_neg k)

  -- Only-if of v = a + b + 1, left if of a + 1, right if of b + 1. A part above its side's length has no term.
  only_if_same : a + b + 1 ≡ v →
      SameSum (addition (addition (real_only_if_sum (ls ++ rs) o v) (real_if_sum ls p (a + 1))) (real_if_sum rs q (b + 1)))
      (keep (length ls - a) p (keep (length rs - b) q (v · neg o ∷ [])) ≥ 1)
  unfolding weight
  only_if_same e = record {
    at = λ (l : ℕ). simp (ats, coef_units, above_one) (omega arith);
    level = simp (levels, length-append) (omega arith);
  }

  pub only_if_clause_lem : a + b + 1 ≡ v → (a < length ls → variable p ≢ variable o) → (b < length rs → variable q ≢ variable o)
      → (a < length ls → b < length rs → variable p ≢ variable q) →
      (s : Sum) → SameSum s (addition (addition (real_only_if_sum (ls ++ rs) o v) (real_if_sum ls p (a + 1))) (real_if_sum rs q (b + 1))) →
      normal (saturation s) ≡ normal (clause_sum (literal_part (length ls - a) p (literal_part (length rs - b) q (neg o ∷ []))))
  only_if_clause_lem e i j k s h =
      ap normal (saturate_normal _ _ (normal_same _ _ (same_trans h (only_if_same e))))
      ∙ three (length ls - a) (length rs - b) v p q (neg o) (omega arith)
      (simp variable_neg (λ (x : 0 < length ls - a). i (omega arith)))
      (simp variable_neg (λ (y : 0 < length rs - b). j (omega arith)))
      (λ (x : 0 < length ls - a) (y : 0 < length rs - b). k (omega arith) (omega arith))

-- ---- a leaf as a side: l is its one output and its leaf list

-- Value 0 only-if is the literal axiom, and so is the value above its own, if, of the negation.
pub leaf_zero : (l o : ℕ) → real_only_if_sum (l ∷ []) o 0 ≡ literal_axiom l
unfolding real_only_if_sum literal_axiom
leaf_zero l o = refl

pub leaf_two : (l o : ℕ) → real_if_sum (l ∷ []) o 2 ≡ literal_axiom (neg l)
unfolding real_if_sum literal_axiom
leaf_two l o = refl

-- At its own value a leaf contributes nothing.
pub leaf_only_if : (l : ℕ) (s : Sum) → SameSum s (addition s (real_only_if_sum (l ∷ []) l 1))
unfolding weight units
leaf_only_if l s = record {
  at = λ (m : ℕ). simp ats (omega arith);
  level = simp levels (omega arith);
}

pub leaf_if : (l : ℕ) (s : Sum) → SameSum s (addition s (real_if_sum (l ∷ []) l 1))
unfolding weight units
leaf_if l s = record {
  at = λ (m : ℕ). simp ats (omega arith);
  level = simp levels (omega arith);
}

-- ---- windows: the outputs before the value's own, that one, and those after it

-- A window's definition says the same as a real one over its own outputs: so its clauses are `if_clause_lem` and `only_if_clause_lem` too.
pub window_if_real : (xs : List ℕ) (w : ℕ) (ys : List ℕ) → SameSum (window_if_of xs w ys) (real_if_sum (xs ++ w ∷ ys) w (length xs + 1))
unfolding weight units window_if_of
window_if_real xs w ys = record {
  at = λ (l : ℕ). simp (ats, coef_append, coef_negs, coef_units, length-append, gap, hit_add) (omega arith);
  level = simp (levels, weight_append, weight_negs, length-append) (omega arith);
}
  where
    gap : length xs + suc (length ys) + 1 - (length xs + 1) ≡ length ys + 1
    gap = omega arith

pub window_only_if_real : (xs : List ℕ) (w : ℕ) (ys : List ℕ) → SameSum (window_only_if_of xs w ys) (real_only_if_sum (xs ++ w ∷ ys) w (length xs + 1))
unfolding weight units window_only_if_of
window_only_if_real xs w ys = record {
  at = λ (l : ℕ). simp (ats, coef_append, coef_units, hit_add) (omega arith);
  level = simp (levels, weight_append, weight_units, length-append) (omega arith);
}
