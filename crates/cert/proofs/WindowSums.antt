-- The sums that a window's derivations add up, and what they come to.
use mathlib.Core.Path.{◌≡◌, refl, sym, ◌∙◌}
use mathlib.Core.Logic.{◌≢◌, ◌⊎◌, inl, inr}
use mathlib.Core.List.{List, [], ◌∷◌, ◌++◌, map}
use Prim.Native.Nat.{ℕ, ◌+◌, ◌*◌, min}
use native.Mathlib.Numerals.{one-add}
use native.Mathlib.Omega.{arith}
use lib.ListN.{length, length-append, length-map}
use Rattle.pb.specs.Rules.{addition, literal_axiom}
use Rattle.pb.specs.Sum.{Sum, ◌≥◌, coef, units, clause_sum, hit, neg}
use Rattle.pb.proofs.Normal.{SameSum, weight, Clean, Apart-clean, weight_keep, Apart}
use Rattle.pb.proofs.Rules.{coef_append, weight_append, same_trans, same_add, same_refl, same_sym, same_assoc, add_at, coef_negs, coef_units, add_weight, add_bound, weight_negs, weight_units, units_once}
use Rattle.pb.proofs.Terms.{coef_nil, coef_cons, hit_zero, hit_add, hit_neg, coef_keep, neg_neg, hit_same, hit_cases, neg_self}
use Rattle.cert.specs.Definitions.{window_if_of, window_only_if_of}

-- ---- many sums added up

unfoldable pub total : List Sum → Sum
unfolding addition
total [] = [] ≥ 0
total (s ∷ ss) = addition s (total ss)

pub same_nil : (s : Sum) → SameSum s (addition s (total []))
unfolding total weight
same_nil s = record { at = λ (l : ℕ). simp (coef_append, coef_nil) (omega arith); level = simp weight_append (omega arith) }

pub total_append : (ss ts : List Sum) → SameSum (total (ss ++ ts)) (addition (total ss) (total ts))
unfolding total weight
total_append [] ts = record { at = λ (l : ℕ). refl; level = omega arith }
total_append (s ∷ ss) ts = same_trans (same_add (same_refl s) (total_append ss ts)) (same_sym (same_assoc s (total ss) (total ts)))

-- ---- literal axioms, and pieces, added up

module _ (out : ℕ → ℕ) (w : ℕ) where
  pub axioms_at : (xs : List ℕ) (l : ℕ) → coef (total (map (λ x. literal_axiom (out x)) xs)).terms l ≡ coef (units (map out xs)) l
  unfolding total literal_axiom units
  axioms_at [] l = refl
  axioms_at (x ∷ xs) l = simp coef_cons (omega (arith, axioms_at xs l))

  pub axioms_weight : (xs : List ℕ) → weight (total (map (λ x. literal_axiom (out x)) xs)).terms ≡ length xs
  unfolding total literal_axiom weight
  axioms_weight [] = refl
  axioms_weight (x ∷ xs) = omega (arith, axioms_weight xs)

  pub axioms_bound : (xs : List ℕ) → (total (map (λ x. literal_axiom (out x)) xs)).bound ≡ 0
  unfolding total literal_axiom
  axioms_bound [] = refl
  axioms_bound (x ∷ xs) = omega (arith, axioms_bound xs)

  pub pieces_at : (xs : List ℕ) (l : ℕ)
      → coef (total (map (λ x. clause_sum (w ∷ out x ∷ [])) xs)).terms l ≡ coef (units (map out xs)) l + hit (length xs) w l
  unfolding total clause_sum units
  pieces_at [] l = omega (arith, hit_zero w l)
  pieces_at (x ∷ xs) l = simp (coef_cons, ← one-add, hit_add) (omega (arith, pieces_at xs l))

  pub pieces_weight : (xs : List ℕ) → weight (total (map (λ x. clause_sum (w ∷ out x ∷ [])) xs)).terms ≡ 2 * length xs
  unfolding total clause_sum weight
  pieces_weight [] = refl
  pieces_weight (x ∷ xs) = omega (arith, pieces_weight xs)

  pub pieces_bound : (xs : List ℕ) → (total (map (λ x. clause_sum (w ∷ out x ∷ [])) xs)).bound ≡ length xs
  unfolding total clause_sum
  pieces_bound [] = refl
  pieces_bound (x ∷ xs) = omega (arith, pieces_bound xs)

pub negs_at : (out : ℕ → ℕ) (xs : List ℕ) (l : ℕ) → coef (units (map (λ x. neg (out x)) xs)) l ≡ coef (units (map out xs)) (neg l)
unfolding units
negs_at out [] l = simp coef_nil
negs_at out (x ∷ xs) l = simp (coef_cons, hit_neg) (omega (arith, negs_at out xs l))

pub clause_swap : (a b : ℕ) → SameSum (clause_sum (a ∷ b ∷ [])) (clause_sum (b ∷ a ∷ []))
unfolding clause_sum weight
clause_swap a b = record { at = λ (l : ℕ). simp (coef_cons, coef_nil) (omega arith); level = omega arith }

-- ---- the definitions of a window

-- Literal axioms and pieces added up: outputs `out`, value v.
module _ (out : ℕ → ℕ) (v : ℕ) where
  pub if_total : (xs ys : List ℕ)
      → SameSum (addition (total (map (λ s. literal_axiom (neg (out s))) xs)) (total (map (λ s. clause_sum (out v ∷ neg (out s) ∷ [])) ys)))
      (window_if_of (map out xs) (out v) (map out ys))
  unfolding window_if_of weight
  if_total xs ys = record {
    at = λ (l : ℕ). simp (
      add_at,
      axioms_at (λ s. neg (out s)) (out v),
      pieces_at (λ s. neg (out s)) (out v),
      negs_at out,
      coef_append,
      coef_keep,
      coef_nil,
      coef_negs,
      coef_units,
      length-map,
      neg_neg,
    ) (omega arith);
    level = simp (
      add_weight,
      add_bound,
      axioms_weight (λ s. neg (out s)) (out v),
      axioms_bound (λ s. neg (out s)) (out v),
      pieces_weight
          (λ s. neg (out s)) (out v),
      pieces_bound (λ s. neg (out s)) (out v),
      weight_append,
      weight_negs,
      weight_keep,
      length-append,
      length-map,
    )
        (omega arith);
  }

  pub only_if_total : (xs ys : List ℕ)
      → SameSum (addition (total (map (λ s. clause_sum (neg (out v) ∷ out s ∷ [])) xs)) (total (map (λ s. literal_axiom (out s)) ys)))
      (window_only_if_of (map out xs) (out v) (map out ys))
  unfolding window_only_if_of weight
  only_if_total xs ys = record {
    at = λ (l : ℕ). simp (add_at, axioms_at out (neg (out v)), pieces_at out (neg (out v)), coef_append, coef_keep, coef_nil, coef_units, length-map)
        (omega arith);
    level = simp (
      add_weight,
      add_bound,
      axioms_weight out (neg (out v)),
      axioms_bound out (neg (out v)),
      pieces_weight out (neg (out v)),
      pieces_bound out (neg (out v)),
      weight_append,
      weight_units,
      weight_keep,
      length-append,
      length-map,
    ) (omega arith);
  }

-- ---- over different variables nothing cancels in a window's definition

module _ (xs : List ℕ) (w : ℕ) (ys : List ℕ) (apart : Apart (units (xs ++ w ∷ ys))) where
  -- the value's own output is no other's
  own : (l : ℕ) → w ≡ l → coef (units xs) l + coef (units ys) l ≡ 0
  unfolding units
  own l e = omega (arith, simp (coef_units, coef_cons) at (units_once (xs ++ w ∷ ys) apart l), hit_same 1 e)

  others : (l : ℕ) → min (coef (units xs) l + coef (units ys) l) (coef (units xs) (neg l) + coef (units ys) (neg l)) ≡ 0
  unfolding Clean units
  others l = omega (arith, simp (coef_units, coef_cons) at (Apart-clean (units (xs ++ w ∷ ys)) apart l))

  pub window_if_clean : Clean (window_if_of xs w ys).terms
  unfolding Clean window_if_of
  window_if_clean l = simp (coef_append, coef_negs, coef_units, coef_keep, coef_nil, neg_neg)
      (by (hit_cases (length ys) w l) (hit_cases (length ys) w (neg l)))
    where
      by : ((w ≡ l) × (hit (length ys) w l ≡ length ys)) ⊎ ((w ≢ l) × (hit (length ys) w l ≡ 0))
          → ((w ≡ neg l) × (hit (length ys) w (neg l) ≡ length ys)) ⊎ ((w ≢ neg l) × (hit (length ys) w (neg l) ≡ 0)) →
          min (coef (units xs) (neg l) + coef (units ys) (neg l) + (hit (length ys) w l + 0))
          (coef (units xs) l + coef (units ys) l + (hit (length ys) w (neg l) + 0)) ≡ 0
      by (inl e) (inl f) = absurd (neg_self l (sym f.0 ∙ e.0))
      by (inl e) (inr f) = omega (arith, own l e.0)
      by (inr e) (inl f) = omega (arith, own (neg l) f.0)
      by (inr e) (inr f) = omega (arith, others l)

  pub window_only_if_clean : Clean (window_only_if_of xs w ys).terms
  unfolding Clean window_only_if_of
  window_only_if_clean l =
      simp (coef_append, coef_units, coef_keep, coef_nil, hit_neg, neg_neg) (by (hit_cases (length xs) w l) (hit_cases (length xs) w (neg l)))
    where
      by : ((w ≡ l) × (hit (length xs) w l ≡ length xs)) ⊎ ((w ≢ l) × (hit (length xs) w l ≡ 0))
          → ((w ≡ neg l) × (hit (length xs) w (neg l) ≡ length xs)) ⊎ ((w ≢ neg l) × (hit (length xs) w (neg l) ≡ 0)) →
          min (coef (units xs) l + coef (units ys) l + (hit (length xs) w (neg l) + 0))
          (coef (units xs) (neg l) + coef (units ys) (neg l) + (hit (length xs) w l + 0)) ≡ 0
      by (inl e) (inl f) = absurd (neg_self l (sym f.0 ∙ e.0))
      by (inl e) (inr f) = omega (arith, own l e.0)
      by (inr e) (inl f) = omega (arith, own (neg l) f.0)
      by (inr e) (inr f) = omega (arith, others l)
