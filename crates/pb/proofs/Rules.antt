-- The rules, on sums seen as functions of the literal: additions are linear arithmetic, divisions and saturations go term by term.
use mathlib.Core.Path.{◌≡◌, refl, sym, ap, ◌∙◌}
use mathlib.Core.Logic.{◌≢◌, ◌⊎◌, inl, inr}
use mathlib.Core.List.{List, [], ◌∷◌, ◌++◌, map}
use Prim.Native.Nat.{ℕ, zero, suc, ◌+◌, min, ◌≤◌, ◌<◌}
use native.Mathlib.Nat.{div-eq_of_lt-le, div-eq_of_lt, le-div_iff_mul-le}
use native.Mathlib.Omega.{arith}
use lib.ListN.{length}
use Rattle.pb.specs.Rules.{addition, division, map_coefs, ceil_div, saturation}
use Rattle.pb.specs.Sum.{Term, coef, ◌·◌, Sum, normal, ◌≥◌, keep, variable, units, clause_sum, neg, hit}
use Rattle.pb.proofs.Normal.{weight, SameSum, spent, normal_same, same_normal, Apart, bound_apart, normal_each, Off, Apart-each, coef_off}
use Rattle.pb.proofs.Terms.{coef_nil, coef_cons, hit_neg, hit_cases}

-- ---- addition

pub coef_append : (ts us : List Term) (l : ℕ) → coef (ts ++ us) l ≡ coef ts l + coef us l
coef_append [] us l = omega (arith, coef_nil l)
coef_append ((c · m) ∷ ts) us l = rw (coef_cons c m (ts ++ us) l, coef_cons c m ts l) (omega (arith, coef_append ts us l))

pub weight_append : (ts us : List Term) → weight (ts ++ us) ≡ weight ts + weight us
unfolding weight
weight_append [] us = omega arith
weight_append ((c · m) ∷ ts) us = omega (arith, weight_append ts us)

pub add_at : (s t : Sum) (l : ℕ) → coef (addition s t).terms l ≡ coef s.terms l + coef t.terms l
unfolding addition
add_at s t l = coef_append s.terms t.terms l

pub add_weight : (s t : Sum) → weight (addition s t).terms ≡ weight s.terms + weight t.terms
unfolding addition
add_weight s t = weight_append s.terms t.terms

pub add_bound : (s t : Sum) → (addition s t).bound ≡ s.bound + t.bound
unfolding addition
add_bound s t = refl

pub same_refl : (s : Sum) → SameSum s s
same_refl s = record { at = λ (l : ℕ). refl; level = refl }

pub same_sym : {s t : Sum} → SameSum s t → SameSum t s
same_sym e = record { at = λ (l : ℕ). sym (e.at l); level = sym e.level }

pub same_trans : {s t u : Sum} → SameSum s t → SameSum t u → SameSum s u
same_trans e f = record { at = λ (l : ℕ). omega (arith, e.at l, f.at l); level = omega (arith, e.level, f.level) }

pub same_add : {s s' t t' : Sum} → SameSum s s' → SameSum t t' → SameSum (addition s t) (addition s' t')
unfolding addition
same_add {s} {s'} {t} {t'} e f = record {
  at = λ (l : ℕ). simp coef_append (omega (arith, e.at l, f.at l));
  level = simp weight_append (omega (arith, e.level, f.level));
}

pub same_swap : (s t : Sum) → SameSum (addition s t) (addition t s)
same_swap s t = record {
  at = λ (l : ℕ). simp add_at (omega arith);
  level = simp (add_weight, add_bound) (omega arith);
}

pub same_assoc : (s t u : Sum) → SameSum (addition (addition s t) u) (addition s (addition t u))
same_assoc s t u = record {
  at = λ (l : ℕ). simp add_at (omega arith);
  level = simp (add_weight, add_bound) (omega arith);
}

-- Where no more cancels than the bounds have, it is the same to take the normal form before an addition and after it.
pub add_normal : (s t : Sum) → spent s ≤ s.bound → spent t ≤ t.bound → normal (addition (normal s) (normal t)) ≡ normal (addition s t)
add_normal s t h g = sym (normal_same (addition s t) (addition (normal s) (normal t)) (same_add (same_normal s h) (same_normal t g)))

-- ---- division and saturation look at the normal form alone

pub divide_normal : (d : ℕ) (s t : Sum) → normal s ≡ normal t → division d s ≡ division d t
unfolding division
divide_normal d s t e = ap (λ (n : Sum). map_coefs (ceil_div d) n.terms ≥ ceil_div d n.bound) e

pub saturate_normal : (s t : Sum) → normal s ≡ normal t → saturation s ≡ saturation t
unfolding saturation
saturate_normal s t e = ap (λ (n : Sum). map_coefs (λ c. min c n.bound) n.terms ≥ n.bound) e

pub up_zero : (d : ℕ) → 0 < d → ceil_div d 0 ≡ 0
unfolding ceil_div
up_zero d h = div-eq_of_lt (omega arith)

pub up_self : (d : ℕ) → 0 < d → ceil_div d d ≡ 1
unfolding ceil_div
up_self d h = div-eq_of_lt-le d (omega arith) (omega arith)

pub up_pos : (d c : ℕ) → 0 < d → 0 < c → 0 < ceil_div d c
unfolding ceil_div
up_pos d c h g = (le-div_iff_mul-le h).1 (omega arith)

pub divide_apart : (d : ℕ) (ts : List Term) (b : ℕ) → 0 < d → Apart ts → normal (division d (ts ≥ b)) ≡ normal (map_coefs (ceil_div d) ts ≥ ceil_div d b)
unfolding division
divide_apart d ts b p h = rw (bound_apart ts b h) (normal_each (ceil_div d) (up_zero d p) ts b (ceil_div d b) h)

pub saturate_apart : (ts : List Term) (b : ℕ) → Apart ts → normal (saturation (ts ≥ b)) ≡ normal (map_coefs (λ c. min c b) ts ≥ b)
unfolding saturation
saturate_apart ts b h = rw (bound_apart ts b h) (normal_each (λ c. min c b) (omega arith) ts b b h)

-- ---- clauses

-- the literals of the terms, in their order
unfoldable pub literals : List Term → List ℕ
literals [] = []
literals ((c · m) ∷ ts) = m ∷ literals ts

abbrev pub Positive : List Term → Type 0
Positive [] = Unit {0}
Positive ((c · m) ∷ ts) = (0 < c) × Positive ts

-- what `keep` does to each of these, and to variables that are all different
unfoldable pub literal_part : ℕ → ℕ → List ℕ → List ℕ
literal_part zero m ls = ls
literal_part (suc c) m ls = m ∷ ls

pub literals_keep : (c m : ℕ) (ts : List Term) → literals (keep c m ts) ≡ literal_part c m (literals ts)
unfolding keep literals literal_part
literals_keep zero m ts = refl
literals_keep (suc c) m ts = refl

pub Positive-keep : (c m : ℕ) (ts : List Term) → Positive ts → Positive (keep c m ts)
unfolding keep
Positive-keep zero m ts p = p
Positive-keep (suc c) m ts p = (omega arith, p)

pub Off-keep : (x c m : ℕ) (ts : List Term) → (0 < c → x ≢ variable m) → Off x ts → Off x (keep c m ts)
unfolding keep
Off-keep x zero m ts h g = g
Off-keep x (suc c) m ts h g = (h (omega arith), g)

pub Apart-keep : (c m : ℕ) (ts : List Term) → (0 < c → Off (variable m) ts) → Apart ts → Apart (keep c m ts)
unfolding keep
Apart-keep zero m ts h g = g
Apart-keep (suc c) m ts h g = (h (omega arith), g)

literals_each : (f : ℕ → ℕ) (ts : List Term) → literals (map_coefs f ts) ≡ literals ts
unfolding map_coefs literals
literals_each f [] = refl
literals_each f ((c · m) ∷ ts) = rw (literals_each f ts)

Positive-each : (f : ℕ → ℕ) → ((c : ℕ) → 0 < c → 0 < f c) → (ts : List Term) → Positive ts → Positive (map_coefs f ts)
unfolding map_coefs
Positive-each f h [] p = tt
Positive-each f h ((c · m) ∷ ts) p = (h c p.0, Positive-each f h ts p.1)

each_one : (ts : List Term) → Positive ts → map_coefs (λ c. min c 1) ts ≡ units (literals ts)
unfolding map_coefs units literals
each_one [] p = refl
each_one ((c · m) ∷ ts) p = let e : min c 1 ≡ 1 = omega arith in rw (e, each_one ts p.1)

-- At bound 1 a saturated sum is a clause.
pub saturate_clause : (ts : List Term) → Apart ts → Positive ts → normal (saturation (ts ≥ 1)) ≡ normal (clause_sum (literals ts))
unfolding clause_sum
saturate_clause ts h p = saturate_apart ts 1 h ∙ rw (each_one ts p)

-- Divided by its bound, any sum is one.
pub divide_clause : (d : ℕ) (ts : List Term) → 0 < d → Apart ts → Positive ts
    → normal (saturation (division d (ts ≥ d))) ≡ normal (clause_sum (literals ts))
divide_clause d ts z h p =
    ap normal (saturate_normal (division d (ts ≥ d)) (map_coefs (ceil_div d) ts ≥ 1) (divide_apart d ts d z h ∙ rw (up_self d z)))
    ∙ saturate_clause (map_coefs (ceil_div d) ts) (Apart-each (ceil_div d) ts h) (Positive-each (ceil_div d) (λ c. up_pos d c z) ts p)
    ∙ rw (literals_each (ceil_div d) ts)

-- ---- the literals of a list

pub coef_negs : (ls : List ℕ) (l : ℕ) → coef (units (map neg ls)) l ≡ coef (units ls) (neg l)
unfolding units
coef_negs [] l = simp coef_nil
coef_negs (m ∷ ls) l = simp coef_cons (omega (arith, hit_neg 1 m l, coef_negs ls l))

pub coef_units : (ls ms : List ℕ) (l : ℕ) → coef (units (ls ++ ms)) l ≡ coef (units ls) l + coef (units ms) l
unfolding units
coef_units [] ms l = omega (arith, coef_nil l)
coef_units (m ∷ ls) ms l = rw (coef_cons 1 m (units (ls ++ ms)) l, coef_cons 1 m (units ls) l) (omega (arith, coef_units ls ms l))

-- over different variables a literal stands once at most
pub units_once : (ls : List ℕ) → Apart (units ls) → (l : ℕ) → coef (units ls) l ≤ 1
unfolding units
units_once [] h l = omega (arith, coef_nil l)
units_once (m ∷ ls) h l = rw coef_cons (by (hit_cases 1 m l) (units_once ls h.1 l))
  where
    by : ((m ≡ l) × (hit 1 m l ≡ 1)) ⊎ ((m ≢ l) × (hit 1 m l ≡ 0)) → coef (units ls) l ≤ 1 → hit 1 m l + coef (units ls) l ≤ 1
    by (inl e) ih = omega (arith, coef_off l (units ls) (rw (← e.0) h.0))
    by (inr e) ih = omega arith

pub weight_units : (ls : List ℕ) → weight (units ls) ≡ length ls
unfolding units weight
weight_units [] = refl
weight_units (l ∷ ls) = omega (arith, weight_units ls)

pub weight_negs : (ls : List ℕ) → weight (units (map neg ls)) ≡ length ls
unfolding units weight
weight_negs [] = refl
weight_negs (l ∷ ls) = omega (arith, weight_negs ls)
