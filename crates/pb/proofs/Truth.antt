-- Assignments and sums: a sum and its normal form are satisfied alike, the rules of cutting planes are sound, and so is every derivation.
use mathlib.Core.Path.{◌≡◌, refl, sym, ap, ◌∙◌, subst}
use mathlib.Core.Logic.{◌↔◌, ◌⊎◌, inl, inr}
use mathlib.Core.Bool.{Bool, true, false, cond, not, not-not}
use mathlib.Core.List.Memᴰ
use mathlib.Core.List.{List, [], ◌∷◌, ◌++◌, map, Memᴰ}
use mathlib.Core.Option.{Option, none, some, bind, some-injective, none-ne-some}
use Prim.Native.Nat.{ℕ, zero, suc, ◌+◌, ◌-◌, ◌*◌, ◌/◌, ◌%◌, min, ◌≤◌, ◌<◌}
use native.Mathlib.Nat.{div-lt_iff_lt-mul, lt-div-mul-add, add-mul}
use native.Mathlib.Decide.{ℕ_discrete}
use native.Mathlib.Omega.{arith}
use lib.ListN.{length}
use Rattle.pb.specs.Rules.{Token, step, literal, add, divide, saturate, literal_axiom, addition, division, saturation, map_coefs, ceil_div, push, apply, run, single, evaluate}
use Rattle.pb.specs.Sum.{Term, ◌·◌, Sum, variable, variables, neg, coef, hit, keep, kept, lost, normal, units, clause_sum}
use Rattle.pb.specs.Truth.{Assignment, truth, True, count, value, Satisfies, SatisfiesClause}
use Rattle.pb.proofs.Normal.{hits, Covers, variables_cover}
use Rattle.pb.proofs.Terms.{hit_same, hit_other, coef_nil, coef_cons, polarity, variable_even, variable_odd, net_is, neg_even, neg_odd, kept_nil, kept_cons, lost_nil, lost_cons, normal_is}

-- ---- literals

pub truth_even : (a : Assignment) (x : ℕ) → truth a (2 * x) ≡ a x
unfolding truth
truth_even a x = let e : 2 * x % 2 ≡ 0 = omega arith in rw (e, variable_even) refl

pub truth_odd : (a : Assignment) (x : ℕ) → truth a (2 * x + 1) ≡ not (a x)
unfolding truth
truth_odd a x = let e : (2 * x + 1) % 2 ≡ 1 = omega arith in rw (e, variable_odd) refl

pub truth_neg : (a : Assignment) (l : ℕ) → truth a (neg l) ≡ not (truth a l)
truth_neg a l = by (polarity l)
  where
    by : (l ≡ 2 * variable l) ⊎ (l ≡ 2 * variable l + 1) → truth a (neg l) ≡ not (truth a l)
    by (inl e) = rw e (ap (truth a) (neg_even (variable l)) ∙ truth_odd a (variable l) ∙ ap not (sym (truth_even a (variable l))))
    by (inr e) = rw e
        (ap (truth a) (neg_odd (variable l)) ∙ truth_even a (variable l) ∙ sym (not-not (a (variable l))) ∙ ap not (sym (truth_odd a (variable l))))

-- ---- the value of a normal form

-- The value, variable by variable.
spread : Assignment → List Term → List ℕ → ℕ
spread a ts [] = 0
spread a ts (x ∷ xs) = cond (a x) (coef ts (2 * x)) (coef ts (2 * x + 1)) + spread a ts xs

cond_zero : (b : Bool) → cond {A = ℕ} b 0 0 ≡ 0
cond_zero true = refl
cond_zero false = refl

cond_add : (b : Bool) (p q r s : ℕ) → cond b (p + q) (r + s) ≡ cond b p r + cond b q s
cond_add true p q r s = refl
cond_add false p q r s = refl

-- a term counts at its variable, where its literal is true
term_at : (a : Assignment) (c m x : ℕ) → cond (a x) (hit c m (2 * x)) (hit c m (2 * x + 1)) ≡ hit (cond (truth a m) c 0) x (variable m)
term_at a c m x = by (ℕ_discrete x (variable m)) (polarity m)
  where
    two : {p q : ℕ} (b : Bool) → hit c m (2 * x) ≡ p → hit c m (2 * x + 1) ≡ q → cond b (hit c m (2 * x)) (hit c m (2 * x + 1)) ≡ cond b p q
    two b e f = rw (e, f)

    other : (b : Bool) → cond b 0 c ≡ cond (not b) c 0
    other true = refl
    other false = refl

    by : Dec (x ≡ variable m) → (m ≡ 2 * variable m) ⊎ (m ≡ 2 * variable m + 1)
        → cond (a x) (hit c m (2 * x)) (hit c m (2 * x + 1)) ≡ hit (cond (truth a m) c 0) x (variable m)
    by (yes e) (inl p) =
        let q : m ≡ 2 * x = omega arith in
        two (a x) (hit_same c q) (hit_other c {m = m} {l = 2 * x + 1} (omega arith))
        ∙ ap (λ (b : Bool). cond b c 0) (sym (truth_even a x) ∙ ap (truth a) (sym q))
        ∙ sym (hit_same (cond (truth a m) c 0) e)
    by (yes e) (inr p) =
        let q : m ≡ 2 * x + 1 = omega arith in
        two (a x) (hit_other c {m = m} {l = 2 * x} (omega arith)) (hit_same c q)
        ∙ other (a x)
        ∙ ap (λ (b : Bool). cond b c 0) (sym (truth_odd a x) ∙ ap (truth a) (sym q))
        ∙ sym (hit_same (cond (truth a m) c 0) e)
    by (no n) p =
        two (a x) (hit_other c (λ (q : m ≡ 2 * x). n (sym (variable_even x) ∙ ap variable (sym q))))
        (hit_other c (λ (q : m ≡ 2 * x + 1). n (sym (variable_odd x) ∙ ap variable (sym q))))
        ∙ cond_zero (a x)
        ∙ sym (hit_other (cond (truth a m) c 0) n)

spread_cons : (a : Assignment) (c m : ℕ) (ts : List Term) (xs : List ℕ)
    → spread a ((c · m) ∷ ts) xs ≡ hits (cond (truth a m) c 0) xs (variable m) + spread a ts xs
unfolding spread hits
spread_cons a c m ts [] = refl
spread_cons a c m ts (x ∷ xs) =
    rw (coef_cons c m ts (2 * x), coef_cons c m ts (2 * x + 1), cond_add) (omega (arith, term_at a c m x, spread_cons a c m ts xs))

spread_nil : (a : Assignment) (xs : List ℕ) → spread a [] xs ≡ 0
unfolding spread
spread_nil a [] = refl
spread_nil a (x ∷ xs) = rw (coef_nil (2 * x), coef_nil (2 * x + 1)) (omega (arith, cond_zero (a x), spread_nil a xs))

value_spread : (a : Assignment) (ts : List Term) (xs : List ℕ) → Covers xs ts → value a ts ≡ spread a ts xs
unfolding value Covers
value_spread a [] xs v = sym (spread_nil a xs)
value_spread a ((c · m) ∷ ts) xs v = rw spread_cons (omega (arith, v.0 (cond (truth a m) c 0), value_spread a ts xs v.1))

pub value_keep : (a : Assignment) (c m : ℕ) (ts : List Term) → value a (keep c m ts) ≡ cond (truth a m) c 0 + value a ts
unfolding value keep
value_keep a zero m ts = omega (arith, cond_zero (truth a m))
value_keep a (suc c) m ts = refl

-- What cancels is worth its coefficient, whatever the variable is.
value_kept : (a : Assignment) (ts : List Term) (xs : List ℕ) → value a (kept ts xs) + lost ts xs ≡ spread a ts xs
unfolding spread value
value_kept a ts [] = rw (kept_nil, lost_nil)
value_kept a ts (x ∷ xs) =
    rw (kept_cons, lost_cons, value_keep, value_keep, truth_even, truth_odd, net_is ts (2 * x), net_is ts (2 * x + 1), neg_even, neg_odd) (by (a x) (value_kept a ts xs))
  where
    by : (b : Bool) → value a (kept ts xs) + lost ts xs ≡ spread a ts xs
        → cond b (coef ts (2 * x) - coef ts (2 * x + 1)) 0 + (cond (not b) (coef ts (2 * x + 1) - coef ts (2 * x)) 0 + value a (kept ts xs))
        + (min (coef ts (2 * x)) (coef ts (2 * x + 1)) + lost ts xs)
        ≡ cond b (coef ts (2 * x)) (coef ts (2 * x + 1)) + spread a ts xs
    by true ih = omega arith
    by false ih = omega arith

value_normal : (a : Assignment) (ts : List Term) → value a (kept ts (variables ts)) + lost ts (variables ts) ≡ value a ts
value_normal a ts = value_kept a ts (variables ts) ∙ sym (value_spread a ts (variables ts) (variables_cover ts))

-- An assignment satisfies a sum exactly if it satisfies the normal form; a bound that falls below 0 counts as 0.
pub satisfies_normal : (a : Assignment) (s : Sum) → Satisfies a (normal s) ↔ Satisfies a s
satisfies_normal a s = (
  λ h. record { reaches = omega (arith, rw (normal_is s) at h.reaches, value_normal a s.terms) },
  λ h. rw (normal_is s) (record { reaches = omega (arith, h.reaches, value_normal a s.terms) }),
)

-- A value that just reaches the bound does so in the normal form.
pub reached_normal : (a : Assignment) (s : Sum) → value a s.terms ≡ s.bound → value a (normal s).terms ≡ (normal s).bound
reached_normal a s e = rw (normal_is s) (omega (arith, value_normal a s.terms))

-- ---- the rules

pub value_append : (a : Assignment) (ts us : List Term) → value a (ts ++ us) ≡ value a ts + value a us
unfolding value
value_append a [] us = omega arith
value_append a ((c · l) ∷ ts) us = omega (arith, value_append a ts us)

pub sound_literal_axiom : (a : Assignment) (l : ℕ) → Satisfies a (literal_axiom l)
unfolding literal_axiom
sound_literal_axiom a l = record { reaches = omega arith }

pub sound_addition : (a : Assignment) (s t : Sum) → Satisfies a s → Satisfies a t → Satisfies a (addition s t)
unfolding addition
sound_addition a s t h g = record { reaches = omega (arith, h.reaches, g.reaches, value_append a s.terms t.terms) }

-- division: what is rounded up is enough
up_most : (d c : ℕ) → 0 < d → c ≤ ceil_div d c * d
unfolding ceil_div
up_most d c h = omega (arith, lt-div-mul-add {a = c + (d - 1)} {b = d} h)

up_least : (d c v : ℕ) → 0 < d → c ≤ v * d → ceil_div d c ≤ v
unfolding ceil_div
up_least d c v h g =
    let q : (c + (d - 1)) / d < suc v = (div-lt_iff_lt-mul h).1 (omega (arith, add-mul v 1 d)) in
    omega (arith, q)

value_up : (a : Assignment) (d : ℕ) (ts : List Term) → 0 < d → value a ts ≤ value a (map_coefs (ceil_div d) ts) * d
unfolding value map_coefs
value_up a d [] h = omega arith
value_up a d ((c · l) ∷ ts) h = by (truth a l) (value_up a d ts h)
  where
    by : (b : Bool) → value a ts ≤ value a (map_coefs (ceil_div d) ts) * d
        → cond b c 0 + value a ts ≤ (cond b (ceil_div d c) 0 + value a (map_coefs (ceil_div d) ts)) * d
    by true ih = omega (arith, up_most d c h, add-mul (ceil_div d c) (value a (map_coefs (ceil_div d) ts)) d)
    by false ih = omega (arith, add-mul 0 (value a (map_coefs (ceil_div d) ts)) d)

pub sound_division : (a : Assignment) (d : ℕ) (s : Sum) → 0 < d → Satisfies a s → Satisfies a (division d s)
unfolding division
sound_division a d s p h =
    let g = (satisfies_normal a s).1 h in
    record { reaches = up_least d (normal s).bound _ p (omega (arith, g.reaches, value_up a d (normal s).terms p)) }

-- saturation: a coefficient past the bound is worth no more than the bound
value_cut : (a : Assignment) (b : ℕ) (ts : List Term) → min (value a ts) b ≤ value a (map_coefs (λ c. min c b) ts)
unfolding value map_coefs
value_cut a b [] = omega arith
value_cut a b ((c · l) ∷ ts) = by (truth a l) (value_cut a b ts)
  where
    by : (t : Bool) → min (value a ts) b ≤ value a (map_coefs (λ c. min c b) ts)
        → min (cond t c 0 + value a ts) b ≤ cond t (min c b) 0 + value a (map_coefs (λ c. min c b) ts)
    by true ih = omega arith
    by false ih = omega arith

pub sound_saturation : (a : Assignment) (s : Sum) → Satisfies a s → Satisfies a (saturation s)
unfolding saturation
sound_saturation a s h =
    let g = (satisfies_normal a s).1 h in
    record { reaches = omega (arith, g.reaches, value_cut a (normal s).bound (normal s).terms) }

-- ---- derivations

abbrev AllSatisfied : Assignment → List Sum → Type 0
AllSatisfied a [] = Unit {0}
AllSatisfied a (s ∷ st) = Satisfies a s × AllSatisfied a st

module _ (a : Assignment) (sums : ℕ → Option Sum) (known : (n : ℕ) (s : Sum) → sums n ≡ some s → Satisfies a s) where
  sound_push : (o : Option Sum) (st st' : List Sum) → ((s : Sum) → o ≡ some s → Satisfies a s) → AllSatisfied a st → push o st ≡ some st'
      → AllSatisfied a st'
  unfolding push
  sound_push none st st' h g e = absurd (none-ne-some st' e)
  sound_push (some s) st st' h g e =
      subst (AllSatisfied a) (some-injective (normal s ∷ st) st' e) ((satisfies_normal a s).1 (h s refl), g)

  sound_some : (s : Sum) (st st' : List Sum) → Satisfies a s → AllSatisfied a st → push (some s) st ≡ some st' → AllSatisfied a st'
  sound_some s st st' h g e = sound_push (some s) st st' (λ t p. subst (Satisfies a) (some-injective s t p) h) g e

  sound_apply : (k : Token) (st st' : List Sum) → AllSatisfied a st → apply sums k st ≡ some st' → AllSatisfied a st'
  unfolding apply
  sound_apply (step n) st st' h e = sound_push (sums n) st st' (known n) h e
  sound_apply (literal l) st st' h e = sound_some (literal_axiom l) st st' (sound_literal_axiom a l) h e
  sound_apply add [] st' h e = absurd (none-ne-some st' e)
  sound_apply add (t ∷ []) st' h e = absurd (none-ne-some st' e)
  sound_apply add (t ∷ s ∷ st) st' h e = sound_some (addition s t) st st' (sound_addition a s t h.1.0 h.0) h.1.1 e
  sound_apply (divide d) [] st' h e = absurd (none-ne-some st' e)
  sound_apply (divide zero) (s ∷ st) st' h e = absurd (none-ne-some st' e)
  sound_apply (divide (suc d)) (s ∷ st) st' h e = sound_some (division (suc d) s) st st' (sound_division a (suc d) s (omega arith) h.0) h.1 e
  sound_apply saturate [] st' h e = absurd (none-ne-some st' e)
  sound_apply saturate (s ∷ st) st' h e = sound_some (saturation s) st st' (sound_saturation a s h.0) h.1 e

  sound_run : (ks : List Token) (st st' : List Sum) → AllSatisfied a st → run sums ks st ≡ some st' → AllSatisfied a st'
  unfolding run bind
  sound_run [] st st' h e = subst (AllSatisfied a) (some-injective st st' e) h
  sound_run (k ∷ ks) st st' h e = by (apply sums k st) refl e (sound_run ks)
    where
      by : (o : Option (List Sum)) → apply sums k st ≡ o → bind o (run sums ks) ≡ some st'
          → ((st st' : List Sum) → AllSatisfied a st → run sums ks st ≡ some st' → AllSatisfied a st') → AllSatisfied a st'
      by none f g ih = absurd (none-ne-some st' g)
      by (some st'') f g ih = ih st'' st' (sound_apply k st st'' h f) g

  sound_single : (o : Option (List Sum)) (s : Sum) → ((st : List Sum) → o ≡ some st → AllSatisfied a st) → single o ≡ some s → Satisfies a s
  unfolding single
  sound_single none s h e = absurd (none-ne-some s e)
  sound_single (some []) s h e = absurd (none-ne-some s e)
  sound_single (some (r ∷ [])) s h e = subst (Satisfies a) (some-injective r s e) (h (r ∷ []) refl).0
  sound_single (some (r ∷ q ∷ st)) s h e = absurd (none-ne-some s e)

  -- Where the sums of the steps are satisfied, so is what a derivation comes to.
  pub sound_evaluate : (ks : List Token) (s : Sum) → evaluate sums ks ≡ some s → Satisfies a s
  unfolding evaluate
  sound_evaluate ks s e = sound_single (run sums ks []) s (λ st f. sound_run ks [] st tt f) e

-- ---- literals of a list, and clauses

pub value_units : (a : Assignment) (ls : List ℕ) → value a (units ls) ≡ count a ls
unfolding value units count
value_units a [] = refl
value_units a (l ∷ ls) = rw (value_units a ls)

pub count_append : (a : Assignment) (ks ls : List ℕ) → count a (ks ++ ls) ≡ count a ks + count a ls
unfolding count
count_append a [] ls = omega arith
count_append a (k ∷ ks) ls = omega (arith, count_append a ks ls)

pub count_negs : (a : Assignment) (ls : List ℕ) → count a (map neg ls) + count a ls ≡ length ls
unfolding count
count_negs a [] = refl
count_negs a (l ∷ ls) = rw (truth_neg a l) (by (truth a l) (count_negs a ls))
  where
    by : (b : Bool) → count a (map neg ls) + count a ls ≡ length ls
        → cond (not b) 1 0 + count a (map neg ls) + (cond b 1 0 + count a ls) ≡ suc (length ls)
    by true ih = omega arith
    by false ih = omega arith

some_true : (a : Assignment) (ls : List ℕ) → 1 ≤ count a ls → SatisfiesClause a ls
unfolding count
some_true a [] h = absurd (omega arith)
some_true a (l ∷ ls) h = by (truth a l) refl h (some_true a ls)
  where
    by : (b : Bool) → truth a l ≡ b → 1 ≤ cond b 1 0 + count a ls → (1 ≤ count a ls → SatisfiesClause a ls) → SatisfiesClause a (l ∷ ls)
    by true e g ih = (l, Memᴰ.head refl, e)
    by false e g ih = let q = ih (omega arith) in (q.0, Memᴰ.tail q.1, q.2)

counted : (a : Assignment) (ls : List ℕ) (l : ℕ) → Memᴰ l ls → True a l → 1 ≤ count a ls
unfolding count
counted a [] l m t = absurd (Memᴰ.not-nil m)
counted a (k ∷ ls) l m t = by (Memᴰ.cases_cons m) (counted a ls l)
  where
    by : (l ≡ k) ⊎ Memᴰ l ls → (Memᴰ l ls → True a l → 1 ≤ count a ls) → 1 ≤ cond (truth a k) 1 0 + count a ls
    by (inl e) ih = rw (ap (truth a) (sym e) ∙ t) (omega arith)
    by (inr q) ih = omega (arith, ih q t)

-- The sum of a clause is satisfied exactly if one of its literals is true.
pub satisfies_clause : (a : Assignment) (ls : List ℕ) → Satisfies a (clause_sum ls) ↔ SatisfiesClause a ls
unfolding clause_sum
satisfies_clause a ls = (
  λ h. some_true a ls (omega (arith, h.reaches, value_units a ls)),
  λ h. record { reaches = omega (arith, value_units a ls, counted a ls h.0 h.1 h.2) },
)
