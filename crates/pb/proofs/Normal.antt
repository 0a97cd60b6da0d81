-- What a sum comes to in normal form, seen as a function of the literal: `normal_same` is the one fact that the derivations rest on.
use mathlib.Core.Path.{◌≡◌, refl, sym, ap, ap₂, ◌∙◌}
use mathlib.Core.Logic.{◌≢◌, ◌⊎◌, inl, inr}
use mathlib.Core.List.{List, [], ◌∷◌}
use Prim.Native.Nat.{ℕ, zero, suc, ◌+◌, ◌-◌, ◌*◌, min, ◌≤◌, ◌<◌}
use native.Mathlib.Decide.{ℕ_discrete, dec_lt}
use native.Mathlib.Omega.{arith}
use Rattle.pb.specs.Normal.{NormalFrom, Normal}
use Rattle.pb.specs.Rules.{map_coefs}
use Rattle.pb.specs.Sum.{hit, insert, Term, ◌·◌, variable, variables, coef, kept, net, keep, lost, Sum, normal, ◌≥◌, neg}
use Rattle.pb.proofs.Terms.{hit_zero, hit_other, insert_nil, insert_cases, Placed, hit_same, coef_nil, coef_cons, polarity, variable_even, variable_odd, kept_nil, kept_cons, coef_keep, net_is, hit_cases, lost_nil, lost_cons, neg_even, neg_odd, normal_is, neg_neg, variable_neg, neg_self}

-- ---- sums of hits over a list of variables

-- c for each time that v stands in the list
unfoldable pub hits : ℕ → List ℕ → ℕ → ℕ
hits c [] v = 0
hits c (x ∷ xs) v = hit c x v + hits c xs v

hits_zero : (xs : List ℕ) (v : ℕ) → hits 0 xs v ≡ 0
unfolding hits
hits_zero [] v = refl
hits_zero (x ∷ xs) v = omega (arith, hit_zero x v, hits_zero xs v)

-- ascending, each once, from k on
abbrev Up : ℕ → List ℕ → Type 0
Up k [] = Unit {0}
Up k (x ∷ xs) = (k ≤ x) × Up (suc x) xs

hits_below : (c : ℕ) {k v : ℕ} (xs : List ℕ) → v < k → Up k xs → hits c xs v ≡ 0
unfolding hits
hits_below c [] h u = refl
hits_below c {k} {v} (x ∷ xs) h u = omega (arith, hit_other c {m = x} {l = v} (omega arith), hits_below c {v = v} xs (omega arith) u.1)

Up-insert : {k : ℕ} (x : ℕ) (xs : List ℕ) → k ≤ x → Up k xs → Up k (insert x xs)
Up-insert x [] h u = rw insert_nil (h, tt)
Up-insert {k} x (y ∷ ys) h u = by (insert_cases x y ys) (Up-insert x ys)
  where
    by : Placed x y ys → (suc y ≤ x → Up (suc y) ys → Up (suc y) (insert x ys)) → Up k (insert x (y ∷ ys))
    by (inl e) ih = rw e.1 (h, (e.0, u.1))
    by (inr (inl e)) ih = rw e.1 u
    by (inr (inr e)) ih = rw e.1 (u.0, ih e.0 u.1)

-- what was put in is there once, and the rest is as it was
hits_insert_same : (c k : ℕ) (x : ℕ) (xs : List ℕ) → Up k xs → hits c (insert x xs) x ≡ c
unfolding hits
hits_insert_same c k x [] u = rw insert_nil (omega (arith, hit_same c {m = x} {l = x} refl))
hits_insert_same c k x (y ∷ ys) u = by (insert_cases x y ys) (hits_insert_same c (suc y) x ys u.1)
  where
    by : Placed x y ys → hits c (insert x ys) x ≡ c → hits c (insert x (y ∷ ys)) x ≡ c
    by (inl e) ih = rw e.1
        (omega (arith, hit_same c {m = x} {l = x} refl, hit_other c {m = y} {l = x} (omega arith), hits_below c {v = x} ys (omega arith) u.1))
    by (inr (inl e)) ih = rw e.1 (omega (arith, hit_same c {m = y} {l = x} (sym e.0), hits_below c {v = x} ys (omega arith) u.1))
    by (inr (inr e)) ih = rw e.1 (omega (arith, hit_other c {m = y} {l = x} (omega arith)))

hits_insert_other : (c : ℕ) {v : ℕ} (x : ℕ) (xs : List ℕ) → x ≢ v → hits c (insert x xs) v ≡ hits c xs v
unfolding hits
hits_insert_other c {v} x [] n = rw insert_nil (omega (arith, hit_other c {m = x} {l = v} n))
hits_insert_other c {v} x (y ∷ ys) n = by (insert_cases x y ys) (hits_insert_other c x ys n)
  where
    by : Placed x y ys → hits c (insert x ys) v ≡ hits c ys v → hits c (insert x (y ∷ ys)) v ≡ hits c (y ∷ ys) v
    by (inl e) ih = rw e.1 (omega (arith, hit_other c {m = x} {l = v} n))
    by (inr (inl e)) ih = rw e.1 refl
    by (inr (inr e)) ih = rw e.1 (omega arith)

-- each variable of the terms stands in the list once
unfoldable pub Covers : List ℕ → List Term → Type 0
Covers xs [] = Unit {0}
Covers xs ((c · m) ∷ ts) = ((d : ℕ) → hits d xs (variable m) ≡ d) × Covers xs ts

Covers-insert : (k x : ℕ) (xs : List ℕ) (ts : List Term) → Up k xs → Covers xs ts → Covers (insert x xs) ts
unfolding Covers
Covers-insert k x xs [] u v = tt
Covers-insert k x xs ((c · m) ∷ ts) u v = ((λ (d : ℕ). by d (ℕ_discrete x (variable m))), Covers-insert k x xs ts u v.1)
  where
    by : (d : ℕ) → Dec (x ≡ variable m) → hits d (insert x xs) (variable m) ≡ d
    by d (yes e) = rw (← e) (hits_insert_same d k x xs u)
    by d (no n) = hits_insert_other d x xs n ∙ v.0 d

variables_up : (ts : List Term) → Up 0 (variables ts)
unfolding variables
variables_up [] = tt
variables_up ((c · m) ∷ ts) = Up-insert (variable m) (variables ts) (omega arith) (variables_up ts)

pub variables_cover : (ts : List Term) → Covers (variables ts) ts
unfolding Covers variables
variables_cover [] = tt
variables_cover ((c · m) ∷ ts) = (
  (λ (d : ℕ). hits_insert_same d 0 (variable m) (variables ts) (variables_up ts)),
  Covers-insert 0 (variable m) (variables ts) ts (variables_up ts) (variables_cover ts),
)

-- a literal whose variable is not in the list has coefficient 0
covered : (xs : List ℕ) (ts : List Term) (l : ℕ) → Covers xs ts → (coef ts l ≡ 0) ⊎ ((d : ℕ) → hits d xs (variable l) ≡ d)
unfolding Covers
covered xs [] l v = inl (coef_nil l)
covered xs ((c · m) ∷ ts) l v = by (ℕ_discrete m l) (covered xs ts l v.1)
  where
    by : Dec (m ≡ l) → (coef ts l ≡ 0) ⊎ ((d : ℕ) → hits d xs (variable l) ≡ d) → (coef ((c · m) ∷ ts) l ≡ 0) ⊎ ((d : ℕ) → hits d xs (variable l) ≡ d)
    by (yes e) q = inr (rw (← e) v.0)
    by (no n) (inr q) = inr q
    by (no n) (inl q) = inl (rw coef_cons (omega (arith, hit_other c {m = m} {l = l} n)))

-- ---- the coefficients of the normal form

-- of the two literals of x, l is the one, the other or neither
hit_two : (f : ℕ → ℕ) (x l : ℕ) → hit (f (2 * x)) (2 * x) l + hit (f (2 * x + 1)) (2 * x + 1) l ≡ hit (f l) x (variable l)
hit_two f x l = by (ℕ_discrete x (variable l)) (polarity l)
  where
    by : Dec (x ≡ variable l) → (l ≡ 2 * variable l) ⊎ (l ≡ 2 * variable l + 1)
        → hit (f (2 * x)) (2 * x) l + hit (f (2 * x + 1)) (2 * x + 1) l ≡ hit (f l) x (variable l)
    by (yes e) (inl p) =
        let q : 2 * x ≡ l = omega arith in
        omega (
          arith,
          hit_same (f (2 * x)) {m = 2 * x} {l = l} q,
          hit_other (f (2 * x + 1)) {m = 2 * x + 1} {l = l} (omega arith),
          hit_same
              (f l) {m = x} {l = variable l} e,
          ap f q,
        )
    by (yes e) (inr p) =
        let q : 2 * x + 1 ≡ l = omega arith in
        omega (
          arith,
          hit_same (f (2 * x + 1)) {m = 2 * x + 1} {l = l} q,
          hit_other (f (2 * x)) {m = 2 * x} {l = l} (omega arith),
          hit_same
              (f l) {m = x} {l = variable l} e,
          ap f q,
        )
    by (no n) p = omega (
      arith,
      hit_other (f (2 * x)) {m = 2 * x} {l = l} (λ (q : 2 * x ≡ l). n (sym (variable_even x) ∙ ap variable q)),
      hit_other
          (f (2 * x + 1)) {m = 2 * x + 1} {l = l} (λ (q : 2 * x + 1 ≡ l). n (sym (variable_odd x) ∙ ap variable q)),
      hit_other
          (f l) {m = x} {l = variable l} n,
    )

coef_kept : (ts : List Term) (xs : List ℕ) (l : ℕ) → coef (kept ts xs) l ≡ hits (net ts l) xs (variable l)
unfolding hits
coef_kept ts [] l = rw kept_nil (coef_nil l)
coef_kept ts (x ∷ xs) l = simp (kept_cons, coef_keep) (omega (arith, hit_two (net ts) x l, coef_kept ts xs l))

pub coef_normal : (ts : List Term) (l : ℕ) → coef (kept ts (variables ts)) l ≡ net ts l
coef_normal ts l = coef_kept ts (variables ts) l ∙ by (covered (variables ts) ts l (variables_cover ts))
  where
    by : (coef ts l ≡ 0) ⊎ ((d : ℕ) → hits d (variables ts) (variable l) ≡ d) → hits (net ts l) (variables ts) (variable l) ≡ net ts l
    by (inr q) = q (net ts l)
    by (inl q) = let z : net ts l ≡ 0 = omega (arith, net_is ts l) in rw z (hits_zero (variables ts) (variable l))

-- ---- the coefficients added up: what cancels is lost twice

unfoldable pub weight : List Term → ℕ
weight [] = 0
weight ((c · m) ∷ ts) = c + weight ts

spread : List Term → List ℕ → ℕ
spread ts [] = 0
spread ts (x ∷ xs) = coef ts (2 * x) + coef ts (2 * x + 1) + spread ts xs

hit_sym : (c m l : ℕ) → hit c m l ≡ hit c l m
hit_sym c m l = elim
    (hit_cases c m l) [ inl h ↦ h.1 ∙ sym (hit_same c (sym h.0)) | inr h ↦ h.1 ∙ sym (hit_other c (λ (p : l ≡ m). h.0 (sym p))) ]

spread_cons : (c m : ℕ) (ts : List Term) (xs : List ℕ) → spread ((c · m) ∷ ts) xs ≡ hits c xs (variable m) + spread ts xs
unfolding spread hits
spread_cons c m ts [] = refl
spread_cons c m ts (x ∷ xs) =
    simp coef_cons (omega (arith, hit_two (λ _. c) x m, hit_sym c m (2 * x), hit_sym c m (2 * x + 1), spread_cons c m ts xs))

spread_nil : (xs : List ℕ) → spread [] xs ≡ 0
unfolding spread
spread_nil [] = refl
spread_nil (x ∷ xs) = omega (arith, coef_nil (2 * x), coef_nil (2 * x + 1), spread_nil xs)

weight_spread : (ts : List Term) (xs : List ℕ) → Covers xs ts → weight ts ≡ spread ts xs
unfolding weight Covers
weight_spread [] xs v = sym (spread_nil xs)
weight_spread ((c · m) ∷ ts) xs v = rw spread_cons (omega (arith, v.0 c, weight_spread ts xs v.1))

pub weight_keep : (c m : ℕ) (ts : List Term) → weight (keep c m ts) ≡ c + weight ts
unfolding weight keep
weight_keep zero m ts = omega arith
weight_keep (suc c) m ts = refl

weight_kept : (ts : List Term) (xs : List ℕ) → weight (kept ts xs) + 2 * lost ts xs ≡ spread ts xs
unfolding spread weight
weight_kept ts [] = rw (kept_nil, lost_nil)
weight_kept ts (x ∷ xs) =
    simp (kept_cons, weight_keep, lost_cons, net_is, neg_even, neg_odd) (omega (arith, weight_kept ts xs))

pub weight_normal : (ts : List Term) → weight (kept ts (variables ts)) + 2 * lost ts (variables ts) ≡ weight ts
weight_normal ts = weight_kept ts (variables ts) ∙ sym (weight_spread ts (variables ts) (variables_cover ts))

-- ---- a normal form is known by its coefficients

weaken : (j k : ℕ) (ts : List Term) → j ≤ k → NormalFrom k ts → NormalFrom j ts
weaken j k [] h u = tt
weaken j k ((c · m) ∷ ts) h u = (omega arith, u.1, u.2)

-- What is left of one variable is one of its literals at most.
keep_two : (k x c d : ℕ) (ts : List Term) → k ≤ x → min c d ≡ 0 → NormalFrom (suc x) ts
    → NormalFrom k (keep c (2 * x) (keep d (2 * x + 1) ts))
unfolding keep
keep_two k x zero zero ts g h u = weaken k (suc x) ts (omega arith) u
keep_two k x zero (suc d) ts g h u = rw variable_odd (g, omega arith, u)
keep_two k x (suc c) zero ts g h u = rw variable_even (g, omega arith, u)
keep_two k x (suc c) (suc d) ts g h u = absurd (omega arith)

kept_from : (k : ℕ) (ts : List Term) (xs : List ℕ) → Up k xs → NormalFrom k (kept ts xs)
kept_from k ts [] u = rw kept_nil tt
kept_from k ts (x ∷ xs) u =
    rw kept_cons (keep_two k x (net ts (2 * x)) (net ts (2 * x + 1)) (kept ts xs) u.0 one (kept_from (suc x) ts xs u.1))
  where
    one : min (net ts (2 * x)) (net ts (2 * x + 1)) ≡ 0
    one = simp (net_is, neg_even, neg_odd) (omega arith)

kept_normal : (ts : List Term) → NormalFrom 0 (kept ts (variables ts))
kept_normal ts = kept_from 0 ts (variables ts) (variables_up ts)

-- The normal form of any sum is one: each variable stands in one term at most.
pub normal_form : (s : Sum) → Normal (normal s)
normal_form s = rw (normal_is s) (kept_normal s.terms)

coef_below : (k l : ℕ) (ts : List Term) → variable l < k → NormalFrom k ts → coef ts l ≡ 0
coef_below k l [] h u = coef_nil l
coef_below k l ((c · m) ∷ ts) h u =
    rw coef_cons (omega (
      arith,
      hit_other c {m = m} {l = l} (λ (e : m ≡ l). omega (arith, ap variable e, u.0)),
      coef_below (suc (variable m)) l ts (omega (arith, u.0)) u.2,
    ))

-- the first literal of the one is no literal of the other
form_apart : (k c m d n : ℕ) (ts us : List Term) → NormalFrom k ((c · m) ∷ ts) → NormalFrom k ((d · n) ∷ us)
    → ((l : ℕ) → coef ((c · m) ∷ ts) l ≡ coef ((d · n) ∷ us) l) → variable m ≤ variable n → n ≢ m → ⊥
form_apart k c m d n ts us u v e h q =
    omega (
      arith,
      u.1,
      coef_cons c m ts m,
      coef_cons d n us m,
      hit_other d {m = n} {l = m} q,
      coef_below (suc (variable n)) m us (omega arith) v.2,
      e m,
      hit_same c {m = m} {l = m} refl,
    )

pub form_ext : (k : ℕ) (ts us : List Term) → NormalFrom k ts → NormalFrom k us → ((l : ℕ) → coef ts l ≡ coef us l) → ts ≡ us
form_ext k [] [] u v e = refl
form_ext k [] ((d · n) ∷ us) u v e = absurd (omega (arith, v.1, coef_cons d n us n, coef_nil n, e n, hit_same d {m = n} {l = n} refl))
form_ext k ((c · m) ∷ ts) [] u v e = absurd (omega (arith, u.1, coef_cons c m ts m, coef_nil m, e m, hit_same c {m = m} {l = m} refl))
form_ext k ((c · m) ∷ ts) ((d · n) ∷ us) u v e = by (ℕ_discrete m n) (dec_lt (variable n) (variable m)) (form_ext (suc (variable m)) ts us)
  where
    by : Dec (m ≡ n) → Dec (variable n < variable m)
        → (NormalFrom (suc (variable m)) ts → NormalFrom (suc (variable m)) us → ((l : ℕ) → coef ts l ≡ coef us l) → ts ≡ us)
        → ◌≡◌ {A = List Term} ((c · m) ∷ ts) ((d · n) ∷ us)
    by (no q) (yes h) ih = absurd (form_apart k d n c m us ts v u (λ (l : ℕ). sym (e l)) (omega arith) q)
    by (no q) (no h) ih = absurd (form_apart k c m d n ts us u v e (omega arith) (λ (p : n ≡ m). q (sym p)))
    by (yes same) h ih = ap₂ (λ (t : Term) (r : List Term). t ∷ r) (ap₂ ◌·◌ heads same) (ih u.2 under tails)
      where
        under : NormalFrom (suc (variable m)) us
        under = rw same v.2

        heads : c ≡ d
        heads = omega (
          arith,
          e m,
          coef_cons c m ts m,
          coef_cons d n us m,
          hit_same c {m = m} {l = m} refl,
          hit_same d {m = n} {l = m} (sym same),
          coef_below (suc (variable m)) m ts (omega arith) u.2,
          coef_below (suc (variable m)) m us (omega arith) under,
        )

        tails : (l : ℕ) → coef ts l ≡ coef us l
        tails l = omega (arith, e l, coef_cons c m ts l, coef_cons d n us l, ap₂ (λ (x y : ℕ). hit x y l) heads same)

-- ---- two sums with one normal form

-- what cancels in the sum
unfoldable pub spent : Sum → ℕ
spent s = lost s.terms (variables s.terms)

kept_same : (ts us : List Term) → ((l : ℕ) → net ts l ≡ net us l) → kept ts (variables ts) ≡ kept us (variables us)
kept_same ts us e =
    form_ext 0 _ _ (kept_normal ts) (kept_normal us)
    (λ (l : ℕ). coef_normal ts l ∙ e l ∙ sym (coef_normal us l))

pub normal_ext : (s t : Sum) → ((l : ℕ) → net s.terms l ≡ net t.terms l) → s.bound - spent s ≡ t.bound - spent t → normal s ≡ normal t
unfolding spent
normal_ext s t e b = rw (normal_is s, normal_is t) (ap₂ ◌≥◌ (kept_same s.terms t.terms e) b)

-- The normal form is the one that has these coefficients: what a program shows of its own.
pub normal_unique : (s : Sum) (ts : List Term) (b : ℕ) → Normal (ts ≥ b) → ((l : ℕ) → coef ts l ≡ net s.terms l) → b ≡ s.bound - spent s
    → normal s ≡ (ts ≥ b)
unfolding spent
normal_unique s ts b u e h =
    rw (normal_is s) (ap₂ ◌≥◌ (form_ext 0 _ _ (kept_normal s.terms) u (λ (l : ℕ). coef_normal s.terms l ∙ sym (e l))) (sym h))

-- Two sums say the same if at each literal the one's coefficient less the negation's is the other's, and so is the weight less twice the bound.
-- Both differences are additive, so what `add` makes is read off by linear arithmetic.
pub record SameSum (s t : Sum) : Type 0 where
  pub at : (l : ℕ) → coef s.terms l + coef t.terms (neg l) ≡ coef t.terms l + coef s.terms (neg l)
  pub level : weight s.terms + 2 * t.bound ≡ weight t.terms + 2 * s.bound

pub normal_same : (s t : Sum) → SameSum s t → normal s ≡ normal t
unfolding spent
normal_same s t e = normal_ext s t nets
    (omega (arith, e.level, weight_normal s.terms, weight_normal t.terms, ap weight (kept_same s.terms t.terms nets)))
  where
    nets : (l : ℕ) → net s.terms l ≡ net t.terms l
    nets l = simp net_is (omega (arith, e.at l))

-- what is left of the bound, or is missing there, is the same too
pub same_spent : (s t : Sum) → SameSum s t → s.bound + spent t ≡ t.bound + spent s
unfolding spent
same_spent s t e = omega (arith, e.level, weight_normal s.terms, weight_normal t.terms, ap weight (kept_same s.terms t.terms nets))
  where
    nets : (l : ℕ) → net s.terms l ≡ net t.terms l
    nets l = simp net_is (omega (arith, e.at l))

-- ---- sums in which nothing cancels

unfoldable pub Clean : List Term → Type 0
Clean ts = (l : ℕ) → min (coef ts l) (coef ts (neg l)) ≡ 0

pub lost_clean : (ts : List Term) (xs : List ℕ) → Clean ts → lost ts xs ≡ 0
unfolding Clean
lost_clean ts [] h = lost_nil ts
lost_clean ts (x ∷ xs) h = rw lost_cons (omega (arith, rw neg_even at (h (2 * x)), lost_clean ts xs h))

pub net_clean : (ts : List Term) (l : ℕ) → Clean ts → net ts l ≡ coef ts l
unfolding Clean
net_clean ts l h = rw net_is (omega (arith, h l))

pub normal_clean : (ts us : List Term) (b : ℕ) → Clean ts → Clean us → ((l : ℕ) → coef ts l ≡ coef us l) → normal (ts ≥ b) ≡ normal (us ≥ b)
unfolding spent
normal_clean ts us b h g e =
    normal_ext (ts ≥ b) (us ≥ b) (λ (l : ℕ). net_clean ts l h ∙ e l ∙ sym (net_clean us l g))
    (rw (lost_clean ts (variables ts) h, lost_clean us (variables us) g))

Clean-kept : (ts : List Term) → Clean (kept ts (variables ts))
unfolding Clean
Clean-kept ts l = simp (coef_normal, net_is, neg_neg) (omega arith)

-- ---- terms over variables that are all different

abbrev pub Off : ℕ → List Term → Type 0
Off x [] = Unit {0}
Off x ((c · m) ∷ ts) = (x ≢ variable m) × Off x ts

abbrev pub Apart : List Term → Type 0
Apart [] = Unit {0}
Apart ((c · m) ∷ ts) = Off (variable m) ts × Apart ts

pub coef_off : (l : ℕ) (ts : List Term) → Off (variable l) ts → coef ts l ≡ 0
coef_off l [] h = coef_nil l
coef_off l ((c · m) ∷ ts) h =
    rw coef_cons (omega (arith, hit_other c {m = m} {l = l} (λ (e : m ≡ l). h.0 (ap variable (sym e))), coef_off l ts h.1))

Off-each : (f : ℕ → ℕ) (x : ℕ) (ts : List Term) → Off x ts → Off x (map_coefs f ts)
unfolding map_coefs
Off-each f x [] h = tt
Off-each f x ((c · m) ∷ ts) h = (h.0, Off-each f x ts h.1)

pub Apart-each : (f : ℕ → ℕ) (ts : List Term) → Apart ts → Apart (map_coefs f ts)
unfolding map_coefs
Apart-each f [] h = tt
Apart-each f ((c · m) ∷ ts) h = (Off-each f (variable m) ts h.0, Apart-each f ts h.1)

pub Apart-clean : (ts : List Term) → Apart ts → Clean ts
unfolding Clean
Apart-clean [] h l = omega (arith, coef_nil l)
Apart-clean ((c · m) ∷ ts) h l =
    rw (coef_cons c m ts l, coef_cons c m ts (neg l)) (by (ℕ_discrete (variable m) (variable l)) (Apart-clean ts h.1 l))
  where
    by : Dec (variable m ≡ variable l) → min (coef ts l) (coef ts (neg l)) ≡ 0 → min (hit c m l + coef ts l) (hit c m (neg l) + coef ts (neg l)) ≡ 0
    by (no n) ih = omega (
      arith,
      hit_other c {m = m} {l = l} (λ (e : m ≡ l). n (ap variable e)),
      hit_other c {m = m} {l = neg l}
          (λ (e : m ≡ neg l). n (ap variable e ∙ variable_neg l)),
    )
    by (yes e) ih = both (hit_cases c m l) (hit_cases c m (neg l))
      where
        off : coef ts l ≡ 0
        off = coef_off l ts (rw (← e) h.0)

        off_not : coef ts (neg l) ≡ 0
        off_not = coef_off (neg l) ts (rw (variable_neg, ← e) h.0)

        both : ((m ≡ l) × (hit c m l ≡ c)) ⊎ ((m ≢ l) × (hit c m l ≡ 0))
            → ((m ≡ neg l) × (hit c m (neg l) ≡ c)) ⊎ ((m ≢ neg l) × (hit c m (neg l) ≡ 0))
            → min (hit c m l + coef ts l) (hit c m (neg l) + coef ts (neg l)) ≡ 0
        both (inr p) q = omega (arith, off)
        both (inl p) (inr q) = omega (arith, off_not)
        both (inl p) (inl q) = absurd (neg_self l (sym q.0 ∙ p.0))

-- ---- a function of the coefficients, term by term

-- no literal stands in two terms
Once : List Term → Type 0
Once [] = Unit {0}
Once ((c · m) ∷ ts) = (coef ts m ≡ 0) × Once ts

Once-apart : (ts : List Term) → Apart ts → Once ts
unfolding Once
Once-apart [] h = tt
Once-apart ((c · m) ∷ ts) h = (coef_off m ts h.0, Once-apart ts h.1)

Once-form : (k : ℕ) (ts : List Term) → NormalFrom k ts → Once ts
unfolding Once
Once-form k [] h = tt
Once-form k ((c · m) ∷ ts) h = (coef_below (suc (variable m)) m ts (omega arith) h.2, Once-form (suc (variable m)) ts h.2)

coef_each : (f : ℕ → ℕ) → f 0 ≡ 0 → (ts : List Term) → Once ts → (l : ℕ) → coef (map_coefs f ts) l ≡ f (coef ts l)
unfolding map_coefs Once
coef_each f z [] h l = rw coef_nil (sym z)
coef_each f z ((c · m) ∷ ts) h l = rw (coef_cons (f c) m (map_coefs f ts) l, coef_cons c m ts l) (by (hit_cases c m l) (coef_each f z ts h.1))
  where
    by : ((m ≡ l) × (hit c m l ≡ c)) ⊎ ((m ≢ l) × (hit c m l ≡ 0)) → ((l : ℕ) → coef (map_coefs f ts) l ≡ f (coef ts l))
        → hit (f c) m l + coef (map_coefs f ts) l ≡ f (hit c m l + coef ts l)
    by (inl p) ih =
        let a : coef ts l ≡ 0 = rw (← p.0) h.0 in
        let b : hit c m l + coef ts l ≡ c = omega (arith, p.1) in
        rw b (omega (arith, hit_same (f c) p.0, ih l, ap f a))
    by (inr p) ih =
        let b : hit c m l + coef ts l ≡ coef ts l = omega (arith, p.1) in
        rw b (omega (arith, hit_other (f c) p.0, ih l))

-- Of terms over different variables each may be changed where it stands, without a normal form between.
pub normal_each : (f : ℕ → ℕ) → f 0 ≡ 0 → (ts : List Term) (b d : ℕ) → Apart ts
    → normal (map_coefs f (normal (ts ≥ b)).terms ≥ d) ≡ normal (map_coefs f ts ≥ d)
unfolding Clean
normal_each f z ts b d h = rw (normal_is (ts ≥ b)) (normal_clean (map_coefs f (kept ts (variables ts))) (map_coefs f ts) d clean apart same)
  where
    apart : Clean (map_coefs f ts)
    apart = Apart-clean (map_coefs f ts) (Apart-each f ts h)

    same : (l : ℕ) → coef (map_coefs f (kept ts (variables ts))) l ≡ coef (map_coefs f ts) l
    same l =
        coef_each f z (kept ts (variables ts)) (Once-form 0 _ (kept_normal ts)) l
        ∙ ap f (coef_normal ts l ∙ net_clean ts l (Apart-clean ts h))
        ∙ sym (coef_each f z ts (Once-apart ts h) l)

    clean : Clean (map_coefs f (kept ts (variables ts)))
    clean l = rw (same l, same (neg l)) (apart l)

pub bound_apart : (ts : List Term) (b : ℕ) → Apart ts → (normal (ts ≥ b)).bound ≡ b
bound_apart ts b h = rw (normal_is (ts ≥ b), lost_clean ts (variables ts) (Apart-clean ts h)) (omega arith)

-- ---- a sum says the same as its normal form, where no more cancels than the bound has

pub same_normal : (s : Sum) → spent s ≤ s.bound → SameSum s (normal s)
unfolding spent
same_normal s h = rw (normal_is s) (record {
  at = λ (l : ℕ). simp (coef_normal, net_is, neg_neg) (omega arith);
  level = omega (arith, weight_normal s.terms);
})

pub spent_clean : (s : Sum) → Clean s.terms → spent s ≡ 0
unfolding spent
spent_clean s h = lost_clean s.terms (variables s.terms) h

pub normal_normal : (s : Sum) → normal (normal s) ≡ normal s
normal_normal s = normal_unique (normal s) (normal s).terms (normal s).bound (normal_form s) coefs (omega (arith, spent_clean (normal s) clean))
  where
    clean : Clean (normal s).terms
    clean = rw (normal_is s) (Clean-kept s.terms)

    coefs : (l : ℕ) → coef (normal s).terms l ≡ net (normal s).terms l
    coefs l = sym (net_clean (normal s).terms l clean)

-- a sum that says the same as a clean one has room in its bound for all that cancels
pub same_room : (s t : Sum) → SameSum s t → Clean t.terms → spent s ≤ s.bound
same_room s t e h = omega (arith, same_spent s t e, spent_clean t h)
