-- The clauses of the definitions of `Sum`, as equations: with these a proof need not open a definition, and sees no more of it than it asks for.
use mathlib.Core.Path.{◌≡◌, refl, sym, ap, subst, ◌∙◌}
use mathlib.Core.Bool.{Bool, true, false, cond}
use mathlib.Core.Logic.{◌≢◌, ◌⊎◌, inl, inr}
use mathlib.Core.List.{List, [], ◌∷◌}
use Prim.Native.Nat.{ℕ, zero, suc, ◌+◌, ◌-◌, ◌*◌, ◌/◌, ◌%◌, min, ◌≤◌, ◌<◌}
use native.Mathlib.Omega.{arith}
use lib.Dec.{T, eqb, ltb, eqb→eq, eqb_refl, ltb→lt, nltb→le}
use Rattle.pb.specs.Sum.{variable, neg, hit, Term, coef, ◌·◌, insert, kept, keep, net, lost, Sum, normal, variables, ◌≥◌}

-- ---- literals

pub variable_neg : (l : ℕ) → variable (neg l) ≡ variable l
unfolding variable neg
variable_neg l = omega arith

pub neg_neg : (l : ℕ) → neg (neg l) ≡ l
unfolding neg
neg_neg l = omega arith

pub neg_self : (l : ℕ) → neg l ≢ l
unfolding neg
neg_self l = omega arith

pub neg_even : (x : ℕ) → neg (2 * x) ≡ 2 * x + 1
unfolding neg
neg_even x = omega arith

pub neg_odd : (x : ℕ) → neg (2 * x + 1) ≡ 2 * x
unfolding neg
neg_odd x = omega arith

pub variable_even : (x : ℕ) → variable (2 * x) ≡ x
unfolding variable
variable_even x = omega arith

pub variable_odd : (x : ℕ) → variable (2 * x + 1) ≡ x
unfolding variable
variable_odd x = omega arith

-- a literal is one of the two of its variable
pub polarity : (l : ℕ) → (l ≡ 2 * variable l) ⊎ (l ≡ 2 * variable l + 1)
unfolding variable
polarity l = by (l % 2) (omega arith) (omega arith)
  where
    by : (r : ℕ) → r < 2 → l ≡ 2 * (l / 2) + r → (l ≡ 2 * (l / 2)) ⊎ (l ≡ 2 * (l / 2) + 1)
    by zero h e = inl (omega arith)
    by (suc zero) h e = inr (omega arith)
    by (suc (suc r)) h e = absurd (omega arith)

pub same_variable : (m n : ℕ) → variable m ≡ variable n → m ≢ n → n ≡ neg m
unfolding variable neg
same_variable m n e h = omega arith

-- ---- hits

pub eqb_cases : (m l : ℕ) → ((m ≡ l) × (eqb m l ≡ true)) ⊎ ((m ≢ l) × (eqb m l ≡ false))
eqb_cases m l = by (eqb m l) refl
  where
    by : (b : Bool) → eqb m l ≡ b → ((m ≡ l) × (eqb m l ≡ true)) ⊎ ((m ≢ l) × (eqb m l ≡ false))
    by true e = inl (eqb→eq m l (rw e tt), e)
    by false e = inr ((λ (p : m ≡ l). subst T e (subst (λ (x : ℕ). T (eqb m x)) p (eqb_refl m))), e)

pub hit_cases : (c m l : ℕ) → ((m ≡ l) × (hit c m l ≡ c)) ⊎ ((m ≢ l) × (hit c m l ≡ 0))
unfolding hit
hit_cases c m l = by (eqb_cases m l)
  where
    by : ((m ≡ l) × (eqb m l ≡ true)) ⊎ ((m ≢ l) × (eqb m l ≡ false)) → ((m ≡ l) × (cond (eqb m l) c 0 ≡ c)) ⊎ ((m ≢ l) × (cond (eqb m l) c 0 ≡ 0))
    by (inl h) = inl (h.0, rw h.1)
    by (inr h) = inr (h.0, rw h.1)

pub hit_same : (c : ℕ) {m l : ℕ} → m ≡ l → hit c m l ≡ c
hit_same c {m} {l} p = elim (hit_cases c m l) [ inl h ↦ h.1 | inr h ↦ absurd (h.0 p) ]

pub hit_other : (c : ℕ) {m l : ℕ} → m ≢ l → hit c m l ≡ 0
hit_other c {m} {l} p = elim (hit_cases c m l) [ inl h ↦ absurd (p h.0) | inr h ↦ h.1 ]

pub hit_zero : (m l : ℕ) → hit 0 m l ≡ 0
hit_zero m l = elim (hit_cases 0 m l) [ inl h ↦ h.1 | inr h ↦ h.1 ]

pub hit_neg : (c m l : ℕ) → hit c (neg m) l ≡ hit c m (neg l)
hit_neg c m l = elim
    (hit_cases c (neg m) l) [
      | inl h ↦ h.1 ∙ sym (hit_same c (sym (neg_neg m) ∙ ap neg h.0))
      | inr h ↦ h.1
          ∙ sym (hit_other c (λ (e : m ≡ neg l). h.0 (ap neg e ∙ neg_neg l)))
    ]

-- hits add up
pub hit_add : (c d m l : ℕ) → hit (c + d) m l ≡ hit c m l + hit d m l
unfolding hit
hit_add c d m l = by (eqb m l)
  where
    by : (b : Bool) → cond b (c + d) 0 ≡ cond b c 0 + cond b d 0
    by true = refl
    by false = refl

-- ---- clauses

pub coef_cons : (c m : ℕ) (ts : List Term) (l : ℕ) → coef ((c · m) ∷ ts) l ≡ hit c m l + coef ts l
unfolding coef
coef_cons c m ts l = refl

pub coef_nil : (l : ℕ) → coef [] l ≡ 0
unfolding coef
coef_nil l = refl

pub insert_nil : (x : ℕ) → insert x [] ≡ x ∷ []
unfolding insert
insert_nil x = refl

-- where insert puts x
abbrev pub Placed : ℕ → ℕ → List ℕ → Type 0
Placed x y ys = ((x < y) × (insert x (y ∷ ys) ≡ x ∷ y ∷ ys)) ⊎ ((x ≡ y) × (insert x (y ∷ ys) ≡ y ∷ ys)) ⊎
    ((y < x) × (insert x (y ∷ ys) ≡ y ∷ insert x ys))

pub insert_cases : (x y : ℕ) (ys : List ℕ) → Placed x y ys
unfolding insert
insert_cases x y ys = by (ltb x y) refl (eqb_cases x y)
  where
    by : (b : Bool) → ltb x y ≡ b → ((x ≡ y) × (eqb x y ≡ true)) ⊎ ((x ≢ y) × (eqb x y ≡ false)) → Placed x y ys
    by true e q = inl (ltb→lt x y (rw e tt), rw e)
    by false e (inl q) = inr (inl (q.0, rw (e, q.1)))
    by false e (inr q) =
        let h : y ≤ x = nltb→le x y (rw e tt) in
        let n : x ≢ y = q.0 in
        inr (inr (omega arith, rw (e, q.1)))

pub kept_cons : (ts : List Term) (x : ℕ) (xs : List ℕ)
    → kept ts (x ∷ xs) ≡ keep (net ts (2 * x)) (2 * x) (keep (net ts (2 * x + 1)) (2 * x + 1) (kept ts xs))
unfolding kept
kept_cons ts x xs = refl

pub kept_nil : (ts : List Term) → kept ts [] ≡ []
unfolding kept
kept_nil ts = refl

pub lost_cons : (ts : List Term) (x : ℕ) (xs : List ℕ) → lost ts (x ∷ xs) ≡ min (coef ts (2 * x)) (coef ts (2 * x + 1)) + lost ts xs
unfolding lost
lost_cons ts x xs = refl

pub lost_nil : (ts : List Term) → lost ts [] ≡ 0
unfolding lost
lost_nil ts = refl

pub net_is : (ts : List Term) (l : ℕ) → net ts l ≡ coef ts l - coef ts (neg l)
unfolding net
net_is ts l = refl

pub normal_is : (s : Sum) → normal s ≡ (kept s.terms (variables s.terms) ≥ s.bound - lost s.terms (variables s.terms))
unfolding normal
normal_is s = refl

pub coef_keep : (c m : ℕ) (ts : List Term) (l : ℕ) → coef (keep c m ts) l ≡ hit c m l + coef ts l
unfolding keep
coef_keep zero m ts l = omega (arith, hit_zero m l)
coef_keep (suc c) m ts l = coef_cons (suc c) m ts l
