-- Literals, pseudo-Boolean sums (lower bounds alone) and their normal form.
use Rattle.std.specs.Prelude.{cond, List, [], ◌∷◌, ℕ, zero, suc, ◌+◌, ◌-◌, ◌*◌, ◌/◌, ◌%◌, min, eqb, ltb}

infix 75 ◌·◌
infix 20 ◌≥◌
-- ---- literals: 2 times the variable, plus 1 if negated

unfoldable pub variable : ℕ → ℕ
variable l = l / 2

-- Negation flips the lowest bit.
unfoldable pub neg : ℕ → ℕ
neg l = l + 1 - 2 * (l % 2)

-- ---- sums

-- A coefficient and a literal.
pub data Term : Type 0 where
  ◌·◌ : ℕ → ℕ → Term

-- A pseudo-Boolean constraint: the terms come to at least the bound. A literal may stand in several terms, and beside its negation.
pub record Sum : Type 0 where
  pub terms : List Term
  pub bound : ℕ

abbrev pub ◌≥◌ : List Term → ℕ → Sum
ts ≥ b = record { terms = ts; bound = b }

-- Each literal with coefficient 1.
unfoldable pub units : List ℕ → List Term
units [] = []
units (l ∷ ls) = (1 · l) ∷ units ls

-- A clause as a sum: at least one of the literals.
unfoldable pub clause_sum : List ℕ → Sum
unfolding units
clause_sum ls = units ls ≥ 1

-- ---- the normal form: a term for each variable, ascending, its coefficient positive

-- c where the literals m and l are the same, else 0
unfoldable pub hit : ℕ → ℕ → ℕ → ℕ
hit c m l = cond (eqb m l) c 0

-- The coefficients of the literal l, added up.
unfoldable pub coef : List Term → ℕ → ℕ
unfolding hit
coef [] l = 0
coef ((c · m) ∷ ts) l = hit c m l + coef ts l

-- x put into an ascending list that has each number once
unfoldable pub insert : ℕ → List ℕ → List ℕ
insert x [] = x ∷ []
insert x (y ∷ ys) = cond (ltb x y) (x ∷ y ∷ ys) (cond (eqb x y) (y ∷ ys) (y ∷ insert x ys))

-- The variables of the terms, ascending, each once.
unfoldable pub variables : List Term → List ℕ
unfolding insert variable
variables [] = []
variables ((c · m) ∷ ts) = insert (variable m) (variables ts)

-- The coefficient of l once l and its negation have cancelled: c · x + d · ¬x is min c d, and what is left of one of the two.
unfoldable pub net : List Term → ℕ → ℕ
unfolding coef neg
net ts l = coef ts l - coef ts (neg l)

-- the term c · l, if c is not 0, before ts
unfoldable pub keep : ℕ → ℕ → List Term → List Term
keep zero l ts = ts
keep (suc c) l ts = (suc c · l) ∷ ts

-- What is left of the terms for each of the variables.
unfoldable pub kept : List Term → List ℕ → List Term
unfolding keep net
kept ts [] = []
kept ts (x ∷ xs) = keep (net ts (2 * x)) (2 * x) (keep (net ts (2 * x + 1)) (2 * x + 1) (kept ts xs))

-- What has cancelled, over all of the variables.
unfoldable pub lost : List Term → List ℕ → ℕ
unfolding coef
lost ts [] = 0
lost ts (x ∷ xs) = min (coef ts (2 * x)) (coef ts (2 * x + 1)) + lost ts xs

-- The bound falls by what has cancelled. One that falls below 0 counts as 0.
unfoldable pub normal : Sum → Sum
unfolding kept lost variables
normal s = kept s.terms (variables s.terms) ≥ s.bound - lost s.terms (variables s.terms)
