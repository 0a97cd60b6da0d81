-- Assignments: the truth of literals, the value of terms, and when an assignment satisfies a sum or a clause.
use Rattle.std.specs.Prelude.{◌≡◌, Bool, true, cond, not, ℕ, ◌+◌, ◌%◌, ◌≤◌, eqb}
use mathlib.Core.List.{List, [], ◌∷◌, Memᴰ}
use Rattle.pb.specs.Sum.{variable, Term, ◌·◌, Sum}

-- The truth of each variable.
abbrev pub Assignment : Type 0
Assignment = ℕ → Bool

-- A literal is even where it is its variable, odd where it is the negation.
unfoldable pub truth : Assignment → ℕ → Bool
unfolding variable
truth a l = cond (eqb (l % 2) 0) (a (variable l)) (not (a (variable l)))

abbrev pub True : Assignment → ℕ → Type 0
True a l = truth a l ≡ true

-- The number of true literals.
unfoldable pub count : Assignment → List ℕ → ℕ
unfolding truth
count a [] = 0
count a (l ∷ ls) = cond (truth a l) 1 0 + count a ls

-- The coefficients of the true literals, added up.
unfoldable pub value : Assignment → List Term → ℕ
unfolding truth
value a [] = 0
value a ((c · l) ∷ ts) = cond (truth a l) c 0 + value a ts

-- The terms come to at least the bound.
pub record Satisfies (a : Assignment) (s : Sum) : Type 0 where
  pub reaches : s.bound ≤ value a s.terms

-- One of the literals of a clause is true.
abbrev pub SatisfiesClause : Assignment → List ℕ → Type 0
SatisfiesClause a ls = (l : ℕ) × Memᴰ l ls × True a l
