-- What a normal form is, apart from the way to it: a term for each variable, ascending, its coefficient positive.
use Rattle.std.specs.Prelude.{List, [], ◌∷◌, ℕ, suc, ◌≤◌, ◌<◌}
use Rattle.pb.specs.Sum.{variable, Term, ◌·◌, Sum}

-- The same, where no variable is below x.
abbrev pub NormalFrom : ℕ → List Term → Type 0
NormalFrom x [] = Unit {0}
NormalFrom x ((c · l) ∷ ts) = (x ≤ variable l) × (0 < c) × NormalFrom (suc (variable l)) ts

abbrev pub Normal : Sum → Type 0
Normal s = NormalFrom 0 s.terms
