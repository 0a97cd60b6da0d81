-- The rules of cutting planes, and what a derivation comes to: left operand, right operand, operation (reverse Polish notation), in normal
-- form after every token.
use Rattle.std.specs.Prelude.{List, [], ◌∷◌, ◌++◌, ℕ, zero, suc, ◌+◌, ◌-◌, ◌/◌, min}
use Rattle.std.proofs.Math.Option.{Option, none, some, bind}
use Rattle.pb.specs.Sum.{Term, ◌·◌, Sum, ◌≥◌, normal}

-- ---- the rules

-- The literal axiom: l ≥ 0.
unfoldable pub literal_axiom : ℕ → Sum
literal_axiom l = (1 · l ∷ []) ≥ 0

-- Both sums, added up.
unfoldable pub addition : Sum → Sum → Sum
addition s t = (s.terms ++ t.terms) ≥ s.bound + t.bound

unfoldable pub map_coefs : (ℕ → ℕ) → List Term → List Term
map_coefs f [] = []
map_coefs f ((c · m) ∷ ts) = (f c · m) ∷ map_coefs f ts

-- c / d, rounded up
unfoldable pub ceil_div : ℕ → ℕ → ℕ
ceil_div d c = (c + (d - 1)) / d

-- In the normal form every coefficient and the bound are divided, rounded up.
unfoldable pub division : ℕ → Sum → Sum
unfolding normal map_coefs ceil_div
division d s = map_coefs (ceil_div d) (normal s).terms ≥ ceil_div d (normal s).bound

-- In the normal form coefficients are cut to the bound.
unfoldable pub saturation : Sum → Sum
unfolding normal map_coefs
saturation s = map_coefs (λ c. min c (normal s).bound) (normal s).terms ≥ (normal s).bound

-- ---- derivations

pub data Token : Type 0 where
  step : ℕ → Token
  literal : ℕ → Token
  add : Token
  divide : ℕ → Token
  saturate : Token

-- A sum, if there is one, put on the stack in normal form.
unfoldable pub push : Option Sum → List Sum → Option (List Sum)
unfolding normal
push none st = none
push (some s) st = some (normal s ∷ st)

-- What a token makes of the stack, where `sums` gives the sum of each step that there is.
unfoldable pub apply : (ℕ → Option Sum) → Token → List Sum → Option (List Sum)
unfolding push literal_axiom addition division saturation
apply sums (step n) st = push (sums n) st
apply sums (literal l) st = push (some (literal_axiom l)) st
apply sums add [] = none
apply sums add (t ∷ []) = none
apply sums add (t ∷ s ∷ st) = push (some (addition s t)) st
apply sums (divide d) [] = none
apply sums (divide zero) (s ∷ st) = none
apply sums (divide (suc d)) (s ∷ st) = push (some (division (suc d) s)) st
apply sums saturate [] = none
apply sums saturate (s ∷ st) = push (some (saturation s)) st

unfoldable pub run : (ℕ → Option Sum) → List Token → List Sum → Option (List Sum)
unfolding apply bind
run sums [] st = some st
run sums (k ∷ ks) st = bind (apply sums k st) (run sums ks)

-- One sum is left, and no operand besides.
unfoldable pub single : Option (List Sum) → Option Sum
single none = none
single (some []) = none
single (some (s ∷ [])) = some s
single (some (s ∷ t ∷ st)) = none

-- What a derivation comes to.
unfoldable pub evaluate : (ℕ → Option Sum) → List Token → Option Sum
unfolding run single
evaluate sums ks = single (run sums ks [])
