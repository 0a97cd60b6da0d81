-- The numbers of tokens.
use mathlib.Core.Path.{◌≡◌, refl, ap}
use mathlib.Core.List.{List, [], ◌∷◌, ◌++◌}
use Prim.Native.Nat.{ℕ}
use Rattle.pb.specs.Rules.{Token, step, literal, add, divide, saturate}
use Rattle.record.specs.Record.{token_numbers}

pub tokens_append : (ks js : List Token) → token_numbers (ks ++ js) ≡ token_numbers ks ++ token_numbers js
unfolding token_numbers
tokens_append [] js = refl
tokens_append (step n ∷ ks) js = ap (λ (ns : List ℕ). 0 ∷ n ∷ ns) (tokens_append ks js)
tokens_append (literal l ∷ ks) js = ap (λ (ns : List ℕ). 1 ∷ l ∷ ns) (tokens_append ks js)
tokens_append (add ∷ ks) js = ap (λ (ns : List ℕ). 2 ∷ ns) (tokens_append ks js)
tokens_append (divide d ∷ ks) js = ap (λ (ns : List ℕ). 3 ∷ d ∷ ns) (tokens_append ks js)
tokens_append (saturate ∷ ks) js = ap (λ (ns : List ℕ). 4 ∷ ns) (tokens_append ks js)
