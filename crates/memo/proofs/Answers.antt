-- Service worked out: numbers that need the second before them and 0, from nothing, with some there already, and two of one rank together.
use mathlib.Core.Path.{◌≡◌, refl}
use mathlib.Core.List.{List, [], ◌∷◌, ◌++◌}
use Prim.Native.Nat.{ℕ, zero, suc, ◌/◌}
use native.Mathlib.Decide.{ℕ_discrete}
use Rattle.memo.specs.Visit.{ask, batch}

unfoldable pub needs : ℕ → List ℕ
needs zero = []
needs (suc zero) = []
needs (suc (suc n)) = n ∷ 0 ∷ []

unfoldable pub emit : ℕ → List ℕ → List ℕ
emit x v = v ++ (x ∷ [])

abbrev rank : ℕ → ℕ
rank n = n / 2

pub from_nothing : ask ℕ_discrete needs rank (λ v. v) emit 4 [] ≡ 0 ∷ 2 ∷ 4 ∷ []
unfolding ask needs emit ℕ_discrete
from_nothing = refl

pub some_there : ask ℕ_discrete needs rank (λ v. v) emit 5 (3 ∷ []) ≡ 3 ∷ 0 ∷ 5 ∷ []
unfolding ask needs emit ℕ_discrete
some_there = refl

pub itself_there : ask ℕ_discrete needs rank (λ v. v) emit 5 (5 ∷ []) ≡ 5 ∷ []
unfolding ask needs emit ℕ_discrete
itself_there = refl

pub together : batch ℕ_discrete needs rank (λ v. v) emit (4 ∷ 5 ∷ []) (2 ∷ []) ≡ 2 ∷ 0 ∷ 1 ∷ 3 ∷ 4 ∷ 5 ∷ []
unfolding batch needs emit ℕ_discrete
together = refl
