-- Worked cases of the directions held of a value.
use mathlib.Core.Path.{◌≡◌, refl}
use mathlib.Core.List.{List, [], ◌∷◌, map}
use Prim.Native.Nat.{ℕ}
use Rattle.cert.specs.Definitions.{if, only_if}
use Rattle.cert.specs.Requests.{Request, request}
use Rattle.define.specs.Store.{held_of}

-- None, if, only-if, both; those of another value do not count.
pub held : map {B = ℕ} (λ (h : List Request). held_of h 0 1)
    ([] ∷ (request 0 1 if ∷ []) ∷ (request 0 1 only_if ∷ []) ∷ (request 0 1 only_if ∷ request 0 1 if ∷ []) ∷ (request 0 2 if ∷ request 1 1 if ∷ []) ∷ [])
    ≡ 0 ∷ 1 ∷ 2 ∷ 3 ∷ 0 ∷ []
unfolding held_of
held = refl
