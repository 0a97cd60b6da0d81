-- Memoised depth-first traversal in post-order: an item is served once, after what it needs; one that is there already is skipped.
use Rattle.std.specs.Prelude.{◌≡◌}
use Rattle.std.proofs.Common.{⊎_elim}
use Rattle.std.proofs.Math.Logic.{dite}
use mathlib.Core.List.Memᴰ
use mathlib.Core.List.{List, [], ◌∷◌, flat_map, Memᴰ}
use Prim.Native.Nat.{ℕ, zero, suc}

-- `f` for each element in turn, on a state that is handed on.
unfoldable pub each : {A S : Type 0} → (A → S → S) → List A → S → S
each f [] s = s
each f (x ∷ xs) s = each f xs (f x s)

module _ {A : Type 0} (dec : (x y : A) → Dec (x ≡ y)) where
  -- Where an element is in a list, or that it is nowhere.
  unfoldable pub dec_memᴰ : (a : A) (l : List A) → Dec (Memᴰ a l)
  dec_memᴰ a [] = no Memᴰ.not-nil
  dec_memᴰ a (x ∷ xs) = here (dec a x) (dec_memᴰ a xs)
    where
      here : Dec (a ≡ x) → Dec (Memᴰ a xs) → Dec (Memᴰ a (x ∷ xs))
      here (yes e) d = yes (Memᴰ.head e)
      here (no n) (yes m) = yes (Memᴰ.tail m)
      here (no n) (no k) = no (λ h. ⊎_elim n k (Memᴰ.cases_cons h))

  -- The elements of `xs` that are not in `v`.
  unfoldable pub fresh : List A → List A → List A
  fresh v [] = []
  fresh v (x ∷ xs) = dite (dec_memᴰ x v) (λ _. fresh v xs) (λ _. x ∷ fresh v xs)

-- `view` lists the items served so far, `emit` does an item's own work and adds it to them. The first argument bounds the depth.
module _ {Item S : Type 0} (dec : (x y : Item) → Dec (x ≡ y)) (needs : Item → List Item) (view : S → List Item) (emit : Item → S → S) where
  unfoldable pub visit : ℕ → Item → S → S
  unfolding dec_memᴰ each
  visit zero x s = s
  visit (suc n) x s = dite (dec_memᴰ dec x (view s)) (λ _. s) (λ _. emit x (each (visit n) (needs x) s))

-- An item needs items of lower rank alone.
module _ {Item S : Type 0} (dec : (x y : Item) → Dec (x ≡ y)) (needs : Item → List Item) (rank : Item → ℕ) (view : S → List Item)
    (emit : Item → S → S) where
  unfoldable pub ask : Item → S → S
  unfolding visit
  ask x s = visit dec needs view emit (suc (rank x)) x s

  -- Items of one rank: those that are not there are served together, first the needs of all, then each.
  unfoldable pub batch : List Item → S → S
  unfolding fresh each ask flat_map
  batch xs s = let ys = fresh dec (view s) xs in each emit ys (each ask (flat_map needs ys) s)
