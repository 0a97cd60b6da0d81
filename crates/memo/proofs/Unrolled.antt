-- `ask` without its bound on the depth: one item after its needs. The equations that a program is held to.
use mathlib.Core.Path.{◌≡◌, refl, ap}
use mathlib.Core.Logic.{dite}
use mathlib.Core.List.{List, [], ◌∷◌, ◌++◌, Memᴰ}
use Prim.Native.Nat.{ℕ, zero, suc, ◌<◌}
use native.Mathlib.Omega.{arith}
use Rattle.memo.specs.Visit.{each, visit, dec_memᴰ, ask}
use Rattle.memo.proofs.Serve.{Falls}

module _ {A S : Type 0} where
  pub each_append : (f : A → S → S) (xs ys : List A) (s : S) → each f (xs ++ ys) s ≡ each f ys (each f xs s)
  unfolding each
  each_append f [] ys s = refl
  each_append f (x ∷ xs) ys s = each_append f xs ys (f x s)

  pub each_same : {f g : A → S → S} (xs : List A) → ((x : A) → Memᴰ x xs → (s : S) → f x s ≡ g x s) → (s : S) → each f xs s ≡ each g xs s
  unfolding each
  each_same [] h s = refl
  each_same {f} {g} (x ∷ xs) h s = rw (h x (Memᴰ.head refl) s) (each_same xs (λ y m. h y (Memᴰ.tail m)) (g x s))

  pub each_all : {f : A → S → S} (R : S → Type 0) (xs : List A) → ((x : A) (s : S) → R s → R (f x s)) → (s : S) → R s → R (each f xs s)
  unfolding each
  each_all R [] h s r = r
  each_all {f} R (x ∷ xs) h s r = each_all R xs h (f x s) (h x s r)

-- What every `emit` keeps, every run keeps.
module _ {Item S : Type 0} (dec : (x y : Item) → Dec (x ≡ y)) (needs : Item → List Item) (rank : Item → ℕ) (view : S → List Item)
    (emit : Item → S → S) (R : S → Type 0) (keep : (x : Item) (s : S) → R s → R (emit x s)) where
  visit_all : (n : ℕ) (x : Item) (s : S) → R s → R (visit dec needs view emit n x s)
  unfolding visit
  visit_all zero x s r = r
  visit_all (suc n) x s r = step (dec_memᴰ dec x (view s)) (each_all R (needs x) (visit_all n) s r)
    where
      step : (d : Dec (Memᴰ x (view s))) → R (each (visit dec needs view emit n) (needs x) s)
          → R (dite d (λ _. s) (λ _. emit x (each (visit dec needs view emit n) (needs x) s)))
      step (yes m) q = r
      step (no k) q = keep x (each (visit dec needs view emit n) (needs x) s) q

  pub ask_all : (x : Item) (s : S) → R s → R (ask dec needs rank view emit x s)
  unfolding ask
  ask_all x s r = visit_all (suc (rank x)) x s r

module _ {Item S : Type 0} (dec : (x y : Item) → Dec (x ≡ y)) {needs : Item → List Item} {Good : Item → Type 0} {rank : Item → ℕ}
    (law : Falls needs Good rank) (view : S → List Item) (emit : Item → S → S) where
  -- Any bound above the rank will do.
  visit_bound : (n m : ℕ) (x : Item) → Good x → rank x < n → rank x < m → (s : S) → visit dec needs view emit n x s ≡ visit dec needs view emit m x s
  unfolding visit
  visit_bound zero m x g l k s = absurd (omega arith)
  visit_bound (suc n) zero x g l k s = absurd (omega arith)
  visit_bound (suc n) (suc m) x g l k s =
      ap {B = S} (λ (t : S). dite (dec_memᴰ dec x (view s)) (λ _. s) (λ _. emit x t))
      (each_same (needs x)
      (λ y i u. visit_bound n m y (law.good x y g i) (omega (arith, law.lower x y g i)) (omega (arith, law.lower x y g i)) u) s)

  ask_unrolled : (x : Item) → Good x → (s : S)
      → ask dec needs rank view emit x s ≡ dite (dec_memᴰ dec x (view s)) (λ _. s) (λ _. emit x (each (ask dec needs rank view emit) (needs x) s))
  unfolding ask visit
  ask_unrolled x g s =
      ap {B = S} (λ (t : S). dite (dec_memᴰ dec x (view s)) (λ _. s) (λ _. emit x t))
      (each_same (needs x) (λ y i u. visit_bound (rank x) (suc (rank y)) y (law.good x y g i) (law.lower x y g i) (omega arith) u) s)

  pub ask_there : (x : Item) → Good x → (s : S) → Memᴰ x (view s) → ask dec needs rank view emit x s ≡ s
  ask_there x g s m = rw (ask_unrolled x g s) (by (dec_memᴰ dec x (view s)))
    where
      by : (d : Dec (Memᴰ x (view s))) → dite d (λ _. s) (λ _. emit x (each (ask dec needs rank view emit) (needs x) s)) ≡ s
      by (yes i) = refl
      by (no k) = absurd (k m)

  pub ask_new : (x : Item) → Good x → (s : S) → ¬ Memᴰ x (view s)
      → ask dec needs rank view emit x s ≡ emit x (each (ask dec needs rank view emit) (needs x) s)
  ask_new x g s n = rw (ask_unrolled x g s) (by (dec_memᴰ dec x (view s)))
    where
      by : (d : Dec (Memᴰ x (view s)))
          → dite d (λ _. s) (λ _. emit x (each (ask dec needs rank view emit) (needs x) s)) ≡ emit x (each (ask dec needs rank view emit) (needs x) s)
      by (yes i) = absurd (n i)
      by (no k) = refl
