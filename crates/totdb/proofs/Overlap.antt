-- Lists with a number in common, by their members.
use mathlib.Core.Path.{◌≡◌, refl, sym, ◌∙◌, ap, subst}
use mathlib.Core.Bool.{Bool, true, false, true≢false, ◌||◌}
use mathlib.Core.List.{List, [], ◌∷◌, Memᴰ}
use Prim.Native.Nat.{ℕ}
use borrow.Author.Tests.{eq-eqb, eqb-true}
use lib.Dec.{eqb}
use Rattle.totdb.specs.Nodes.{any}
use Rattle.totdb.specs.Below.{overlap}

module _ {A : Type 0} (f : A → Bool) where
  pub any_has : (x : A) (xs : List A) → Memᴰ x xs → f x ≡ true → any f xs ≡ true
  unfolding any
  any_has x xs (Memᴰ.head {x = y} {xs = ys} e) p = rw (sym (ap f e) ∙ p)
  any_has x xs (Memᴰ.tail {x = y} {xs = ys} i) p = by (f y) (any_has x ys i p)
    where
      by : (b : Bool) → any f ys ≡ true → (b || any f ys) ≡ true
      by true q = refl
      by false q = q

  any_from : (xs : List A) → any f xs ≡ true → (x : A) × Memᴰ x xs × (f x ≡ true)
  unfolding any
  any_from [] p = absurd (true≢false (sym p))
  any_from (y ∷ ys) p = by (f y) refl p (any_from ys)
    where
      by : (b : Bool) → f y ≡ b → (b || any f ys) ≡ true → (any f ys ≡ true → (x : A) × Memᴰ x ys × (f x ≡ true))
          → (x : A) × Memᴰ x (y ∷ ys) × (f x ≡ true)
      by true e q ih = (y, Memᴰ.head refl, e)
      by false e q ih = let r = ih q in (r.0, Memᴰ.tail r.1, r.2)

module _ (xs ys : List ℕ) where
  pub overlap_has : (x : ℕ) → Memᴰ x xs → Memᴰ x ys → overlap xs ys ≡ true
  unfolding overlap
  overlap_has x i j = any_has (λ (x : ℕ). any (eqb x) ys) x xs i (any_has (eqb x) x ys j (eq-eqb x x refl))

  pub overlap_from : overlap xs ys ≡ true → (x : ℕ) × Memᴰ x xs × Memᴰ x ys
  unfolding overlap
  overlap_from e =
      let p = any_from (λ (x : ℕ). any (eqb x) ys) xs e in
      let q = any_from (eqb p.0) ys p.2 in
      (p.0, p.1, subst (λ (y : ℕ). Memᴰ y ys) (sym (eqb-true p.0 q.0 q.2)) q.1)
