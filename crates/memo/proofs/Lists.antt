-- Facts about lists that the library lacks: decided membership as data, duplicates and permutations under flat_map, and lengths.
use mathlib.Core.Path.{◌≡◌, refl, sym, ◌∙◌, ap, subst}
use mathlib.Core.HLevel.{⊥_prop}
use mathlib.Core.Logic.{◌⊎◌, inl, inr, ⊎_elim, dite, ∥∥₁_elim, ∥∥₁_map}
use mathlib.Core.List.Memᴰ
use mathlib.Core.List.Permᴰ
use mathlib.Core.List.Nodup
use mathlib.Core.List.{List, [], ◌∷◌, ◌++◌, map, flat_map, append_assoc, Mem, Memᴰ, Permᴰ, Perm, Nodup, Nodup-nil, Nodup-cons, Nodup-append, perm_ext_iff_of_Nodup, Sublistᴰ}
use Prim.Native.Nat.{suc, ◌≤◌}
use native.Mathlib.Bridge.{le_prop}
use native.Mathlib.Nat.{ℕ_set}
use native.Mathlib.Omega.{arith}
use lib.ListN.{length}
use Rattle.memo.specs.Closure.{SameMembers}
use Rattle.memo.specs.Visit.{fresh, dec_memᴰ}

module _ {A : Type 0} where
  pub not_mem : {a : A} {l : List A} → ¬ Memᴰ a l → ¬ Mem a l
  not_mem n m = ∥∥₁_elim m ⊥_prop n

  pub fresh_sub : (dec : (x y : A) → Dec (x ≡ y)) (v xs : List A) (a : A) → Memᴰ a (fresh dec v xs) → Memᴰ a xs
  unfolding fresh
  fresh_sub dec v [] a m = m
  fresh_sub dec v (x ∷ xs) a m = step (dec_memᴰ dec x v) (fresh_sub dec v xs a) m
    where
      step : (d : Dec (Memᴰ x v)) → (Memᴰ a (fresh dec v xs) → Memᴰ a xs)
          → Memᴰ a (dite d (λ _. fresh dec v xs) (λ _. x ∷ fresh dec v xs)) → Memᴰ a (x ∷ xs)
      step (yes i) r h = Memᴰ.tail (r h)
      step (no n) r h = ⊎_elim Memᴰ.head (λ i. Memᴰ.tail (r i)) (Memᴰ.cases_cons h)

  pub fresh_not : (dec : (x y : A) → Dec (x ≡ y)) (v xs : List A) (a : A) → Memᴰ a (fresh dec v xs) → ¬ Memᴰ a v
  unfolding fresh
  fresh_not dec v [] a m = absurd (Memᴰ.not-nil m)
  fresh_not dec v (x ∷ xs) a m = step (dec_memᴰ dec x v) (fresh_not dec v xs a) m
    where
      step : (d : Dec (Memᴰ x v)) → (Memᴰ a (fresh dec v xs) → ¬ Memᴰ a v)
          → Memᴰ a (dite d (λ _. fresh dec v xs) (λ _. x ∷ fresh dec v xs)) → ¬ Memᴰ a v
      step (yes i) r h = r h
      step (no n) r h = ⊎_elim (λ e i. n (Memᴰ.cast (sym e) i)) r (Memᴰ.cases_cons h)

  pub fresh_or : (dec : (x y : A) → Dec (x ≡ y)) (v xs : List A) (a : A) → Memᴰ a xs → Memᴰ a v ⊎ Memᴰ a (fresh dec v xs)
  unfolding fresh
  fresh_or dec v [] a m = absurd (Memᴰ.not-nil m)
  fresh_or dec v (x ∷ xs) a m = step (dec_memᴰ dec x v) (fresh_or dec v xs a) (Memᴰ.cases_cons m)
    where
      step : (d : Dec (Memᴰ x v)) → (Memᴰ a xs → Memᴰ a v ⊎ Memᴰ a (fresh dec v xs)) → (a ≡ x) ⊎ Memᴰ a xs
          → Memᴰ a v ⊎ Memᴰ a (dite d (λ _. fresh dec v xs) (λ _. x ∷ fresh dec v xs))
      step (yes i) r (inl e) = inl (Memᴰ.cast e i)
      step (yes i) r (inr h) = r h
      step (no n) r (inl e) = inr (Memᴰ.head e)
      step (no n) r (inr h) = ⊎_elim inl (λ i. inr (Memᴰ.tail i)) (r h)

  pub fresh_nodup : (dec : (x y : A) → Dec (x ≡ y)) (v xs : List A) → Nodup xs → Nodup (fresh dec v xs)
  unfolding fresh
  fresh_nodup dec v [] d = d
  fresh_nodup dec v (x ∷ xs) d = step (dec_memᴰ dec x v) (fresh_nodup dec v xs (Nodup-cons.0 d).1)
    where
      step : (e : Dec (Memᴰ x v)) → Nodup (fresh dec v xs) → Nodup (dite e (λ _. fresh dec v xs) (λ _. x ∷ fresh dec v xs))
      step (yes i) r = r
      step (no n) r = Nodup-cons.1 (not_mem (λ h. (Nodup-cons.0 d).0 ∣ fresh_sub dec v xs x h ∣₁), r)

  -- Two lists without duplicates that have the same members are permutations of one another.
  pub perm_of_same : {xs ys : List A} → Nodup xs → Nodup ys → SameMembers xs ys → Perm xs ys
  perm_of_same dx dy h = (perm_ext_iff_of_Nodup dx dy).1 (λ a. (λ m. ∥∥₁_map m (h a).0, λ m. ∥∥₁_map m (h a).1))

  pub length_permᴰ : {xs ys : List A} → Permᴰ xs ys → length xs ≡ length ys
  length_permᴰ Permᴰ.nil = refl
  length_permᴰ (Permᴰ.cons e d) = ap suc (length_permᴰ d)
  length_permᴰ (Permᴰ.swap e₁ e₂) = refl
  length_permᴰ (Permᴰ.trans d₁ d₂) = length_permᴰ d₁ ∙ length_permᴰ d₂

  pub length_perm : {xs ys : List A} → Perm xs ys → length xs ≡ length ys
  length_perm {xs} {ys} p = ∥∥₁_elim p (ℕ_set (length xs) (length ys)) length_permᴰ

  length_sublistᴰ : {xs ys : List A} → Sublistᴰ xs ys → length xs ≤ length ys
  length_sublistᴰ Sublistᴰ.slnil = omega arith
  length_sublistᴰ (Sublistᴰ.cons s) = omega (arith, length_sublistᴰ s)
  length_sublistᴰ (Sublistᴰ.cons-cons e s) = omega (arith, length_sublistᴰ s)

  -- A list without duplicates is no longer than one that has all its members.
  pub length_subset : {xs ys : List A} → Nodup xs → ((a : A) → Memᴰ a xs → Memᴰ a ys) → length xs ≤ length ys
  length_subset {xs} {ys} d h =
      ∥∥₁_elim (Nodup.subperm d (λ a m. ∥∥₁_map m (h a))) le_prop
      (λ w. ∥∥₁_elim w.2 le_prop (λ s. omega (arith, length_perm w.1, length_sublistᴰ s)))

  -- What holds of three holds of each.
  pub of_three : (P : A → Type 0) {a b c : A} → P a → P b → P c → (x : A) → Memᴰ x (a ∷ b ∷ c ∷ []) → P x
  of_three P p q r x m =
      ⊎_elim (λ e. subst P (sym e) p) (λ i. ⊎_elim (λ e. subst P (sym e) q) (λ j. subst P (sym (Memᴰ.eq_of_singleton j)) r) (Memᴰ.cases_cons i))
      (Memᴰ.cases_cons m)

module _ {A B : Type 0} where
  pub mem_flat_map : (f : A → List B) {a : A} {b : B} {l : List A} → Memᴰ a l → Memᴰ b (f a) → Memᴰ b (flat_map f l)
  unfolding flat_map
  mem_flat_map f {b = b} (Memᴰ.head {xs = xs} e) m = Memᴰ.append_left (flat_map f xs) (subst (λ (c : A). Memᴰ b (f c)) e m)
  mem_flat_map f (Memᴰ.tail {x = x} h) m = Memᴰ.append_right (f x) (mem_flat_map f h m)

  pub of_flat_map : (f : A → List B) {b : B} (l : List A) → Memᴰ b (flat_map f l) → (a : A) × Memᴰ a l × Memᴰ b (f a)
  unfolding flat_map
  of_flat_map f [] m = absurd (Memᴰ.not-nil m)
  of_flat_map f {b} (x ∷ xs) m = step (of_flat_map f xs) (Memᴰ.append_cases (f x) m)
    where
      step : (Memᴰ b (flat_map f xs) → (a : A) × Memᴰ a xs × Memᴰ b (f a)) → Memᴰ b (f x) ⊎ Memᴰ b (flat_map f xs) → (a : A)
          × Memᴰ a (x ∷ xs) × Memᴰ b (f a)
      step r (inl h) = (x, Memᴰ.head refl, h)
      step r (inr h) = let k = r h in (k.0, Memᴰ.tail k.1, k.2)

  pub map_agree : {f g : A → B} (l : List A) → ((a : A) → Memᴰ a l → f a ≡ g a) → map f l ≡ map g l
  map_agree [] h = refl
  map_agree {f} {g} (x ∷ xs) h = rw (h x (Memᴰ.head refl), map_agree xs (λ a m. h a (Memᴰ.tail m)))

  pub nodup_map : (f : A → B) (l : List A) → Nodup l → ((a b : A) → Memᴰ a l → Memᴰ b l → f a ≡ f b → a ≡ b) → Nodup (map f l)
  nodup_map f [] d inj = Nodup-nil
  nodup_map f (x ∷ xs) d inj =
      Nodup-cons.1 (
        not_mem (λ m. let k = Memᴰ.of_map f xs m in
            (Nodup-cons.0 d).0 ∣ Memᴰ.cast (sym (inj k.0 x (Memᴰ.tail k.1) (Memᴰ.head refl) k.2)) k.1 ∣₁),
        nodup_map f xs (Nodup-cons.0 d).1 (λ a b i j. inj a b (Memᴰ.tail i) (Memᴰ.tail j)),
      )

  pub flat_map_agree : {f g : A → List B} (l : List A) → ((a : A) → Memᴰ a l → f a ≡ g a) → flat_map f l ≡ flat_map g l
  unfolding flat_map
  flat_map_agree [] h = refl
  flat_map_agree {f} {g} (x ∷ xs) h = rw (h x (Memᴰ.head refl), flat_map_agree xs (λ a m. h a (Memᴰ.tail m)))

  pub flat_map_append : (f : A → List B) (xs ys : List A) → flat_map f (xs ++ ys) ≡ flat_map f xs ++ flat_map f ys
  unfolding flat_map
  flat_map_append f [] ys = refl
  flat_map_append f (x ∷ xs) ys = rw (flat_map_append f xs ys) (sym (append_assoc (f x) (flat_map f xs) (flat_map f ys)))

  pub same_flat_map : (f : A → List B) {xs ys : List A} → SameMembers xs ys → SameMembers (flat_map f xs) (flat_map f ys)
  same_flat_map f {xs} {ys} s b = (
    λ m. let k = of_flat_map f xs m in mem_flat_map f ((s k.0).0 k.1) k.2,
    λ m. let k = of_flat_map f ys m in mem_flat_map f ((s k.0).1 k.1) k.2,
  )

  -- No duplicates inside a group and none across two groups: none in all of them.
  pub nodup_flat_map : (f : A → List B) (l : List A) → Nodup l → ((a : A) → Memᴰ a l → Nodup (f a))
      → ((a b : A) (c : B) → Memᴰ a l → Memᴰ b l → Memᴰ c (f a) → Memᴰ c (f b) → a ≡ b) → Nodup (flat_map f l)
  unfolding flat_map
  nodup_flat_map f [] d inner apart = Nodup-nil
  nodup_flat_map f (x ∷ xs) d inner apart =
      (Nodup-append {l₁ = f x} {l₂ = flat_map f xs}).1 (
        inner x (Memᴰ.head refl),
        nodup_flat_map f xs (Nodup-cons.0 d).1 (λ a m. inner a (Memᴰ.tail m)) (λ a b c i j. apart a b c (Memᴰ.tail i) (Memᴰ.tail j)),
        λ c m₁ m₂. ∥∥₁_elim m₁ ⊥_prop
            (λ h₁. ∥∥₁_elim m₂ ⊥_prop
            (λ h₂. let k = of_flat_map f xs h₂ in
            (Nodup-cons.0 d).0 ∣ Memᴰ.cast (apart x k.0 c (Memᴰ.head refl) (Memᴰ.tail k.1) h₁ k.2) k.1 ∣₁)),
      )

  pub flat_map_permᴰ : (f : A → List B) {xs ys : List A} → Permᴰ xs ys → Permᴰ (flat_map f xs) (flat_map f ys)
  unfolding flat_map
  flat_map_permᴰ f Permᴰ.nil = Permᴰ.nil
  flat_map_permᴰ f (Permᴰ.cons {a = a} {b = b} {l₁ = l₁} {l₂ = l₂} e d) =
      subst (λ (c : A). Permᴰ (f a ++ flat_map f l₁) (f c ++ flat_map f l₂)) e (Permᴰ.append_left (f a) (flat_map_permᴰ f d))
  flat_map_permᴰ f (Permᴰ.swap {a = a} {b = b} {a' = a'} {b' = b'} {l = l} e₁ e₂) =
      subst (λ (c : A). Permᴰ (f a ++ (f b ++ flat_map f l)) (f a' ++ (f c ++ flat_map f l))) e₁
      (subst (λ (c : A). Permᴰ (f a ++ (f b ++ flat_map f l)) (f c ++ (f a ++ flat_map f l))) e₂
      (rw (← append_assoc (f a) (f b) (flat_map f l), ← append_assoc (f b) (f a) (flat_map f l))
      (Permᴰ.append_right (flat_map f l) (Permᴰ.append_comm (f a) (f b)))))
  flat_map_permᴰ f (Permᴰ.trans d₁ d₂) = Permᴰ.trans (flat_map_permᴰ f d₁) (flat_map_permᴰ f d₂)

  pub flat_map_perm : (f : A → List B) {xs ys : List A} → Perm xs ys → Perm (flat_map f xs) (flat_map f ys)
  flat_map_perm f p = ∥∥₁_map p (flat_map_permᴰ f)

module _ {A B C : Type 0} where
  pub map_twice : (f : A → B) (g : B → C) (l : List A) → map g (map f l) ≡ map (λ (a : A). g (f a)) l
  map_twice f g [] = refl
  map_twice f g (x ∷ xs) = ap {B = List C} (λ (r : List C). g (f x) ∷ r) (map_twice f g xs)

  pub flat_map_map : (f : A → B) (g : B → List C) (l : List A) → flat_map g (map f l) ≡ flat_map (λ (a : A). g (f a)) l
  unfolding flat_map
  flat_map_map f g [] = refl
  flat_map_map f g (x ∷ xs) = rw (flat_map_map f g xs)
