-- The test `before` decides document 02's order, and the sort by it is the one ascending arrangement of clauses each written once.
use mathlib.Core.Path.{◌≡◌, refl, sym, ◌∙◌}
use mathlib.Core.Bool.{Bool, true, false, true≢false, Bool-set}
use mathlib.Core.Logic.{◌≢◌, inl, inr, ⊎_elim, ∥∥₁_elim}
use mathlib.Core.List.Perm
use mathlib.Core.List.Pairwise
use mathlib.Core.List.{List, [], ◌∷◌, ◌++◌, Pairwise, Nodup, Perm}
use Prim.Native.Nat.{ℕ, ◌<◌}
use native.Mathlib.Nat.{eq-or-lt_of_le}
use Rattle.pb.specs.Sum.{variable}
use Rattle.order.specs.Order.{last_from, last_variable, Lower, at_place, is_start, Precedes, Ascending, lower, before, sort_by, Ordered, Total}
use Rattle.order.proofs.Sort.{lower_less, lower_level, lower_le, before_total, sort_perm, sort_ordered, sort_same, ordered_sorted}

last_from_lem : (d : ℕ) (ls : List ℕ) (l : ℕ) → last_from d (ls ++ (l ∷ [])) ≡ variable l
unfolding last_from
last_from_lem d [] l = refl
last_from_lem d (k ∷ ls) l = last_from_lem (variable k) ls l

-- What `last_variable` is named for.
pub last_variable_lem : (ls : List ℕ) (l : ℕ) → last_variable (ls ++ (l ∷ [])) ≡ variable l
last_variable_lem ls l = last_from_lem 0 ls l

-- ---- the test and the order

lower_after : (l : ℕ) {a b : List ℕ} → Lower a b → Lower (l ∷ a) (l ∷ b)
lower_after l (at_place ls x y xs ys p q h) = at_place (l ∷ ls) x y xs ys (rw p) (rw q) h
lower_after l (is_start y ys q) = is_start y ys (rw q)

is_lower : (a b : List ℕ) → lower a b ≡ true → Lower a b
unfolding lower
is_lower a [] h = absurd (true≢false (sym h))
is_lower [] (y ∷ ys) h = is_start y ys refl
is_lower (x ∷ xs) (y ∷ ys) h =
    ⊎_elim (λ e. rw e (lower_after y (is_lower xs ys (sym (lower_level x y xs ys e) ∙ h)))) (at_place [] x y xs ys refl refl)
    (eq-or-lt_of_le (lower_le x y xs ys h))

start_lower : (a : List ℕ) (y : ℕ) (ys : List ℕ) → lower a (a ++ (y ∷ ys)) ≡ true
unfolding lower
start_lower [] y ys = refl
start_lower (x ∷ xs) y ys = lower_level x x xs (xs ++ (y ∷ ys)) refl ∙ start_lower xs y ys

place_lower : (ls : List ℕ) (x y : ℕ) (xs ys : List ℕ) → x < y → lower (ls ++ (x ∷ xs)) (ls ++ (y ∷ ys)) ≡ true
place_lower [] x y xs ys h = lower_less x y xs ys h
place_lower (l ∷ ls) x y xs ys h = lower_level l l (ls ++ (x ∷ xs)) (ls ++ (y ∷ ys)) refl ∙ place_lower ls x y xs ys h

tests_lower : {a b : List ℕ} → Lower a b → lower a b ≡ true
tests_lower (at_place ls x y xs ys p q h) = rw (p, q) (place_lower ls x y xs ys h)
tests_lower {a} (is_start y ys q) = rw q (start_lower a y ys)

pub precedes : (a b : List ℕ) → (before a b ≡ true → Precedes a b) × (Precedes a b → before a b ≡ true)
unfolding before
precedes a b =
    let u = last_variable a in
    let v = last_variable b in (
      λ h. ⊎_elim (λ e. inr (e, is_lower a b (sym (lower_level u v a b e) ∙ h))) inl (eq-or-lt_of_le (lower_le u v a b h)),
      ⊎_elim (lower_less u v a b) (λ k. lower_level u v a b k.0 ∙ tests_lower k.1),
    )

-- ---- ascending lines

-- Of elements each there once, no later one goes before an earlier exactly if every earlier one goes before every later.
module _ {A : Type 0} {lt : A → A → Bool} (w : Total lt) where
  abbrev Strict : List A → Type 0
  Strict xs = Pairwise (λ (x y : A). lt x y ≡ true) xs

  less : (x y : A) → lt y x ≡ false → x ≢ y → lt x y ≡ true
  less x y h n = by (lt x y) refl
    where
      by : (b : Bool) → lt x y ≡ b → b ≡ true
      by true e = refl
      by false e = absurd (n (w.same x y e h))

  strict : (xs : List A) → Nodup xs → Ordered lt xs → Strict xs
  unfolding Ordered
  strict [] d o = Pairwise.nil
  strict (x ∷ xs) (Pairwise.cons n d) o =
      Pairwise.cons (λ y m. ∥∥₁_elim m (Bool-set (lt x y) true) (λ i. less x y (o.0 y i) (n y m))) (strict xs d o.1)

  strict_ordered : (xs : List A) → Strict xs → Ordered lt xs
  unfolding Ordered
  strict_ordered [] Pairwise.nil = tt
  strict_ordered (x ∷ xs) (Pairwise.cons n s) = (λ y i. w.asym x y (n y ∣ i ∣₁), strict_ordered xs s)

module _ (cs : List (List ℕ)) where
  pub sort_ascending : Nodup cs → Ascending (sort_by before cs)
  sort_ascending d =
      Pairwise.imp (λ a b. (precedes a b).0)
      (strict before_total (sort_by before cs) (Perm.nodup (Perm.symm (sort_perm before cs)) d) (sort_ordered before_total cs))

  pub ascending_only : (ls : List (List ℕ)) → Perm ls cs → Ascending ls → ls ≡ sort_by before cs
  ascending_only ls p a =
      sym (ordered_sorted before ls (strict_ordered before_total ls (Pairwise.imp (λ a b. (precedes a b).1) a))) ∙ sort_same before_total p
