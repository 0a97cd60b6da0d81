-- A log in groups, closed. The record of a close is settled by what stands before it.
use mathlib.Core.Path.{◌≡◌, refl, sym, ◌∙◌, ap, subst}
use mathlib.Core.Logic.{⊎_elim}
use mathlib.Core.List.Memᴰ
use mathlib.Core.List.{List, [], ◌∷◌, ◌++◌, Memᴰ}
use Prim.Native.Nat.{ℕ, ◌<◌}
use native.Mathlib.Omega.{arith}
use Rattle.record.specs.Record.{Record, deletion}
use Rattle.record.specs.Written.{Defines, Ascending, Closed}
use Rattle.record.proofs.Groups.{Grouped, grouped_deletions, grouped_ascending, grouped_from, grouped_has}

pub grouped_closed : (first : ℕ) (rs : List Record) (ss : List ℕ) → Grouped first rs ss [] → Closed first (rs ++ (deletion ss ∷ []))
grouped_closed first rs ss g = record {
  before = rs;
  listed = ss;
  last = refl;
  only = grouped_deletions g;
  ascending = grouped_ascending g;
  listed_are = λ n. (grouped_from g n, grouped_has g n);
}

-- ---- ascending lists with the same members

ascending_tail : (n : ℕ) (ns : List ℕ) → Ascending (n ∷ ns) → Ascending ns
unfolding Ascending
ascending_tail n [] a = tt
ascending_tail n (m ∷ ns) a = a.1

ascending_low : (n : ℕ) (ns : List ℕ) → Ascending (n ∷ ns) → (m : ℕ) → Memᴰ m ns → n < m
unfolding Ascending
ascending_low n [] a m i = absurd (Memᴰ.not-nil i)
ascending_low n (k ∷ ns) a m i = ⊎_elim (λ e. omega (arith, a.0)) (λ j. omega (arith, a.0, ascending_low k ns a.1 m j)) (Memᴰ.cases_cons i)

abbrev Subset : List ℕ → List ℕ → Type 0
Subset ns ms = (n : ℕ) → Memᴰ n ns → Memᴰ n ms

-- The tails, where the heads are one.
within_tail : (n : ℕ) (ns ms : List ℕ) → Ascending (n ∷ ns) → Subset (n ∷ ns) (n ∷ ms) → Subset ns ms
within_tail n ns ms a w k i =
    ⊎_elim (λ e. absurd (omega (arith, ascending_low n ns a k i))) (λ j. j) (Memᴰ.cases_cons (w k (Memᴰ.tail i)))

pub ascending_same : (ns ms : List ℕ) → Ascending ns → Ascending ms → Subset ns ms → Subset ms ns → ns ≡ ms
ascending_same [] [] a b u w = refl
ascending_same [] (m ∷ ms) a b u w = absurd (Memᴰ.not-nil (w m (Memᴰ.head refl)))
ascending_same (n ∷ ns) [] a b u w = absurd (Memᴰ.not-nil (u n (Memᴰ.head refl)))
ascending_same (n ∷ ns) (m ∷ ms) a b u w =
    let e : n ≡ m =
    ⊎_elim (λ p. p) (λ i. ⊎_elim (λ p. sym p) (λ j. absurd (omega (arith, ascending_low m ms b n i, ascending_low n ns a m j)))
    (Memᴰ.cases_cons (w m (Memᴰ.head refl)))) (Memᴰ.cases_cons (u n (Memᴰ.head refl))) in
    let b' : Ascending (n ∷ ms) = subst (λ (k : ℕ). Ascending (k ∷ ms)) (sym e) b in
    let u' : Subset (n ∷ ns) (n ∷ ms) = subst (λ (k : ℕ). Subset (n ∷ ns) (k ∷ ms)) (sym e) u in
    let w' : Subset (n ∷ ms) (n ∷ ns) = subst (λ (k : ℕ). Subset (k ∷ ms) (n ∷ ns)) (sym e) w in
    ap {B = List ℕ} (λ (k : ℕ). k ∷ ns) e
    ∙ ap {B = List ℕ} (λ (l : List ℕ). m ∷ l)
    (ascending_same ns ms (ascending_tail n ns a) (ascending_tail m ms b) (within_tail n ns ms a u') (within_tail n ms ns b' w'))

-- ---- a closed log

snoc_same : (xs ys : List Record) (x y : Record) → xs ++ (x ∷ []) ≡ ys ++ (y ∷ []) → (xs ≡ ys) × (x ≡ y)
snoc_same [] [] x y e = (refl, cc)
snoc_same [] (b ∷ []) x y e = absurd (let z : ◌≡◌ {A = ℕ} 0 1 = cc in omega arith)
snoc_same [] (b ∷ c ∷ ys) x y e = absurd (let z : ◌≡◌ {A = ℕ} 0 1 = cc in omega arith)
snoc_same (a ∷ []) [] x y e = absurd (let z : ◌≡◌ {A = ℕ} 0 1 = cc in omega arith)
snoc_same (a ∷ c ∷ xs) [] x y e = absurd (let z : ◌≡◌ {A = ℕ} 0 1 = cc in omega arith)
snoc_same (a ∷ xs) (b ∷ ys) x y e =
    let f : xs ++ (x ∷ []) ≡ ys ++ (y ∷ []) = cc in
    let g : a ≡ b = cc in
    let k = snoc_same xs ys x y f in
    (ap {B = List Record} (λ (r : Record). r ∷ xs) g ∙ ap {B = List Record} (λ (l : List Record). b ∷ l) k.0, k.1)

pub closed_same : (first : ℕ) (rs : List Record) (ss us : List ℕ) → Closed first (rs ++ (deletion ss ∷ [])) → Closed first (rs ++ (deletion us ∷ []))
    → ss ≡ us
closed_same first rs ss us c d =
    let p = snoc_same rs c.before (deletion ss) (deletion c.listed) c.last in
    let q = snoc_same rs d.before (deletion us) (deletion d.listed) d.last in
    let one : ss ≡ c.listed = let e = p.1 in cc in
    let two : us ≡ d.listed = let e = q.1 in cc in
    let same : c.before ≡ d.before = sym p.0 ∙ q.0 in
    one
    ∙ ascending_same c.listed d.listed c.ascending d.ascending
    (λ n i. (d.listed_are n).1 (subst (λ (l : List Record). Defines first l n) same ((c.listed_are n).0 i)))
    (λ n i. (c.listed_are n).1 (subst (λ (l : List Record). Defines first l n) (sym same) ((d.listed_are n).0 i)))
    ∙ sym two
