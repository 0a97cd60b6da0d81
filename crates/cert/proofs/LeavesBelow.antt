-- The leaves below a node: the laws of the fold, and what question 9 says of two nodes.
use mathlib.Core.Path.{◌≡◌, refl, sym, ◌∙◌, ap, subst}
use mathlib.Core.Bool.{true, false, true≢false}
use mathlib.Core.Logic.{◌≢◌, ⊎_elim}
use mathlib.Core.List.Memᴰ
use mathlib.Core.List.{List, [], ◌∷◌, ◌++◌, Memᴰ}
use Prim.Native.Nat.{ℕ, zero, suc, ◌+◌, ◌<◌}
use native.Mathlib.Omega.{arith}
use lib.ListN.{length, get_or, take, length-append, get_or-append}
use lib.Seq.{get_or-append_seam}
use Rattle.totdb.specs.Nodes.{Node, leaf, join, node_at, leaf_count}
use Rattle.totdb.specs.Below.{below_from, leaves_below, share_leaf}
use Rattle.totdb.proofs.Overlap.{overlap_has}
use Rattle.totdb.specs.declared.Side.{Side}
use Rattle.cert.specs.Sized.{Separate}
use Rattle.cert.proofs.Rules.{Ok, Below}

-- ---- the fold

length_one : (bs : List (List ℕ)) (b : List ℕ) → length (bs ++ (b ∷ [])) ≡ length bs + 1
length_one bs b = length-append bs (b ∷ [])

-- What is made stays.
kept : (k : ℕ) (bs : List (List ℕ)) (t : List Node) (n : ℕ) → n < length bs → get_or (below_from k bs t) n [] ≡ get_or bs n []
unfolding below_from
kept k bs [] n h = refl
kept k bs (leaf l ∷ t) n h =
    let b : List ℕ = k ∷ [] in
    kept (suc k) (bs ++ (b ∷ [])) t n (omega (arith, length_one bs b)) ∙ get_or-append bs (b ∷ []) [] n h
kept k bs (join ls o l r ∷ t) n h =
    let b : List ℕ = get_or bs l.node [] ++ get_or bs r.node [] in
    kept k (bs ++ (b ∷ [])) t n (omega (arith, length_one bs b)) ∙ get_or-append bs (b ∷ []) [] n h

-- The one made next.
made_next : (k : ℕ) (bs : List (List ℕ)) (b : List ℕ) (t : List Node) → get_or (below_from k (bs ++ (b ∷ [])) t) (length bs) [] ≡ b
made_next k bs b t = kept k (bs ++ (b ∷ [])) t (length bs) (omega (arith, length_one bs b)) ∙ get_or-append_seam bs b [] []

kept_more : (k : ℕ) (bs : List (List ℕ)) (t u : List Node) (n : ℕ) → n < length bs + length t
    → get_or (below_from k bs (t ++ u)) n [] ≡ get_or (below_from k bs t) n []
unfolding below_from
kept_more k bs [] u n h = kept k bs u n (omega arith)
kept_more k bs (leaf l ∷ t) u n h =
    let b : List ℕ = k ∷ [] in
    kept_more (suc k) (bs ++ (b ∷ [])) t u n (omega (arith, length_one bs b))
kept_more k bs (join ls o l r ∷ t) u n h =
    let b : List ℕ = get_or bs l.node [] ++ get_or bs r.node [] in
    kept_more k (bs ++ (b ∷ [])) t u n (omega (arith, length_one bs b))

pub leaf_join : {a : ℕ} {m : List ℕ} {o : ℕ} {l r : Side} → leaf a ≡ join m o l r → ⊥
leaf_join p = let z : ◌≡◌ {A = ℕ} 0 1 = cc in omega arith

leaf_made : (k : ℕ) (bs : List (List ℕ)) (t : List Node) (i l : ℕ) → i < length t → node_at t i ≡ leaf l
    → get_or (below_from k bs t) (length bs + i) [] ≡ (k + leaf_count (take i t)) ∷ []
unfolding below_from leaf_count node_at
leaf_made k bs [] i l h e = absurd (omega arith)
leaf_made k bs (leaf m ∷ t) zero l h e =
    let b : List ℕ = k ∷ [] in
    let z : length bs + 0 ≡ length bs = omega arith in
    let y : k + 0 ≡ k = omega arith in
    rw (z, y) (made_next (suc k) bs b t)
leaf_made k bs (leaf m ∷ t) (suc i) l h e =
    let b : List ℕ = k ∷ [] in
    let z : length (bs ++ (b ∷ [])) + i ≡ length bs + suc i = omega (arith, length_one bs b) in
    let y : suc k + leaf_count (take i t) ≡ k + suc (leaf_count (take i t)) = omega arith in
    rw (← z, ← y) (leaf_made (suc k) (bs ++ (b ∷ [])) t i l (omega arith) e)
leaf_made k bs (join ls o a c ∷ t) zero l h e = absurd (leaf_join (sym e))
leaf_made k bs (join ls o a c ∷ t) (suc i) l h e =
    let b : List ℕ = get_or bs a.node [] ++ get_or bs c.node [] in
    let z : length (bs ++ (b ∷ [])) + i ≡ length bs + suc i = omega (arith, length_one bs b) in
    rw (← z) (leaf_made k (bs ++ (b ∷ [])) t i l (omega arith) e)

join_made : (k : ℕ) (bs : List (List ℕ)) (t : List Node) (i : ℕ) (ls : List ℕ) (o : ℕ) (l r : Side) → i < length t → node_at t i ≡ join ls o l r
    → l.node < length bs + i → r.node < length bs + i
    → get_or (below_from k bs t) (length bs + i) [] ≡ get_or (below_from k bs t) l.node [] ++ get_or (below_from k bs t) r.node []
unfolding below_from node_at
join_made k bs [] i ls o l r h e a c = absurd (omega arith)
join_made k bs (leaf m ∷ t) zero ls o l r h e a c = absurd (leaf_join e)
join_made k bs (leaf m ∷ t) (suc i) ls o l r h e a c =
    let b : List ℕ = k ∷ [] in
    let z : length (bs ++ (b ∷ [])) + i ≡ length bs + suc i = omega (arith, length_one bs b) in
    rw (← z) (join_made (suc k) (bs ++ (b ∷ [])) t i ls o l r (omega arith) e (omega arith) (omega arith))
join_made k bs (join ms p x y ∷ t) zero ls o l r h e a c =
    let f : x ≡ l = cc in
    let g : y ≡ r = cc in
    let z : length bs + 0 ≡ length bs = omega arith in
    let left = kept k bs (join ms p x y ∷ t) l.node (omega arith) in
    let right = kept k bs (join ms p x y ∷ t) r.node (omega arith) in
    let both : get_or bs x.node [] ++ get_or bs y.node [] ≡ get_or bs l.node [] ++ get_or bs r.node [] = rw (f, g) in
    rw (z, left, right) (made_next k bs (get_or bs x.node [] ++ get_or bs y.node []) t ∙ both)
join_made k bs (join ms p x y ∷ t) (suc i) ls o l r h e a c =
    let b : List ℕ = get_or bs x.node [] ++ get_or bs y.node [] in
    let z : length (bs ++ (b ∷ [])) + i ≡ length bs + suc i = omega (arith, length_one bs b) in
    rw (← z) (join_made k (bs ++ (b ∷ [])) t i ls o l r (omega arith) e (omega arith) (omega arith))

-- ---- of a table

-- Later nodes change nothing below an earlier one.
pub below_more : (t u : List Node) (n : ℕ) → n < length t → leaves_below t n ≡ leaves_below (t ++ u) n
unfolding leaves_below
below_more t u n h = sym (kept_more 0 [] t u n (omega arith))

pub below_leaf : (t : List Node) (n l : ℕ) → n < length t → node_at t n ≡ leaf l → leaves_below t n ≡ leaf_count (take n t) ∷ []
unfolding leaves_below
below_leaf t n l h e =
    let z : 0 + n ≡ n = omega arith in
    let y : 0 + leaf_count (take n t) ≡ leaf_count (take n t) = omega arith in
    rw (z, y) at (leaf_made 0 [] t n l h e)

pub below_join : (t : List Node) (n : ℕ) (ls : List ℕ) (o : ℕ) (l r : Side) → n < length t → node_at t n ≡ join ls o l r → l.node < n → r.node < n
    → leaves_below t n ≡ leaves_below t l.node ++ leaves_below t r.node
unfolding leaves_below
below_join t n ls o l r h e a c =
    let z : 0 + n ≡ n = omega arith in
    rw z at (join_made 0 [] t n ls o l r h e (omega arith) (omega arith))

-- Down a table: what holds of a leaf, and of a join where it holds of its sides' nodes, holds of every node.
pub descend : (t : List Node) → Ok t → (P : ℕ → Type 0) → ((n l : ℕ) → n < length t → node_at t n ≡ leaf l → P n)
    → ((n : ℕ) (ls : List ℕ) (o : ℕ) (l r : Side) → n < length t → node_at t n ≡ join ls o l r → l.node < n → r.node < n → P l.node → P r.node → P n)
    → (n : ℕ) → n < length t → P n
descend t ok P of-leaf of-join n h = go (suc n) n (omega arith) h
  where
    go : (k n : ℕ) → n < k → n < length t → P n
    go zero n l h = absurd (omega arith)
    go (suc k) n l h = by (node_at t n) refl (unfold Ok in ok n h) (go k)
      where
        by : (a : Node) → node_at t n ≡ a → Below n a → ((m : ℕ) → m < k → m < length t → P m) → P n
        by (leaf x) e b ih = of-leaf n x h e
        by (join ls o a c) e b ih =
            let f : (a.node < n) × (c.node < n) = unfold Below in b in
            of-join n ls o a c h e f.0 f.1 (ih a.node (omega (arith, f.0)) (omega (arith, f.0))) (ih c.node (omega (arith, f.1)) (omega (arith, f.1)))

-- Some leaf lies below every node.
pub some_below : (t : List Node) → Ok t → (n : ℕ) → n < length t → (x : ℕ) × Memᴰ x (leaves_below t n)
some_below t ok =
    descend t ok (λ n. (x : ℕ) × Memᴰ x (leaves_below t n))
    (λ n l h e. (leaf_count (take n t), rw (below_leaf t n l h e) (Memᴰ.head refl)))
    (λ n ls o l r h e a c left right. (left.0, rw (below_join t n ls o l r h e a c) (Memᴰ.append_left (leaves_below t r.node) left.1)))

-- The number of a leaf is below the number of leaves, and no other leaf has it.
pub leaf_number_low : (t : List Node) (n l : ℕ) → n < length t → node_at t n ≡ leaf l → leaf_count (take n t) < leaf_count t
unfolding leaf_count node_at
leaf_number_low [] n l h e = absurd (omega arith)
leaf_number_low (leaf m ∷ t) zero l h e = omega arith
leaf_number_low (leaf m ∷ t) (suc n) l h e = omega (arith, leaf_number_low t n l (omega arith) e)
leaf_number_low (join ls o a b ∷ t) zero l h e = absurd (leaf_join (sym e))
leaf_number_low (join ls o a b ∷ t) (suc n) l h e = leaf_number_low t n l (omega arith) e

pub leaf_number_inj : (t : List Node) (n m l k : ℕ) → n < length t → m < length t → node_at t n ≡ leaf l → node_at t m ≡ leaf k
    → leaf_count (take n t) ≡ leaf_count (take m t) → n ≡ m
unfolding leaf_count node_at
leaf_number_inj [] n m l k h g e f q = absurd (omega arith)
leaf_number_inj (a ∷ t) zero zero l k h g e f q = refl
leaf_number_inj (leaf a ∷ t) zero (suc m) l k h g e f q = absurd (omega arith)
leaf_number_inj (leaf a ∷ t) (suc n) zero l k h g e f q = absurd (omega arith)
leaf_number_inj (leaf a ∷ t) (suc n) (suc m) l k h g e f q = ap suc (leaf_number_inj t n m l k (omega arith) (omega arith) e f (omega arith))
leaf_number_inj (join ls o a b ∷ t) zero (suc m) l k h g e f q = absurd (leaf_join (sym e))
leaf_number_inj (join ls o a b ∷ t) (suc n) zero l k h g e f q = absurd (leaf_join (sym f))
leaf_number_inj (join ls o a b ∷ t) (suc n) (suc m) l k h g e f q = ap suc (leaf_number_inj t n m l k (omega arith) (omega arith) e f q)

-- What lies below a node are numbers of leaves.
pub below_is_leaf : (t : List Node) → Ok t → (n : ℕ) → n < length t → (x : ℕ) → Memᴰ x (leaves_below t n)
    → (k : ℕ) × (l : ℕ) × (k < length t) × (node_at t k ≡ leaf l) × (x ≡ leaf_count (take k t))
below_is_leaf t ok =
    descend t ok (λ n. (x : ℕ) → Memᴰ x (leaves_below t n) → (k : ℕ) × (l : ℕ) × (k < length t) × (node_at t k ≡ leaf l) × (x ≡ leaf_count (take k t)))
    (λ n l h e x m. (n, l, h, e, Memᴰ.eq_of_singleton (rw (below_leaf t n l h e) at m)))
    (λ n ls o l r h e a c left right x m.
    ⊎_elim (left x) (right x) (Memᴰ.append_cases (leaves_below t l.node) (rw (below_join t n ls o l r h e a c) at m)))

-- ---- question 9

module _ (t : List Node) (n m : ℕ) where
  share_has : (x : ℕ) → Memᴰ x (leaves_below t n) → Memᴰ x (leaves_below t m) → share_leaf t n m ≡ true
  unfolding share_leaf
  share_has x i j = overlap_has (leaves_below t n) (leaves_below t m) x i j

  pub share_no : share_leaf t n m ≡ false → Separate t n m
  share_no e x i j = true≢false (sym (share_has x i j) ∙ e)

module _ (t : List Node) (ok : Ok t) where
  -- One node twice shares a leaf.
  pub one_twice : (n : ℕ) → n < length t → share_leaf t n n ≡ true
  one_twice n h = let s = some_below t ok n h in share_has t n n s.0 s.1 s.1

  pub separate_differ : (n m : ℕ) → n < length t → Separate t n m → n ≢ m
  separate_differ n m h s e =
      let x = some_below t ok n h in s x.0 x.1 (subst (λ (k : ℕ). Memᴰ x.0 (leaves_below t k)) e x.1)
