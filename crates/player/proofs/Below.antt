-- The leaves below a node, two ways: by the numbers of their nodes, as the verdict has them, and by their own numbers, as the player's test has them.
use Rattle.std.proofs.lemmas.List.{get_or_past}
use mathlib.Core.Path.{◌≡◌, refl, sym, ◌∙◌, subst}
use mathlib.Core.Logic.{⊎_elim}
use mathlib.Core.List.Memᴰ
use mathlib.Core.List.{List, [], ◌∷◌, ◌++◌, Memᴰ}
use Prim.Native.Nat.{ℕ, suc, ◌+◌, ◌≤◌, ◌<◌}
use native.Mathlib.Decide.{dec_lt}
use native.Mathlib.Omega.{arith}
use lib.ListN.{length, take, length-append, get_or}
use Rattle.totdb.specs.Nodes.{Node, leaf, join, node_at, leaf_count}
use Rattle.totdb.specs.Below.{below_from, leaves_below}
use Rattle.totdb.specs.declared.Side.{Side}
use Rattle.cert.proofs.LeavesBelow.{below_leaf, below_join, descend, leaf_number_inj}
use Rattle.cert.proofs.Rules.{Ok, Below as Lower}
use Rattle.player.specs.Verdict.{Below, itself, through_left, through_right}

-- There is a list for each node.
count_from : (k : ℕ) (bs : List (List ℕ)) (t : List Node) → length (below_from k bs t) ≡ length bs + length t
unfolding below_from
count_from k bs [] = omega arith
count_from k bs (leaf l ∷ t) =
    let b : List ℕ = k ∷ [] in omega (arith, count_from (suc k) (bs ++ (b ∷ [])) t, length-append bs (b ∷ []))
count_from k bs (join ls o l r ∷ t) =
    let b : List ℕ = get_or bs l.node [] ++ get_or bs r.node [] in omega (arith, count_from k (bs ++ (b ∷ [])) t, length-append bs (b ∷ []))

module _ (t : List Node) where
  past : (n : ℕ) → length t ≤ n → leaves_below t n ≡ []
  unfolding leaves_below
  past n l = get_or_past (below_from 0 [] t) n [] (omega (arith, count_from 0 [] t))

  there : (n k : ℕ) → Memᴰ k (leaves_below t n) → n < length t
  there n k m = by (dec_lt n (length t))
    where
      by : Dec (n < length t) → n < length t
      by (yes l) = l
      by (no l) = absurd (Memᴰ.not-nil (rw (past n (omega (arith, l))) at m))

  -- What lies below a node is a leaf.
  a_leaf : {x n : ℕ} → Below t x n → (l : ℕ) × (x < length t) × (node_at t x ≡ leaf l)
  a_leaf (itself {l = l} h e) = (l, h, e)
  a_leaf (through_left h e b) = a_leaf b
  a_leaf (through_right h e b) = a_leaf b

module _ (t : List Node) (ok : Ok t) where
  lower : {n o : ℕ} {ls : List ℕ} {l r : Side} → n < length t → node_at t n ≡ join ls o l r → (l.node < n) × (r.node < n)
  unfolding Ok Lower
  lower {n} h e = rw e at (ok n h)

  numbered : {x n : ℕ} → Below t x n → Memᴰ (leaf_count (take x t)) (leaves_below t n)
  numbered {x} (itself {l = l} h e) = rw (below_leaf t x l h e) (Memᴰ.head refl)
  numbered (through_left {n = n} {o = o} {ls = ls} {l = l} {r = r} h e b) =
      let a = lower h e in
      rw (below_join t n ls o l r h e a.0 a.1) (Memᴰ.append_left (leaves_below t r.node) (numbered b))
  numbered (through_right {n = n} {o = o} {ls = ls} {l = l} {r = r} h e b) =
      let a = lower h e in
      rw (below_join t n ls o l r h e a.0 a.1) (Memᴰ.append_right (leaves_below t l.node) (numbered b))

  pub of_number : (k n : ℕ) → n < length t → Memᴰ k (leaves_below t n) → (x : ℕ) × Below t x n × (k ≡ leaf_count (take x t))
  of_number k =
      descend t ok (λ n. Memᴰ k (leaves_below t n) → (x : ℕ) × Below t x n × (k ≡ leaf_count (take x t)))
      (λ n l h e m. (n, itself h e, Memᴰ.eq_of_singleton (rw (below_leaf t n l h e) at m)))
      (λ n ls o l r h e a c left right m.
      ⊎_elim (λ i. let q = left i in (q.0, through_left h e q.1, q.2)) (λ i. let q = right i in (q.0, through_right h e q.1, q.2))
      (Memᴰ.append_cases (leaves_below t l.node) (rw (below_join t n ls o l r h e a c) at m)))

  module _ (n m : ℕ) where
    -- A leaf below both nodes has its number in both lists,
    pub common_number : (x : ℕ) × Below t x n × Below t x m → (k : ℕ) × Memᴰ k (leaves_below t n) × Memᴰ k (leaves_below t m)
    common_number (x, a, b) = (leaf_count (take x t), numbered a, numbered b)

    -- and a number in both is that of one leaf.
    pub common_leaf : (k : ℕ) × Memᴰ k (leaves_below t n) × Memᴰ k (leaves_below t m) → (x : ℕ) × Below t x n × Below t x m
    common_leaf (k, i, j) =
        let p = of_number k n (there t n k i) i in
        let q = of_number k m (there t m k j) j in
        let a = a_leaf t p.1 in
        let b = a_leaf t q.1 in
        let same : q.0 ≡ p.0 = leaf_number_inj t q.0 p.0 b.0 a.0 b.1 a.1 b.2 a.2 (sym q.2 ∙ p.2) in
        (p.0, p.1, subst (λ (x : ℕ). Below t x m) same q.1)
