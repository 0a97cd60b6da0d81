-- A node is no longer than there are leaves below it; these are leaves of the table, each once.
use mathlib.Core.Path.{◌≡◌}
use mathlib.Core.HLevel.{⊥_prop}
use mathlib.Core.Logic.{∥∥₁_elim}
use mathlib.Core.List.Memᴰ
use mathlib.Core.List.{List, [], ◌∷◌, Memᴰ, Nodup, Nodup-nil, Nodup-cons, Nodup-append}
use Prim.Native.Nat.{ℕ, ◌+◌, ◌≤◌, ◌<◌}
use native.Mathlib.Omega.{arith}
use lib.ListN.{length, length-append}
use Rattle.memo.proofs.Lists.{not_mem, length_subset}
use Rattle.totdb.specs.Nodes.{Node, leaf, join, node_at, leaves, len, leaf_count, join_count}
use Rattle.totdb.specs.Below.{leaves_below}
use Rattle.totdb.proofs.Listed.{length_range}
use Rattle.cert.specs.Sized.{Fit, Sized}
use Rattle.cert.proofs.Apart.{range_has, sized_ok, fit_at}
use Rattle.cert.proofs.LeavesBelow.{below_leaf, below_join, descend, leaf_number_low, below_is_leaf}

-- A table has its leaves and its joins.
pub nodes_are : (t : List Node) → length t ≡ leaf_count t + join_count t
unfolding leaf_count join_count
nodes_are [] = omega arith
nodes_are (leaf l ∷ t) = omega (arith, nodes_are t)
nodes_are (join ls o l r ∷ t) = omega (arith, nodes_are t)

module _ (t : List Node) (sz : Sized t) where
  pub len_below : (n : ℕ) → n < length t → len (node_at t n) ≤ length (leaves_below t n)
  len_below =
      descend t (sized_ok t sz) (λ n. len (node_at t n) ≤ length (leaves_below t n))
      (λ n l h e. rw (e, below_leaf t n l h e) (unfold len leaves in omega arith))
      (λ n ls o l r h e a c left right.
      let f = fit_at t sz n ls o l r h e in
      let long : len (node_at t n) ≡ length ls = rw e (unfold len leaves in omega arith) in
      rw (below_join t n ls o l r h e a c, long)
      (unfold Fit in omega (arith, f.3, f.4, f.5, left, right, length-append (leaves_below t l.node) (leaves_below t r.node))))

  pub below_leaves : (n : ℕ) → n < length t → (x : ℕ) → Memᴰ x (leaves_below t n) → x < leaf_count t
  below_leaves n h x m = let k = below_is_leaf t (sized_ok t sz) n h x m in omega (arith, leaf_number_low t k.0 k.1 k.2 k.3, k.4)

  pub below_once : (n : ℕ) → n < length t → Nodup (leaves_below t n)
  below_once =
      descend t (sized_ok t sz) (λ n. Nodup (leaves_below t n))
      (λ n l h e. rw (below_leaf t n l h e) (Nodup-cons.1 (not_mem Memᴰ.not-nil, Nodup-nil)))
      (λ n ls o l r h e a c left right.
      let f = fit_at t sz n ls o l r h e in
      rw (below_join t n ls o l r h e a c)
      ((Nodup-append {l₁ = leaves_below t l.node} {l₂ = leaves_below t r.node}).1
      (left, right, λ x i j. ∥∥₁_elim i ⊥_prop (λ i. ∥∥₁_elim j ⊥_prop (λ j. unfold Fit in f.2 x i j)))))

  -- So a node is no longer than the table has leaves.
  pub len_few : (n : ℕ) → n < length t → len (node_at t n) ≤ leaf_count t
  len_few n h =
      omega (
        arith,
        len_below n h,
        length_subset (below_once n h) (λ x m. range_has 0 (leaf_count t) x (omega arith) (omega (arith, below_leaves n h x m))),
        length_range 0 (leaf_count t),
      )
