-- A table with one node more: what holds of its nodes alone, and what its numbers say.
use mathlib.Core.Path.{◌≡◌, refl, sym, ap, subst, ◌∙◌}
use mathlib.Core.Logic.{⊎_elim}
use mathlib.Core.List.{List, [], ◌∷◌, ◌++◌, map}
use Prim.Native.Nat.{ℕ, ◌+◌, ◌^◌, ◌≤◌, ◌<◌}
use native.Mathlib.Omega.{arith}
use lib.ListN.{length}
use Rattle.sizes.specs.Sizes.{most_leaves, most_nodes, width, row_at, left_column, right_column, left_at, right_at, left_window, right_window}
use Rattle.totdb.specs.Nodes.{Node, leaf, join, node_at, len, output, range, leaf_count}
use Rattle.totdb.specs.Below.{mask}
use Rattle.totdb.specs.Leaves.{leaf_table}
use Rattle.totdb.specs.declared.Side.{Side}
use Rattle.cert.specs.Sized.{Fit}
use Rattle.cert.proofs.LeavesBelow.{below_more}
use Rattle.cert.proofs.Rules.{at_more, side_len-more}
use Rattle.cert.proofs.Tables.{at_snoc, length_snoc, old_or_new, sized_snoc}
use Rattle.rows.specs.Windows.{SideAt, at_left, at_right}
use Rattle.rows.specs.Rows.{row_of, SideRow, KindOf, Row, read_leaf, NodesIn, Bounded, Table}
use Rattle.rows.proofs.Sides.{side_inside, side_shows, window_more}

-- ---- sides

-- What holds of the sides of the node n.
unfoldable pub SidesOf : (ℕ → ℕ → Side → Type 0) → ℕ → Node → Type 0
SidesOf P n (leaf l) = Unit {0}
SidesOf P n (join m o l r) = P (left_at n) (left_window n) l × P (right_at n) (right_window n) r

module _ (t : List Node) (x : Node) where
  pub side_more : {p w : ℕ} {s : Side} → SideAt t p w s → SideAt (t ++ (x ∷ [])) p w s
  side_more (at_left n ls o l r h e) = at_left n ls o l r (omega (arith, length_snoc t x)) (sym (at_more t (x ∷ []) n h) ∙ e)
  side_more (at_right n ls o l r h e) = at_right n ls o l r (omega (arith, length_snoc t x)) (sym (at_more t (x ∷ []) n h) ∙ e)

  -- A side of the longer table is one of the table, or one of the new node.
  pub side_cases : (P : ℕ → ℕ → Side → Type 0) → ((p w : ℕ) (s : Side) → SideAt t p w s → P p w s) → SidesOf P (length t) x
      → (p w : ℕ) (s : Side) → SideAt (t ++ (x ∷ [])) p w s → P p w s
  unfolding SidesOf
  side_cases P old new p w s (at_left n ls o l r h e) =
      ⊎_elim (λ i. old p w l (at_left n ls o l r i.0 i.1)) (λ i. rw i.0 (subst (SidesOf P (length t)) i.1 new).0)
      (old_or_new t x n (join ls o l r) h e)
  side_cases P old new p w s (at_right n ls o l r h e) =
      ⊎_elim (λ i. old p w r (at_right n ls o l r i.0 i.1)) (λ i. rw i.0 (subst (SidesOf P (length t)) i.1 new).1)
      (old_or_new t x n (join ls o l r) h e)

-- ---- the bounds

-- A node that can follow those of the table.
pub record Next (t : List Node) (x : Node) : Type 0 where
  pub few : length t < most_nodes
  pub few_leaves : leaf_count (t ++ (x ∷ [])) ≤ most_leaves
  pub short : len x ≤ width
  pub low : (i : ℕ) → 1 ≤ i → i ≤ len x → output x i ≤ 2 ^ 30
  pub fit : Fit t (length t) x

pub bounded_snoc : (t : List Node) (x : Node) → Bounded t → Next t x → Bounded (t ++ (x ∷ []))
bounded_snoc t x b next = record {
  few = omega (arith, length_snoc t x, next.few);
  few_leaves = next.few_leaves;
  short = at_snoc t x (λ n a. len a ≤ width) b.short next.short;
  low = λ n i h. at_snoc t x (λ n a. 1 ≤ i → i ≤ len a → output a i ≤ 2 ^ 30) (λ n k. b.low n i k) (next.low i) n h;
  sized = sized_snoc t x b.sized next.fit;
}

-- ---- the rows of the nodes before

module _ (t : List Node) (x : Node) (b : Bounded t) where
  side_kept : {r : List ℕ} {q w : ℕ} {s : Side} (p : ℕ) → SideAt t q w s → SideRow r t p s → SideRow r (t ++ (x ∷ [])) p s
  side_kept {s = s} p of old = record {
    is = old.is;
    length = old.length ∙ side_len-more t (x ∷ []) s (side_inside b of).0;
    window = λ y. old.window y
        ∙ rw (← side_len-more t (x ∷ []) s (side_inside b of).0) (sym (window_more b (x ∷ []) (side_shows of)));
  }

  kind_kept : (r : List ℕ) (n : ℕ) → n < length t → (a : Node) → node_at t n ≡ a → KindOf r t a → KindOf r (t ++ (x ∷ [])) a
  unfolding KindOf
  kind_kept r n h (leaf l) e k = k
  kind_kept r n h (join m o l u) e k =
      (k.0, side_kept left_column (at_left n m o l u h e) k.1, side_kept right_column (at_right n m o l u h e) k.2)

  row_kept : (r : List ℕ) (n : ℕ) → n < length t → Row r t n (node_at t n) → Row r (t ++ (x ∷ [])) n (node_at t n)
  row_kept r n h old = record {
    length = old.length;
    first = old.first;
    kind = kind_kept r n h (node_at t n) refl old.kind;
    below = old.below ∙ ap mask (below_more t (x ∷ []) n h);
    list = old.list;
  }

  -- The rows before are the same.
  pub table_snoc : Bounded (t ++ (x ∷ [])) → (ns ms : List ℕ) → NodesIn ns t → row_at (length t + 1) ≤ length ms
      → ((n : ℕ) → n < length t → row_of ms n ≡ row_of ns n) → Row (row_of ms (length t)) (t ++ (x ∷ [])) (length t) x
      → map (read_leaf ms) (range 0 (leaf_count (t ++ (x ∷ [])))) ≡ leaf_table (t ++ (x ∷ [])) → Table ms (t ++ (x ∷ []))
  table_snoc more ns ms has room same here leaves = record {
    has = record {
      room = rw (length_snoc t x) room;
      row = at_snoc t x (λ n a. Row (row_of ms n) (t ++ (x ∷ [])) n a) (λ n h. rw (same n h) (row_kept (row_of ns n) n h (has.row n h))) here;
      leaves = leaves;
    };
    bounded = more;
  }
