-- The table with a leaf more, and with a join more.
use mathlib.Core.Path.{◌≡◌, refl, sym, ap, ◌∙◌}
use mathlib.Core.Bool.{cond}
use mathlib.Core.Logic.{◌≢◌}
use mathlib.Core.List.{List, [], ◌∷◌, ◌++◌, map, append_assoc}
use Prim.Native.Nat.{ℕ, ◌+◌, ◌-◌, ◌*◌, ◌/◌, ◌%◌, ◌^◌, ◌≤◌, ◌<◌}
use native.Mathlib.Omega.{arith}
use lib.Dec.{eqb}
use lib.ListN.{length, set, take, replicate, length-set, length-append, length-replicate}
use lib.Seq.{paste, take_at, length-paste, take-append_seam}
use Rattle.sizes.specs.Sizes.{most_leaves, width, leaf_nodes, row, row_at, left_window, right_window}
use Rattle.totdb.specs.Below.{leaves_below, mask}
use Rattle.totdb.specs.Nodes.{IsWindow, Node, leaf, join, node_at, len, leaves, output, range, side_len, side_leaves, join_of, plain_form, leaf_count}
use Rattle.totdb.specs.Leaves.{LeafEntry}
use Rattle.totdb.specs.declared.Side.{Side}
use Rattle.totdb.proofs.Leaves.{leaf_count-leaf, leaf_count-join, entry, leaf_table-leaf, leaf_table-join}
use Rattle.totdb.proofs.Masks.{mask_one}
use Rattle.totdb.proofs.Sides.{plain_length}
use Rattle.cert.specs.Sized.{Fit}
use Rattle.cert.proofs.Apart.{sized_ok}
use Rattle.cert.proofs.LeavesBelow.{below_more, below_leaf, below_join, separate_differ}
use Rattle.cert.proofs.Rules.{side_len-more}
use Rattle.cert.proofs.Tables.{at_last, length_snoc, side_some}
use Rattle.rows.specs.declared.Shown.{Shown}
use Rattle.rows.specs.Windows.{window_at}
use Rattle.rows.specs.Rows.{row_of, KindOf, Row, read_leaf, Bounded, Table}
use Rattle.rows.proofs.Sides.{left_place, right_place}
use Rattle.rows.proofs.Growing.{bounded_snoc, table_snoc}
use Rattle.nodes.specs.Added.{Leafable, Joinable, Sided, window_place, shown_of, leaf_numbers, join_numbers}
use Rattle.nodes.proofs.Placing.{put_below, put_before, put_here, row_kept}
use Rattle.nodes.proofs.Leaves.{leaves_agree, leaves_more}
use Rattle.nodes.proofs.Literals.{side_count}
use Rattle.nodes.proofs.Windows.{place_or, place_low}

-- The two numbers of a mask.
mask_is : (m : ℕ) → m % 2 ^ 32 + 2 ^ 32 * (m / 2 ^ 32) ≡ m
mask_is m = omega arith

-- ---- a leaf

module _ {ns : List ℕ} {t : List Node} {n k l : ℕ} (j : Leafable ns t n k l) where
  abbrev with_leaf : List Node
  with_leaf = t ++ (leaf l ∷ [])

  bounded_leaf : Bounded with_leaf
  unfolding len leaves output Fit
  bounded_leaf =
      let next : length t ≡ n = j.next in
      bounded_snoc t (leaf l) j.table.bounded (record {
        few = omega (arith, j.room);
        few_leaves = omega (arith, leaf_count-leaf t l, j.leaves, j.few);
        short = omega arith;
        low = λ i a b. j.low;
        fit = tt;
      })

  -- The leaf is below itself, by its number.
  below_new : leaves_below with_leaf (length t) ≡ k ∷ []
  below_new =
      below_leaf with_leaf (length t) l (omega (arith, length_snoc t (leaf l))) (at_last t (leaf l))
      ∙ rw (take_at t (leaf l ∷ []) (length t) refl, j.leaves)

  row_leaf : Row (leaf_numbers l k) with_leaf (length t) (leaf l)
  unfolding len leaves output KindOf
  row_leaf = record {
    length = refl;
    first = refl;
    kind = refl;
    below = rw below_new (mask_is (2 ^ k) ∙ sym (mask_one k));
    list = refl;
  }

  put_leaf : row_at (n + 1) ≤ length ns → Table (set (set (paste ns (row_at n) (leaf_numbers l k) row) k l) (leaf_nodes + k) n) with_leaf
  put_leaf room =
      let next : length t ≡ n = j.next in
      let few : k < most_leaves = j.few in
      let inside : row_at n + row ≤ length ns = omega arith in
      let r : List ℕ = leaf_numbers l k in
      let ms : List ℕ = paste ns (row_at n) r row in
      let long : length ms ≡ length ns = length-paste ns (row_at n) r row inside (omega arith) in
      let kept : (i : ℕ) → row_of (set (set ms k l) (leaf_nodes + k) n) i ≡ row_of ms i = λ i. row_kept (set ms k l) (leaf_nodes + k) n i (omega arith) ∙ row_kept ms k l i (omega arith) in
      table_snoc t (leaf l) j.table.bounded bounded_leaf ns (set (set ms k l) (leaf_nodes + k) n) j.table.has
      (omega (arith, length-set ms k l, length-set (set ms k l) (leaf_nodes + k) n))
      (λ i h. kept i ∙ put_below ns n r inside i (omega arith))
      (rw (kept (length t), next, put_here ns n r inside refl) (rw next at row_leaf))
      (rw (leaf_count-leaf t l, leaf_table-leaf t l, j.leaves, next)
      (leaves_more ms k l n few (omega arith) ∙ ap (λ (es : List LeafEntry). es ++ (entry l n ∷ []))
      (leaves_agree ns ms k (λ i h. (put_before ns n r inside i (omega arith), put_before ns n r inside (leaf_nodes + i) (omega arith)))
      ∙ ap (λ (i : ℕ). map (read_leaf ns) (range 0 i)) (sym j.leaves) ∙ j.table.has.leaves)))

  -- After the row, the literal x is written at p, and the number y at q.
  pub table_leaf : row_at (n + 1) ≤ length ns → (p x q y : ℕ) → p ≡ k → x ≡ l → q ≡ leaf_nodes + k → y ≡ n
      → Table (set (set (paste ns (row_at n) (leaf_numbers l k) row) p x) q y) with_leaf
  table_leaf room p x q y e f g h = rw (e, f, g, h) (put_leaf room)

-- ---- a join

module _ {ns : List ℕ} {t : List Node} {n v : ℕ} {l r : Side} (j : Joinable ns t n v l r) where
  -- So may their plain forms.
  pub plain_joinable : Joinable ns t n v (plain_form t l) (plain_form t r)
  unfolding side_len
  plain_joinable =
      let p = plain_length l (len (node_at t l.node)) in
      let q = plain_length r (len (node_at t r.node)) in
      record {
        table = j.table;
        next = j.next;
        room = j.room;
        left = j.left;
        right = j.right;
        apart = j.apart;
        left_some = j.left_some;
        right_some = j.right_some;
        left_in = omega (arith, p, j.left_in);
        right_in = omega (arith, q, j.right_in);
        short = omega (arith, p, q, j.short);
        low = j.low;
      }

  abbrev pub left : Shown
  left = shown_of t l (window_place t l (side_len t l) (left_window n))

  abbrev pub right : Shown
  right = shown_of t r (window_place t r (side_len t r) (right_window n))

  abbrev both : List ℕ
  both = side_leaves t l ++ side_leaves t r

  abbrev with_join : List Node
  with_join = t ++ (join_of t v l r ∷ [])

  abbrev new_row : List ℕ
  new_row = join_numbers v (mask (leaves_below t l.node ++ leaves_below t r.node)) left (side_leaves t l) right (side_leaves t r)

  both_long : length both ≡ side_len t l + side_len t r
  both_long = length-append (side_leaves t l) (side_leaves t r) ∙ rw (side_count t l, side_count t r)

  pub left_side : Sided ns t left
  left_side = record { table = j.table; there = j.left; length = refl; first = refl; some = j.left_some; inside = j.left_in }

  pub right_side : Sided ns t right
  right_side = record { table = j.table; there = j.right; length = refl; first = refl; some = j.right_some; inside = j.right_in }

  pub length_join : left.len + right.len ≡ len (join_of t v l r)
  unfolding len leaves
  length_join = omega (arith, both_long)

  bounded_join : Bounded with_join
  unfolding len leaves output Fit
  bounded_join =
      let next : length t ≡ n = j.next in
      let short : length both ≤ width = omega (arith, both_long, j.short) in
      bounded_snoc t (join both v l r) j.table.bounded (record {
        few = omega (arith, j.room);
        few_leaves = omega (arith, leaf_count-join t both v l r, j.table.bounded.few_leaves);
        short = short;
        low = λ i a b. omega (arith, j.low);
        fit = (
          j.left,
          j.right,
          j.apart,
          j.left_in,
          j.right_in,
          both_long,
          refl,
          side_some t l j.left_some,
          side_some t r j.right_some,
        );
      })

  -- A window has the place of the first side that shows the same, which may be a side of the join itself.
  place_is : (s : Side) (w : ℕ) → window_at with_join s.node s.offset (side_len t s) ≡ cond (eqb (window_at t s.node s.offset (side_len t s)) 0) w (window_at t s.node s.offset (side_len t s))
      → s.node < length t → IsWindow s → window_place t s (side_len t s) w ≡ window_at with_join s.node s.offset (side_len with_join s)
  unfolding window_place
  place_is s w e h is = rw (is, ← side_len-more t (join both v l r ∷ []) s h) (place_or (window_at t s.node s.offset (side_len t s)) w ∙ sym e)

  row_join : Row new_row with_join n (join both v l r)
  unfolding len leaves output KindOf
  row_join =
      let next : length t ≡ n = j.next in
      let here : n < length with_join = omega (arith, length_snoc t (join both v l r)) in
      let is : node_at with_join n ≡ join both v l r = rw next at (at_last t (join both v l r)) in
      let apart : l.node ≢ r.node = separate_differ t (sized_ok t j.table.bounded.sized) l.node r.node j.left j.apart in
      let below : leaves_below with_join n ≡ leaves_below t l.node ++ leaves_below t r.node = below_join with_join n both v l r here is (omega (arith, j.left)) (omega (arith, j.right))
      ∙ rw (below_more t (join both v l r ∷ []) l.node j.left, below_more t (join both v l r ∷ []) r.node j.right) in
      record {
        length = sym (length-append (side_leaves t l) (side_leaves t r));
        first = omega arith;
        kind = (
          refl,
          record {
            is = refl;
            length = side_len-more t (join both v l r ∷ []) l j.left;
            window = place_is l (left_window n) (rw next at (left_place j.table.bounded both v l r j.left)) j.left;
          },
          record {
            is = refl;
            length = side_len-more t (join both v l r ∷ []) r j.right;
            window = place_is r (right_window n) (rw next at (right_place j.table.bounded both v l r j.right apart)) j.right;
          },
        );
        below = rw below (mask_is (mask (leaves_below t l.node ++ leaves_below t r.node)));
        list = ap (take (length both)) (sym (append_assoc (side_leaves t l) (side_leaves t r) rest)) ∙ take-append_seam both rest;
      }
    where
      rest : List ℕ
      rest = replicate (width - length (side_leaves t l) - length (side_leaves t r)) 0

  new_long : length new_row ≡ row
  new_long =
      simp (length-append, length-replicate {A = ℕ} (width - length (side_leaves t l) - length (side_leaves t r)) 0)
      (omega (arith, side_count t l, side_count t r, j.short))

  pub table_join : row_at (n + 1) ≤ length ns → Table (paste ns (row_at n) new_row row) with_join
  table_join room =
      let next : length t ≡ n = j.next in
      let inside : row_at n + row ≤ length ns = omega arith in
      let ms : List ℕ = paste ns (row_at n) new_row row in
      let few : leaf_count t ≤ most_leaves = j.table.bounded.few_leaves in
      table_snoc t (join both v l r) j.table.bounded bounded_join ns ms j.table.has
      (omega (arith, length-paste ns (row_at n) new_row row inside (omega (arith, new_long))))
      (λ i h. put_below ns n new_row inside i (omega arith))
      (rw (next, put_here ns n new_row inside new_long) row_join)
      (rw (leaf_count-join t both v l r, leaf_table-join t both v l r)
      (leaves_agree ns ms (leaf_count t) (λ i h. (put_before ns n new_row inside i (omega arith), put_before ns n new_row inside (leaf_nodes + i) (omega arith)))
      ∙ j.table.has.leaves))

  -- The places of the windows are numbers of a row.
  pub left_low : left.window < 2 ^ 32
  left_low = place_low t l (side_len t l) (left_window n) (omega (arith, j.table.bounded.few)) (omega (arith, j.room))

  pub right_low : right.window < 2 ^ 32
  right_low = place_low t r (side_len t r) (right_window n) (omega (arith, j.table.bounded.few)) (omega (arith, j.room))
