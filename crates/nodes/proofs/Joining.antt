-- The row of a join, as the code makes it.
use mathlib.Core.Path.{◌≡◌, refl, sym, ◌∙◌}
use mathlib.Core.List.{List, ◌++◌, append_assoc}
use Prim.Native.Nat.{ℕ, zero, suc, ◌+◌, ◌-◌, ◌*◌}
use native.Mathlib.Omega.{arith}
use lib.ListN.{length, set, drop, replicate, length-append}
use lib.Seq.{paste, sets, take_at, take_all, drop-append-add}
use Rattle.sizes.specs.Sizes.{width, row, length_column, first_column, kind_column, below_column, left_column, right_column, list_column}
use Rattle.rows.specs.declared.Shown.{Shown}
use Rattle.nodes.specs.Added.{mask_numbers, side_numbers, join_numbers}

-- ---- a list put where zeros are

drop_zeros : (n k : ℕ) → drop n (replicate {A = ℕ} k 0) ≡ replicate (k - n) 0
drop_zeros zero k = let e : k - 0 ≡ k = omega arith in rw e
drop_zeros (suc n) zero = let e : 0 - suc n ≡ 0 = omega arith in rw e
drop_zeros (suc n) (suc k) = let e : suc k - suc n ≡ k - n = omega arith in rw e (drop_zeros n k)

put_list : (p a : List ℕ) (q n k : ℕ) → length p ≡ q → length a ≡ n → paste (p ++ replicate k 0) q a n ≡ p ++ (a ++ replicate (k - n) 0)
put_list p a q n k e f =
    let rest : drop (q + n) (p ++ replicate k 0) ≡ replicate (k - n) 0 =
    rw (← e) (drop-append-add p (replicate k 0) n ∙ drop_zeros n k) in
    rw (take_at p (replicate k 0) q e, take_all n a (omega arith), rest) (append_assoc p a (replicate (k - n) 0))

-- ---- the row

module _ (v m : ℕ) (l r : Shown) (a b : List ℕ) (e : l.len ≡ length a) (f : r.len ≡ length b) where
  both_lists : {x y : List ℕ} → x ≡ paste (replicate row 0) list_column a l.len → y ≡ paste x (list_column + l.len) b r.len
      → y ≡ replicate list_column 0 ++ (a ++ (b ++ replicate (width - l.len - r.len) 0))
  both_lists {x = x} {y = y} g h =
      let head : List ℕ = replicate list_column 0 in
      let first : x ≡ (head ++ a) ++ replicate (width - l.len) 0 =
      g ∙ put_list head a list_column l.len width refl (sym e) ∙ sym (append_assoc head a (replicate (width - l.len) 0)) in
      h ∙ rw first (put_list (head ++ a) b (list_column + l.len) r.len (width - l.len) (omega (arith, length-append head a)) (sym f)
      ∙ append_assoc head a (b ++ replicate (width - l.len - r.len) 0))

  pub row_made : {x y u z w : List ℕ} {k : ℕ} → x ≡ paste (replicate row 0) list_column a l.len → y ≡ paste x (list_column + l.len) b r.len
      → u ≡ sets (set (set (set y length_column (l.len + r.len)) first_column (2 * v)) kind_column 1) below_column (mask_numbers k)
      → k ≡ m → z ≡ sets u left_column (side_numbers l) → w ≡ sets z right_column (side_numbers r) → w ≡ join_numbers v m l a r b
  row_made g h j same i last = last ∙ rw (i, j, same, both_lists g h, e, f)
