-- Rows written, and what a write leaves of the others.
use mathlib.Core.Path.{◌≡◌, sym, ap, ◌∙◌}
use mathlib.Core.List.{List, [], ◌∷◌, ◌++◌, append_assoc}
use Prim.Native.Nat.{ℕ, ◌+◌, ◌/◌, ◌%◌, ◌^◌, ◌≤◌, ◌<◌}
use native.Mathlib.Omega.{arith}
use lib.ListN.{length, get_or, set, take, drop, replicate}
use lib.Seq.{paste, sets, take_at, drop_at, take_all, get_or-take, length-take-le, drop-set-lt}
use Rattle.sizes.specs.Sizes.{nodes_start, row, row_at, length_column, first_column, below_column, list_column}
use Rattle.nodes.specs.Added.{mask_numbers, leaf_numbers}
use Rattle.rows.specs.Rows.{row_of}
use Rattle.rows.proofs.Reading.{part_take}

-- What two lists share.
part_kept : (q : ℕ) (l m : List ℕ) → take q m ≡ take q l → (p k : ℕ) → p + k ≤ q → take k (drop p m) ≡ take k (drop p l)
part_kept q l m same p k h = sym (part_take p k q m h) ∙ ap (λ (x : List ℕ). take k (drop p x)) same ∙ part_take p k q l h

-- ---- a row

module _ (ns : List ℕ) (n : ℕ) (r : List ℕ) (inside : row_at n + row ≤ length ns) where
  put_is : paste ns (row_at n) r row ≡ take (row_at n) ns ++ (take row r ++ drop (row_at n + row) ns)
  put_is = append_assoc (take (row_at n) ns) (take row r) (drop (row_at n + row) ns)

  long : length (take (row_at n) ns) ≡ row_at n
  long = length-take-le (row_at n) ns (omega arith)

  before : take (row_at n) (paste ns (row_at n) r row) ≡ take (row_at n) ns
  before = rw put_is (take_at (take (row_at n) ns) (take row r ++ drop (row_at n + row) ns) (row_at n) long)

  pub put_below : (i : ℕ) → i < n → row_of (paste ns (row_at n) r row) i ≡ row_of ns i
  put_below i h = part_kept (row_at n) ns (paste ns (row_at n) r row) before (row_at i) row (omega arith)

  pub put_before : (i : ℕ) → i < row_at n → get_or (paste ns (row_at n) r row) i 0 ≡ get_or ns i 0
  put_before i h =
      sym (get_or-take (row_at n) (paste ns (row_at n) r row) i 0 h) ∙ ap (λ (l : List ℕ). get_or l i 0) before ∙ get_or-take (row_at n) ns i 0 h

  pub put_here : length r ≡ row → row_of (paste ns (row_at n) r row) n ≡ r
  put_here e =
      let all : take row r ≡ r = take_all row r (omega arith) in
      rw (put_is, drop_at (take (row_at n) ns) (take row r ++ drop (row_at n + row) ns) (row_at n) long, all)
      (take_at r (drop (row_at n + row) ns) row e)

-- ---- a number before the rows

pub row_kept : (ns : List ℕ) (k l i : ℕ) → k < nodes_start → row_of (set ns k l) i ≡ row_of ns i
row_kept ns k l i h = ap (take row) (drop-set-lt (row_at i) ns k l (omega arith))

-- ---- the leaves below

-- The two numbers of a mask.
pub two_numbers : (r : List ℕ) (m : ℕ) {a b : ℕ} → a ≡ m % 2 ^ 32 → b ≡ m / 2 ^ 32 → sets r below_column (a ∷ b ∷ []) ≡ sets r below_column (mask_numbers m)
two_numbers r m p q = rw (p, q)

-- The row of a leaf, by its mask.
pub leaf_made : (l k : ℕ) {m : ℕ} {r : List ℕ} → m ≡ 2 ^ k
    → r ≡ sets (set (set (replicate row 0) length_column 1) first_column l) below_column (mask_numbers m) → set r list_column l ≡ leaf_numbers l k
leaf_made l k p e = rw (e, p)
