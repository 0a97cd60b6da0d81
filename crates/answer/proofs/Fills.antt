-- A list copied as far as another reaches, with zeros after it.
use mathlib.Core.Path.{◌≡◌, sym, ap, ◌∙◌}
use mathlib.Core.List.{List, ◌++◌}
use Prim.Native.Nat.{ℕ, ◌<◌, ◌≤◌, ◌+◌, ◌-◌, min}
use native.Mathlib.Omega.{arith}
use lib.ListN.{length, get_or, take, drop, replicate, get_or-replicate, get_or-append}
use lib.Seq.{get_or-append-add}
use borrow.Rule.Slice.PartMut.{mid_of, put_mid}
use Rattle.std.proofs.lemmas.List.{same_lists, places}
use Rattle.answer.specs.Coded.{padded}

-- l with zeros after it, at a place of l and at one past it.
pub pad_in : (n : ℕ) (l : List ℕ) (i : ℕ) → i < length l → get_or (l ++ replicate n 0) i 0 ≡ get_or l i 0
pad_in n l i h = get_or-append l (replicate n 0) 0 i h

pub pad_past : (n : ℕ) (l : List ℕ) (i : ℕ) → i < n → length l ≤ i → get_or (l ++ replicate n 0) i 0 ≡ 0
pad_past n l i h k =
    let e : length l + (i - length l) ≡ i = omega arith in
    ap (λ (k : ℕ). get_or (l ++ replicate n 0) k 0) (sym e) ∙ get_or-append-add l (replicate n 0) (i - length l) 0 ∙ get_or-replicate n (i - length l) 0 0 (omega arith)

-- y is d with the first n elements of l, and z the zeros for what is left of it.
pub pad_done : (d l y z : List ℕ) (n : ℕ) → n ≡ min (length d) (length l) → y ≡ take n l ++ drop n d
    → z ≡ replicate (length (mid_of n (length y - n) y)) 0 → put_mid n (length y - n) y z ≡ padded (length d) l
pad_done d l y z n e p q = rw (q, p) (same_lists _ _ (grind (arith, places)) (λ k d h. grind (arith, places)))
