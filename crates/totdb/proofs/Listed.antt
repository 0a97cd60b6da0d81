-- The output list of a node, as the code fills its row.
use mathlib.Core.Path.{◌≡◌, refl, sym, ap, ◌∙◌}
use mathlib.Core.List.{List, [], ◌∷◌, ◌++◌, map, map-append, append-nil}
use Prim.Native.Nat.{ℕ, zero, suc, ◌+◌, ◌-◌, ◌*◌, ◌≤◌, ◌<◌}
use native.Mathlib.Omega.{arith}
use lib.ListN.{length, take, drop, replicate, set, length-map, length-append, length-replicate}
use Rattle.std.proofs.lemmas.List.{take-replicate, drop-replicate}
use lib.Seq.{set_at, append_snoc}
use Rattle.sizes.specs.Sizes.{width}
use Rattle.totdb.specs.Nodes.{range, from_first, output_row}

pub length_range : (s n : ℕ) → length (range s n) ≡ n
unfolding range
length_range s zero = refl
length_range s (suc n) = ap suc (length_range (suc s) n)

pub range_snoc : (s n : ℕ) → range s (suc n) ≡ range s n ++ ((s + n) ∷ [])
unfolding range
range_snoc s zero = let e : s + 0 ≡ s = omega arith in rw e
range_snoc s (suc n) =
    let e : suc s + n ≡ s + suc n = omega arith in
    ap (λ (l : List ℕ). s ∷ l) (range_snoc (suc s) n ∙ rw e)

-- A part of the values of a range.
pub part_range : (g : ℕ → ℕ) (s l f m : ℕ) → f + m ≤ l → take m (drop f (map g (range s l))) ≡ map g (range (s + f) m)
unfolding range
part_range g s l zero zero h = refl
part_range g s zero zero (suc m) h = absurd (omega arith)
part_range g s (suc l) zero (suc m) h =
    let e : s + 0 ≡ s = omega arith in
    let d : suc s + 0 ≡ suc s = omega arith in
    rw e (ap (λ (x : List ℕ). g s ∷ x) (part_range g (suc s) l zero m (omega arith) ∙ rw d))
part_range g s zero (suc f) m h = absurd (omega arith)
part_range g s (suc l) (suc f) m h =
    let e : suc s + f ≡ s + suc f = omega arith in
    part_range g (suc s) l f m (omega arith) ∙ ap (λ (a : ℕ). map g (range a m)) e

replicate_cons : (n : ℕ) → 0 < n → replicate {A = ℕ} n 0 ≡ 0 ∷ replicate (n - 1) 0
replicate_cons zero h = absurd (omega arith)
replicate_cons (suc n) h = let e : suc n - 1 ≡ n = omega arith in rw e

module _ (l : ℕ) where
  abbrev listed : ℕ → List ℕ
  listed n = map (from_first l) (range 1 n)

  pub listed_length : (n : ℕ) → length (listed n) ≡ n
  listed_length n = length-map (range 1 n) (from_first l) ∙ length_range 1 n

  pub row_length : (n : ℕ) → n ≤ width → length (output_row l n) ≡ width
  unfolding output_row
  row_length n h = length-append (listed n) (replicate (width - n) 0) ∙ rw (listed_length n, length-replicate {A = ℕ} (width - n) 0) (omega arith)

  -- The first n outputs in a list of w numbers, with zeros after them.
  abbrev pub row_of : ℕ → ℕ → List ℕ
  row_of w n = listed n ++ replicate (w - n) 0

  pub row_none : (w n : ℕ) → n ≤ w → (length (take n (replicate {A = ℕ} w 0)) ≡ n) × (take n (replicate {A = ℕ} w 0) ≡ row_of n 0)
  unfolding range
  row_none w n h = let e : n - 0 ≡ n = omega arith in rw (e, take-replicate {X = ℕ} n w 0 h) (length-replicate {A = ℕ} n 0, refl)

  pub row_more : (w n : ℕ) → n < w → set (row_of w n) n (l + 2 * n) ≡ row_of w (n + 1)
  unfolding from_first
  row_more w n h =
      let e : n + 1 ≡ suc n = omega arith in
      let d : w - n - 1 ≡ w - (n + 1) = omega arith in
      let v : l + 2 * (1 + n - 1) ≡ l + 2 * n = omega arith in
      let more : listed (n + 1) ≡ listed n ++ ((l + 2 * n) ∷ []) =
      ap listed e ∙ ap (map (from_first l)) (range_snoc 1 n) ∙ map-append (from_first l) (range 1 n) ((1 + n) ∷ []) ∙ rw v in
      ap (λ (z : List ℕ). set (listed n ++ z) n (l + 2 * n)) (replicate_cons (w - n) (omega arith))
      ∙ set_at (listed n) 0 (replicate (w - n - 1) 0) (l + 2 * n) n (listed_length n)
      ∙ ap (λ (k : ℕ). listed n ++ (l + 2 * n) ∷ replicate k 0) d
      ∙ sym (append_snoc (listed n) (l + 2 * n) (replicate (w - (n + 1)) 0))
      ∙ ap (λ (z : List ℕ). z ++ replicate (w - (n + 1)) 0) (sym more)

  -- The whole list at the front of a row of zeros.
  pub row_done : (n i : ℕ) (items : List ℕ) → n ≤ width → i ≡ n → items ≡ row_of n i → items ++ drop n (replicate {A = ℕ} width 0) ≡ output_row l n
  unfolding output_row
  row_done n i items h e p =
      let none : n - n ≡ 0 = omega arith in
      rw (p, e, none, append-nil) (ap (λ (z : List ℕ). listed n ++ z) (drop-replicate {X = ℕ} n width 0))
