-- A mask has the bits of its list's members: it is that of two lists by `|`, and whether they overlap is seen by `&`.
use mathlib.Core.Path.{◌≡◌, refl, sym, ◌∙◌, ap}
use mathlib.Core.Bool.{Bool, true, false, true≢false, not as notb}
use mathlib.Core.Logic.{◌≢◌}
use mathlib.Core.List.{List, [], ◌∷◌, ◌++◌, Memᴰ}
use Prim.Native.Nat.{ℕ, ◌^◌, ◌<◌}
use native.Mathlib.Decide.{ℕ_discrete}
use native.Mathlib.Omega.{arith}
use borrow.Author.Tests.{eq-eqb, ne_eqb}
use lib.Dec.{eqb}
use Rattle.std.specs.Int.Bits.{bit_and, bit_or, or_zero_l, or_zero_r}
use Rattle.std.specs.Int.{bit_at}
use Rattle.std.proofs.lemmas.Nat.{or_lt, pow_below, pow_pos}
use Rattle.std.proofs.lemmas.Nat.Bits.{bit_at_and, bit_at_or, bit_at-zero, bit_at-lt, bit_at-pow_same, bit_at-pow_other, same_from_bits}
use Rattle.totdb.specs.Below.{overlap, mask}
use Rattle.totdb.proofs.Overlap.{overlap_has, overlap_from}

pub mask_one : (x : ℕ) → mask (x ∷ []) ≡ 2 ^ x
unfolding mask
mask_one x = or_zero_r (2 ^ x)

pub mask_append : (xs ys : List ℕ) → mask (xs ++ ys) ≡ bit_or (mask xs) (mask ys)
unfolding mask
mask_append [] ys = sym (or_zero_l (mask ys))
mask_append (x ∷ xs) ys =
    same_from_bits _ _ (λ i.
    omega (
      arith,
      bit_at_or (2 ^ x) (mask (xs ++ ys)) i,
      ap (λ (m : ℕ). bit_at m i) (mask_append xs ys),
      bit_at_or (mask xs) (mask ys) i,
      bit_at_or (bit_or (2 ^ x) (mask xs)) (mask ys) i,
      bit_at_or (2 ^ x) (mask xs) i,
    ))

-- Where all members are below k, so many bits are enough.
pub mask_lt : (k : ℕ) (xs : List ℕ) → ((x : ℕ) → Memᴰ x xs → x < k) → mask xs < 2 ^ k
unfolding mask
mask_lt k [] h = omega (arith, pow_pos k)
mask_lt k (x ∷ xs) h = or_lt k (2 ^ x) (mask xs) (pow_below x k (h x (Memᴰ.head refl))) (mask_lt k xs (λ y m. h y (Memᴰ.tail m)))

-- ---- its bits

pub bit_has : (x : ℕ) (xs : List ℕ) → Memᴰ x xs → bit_at (mask xs) x ≡ 1
unfolding mask
bit_has x xs (Memᴰ.head {x = y} {xs = ys} e) =
    let here : bit_at (2 ^ y) x ≡ 1 = rw e (bit_at-pow_same y) in
    omega (arith, bit_at_or (2 ^ y) (mask ys) x, bit_at-lt (mask ys) x, here)
bit_has x xs (Memᴰ.tail {x = y} {xs = ys} m) = omega (arith, bit_at_or (2 ^ y) (mask ys) x, bit_at-lt (2 ^ y) x, bit_has x ys m)

pub bit_from : (x : ℕ) (xs : List ℕ) → bit_at (mask xs) x ≡ 1 → Memᴰ x xs
unfolding mask
bit_from x [] e = absurd (omega (arith, bit_at-zero x))
bit_from x (y ∷ ys) e = by (ℕ_discrete x y) (bit_from x ys)
  where
    by : Dec (x ≡ y) → (bit_at (mask ys) x ≡ 1 → Memᴰ x ys) → Memᴰ x (y ∷ ys)
    by (yes q) ih = Memᴰ.head q
    by (no q) ih = Memᴰ.tail (ih (omega (arith, bit_at_or (2 ^ y) (mask ys) x, bit_at-pow_other y x q)))

-- ---- what two masks have in common

module _ (xs ys : List ℕ) where
  abbrev both : ℕ
  both = bit_and (mask xs) (mask ys)

  has_common : (x : ℕ) → Memᴰ x xs → Memᴰ x ys → both ≢ 0
  has_common x i j e =
      omega (arith, bit_has x xs i, bit_has x ys j, bit_at_and (mask xs) (mask ys) x, ap (λ (m : ℕ). bit_at m x) e, bit_at-zero x)

  none_common : ((x : ℕ) → Memᴰ x xs → Memᴰ x ys → ⊥) → both ≡ 0
  none_common apart = same_from_bits both 0 (λ i. bit i (ℕ_discrete (bit_at (mask xs) i) 1) (ℕ_discrete (bit_at (mask ys) i) 1))
    where
      bit : (i : ℕ) → Dec (bit_at (mask xs) i ≡ 1) → Dec (bit_at (mask ys) i ≡ 1) → bit_at both i ≡ bit_at 0 i
      bit i (yes p) (yes q) = absurd (apart i (bit_from i xs p) (bit_from i ys q))
      bit i (no p) d = omega (arith, bit_at_and (mask xs) (mask ys) i, bit_at-lt (mask xs) i, p, bit_at-zero i)
      bit i (yes p) (no q) = omega (arith, bit_at_and (mask xs) (mask ys) i, bit_at-lt (mask ys) i, q, bit_at-zero i)

  -- What `a & b != 0` says of two masks.
  pub overlap_masks : notb (eqb both 0) ≡ overlap xs ys
  overlap_masks = by (overlap xs ys) refl
    where
      by : (b : Bool) → overlap xs ys ≡ b → notb (eqb both 0) ≡ b
      by true e = let m = overlap_from xs ys e in rw (ne_eqb both 0 (has_common m.0 m.1 m.2))
      by false e = rw (eq-eqb both 0 (none_common (λ x i j. true≢false (sym (overlap_has xs ys x i j) ∙ e))))
