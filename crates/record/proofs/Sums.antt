-- The numbers of a sum, as `put_sum` writes them.
use mathlib.Core.Path.{◌≡◌, refl, ap}
use mathlib.Core.Bool.{Bool, true, false, cond}
use mathlib.Core.List.{List, [], ◌∷◌, ◌++◌, append_assoc, map-append}
use Prim.Native.Nat.{ℕ, zero, suc, ◌+◌, ◌≤◌, ◌<◌, min}
use native.Mathlib.Numerals.{add-one}
use native.Mathlib.Omega.{arith}
use lib.ListN.{length, get_or, take, length-append, length-map}
use lib.Seq.{take_all, take-suc}
use Rattle.pb.specs.Sum.{Term, ◌·◌, neg, units, keep}
use Rattle.record.specs.Record.{term_numbers, numbers, sum}
use Rattle.record.specs.Writing.{signed}

pub terms_append : (ts us : List Term) → term_numbers (ts ++ us) ≡ term_numbers ts ++ term_numbers us
unfolding term_numbers
terms_append [] us = refl
terms_append ((a · l) ∷ ts) us = ap (λ (ns : List ℕ). a ∷ l ∷ ns) (terms_append ts us)

units_append : (ks ls : List ℕ) → units (ks ++ ls) ≡ units ks ++ units ls
unfolding units
units_append [] ls = refl
units_append (k ∷ ks) ls = ap (λ (ts : List Term). (1 · k) ∷ ts) (units_append ks ls)

signed_append : (s : Bool) (ks ls : List ℕ) → signed s (ks ++ ls) ≡ signed s ks ++ signed s ls
unfolding signed
signed_append true ks ls = map-append neg ks ls
signed_append false ks ls = refl

signed_one : (s : Bool) (x : ℕ) → signed s (x ∷ []) ≡ cond s (neg x) x ∷ []
unfolding signed
signed_one true x = refl
signed_one false x = refl

-- The loops of `push_any` and `push_ones`: no literal, one more, and all.
module _ (s : Bool) (ls : List ℕ) where
  pub units_none : term_numbers (units (signed s (take 0 ls))) ≡ []
  unfolding term_numbers units signed
  units_none = rw (signed_none s)
    where
      signed_none : (s : Bool) → signed s [] ≡ []
      signed_none true = refl
      signed_none false = refl

  pub units_more : (k : ℕ) → k < length ls
      → term_numbers (units (signed s (take (k + 1) ls))) ≡ term_numbers (units (signed s (take k ls))) ++ (1 ∷ cond s (neg (get_or ls k 0)) (get_or ls k 0) ∷ [])
  unfolding term_numbers units
  units_more k h = rw (add-one, take-suc ls k 0 h, signed_append, units_append, terms_append, signed_one)

  pub units_all : (k : ℕ) → length ls ≤ k → term_numbers (units (signed s (take k ls))) ≡ term_numbers (units (signed s ls))
  units_all k h = rw (take_all k ls h)

pub units_length : (ls : List ℕ) → length (units ls) ≡ length ls
unfolding units
units_length [] = refl
units_length (l ∷ ls) = ap suc (units_length ls)

signed_length : (s : Bool) (ls : List ℕ) → length (signed s ls) ≡ length ls
unfolding signed
signed_length true ls = length-map ls neg
signed_length false ls = refl

keep_length : (a l : ℕ) → length (keep a l []) ≡ min a 1
unfolding keep
keep_length zero l = omega arith
keep_length (suc a) l = omega arith

pub kept_none : (a l : ℕ) → a ≡ 0 → term_numbers (keep a l []) ≡ []
unfolding term_numbers keep
kept_none zero l e = refl
kept_none (suc a) l e = absurd (omega arith)

pub kept_one : (a l : ℕ) → (a ≡ 0 → ⊥) → term_numbers (keep a l []) ≡ a ∷ l ∷ []
unfolding term_numbers keep
kept_one zero l e = absurd (e refl)
kept_one (suc a) l e = refl

pub sum_is : (w : ℕ) (s : Bool) (ls : List ℕ) (a l : ℕ)
    → 1 ∷ w ∷ (length ls + min a 1) ∷ (term_numbers (units (signed s ls)) ++ (term_numbers (keep a l []) ++ (a ∷ [])))
    ≡ numbers (sum w (units (signed s ls) ++ keep a l []) a)
unfolding numbers
sum_is w s ls a l = rw (length-append, units_length, signed_length, keep_length, terms_append, append_assoc)
