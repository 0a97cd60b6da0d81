-- The sums of every key mean what they are named for.
use mathlib.Core.Path.{◌≡◌, refl, sym, ap, ◌∙◌}
use mathlib.Core.Logic.{dite}
use mathlib.Core.Bool.{Bool, true, false, cond, not, false≢true}
use mathlib.Core.List.{List, [], ◌∷◌, ◌++◌, map, flat_map, map-append, Memᴰ}
use mathlib.Core.Option.{some}
use Prim.Native.Nat.{ℕ, zero, suc, ◌+◌, ◌-◌, ◌≤◌, ◌<◌}
use native.Mathlib.Decide.{dec_le, dec_lt}
use native.Mathlib.Omega.{arith}
use lib.ListN.{length, length-append, length-map}
use Rattle.pb.specs.Sum.{neg, ◌·◌, Sum, ◌≥◌, normal}
use Rattle.pb.specs.Truth.{Assignment, truth, count, value}
use Rattle.pb.proofs.Truth.{truth_neg, value_units, value_append, value_keep, count_append, count_negs, satisfies_normal, reached_normal}
use Rattle.record.specs.Record.{Record, sum, derivation, clause, deletion}
use Rattle.record.specs.Steps.{Defined, derived}
use Rattle.totdb.specs.Nodes.{Node, node_at, leaves, len, output, outputs, range}
use Rattle.totdb.proofs.Listed.{length_range}
use Rattle.cert.specs.Definitions.{real, window_zero, window, real_if, real_only_if, at_least_zero, real_records, window_if_of, window_only_if_of, outputs_before, outputs_after, window_if_sum, window_only_if_sum, as_written, defined_by}
use Rattle.cert.specs.Meaning.{MeansIf, MeansOnlyIf, MeansNothing, Witness, MeansWindow, means_value, means_last, Means, means_real, means_zero, means_above, means_window_zero, means_window, Meanings}
use Rattle.cert.proofs.Apart.{range_mem}
use Rattle.cert.proofs.WindowDerivations.{range_around}

-- ---- one sum, by its value

count_short : (a : Assignment) (ls : List ℕ) → count a ls ≤ length ls
count_short a ls = omega (arith, count_negs a ls)

-- Where the output is true the sum has its bound, and the false literals beside it; where it is false, the false literals less d: a window's own output is
-- none of its terms, so d is 1 there, and 0 for a real definition.
module _ (ls : List ℕ) (o v d : ℕ) (s : Sum) (sizes : s.bound + v + d ≡ length ls + 1)
    (values : (a : Assignment) → value a s.terms + count a ls + d ≡ length ls + cond (truth a o) (s.bound + d) 0) where
  means_if : MeansIf ls o v s
  means_if = record {
    exactly = λ a. (
      λ h k. forced a (truth a o) (values a) h.reaches k,
      λ f. record { reaches = enough a (truth a o) (values a) f },
    );
    just = λ a t e. reached a t e;
  }
    where
      forced : (a : Assignment) (b : Bool) → value a s.terms + count a ls + d ≡ length ls + cond b (s.bound + d) 0 → s.bound ≤ value a s.terms
          → v ≤ count a ls → b ≡ true
      forced a true e h k = refl
      forced a false e h k = absurd (omega (arith, sizes))

      enough : (a : Assignment) (b : Bool) → value a s.terms + count a ls + d ≡ length ls + cond b (s.bound + d) 0 → (v ≤ count a ls → b ≡ true)
          → s.bound ≤ value a s.terms
      enough a true e f = omega (arith, count_short a ls)
      enough a false e f = by (dec_le v (count a ls))
        where
          by : Dec (v ≤ count a ls) → s.bound ≤ value a s.terms
          by (yes k) = absurd (false≢true (f k))
          by (no k) = omega (arith, sizes)

      reached : (a : Assignment) → truth a o ≡ true → count a ls ≡ length ls → value a s.terms ≡ s.bound
      reached a t e = let g : value a s.terms + count a ls + d ≡ length ls + (s.bound + d) = rw t at (values a) in omega (arith, g)

-- Where the output is true the sum has the true literals less d, where it is false its bound and the true literals.
module _ (ls : List ℕ) (o v d : ℕ) (s : Sum) (sizes : s.bound + d ≡ v)
    (values : (a : Assignment) → value a s.terms + cond (truth a o) d 0 ≡ count a ls + cond (truth a o) 0 s.bound) where
  means_only_if : MeansOnlyIf ls o v s
  means_only_if = record {
    exactly = λ a. (
      λ h. forced a (truth a o) (values a) h.reaches,
      λ f. record { reaches = enough a (truth a o) (values a) f },
    );
    just = λ a t e. reached a (truth a o) (values a) (sym (truth_neg a o) ∙ t) e;
  }
    where
      forced : (a : Assignment) (b : Bool) → value a s.terms + cond b d 0 ≡ count a ls + cond b 0 s.bound → s.bound ≤ value a s.terms
          → b ≡ true → v ≤ count a ls
      forced a true e h t = omega (arith, sizes)
      forced a false e h t = absurd (false≢true t)

      enough : (a : Assignment) (b : Bool) → value a s.terms + cond b d 0 ≡ count a ls + cond b 0 s.bound → (b ≡ true → v ≤ count a ls)
          → s.bound ≤ value a s.terms
      enough a true e f = omega (arith, sizes, f refl)
      enough a false e f = omega arith

      reached : (a : Assignment) (b : Bool) → value a s.terms + cond b d 0 ≡ count a ls + cond b 0 s.bound → not b ≡ true → count a ls ≡ 0
          → value a s.terms ≡ s.bound
      reached a true e t z = absurd (false≢true t)
      reached a false e t z = omega arith

-- The normal form means the same.
normal_if : (ls : List ℕ) (o v : ℕ) (s : Sum) → MeansIf ls o v s → MeansIf ls o v (normal s)
normal_if ls o v s h = record {
  exactly = λ a. (λ g. (h.exactly a).0 ((satisfies_normal a s).0 g), λ f. (satisfies_normal a s).1 ((h.exactly a).1 f));
  just = λ a t e. reached_normal a s (h.just a t e);
}

normal_only_if : (ls : List ℕ) (o v : ℕ) (s : Sum) → MeansOnlyIf ls o v s → MeansOnlyIf ls o v (normal s)
normal_only_if ls o v s h = record {
  exactly = λ a. (λ g. (h.exactly a).0 ((satisfies_normal a s).0 g), λ f. (satisfies_normal a s).1 ((h.exactly a).1 f));
  just = λ a t e. reached_normal a s (h.just a t e);
}

value_one : (a : Assignment) (c l : ℕ) → value a (c · l ∷ []) ≡ cond (truth a l) c 0
unfolding value
value_one a c l = omega arith

value_nil : (a : Assignment) → value a [] ≡ 0
unfolding value
value_nil a = refl

count_cons : (a : Assignment) (l : ℕ) (ls : List ℕ) → count a (l ∷ ls) ≡ cond (truth a l) 1 0 + count a ls
unfolding count
count_cons a l ls = refl

-- ---- the sums as written

sum_in : Record → Sum
sum_in (sum w ts b) = ts ≥ b
sum_in (derivation ks) = [] ≥ 0
sum_in (clause n ls) = [] ≥ 0
sum_in (deletion ns) = [] ≥ 0

zero_means : (ls : List ℕ) → MeansNothing ls (sum_in (at_least_zero ls))
unfolding sum_in at_least_zero
zero_means ls = record { always = λ a. record { reaches = omega arith }; counts = λ a. value_units a ls }

module _ (x : Node) (v : ℕ) where
  real_if_means : v ≤ len x → MeansIf (leaves x) (output x v) v (sum_in (real_if x v))
  unfolding sum_in real_if len
  real_if_means high = means_if (leaves x) (output x v) v 0 (sum_in (real_if x v)) (omega arith) (λ a. by a (truth a (output x v)) refl)
    where
      by : (a : Assignment) (b : Bool) → truth a (output x v) ≡ b → value a (sum_in (real_if x v)).terms + count a (leaves x) + 0
          ≡ length (leaves x) + cond (truth a (output x v)) ((sum_in (real_if x v)).bound + 0) 0
      by a true e = rw (value_append, value_units, value_one, e) (omega (arith, count_negs a (leaves x)))
      by a false e = rw (value_append, value_units, value_one, e) (omega (arith, count_negs a (leaves x)))

  real_only_if_means : MeansOnlyIf (leaves x) (output x v) v (sum_in (real_only_if x v))
  unfolding sum_in real_only_if
  real_only_if_means = means_only_if (leaves x) (output x v) v 0 (sum_in (real_only_if x v)) (omega arith) (λ a. by a (truth a (output x v)) refl)
    where
      by : (a : Assignment) (b : Bool) → truth a (output x v) ≡ b → value a (sum_in (real_only_if x v)).terms + cond (truth a (output x v)) 0 0
          ≡ count a (leaves x) + cond (truth a (output x v)) 0 (sum_in (real_only_if x v)).bound
      by a true e = rw (value_append, value_units, value_one, truth_neg, e) (omega arith)
      by a false e = rw (value_append, value_units, value_one, truth_neg, e) (omega arith)

-- ---- windows: the outputs before, that of the value, and those after it

module _ (xs : List ℕ) (w : ℕ) (ys : List ℕ) where
  window_if_means : MeansIf (xs ++ w ∷ ys) w (length xs + 1) (window_if_of xs w ys)
  unfolding window_if_of
  window_if_means = means_if (xs ++ w ∷ ys) w (length xs + 1) 1 (window_if_of xs w ys) (simp length-append (omega arith)) (λ a. by a (truth a w) refl)
    where
      by : (a : Assignment) (b : Bool) → truth a w ≡ b → value a (window_if_of xs w ys).terms + count a (xs ++ w ∷ ys) + 1
          ≡ length (xs ++ w ∷ ys) + cond (truth a w) ((window_if_of xs w ys).bound + 1) 0
      by a true e = rw (value_append, value_units, value_keep, value_nil, count_append a xs (w ∷ ys), count_cons, length-append xs (w ∷ ys), e)
          (omega (arith, count_negs a (xs ++ ys), count_append a xs ys, length-append xs ys))
      by a false e = rw (value_append, value_units, value_keep, value_nil, count_append a xs (w ∷ ys), count_cons, length-append xs (w ∷ ys), e)
          (omega (arith, count_negs a (xs ++ ys), count_append a xs ys, length-append xs ys))

  window_only_if_means : MeansOnlyIf (xs ++ w ∷ ys) w (length xs + 1) (window_only_if_of xs w ys)
  unfolding window_only_if_of
  window_only_if_means = means_only_if (xs ++ w ∷ ys) w (length xs + 1) 1 (window_only_if_of xs w ys) (omega arith) (λ a. by a (truth a w) refl)
    where
      by : (a : Assignment) (b : Bool) → truth a w ≡ b → value a (window_only_if_of xs w ys).terms + cond (truth a w) 1 0
          ≡ count a (xs ++ w ∷ ys) + cond (truth a w) 0 (window_only_if_of xs w ys).bound
      by a true e = rw (value_append, value_units, value_keep, value_nil, truth_neg, count_append a xs (w ∷ ys), count_cons, e) (omega (arith, count_append a xs ys))
      by a false e = rw (value_append, value_units, value_keep, value_nil, truth_neg, count_append a xs (w ∷ ys), count_cons, e) (omega (arith, count_append a xs ys))

module _ (x : Node) (f m : ℕ) where
  outputs_around : (v : ℕ) → f < v → v ≤ f + m → outputs x f m ≡ outputs_before x f v ++ output x v ∷ outputs_after x f m v
  unfolding outputs outputs_before outputs_after
  outputs_around v low high = ap (map (output x)) (range_around f m v low high) ∙ map-append (output x) (range (f + 1) (v - (f + 1))) (v ∷ range (v + 1) (f + m - v))

  place : (v : ℕ) → f < v → length (outputs_before x f v) + 1 ≡ v - f
  unfolding outputs_before outputs
  place v low = simp (length-map, length_range) (omega arith)

  sum_if : (v : ℕ) → f < v → v ≤ f + m → MeansIf (outputs x f m) (output x v) (v - f) (window_if_sum x f m v)
  unfolding window_if_sum
  sum_if v low high =
      rw (outputs_around v low high, ← place v low)
      (normal_if _ (output x v) _ _ (window_if_means (outputs_before x f v) (output x v) (outputs_after x f m v)))

  sum_only_if : (v : ℕ) → f < v → v ≤ f + m → MeansOnlyIf (outputs x f m) (output x v) (v - f) (window_only_if_sum x f m v)
  unfolding window_only_if_sum
  sum_only_if v low high =
      rw (outputs_around v low high, ← place v low)
      (normal_only_if _ (output x v) _ _ (window_only_if_means (outputs_before x f v) (output x v) (outputs_after x f m v)))

-- ---- keys

if_witness : (ls : List ℕ) (o v : ℕ) (s : Sum) → MeansIf ls o v s → Witness o s
if_witness ls o v s h a t = (h.exactly a).1 (λ _. t)

only_if_witness : (ls : List ℕ) (o v : ℕ) (s : Sum) → MeansOnlyIf ls o v s → Witness (neg o) s
only_if_witness ls o v s h a t = (h.exactly a).1 (λ k. absurd (false≢true (sym (ap not k) ∙ sym (truth_neg a o) ∙ t)))

real_means : (t : List Node) (n v : ℕ) → Means t (real n v) (flat_map as_written (real_records (node_at t n) v))
unfolding real_records real_if real_only_if at_least_zero as_written flat_map sum_in len
real_means t n zero = means_zero (zero_means (leaves (node_at t n)))
real_means t n (suc v) = by (dec_lt (len (node_at t n)) (suc v))
  where
    by : (d : Dec (len (node_at t n) < suc v))
        → Means t (real n (suc v)) (flat_map as_written
        (dite d (λ _. at_least_zero (map neg (leaves (node_at t n))) ∷ []) (λ _. real_if (node_at t n) (suc v) ∷ real_only_if (node_at t n) (suc v) ∷ [])))
    by (yes h) = means_above h (zero_means (map neg (leaves (node_at t n))))
    by (no h) =
        let p = real_if_means (node_at t n) (suc v) (omega arith) in
        let q = real_only_if_means (node_at t n) (suc v) in
        means_real {n = n} {v = suc v} (omega arith) (omega arith) p (if_witness _ _ _ _ p) q (only_if_witness _ _ _ _ q)

window_means : (x : Node) (f m : ℕ) (vs : List ℕ) → ((v : ℕ) → Memᴰ v vs → (f < v) × (v ≤ f + m))
    → MeansWindow x f m vs
    (flat_map {B = Defined} (λ (v : ℕ). derived (some (window_if_sum x f m v)) ∷ derived (some (window_only_if_sum x f m v)) ∷ []) vs
    ++ as_written (at_least_zero (map neg (outputs x f m))))
unfolding flat_map as_written at_least_zero sum_in
window_means x f m [] h = means_last (zero_means (map neg (outputs x f m)))
window_means x f m (v ∷ vs) h =
    let g = h v (Memᴰ.head refl) in
    means_value (sum_if x f m v g.0 g.1) (sum_only_if x f m v g.0 g.1) (window_means x f m vs (λ u k. h u (Memᴰ.tail k)))

pub meanings : Meanings
unfolding Meanings defined_by as_written at_least_zero sum_in
meanings t (real n v) = real_means t n v
meanings t (window_zero n f m) = means_window_zero (zero_means (outputs (node_at t n) f m))
meanings t (window n f m) = means_window (window_means (node_at t n) f m (range (f + 1) m) within)
  where
    within : (v : ℕ) → Memᴰ v (range (f + 1) m) → (f < v) × (v ≤ f + m)
    within v k = let r = range_mem (f + 1) m v k in (omega (arith, r), omega (arith, r))
