-- The records of a real definition, as `put_real` writes them; how many they are, and that they take eight bytes or more.
use mathlib.Core.Path.{◌≡◌, refl, ◌∙◌}
use mathlib.Core.Bool.{true, false}
use mathlib.Core.Logic.{dite}
use mathlib.Core.List.{List, [], ◌∷◌, ◌++◌, map, flat_map, append-nil}
use Prim.Native.Nat.{ℕ, zero, suc, ◌+◌, ◌-◌, ◌≤◌, ◌<◌}
use native.Mathlib.Decide.{dec_lt}
use native.Mathlib.Omega.{arith}
use lib.ListN.{length, length-append, length-map}
use Rattle.pb.specs.Sum.{◌·◌, neg, units, keep}
use Rattle.record.specs.Record.{Record, numbers, bytes, steps, sum}
use Rattle.record.specs.Writing.{signed}
use Rattle.record.proofs.Bytes.{sum_bytes}
use Rattle.record.proofs.Sums.{units_length}
use Rattle.totdb.specs.Nodes.{Node, leaves, len, output}
use Rattle.cert.specs.Definitions.{real_records, real_if, real_only_if, at_least_zero}
use Rattle.cert.proofs.Known.{keep_pos, real_two}

-- ---- the cases of a value that the node has not

real_zero : (x : Node) (v : ℕ) → v ≡ 0 → real_records x v ≡ at_least_zero (leaves x) ∷ []
unfolding real_records
real_zero x zero h = refl
real_zero x (suc v) h = absurd (omega arith)

real_above : (x : Node) (v : ℕ) → 0 < v → len x < v → real_records x v ≡ at_least_zero (map neg (leaves x)) ∷ []
unfolding real_records
real_above x zero h k = absurd (omega arith)
real_above x (suc v) h k = by (dec_lt (len x) (suc v))
  where
    by : (d : Dec (len x < suc v))
        → dite {C = List Record} d (λ _. at_least_zero (map neg (leaves x)) ∷ []) (λ _. real_if x (suc v) ∷ real_only_if x (suc v) ∷ [])
        ≡ at_least_zero (map neg (leaves x)) ∷ []
    by (yes p) = refl
    by (no p) = absurd (p k)

-- ---- their numbers

pub at_least_zero_lem : (ls : List ℕ) → numbers (sum 0 (units ls ++ keep 0 0 []) 0) ≡ flat_map numbers (at_least_zero ls ∷ [])
unfolding flat_map at_least_zero keep
at_least_zero_lem ls = rw (append-nil (units ls), append-nil (numbers (sum 0 (units ls) 0)))

module _ (x : Node) (v : ℕ) where
  pub zero_is : v ≡ 0 → numbers (sum 0 (units (signed false (leaves x)) ++ keep 0 0 []) 0) ≡ flat_map numbers (real_records x v)
  unfolding signed
  zero_is h = rw (real_zero x v h) (at_least_zero_lem (leaves x))

  pub above_is : 0 < v → len x < v → numbers (sum 0 (units (signed true (leaves x)) ++ keep 0 0 []) 0) ≡ flat_map numbers (real_records x v)
  unfolding signed
  above_is h k = rw (real_above x v h k) (at_least_zero_lem (map neg (leaves x)))

  pub within_is : 0 < v → v ≤ len x
      → numbers (sum (output x v + 1) (units (signed true (leaves x)) ++ keep (len x + 1 - v) (output x v) []) (len x + 1 - v))
      ++ numbers (sum (neg (output x v) + 1) (units (signed false (leaves x)) ++ keep v (neg (output x v)) []) v)
      ≡ flat_map numbers (real_records x v)
  unfolding signed flat_map real_if real_only_if
  within_is h k =
      rw (
        real_two x v h k,
        keep_pos (len x + 1 - v) (output x v) (omega arith),
        keep_pos v (neg (output x v)) h,
        append-nil (numbers (sum (neg (output x v) + 1) (units (leaves x) ++ (v · neg (output x v) ∷ [])) v)),
      )

  -- ---- how many they are

  pub zero_steps : v ≡ 0 → 1 ≡ steps (real_records x v)
  unfolding steps at_least_zero
  zero_steps h = rw (real_zero x v h)

  pub above_steps : 0 < v → len x < v → 1 ≡ steps (real_records x v)
  unfolding steps at_least_zero
  above_steps h k = rw (real_above x v h k)

  pub within_steps : 0 < v → v ≤ len x → 2 ≡ steps (real_records x v)
  unfolding steps real_if real_only_if
  within_steps h k = rw (real_two x v h k)

-- ---- how many bytes they take

pub zero_bytes : (ls : List ℕ) → 1 < length ls → 8 ≤ length (bytes (at_least_zero ls ∷ []))
unfolding at_least_zero
zero_bytes ls h = omega (arith, sum_bytes 0 (units ls) 0 [], units_length ls)

pair_bytes : (x : Node) (v : ℕ) → 1 < len x → 8 ≤ length (bytes (real_if x v ∷ real_only_if x v ∷ []))
unfolding real_if len
pair_bytes x v h =
    let ls : List ℕ = map neg (leaves x) in
    omega (
      arith,
      sum_bytes (output x v + 1) (units ls ++ ((len x + 1 - v) · output x v ∷ [])) (len x + 1 - v) (real_only_if x v ∷ []),
      length-append (units ls) ((len x + 1 - v) · output x v ∷ []),
      units_length ls,
      length-map (leaves x) neg,
    )

pub real_bytes : (x : Node) (v : ℕ) → 1 < len x → 8 ≤ length (bytes (real_records x v))
real_bytes x v h = by (dec_lt 0 v) (dec_lt (len x) v)
  where
    leaves_length : length (leaves x) ≡ len x
    leaves_length = unfold len in refl

    negated : length (map neg (leaves x)) ≡ len x
    negated = length-map (leaves x) neg ∙ leaves_length

    by : Dec (0 < v) → Dec (len x < v) → 8 ≤ length (bytes (real_records x v))
    by (no p) d = rw (real_zero x v (omega arith)) (zero_bytes (leaves x) (omega (arith, leaves_length)))
    by (yes p) (yes q) = rw (real_above x v p q) (zero_bytes (map neg (leaves x)) (omega (arith, negated)))
    by (yes p) (no q) = rw (real_two x v p (omega arith)) (pair_bytes x v h)
