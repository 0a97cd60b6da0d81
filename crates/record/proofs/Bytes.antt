-- How many bytes records take: a number takes one or more, a step two or more, a sum two for each term and four.
use mathlib.Core.Path.{◌≡◌, refl, ap, ◌∙◌}
use mathlib.Core.List.{List, [], ◌∷◌, ◌++◌, flat_map}
use Prim.Native.Nat.{ℕ, ◌+◌, ◌*◌, ◌≤◌}
use native.Mathlib.Omega.{arith}
use lib.ListN.{length, length-append}
use Rattle.memo.proofs.Lists.{flat_map_append}
use Rattle.number.specs.Number.{encode}
use Rattle.number.proofs.Laws.{encode_some}
use Rattle.pb.specs.Sum.{Term, ◌·◌}
use Rattle.record.specs.Record.{Record, numbers, bytes, term_numbers, steps, sum, derivation, clause, deletion}

pub numbers_bytes : (ns : List ℕ) → length ns ≤ length (flat_map encode ns)
unfolding flat_map
numbers_bytes [] = omega arith
numbers_bytes (n ∷ ns) = omega (arith, length-append (encode n) (flat_map encode ns), encode_some n, numbers_bytes ns)

two_numbers : (rs : List Record) → 2 * steps rs ≤ length (flat_map numbers rs)
unfolding flat_map steps numbers
two_numbers [] = omega arith
two_numbers (sum w ts b ∷ rs) = omega (arith, length-append (numbers (sum w ts b)) (flat_map numbers rs), two_numbers rs)
two_numbers (derivation ks ∷ rs) = omega (arith, length-append (numbers (derivation ks)) (flat_map numbers rs), two_numbers rs)
two_numbers (clause s ls ∷ rs) = omega (arith, length-append (numbers (clause s ls)) (flat_map numbers rs), two_numbers rs)
two_numbers (deletion ss ∷ rs) = omega (arith, length-append (numbers (deletion ss)) (flat_map numbers rs), two_numbers rs)

pub two_bytes : (rs : List Record) → 2 * steps rs ≤ length (bytes rs)
unfolding bytes
two_bytes rs = omega (arith, two_numbers rs, numbers_bytes (flat_map numbers rs))

-- ---- records after others

pub bytes_append : (rs qs : List Record) → bytes (rs ++ qs) ≡ bytes rs ++ bytes qs
unfolding bytes
bytes_append rs qs =
    ap (flat_map encode) (flat_map_append numbers rs qs) ∙ flat_map_append encode (flat_map numbers rs) (flat_map numbers qs)

pub length_bytes : (rs qs : List Record) → length (bytes (rs ++ qs)) ≡ length (bytes rs) + length (bytes qs)
length_bytes rs qs = ap length (bytes_append rs qs) ∙ length-append (bytes rs) (bytes qs)

-- ---- a sum

terms_length : (ts : List Term) → length (term_numbers ts) ≡ 2 * length ts
unfolding term_numbers
terms_length [] = refl
terms_length ((c · l) ∷ ts) = omega (arith, terms_length ts)

pub sum_bytes : (w : ℕ) (ts : List Term) (b : ℕ) (rs : List Record) → 4 + 2 * length ts ≤ length (bytes (sum w ts b ∷ rs))
unfolding bytes flat_map numbers
sum_bytes w ts b rs =
    omega (
      arith,
      numbers_bytes (flat_map numbers (sum w ts b ∷ rs)),
      length-append (numbers (sum w ts b)) (flat_map numbers rs),
      length-append (term_numbers ts) (b ∷ []),
      terms_length ts,
    )
