-- The walk by places finds the clauses of the records that the bytes stand for.
use mathlib.Core.Path.{◌≡◌, refl, ap, ◌∙◌}
use mathlib.Core.Bool.{cond}
use mathlib.Core.List.{List, [], ◌∷◌, ◌++◌, map, flat_map, append_assoc}
use Prim.Native.Nat.{ℕ, zero, suc, ◌+◌, ◌*◌, ◌≤◌, ◌<◌}
use native.Mathlib.Omega.{arith}
use borrow.Author.Tests.{lt-ltb, le-ltb}
use lib.Dec.{eqb}
use lib.ListN.{length, length-append}
use Rattle.number.specs.Number.{groups, encode}
use Rattle.number.proofs.Laws.{encode_some, encode_length}
use Rattle.number.proofs.Places.{read_from-encode}
use Rattle.pb.specs.Rules.{Token, step, literal, add, divide, saturate}
use Rattle.pb.specs.Sum.{Term, ◌·◌}
use Rattle.record.specs.Record.{Record, term_numbers, token_numbers, numbers, sum, derivation, clause, deletion, bytes, clauses}
use Rattle.record.proofs.Bytes.{numbers_bytes}
use Rattle.record.proofs.Decode.{Small, numbers_some}
use Rattle.places.specs.Walk.{item, read, item_at, after_number, after_token, skip, after_record, numbers_at, clause_at, count_place, places_from, clauses_at}

terms_length : (ts : List Term) → length (term_numbers ts) ≡ 2 * length ts
unfolding term_numbers
terms_length [] = refl
terms_length ((c · l) ∷ ts) = omega (arith, terms_length ts)

-- ---- numbers that stand at a place

-- From a place to the end of the log stand the numbers ns.
record Stands (log : List ℕ) (at : ℕ) (ns : List ℕ) : Type 0 where
  before : List ℕ
  place : at ≡ length before
  is : log ≡ before ++ flat_map encode ns
  small : Small ns

module _ {log : List ℕ} where
  reads : {at n : ℕ} {ns : List ℕ} → Stands log at (n ∷ ns) → item_at log at ≡ item n (at + length (encode n))
  unfolding read Small flat_map
  reads {at} {n} {ns} s =
      rw (s.is, s.place, read_from-encode groups s.before n (flat_map encode ns) ((encode_length n groups (omega arith)).1 s.small.0))

  value : {at n : ℕ} {ns : List ℕ} → Stands log at (n ∷ ns) → (item_at log at).value ≡ n
  value s = rw (reads s)

  rest : {at n : ℕ} {ns : List ℕ} → Stands log at (n ∷ ns) → Stands log (item_at log at).end ns
  unfolding Small flat_map
  rest {at} {n} {ns} s = rw (reads s) (record {
    before = s.before ++ encode n;
    place = rw s.place (simp length-append);
    is = s.is ∙ rw append_assoc;
    small = s.small.1;
  })

  ends : {at : ℕ} {ns : List ℕ} → Stands log at ns → length log ≡ at + length (flat_map encode ns)
  ends {at} {ns} s = rw s.place (ap length s.is ∙ simp length-append)

  -- ---- several numbers

  skipped : (ks : List ℕ) {at : ℕ} {ns : List ℕ} → Stands log at (ks ++ ns) → Stands log (skip (after_number log) (length ks) at) ns
  unfolding skip
  skipped [] s = s
  skipped (k ∷ ks) s = skipped ks (rest s)

  listed : (ls ns : List ℕ) {at : ℕ} → Stands log at (ls ++ ns) → numbers_at log (length ls) at ≡ ls
  unfolding numbers_at
  listed [] ns s = refl
  listed (l ∷ ls) ns s = rw (value s, listed ls ns (rest s))

  tokens : (ks : List Token) {at : ℕ} {ns : List ℕ} → Stands log at (token_numbers ks ++ ns) → Stands log (skip (after_token log) (length ks) at) ns
  unfolding skip after_token token_numbers
  tokens [] s = s
  tokens (step n ∷ ks) s = tokens ks (rw (value s) (rest (rest s)))
  tokens (literal l ∷ ks) s = tokens ks (rw (value s) (rest (rest s)))
  tokens (add ∷ ks) s = tokens ks (rw (value s) (rest s))
  tokens (divide d ∷ ks) s = tokens ks (rw (value s) (rest (rest s)))
  tokens (saturate ∷ ks) s = tokens ks (rw (value s) (rest s))

  -- ---- records

  passed : (r : Record) {at : ℕ} {ns : List ℕ} → Stands log at (numbers r ++ ns) → Stands log (after_record log at) ns
  unfolding after_record numbers
  passed (sum w ts b) s =
      let n : 2 * length ts + 1 ≡ length (term_numbers ts ++ (b ∷ [])) = simp length-append (omega (arith, terms_length ts)) in
      rw (value s, value (rest (rest s)), n) (skipped (term_numbers ts ++ (b ∷ [])) (rest (rest (rest s))))
  passed (derivation ks) s = rw (value s, value (rest s)) (tokens ks (rest (rest s)))
  passed (clause c ls) s = rw (value s, value (rest (rest s))) (skipped ls (rest (rest (rest s))))
  passed (deletion ss) s = rw (value s, value (rest s)) (skipped ss (rest (rest s)))

  inside : {at n : ℕ} {ns : List ℕ} → Stands log at (n ∷ ns) → at < length log
  unfolding flat_map
  inside {at} {n} {ns} s = omega (arith, ends s, encode_some n, length-append (encode n) (flat_map encode ns))

  -- One step of the walk, at a record whose kind is n.
  more : (k : ℕ) {at n : ℕ} {ns : List ℕ} → Stands log at (n ∷ ns)
      → let rest = places_from log k (after_record log at) in places_from log (suc k) at ≡ cond (eqb n 3) (count_place log at ∷ rest) rest
  unfolding places_from
  more k {at} s = rw (lt-ltb at (length log) (inside s), places_from) (rw (value s))

  first : (r : Record) (rs : List Record) (k : ℕ) {at : ℕ} → Stands log at (numbers r ++ flat_map numbers rs)
      → map (clause_at log) (places_from log k (after_record log at)) ≡ clauses rs → map (clause_at log) (places_from log (suc k) at) ≡ clauses (r ∷ rs)
  unfolding numbers clauses clause_at
  first (sum w ts b) rs k s e = rw (more k s) e
  first (derivation ks) rs k s e = rw (more k s) e
  first (clause c ls) rs k s e = rw (more k s) (rw (e, value (rest (rest s)), listed ls (flat_map numbers rs) (rest (rest (rest s)))))
  first (deletion ss) rs k s e = rw (more k s) e

  found : (rs : List Record) (k : ℕ) {at : ℕ} → length rs ≤ k → Stands log at (flat_map numbers rs)
      → map (clause_at log) (places_from log k at) ≡ clauses rs
  unfolding places_from clauses flat_map
  found [] zero h s = refl
  found [] (suc k) {at} h s = rw (le-ltb at (length log) (omega (arith, ends s)), places_from)
  found (r ∷ rs) zero h s = absurd (omega arith)
  found (r ∷ rs) (suc k) h s = first r rs k s (found rs k (omega arith) (passed r s))

records_numbers : (rs : List Record) → length rs ≤ length (flat_map numbers rs)
unfolding flat_map
records_numbers [] = omega arith
records_numbers (r ∷ rs) = omega (arith, numbers_some r, length-append (numbers r) (flat_map numbers rs), records_numbers rs)

pub places_clauses : (rs : List Record) → Small (flat_map numbers rs) → clauses_at (bytes rs) ≡ clauses rs
unfolding bytes clauses_at
places_clauses rs small =
    found rs (length (bytes rs)) (omega (arith, records_numbers rs, numbers_bytes (flat_map numbers rs)))
    (record { before = []; place = refl; is = refl; small = small })
