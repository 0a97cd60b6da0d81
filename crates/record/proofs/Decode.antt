-- A log read back gives its records, where every number fits in the groups of a number.
use mathlib.Core.Path.{◌≡◌, refl}
use mathlib.Core.List.{List, [], ◌∷◌, ◌++◌, flat_map, append_assoc}
use mathlib.Core.Option.{some}
use Prim.Native.Nat.{ℕ, zero, suc, ◌^◌, ◌≤◌, ◌<◌}
use native.Mathlib.Omega.{arith}
use lib.ListN.{length, length-append}
use Rattle.number.specs.Number.{groups, encode, number, read}
use Rattle.number.proofs.Laws.{encode_some, read_encode}
use Rattle.pb.specs.Rules.{Token, step, literal, add, divide, saturate}
use Rattle.pb.specs.Sum.{Term, ◌·◌}
use Rattle.record.specs.Record.{numbers, parsed, numbers_in, with_more, parse_many, with_parsed, parse_terms, term_numbers, parse_tokens, token_numbers, Record, parse_record, parse_bound, sum, derivation, clause, deletion, records_in, decode_log, bytes}

-- ---- numbers

-- Every number of a list fits.
unfoldable pub Small : List ℕ → Type 0
Small [] = Unit {0}
Small (n ∷ ns) = (n < 128 ^ groups) × Small ns

read_on : (bs : List ℕ) (k x : ℕ) (rest ns : List ℕ) → 0 < length bs → read bs ≡ number x rest → numbers_in k rest ≡ some ns → numbers_in (suc k) bs ≡ some (x ∷ ns)
unfolding numbers_in with_more
read_on [] k x rest ns l e f = absurd (omega arith)
read_on (b ∷ bs) k x rest ns l e f = rw (e, numbers_in) (rw f)

numbers_back : (ns : List ℕ) (k : ℕ) → length (flat_map encode ns) ≤ k → Small ns → numbers_in k (flat_map encode ns) ≡ some ns
unfolding numbers_in flat_map Small
numbers_back [] zero h s = refl
numbers_back [] (suc k) h s = refl
numbers_back (n ∷ ns) zero h s = absurd (omega (arith, encode_some n, length-append (encode n) (flat_map encode ns)))
numbers_back (n ∷ ns) (suc k) h s =
    let l = length-append (encode n) (flat_map encode ns) in
    read_on (encode n ++ flat_map encode ns) k n (flat_map encode ns) ns (omega (arith, encode_some n, l)) (read_encode n (flat_map encode ns) s.0)
    (numbers_back ns k (omega (arith, encode_some n, l)) s.1)

-- ---- records

many_back : (ls rest : List ℕ) → parse_many (length ls) (ls ++ rest) ≡ parsed ls rest
unfolding parse_many with_parsed
many_back [] rest = refl
many_back (l ∷ ls) rest = rw (many_back ls rest)

terms_back : (ts : List Term) (rest : List ℕ) → parse_terms (length ts) (term_numbers ts ++ rest) ≡ parsed ts rest
unfolding parse_terms term_numbers with_parsed
terms_back [] rest = refl
terms_back ((c · l) ∷ ts) rest = rw (terms_back ts rest)

tokens_back : (ks : List Token) (rest : List ℕ) → parse_tokens (length ks) (token_numbers ks ++ rest) ≡ parsed ks rest
unfolding parse_tokens token_numbers with_parsed
tokens_back [] rest = refl
tokens_back (step n ∷ ks) rest = rw (tokens_back ks rest)
tokens_back (literal l ∷ ks) rest = rw (tokens_back ks rest)
tokens_back (add ∷ ks) rest = rw (tokens_back ks rest)
tokens_back (divide d ∷ ks) rest = rw (tokens_back ks rest)
tokens_back (saturate ∷ ks) rest = rw (tokens_back ks rest)

record_back : (r : Record) (rest : List ℕ) → parse_record (numbers r ++ rest) ≡ parsed r rest
unfolding parse_record numbers parse_bound with_parsed
record_back (sum w ts b) rest = rw (append_assoc (term_numbers ts) (b ∷ []) rest, terms_back ts (b ∷ rest))
record_back (derivation ks) rest = rw (tokens_back ks rest)
record_back (clause s ls) rest = rw (many_back ls rest)
record_back (deletion ss) rest = rw (many_back ss rest)

pub numbers_some : (r : Record) → 0 < length (numbers r)
unfolding numbers
numbers_some (sum w ts b) = omega arith
numbers_some (derivation ks) = omega arith
numbers_some (clause s ls) = omega arith
numbers_some (deletion ss) = omega arith

parse_on : (ns : List ℕ) (k : ℕ) (r : Record) (rest : List ℕ) (rs : List Record) → 0 < length ns → parse_record ns ≡ parsed r rest
    → records_in k rest ≡ some rs → records_in (suc k) ns ≡ some (r ∷ rs)
unfolding records_in with_more
parse_on [] k r rest rs l e f = absurd (omega arith)
parse_on (n ∷ ns) k r rest rs l e f = rw (e, records_in) (rw f)

records_back : (rs : List Record) (k : ℕ) → length (flat_map numbers rs) ≤ k → records_in k (flat_map numbers rs) ≡ some rs
unfolding records_in flat_map
records_back [] zero h = refl
records_back [] (suc k) h = refl
records_back (r ∷ rs) zero h = absurd (omega (arith, numbers_some r, length-append (numbers r) (flat_map numbers rs)))
records_back (r ∷ rs) (suc k) h =
    let l = length-append (numbers r) (flat_map numbers rs) in
    parse_on (numbers r ++ flat_map numbers rs) k r (flat_map numbers rs) rs (omega (arith, numbers_some r, l)) (record_back r (flat_map numbers rs))
    (records_back rs k (omega (arith, numbers_some r, l)))

pub decode_bytes : (rs : List Record) → Small (flat_map numbers rs) → decode_log (bytes rs) ≡ some rs
unfolding decode_log bytes
decode_bytes rs s = rw (numbers_back (flat_map numbers rs) (length (flat_map encode (flat_map numbers rs))) (omega arith) s, decode_log)
    (records_back rs (length (flat_map numbers rs)) (omega arith))
