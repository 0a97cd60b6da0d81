-- The records of a log: as numbers, as bytes, and read back.
use mathlib.Core.List.{List, [], ◌∷◌, ◌++◌, flat_map}
use Rattle.std.proofs.Math.Option.{Option, none, some}
use Rattle.std.specs.Prelude.{ℕ, zero, suc, length}
use Rattle.number.specs.Number.{encode_in, encode, number, bad, above, read_in, read}
use Rattle.pb.specs.Rules.{Token, step, literal, add, divide, saturate}
use Rattle.pb.specs.Sum.{Term, ◌·◌}

-- A sum with its witness (of redundance-based strengthening: the literal made true plus 1, or 0) and its bound; a derivation; a clause with
-- its step, the number of a constraint; a deletion of steps.
pub data Record : Type 0 where
  sum : ℕ → List Term → ℕ → Record
  derivation : List Token → Record
  clause : ℕ → List ℕ → Record
  deletion : List ℕ → Record

unfoldable pub term_numbers : List Term → List ℕ
term_numbers [] = []
term_numbers ((c · l) ∷ ts) = c ∷ l ∷ term_numbers ts

unfoldable pub token_numbers : List Token → List ℕ
token_numbers [] = []
token_numbers (step n ∷ ks) = 0 ∷ n ∷ token_numbers ks
token_numbers (literal l ∷ ks) = 1 ∷ l ∷ token_numbers ks
token_numbers (add ∷ ks) = 2 ∷ token_numbers ks
token_numbers (divide d ∷ ks) = 3 ∷ d ∷ token_numbers ks
token_numbers (saturate ∷ ks) = 4 ∷ token_numbers ks

-- Kind, then what the kind has.
unfoldable pub numbers : Record → List ℕ
unfolding term_numbers token_numbers
numbers (sum w ts b) = 1 ∷ w ∷ length ts ∷ (term_numbers ts ++ (b ∷ []))
numbers (derivation ks) = 2 ∷ length ks ∷ token_numbers ks
numbers (clause s ls) = 3 ∷ s ∷ length ls ∷ ls
numbers (deletion ss) = 4 ∷ length ss ∷ ss

unfoldable pub bytes : List Record → List ℕ
unfolding encode encode_in numbers flat_map
bytes rs = flat_map encode (flat_map numbers rs)

-- Records of kind 1 and 2, each a step; and of kind 3.
unfoldable pub steps : List Record → ℕ
steps [] = 0
steps (sum w ts b ∷ rs) = suc (steps rs)
steps (derivation ks ∷ rs) = suc (steps rs)
steps (clause s ls ∷ rs) = steps rs
steps (deletion ss ∷ rs) = steps rs

unfoldable pub clauses : List Record → List (List ℕ)
clauses [] = []
clauses (sum w ts b ∷ rs) = clauses rs
clauses (derivation ks ∷ rs) = clauses rs
clauses (clause s ls ∷ rs) = ls ∷ clauses rs
clauses (deletion ss ∷ rs) = clauses rs

-- ---- reading a log back

-- Something read from the front of a list of numbers, and the rest.
pub data Parsed (A : Type 0) : Type 0 where
  parsed : A → List ℕ → Parsed A
  failed : Parsed A

unfoldable pub with_parsed : {A B : Type 0} → (A → B) → Parsed A → Parsed B
with_parsed f (parsed a ns) = parsed (f a) ns
with_parsed f failed = failed

unfoldable pub with_more : {A : Type 0} → A → Option (List A) → Option (List A)
with_more a none = none
with_more a (some l) = some (a ∷ l)

-- All the numbers of a list of bytes. The bound on the recursion is its length: every number takes a byte.
unfoldable pub numbers_in : ℕ → List ℕ → Option (List ℕ)
unfolding read_in above with_more
numbers_in zero [] = some []
numbers_in zero (b ∷ bs) = none
numbers_in (suc k) [] = some []
numbers_in (suc k) (b ∷ bs) = elim (read (b ∷ bs)) [ number x rest ↦ with_more x (numbers_in k rest) | bad ↦ none ]

unfoldable pub parse_many : ℕ → List ℕ → Parsed (List ℕ)
unfolding with_parsed
parse_many zero ns = parsed [] ns
parse_many (suc k) [] = failed
parse_many (suc k) (n ∷ ns) = with_parsed (λ (ls : List ℕ). n ∷ ls) (parse_many k ns)

unfoldable pub parse_terms : ℕ → List ℕ → Parsed (List Term)
unfolding with_parsed
parse_terms zero ns = parsed [] ns
parse_terms (suc k) [] = failed
parse_terms (suc k) (c ∷ []) = failed
parse_terms (suc k) (c ∷ l ∷ ns) = with_parsed (λ (ts : List Term). (c · l) ∷ ts) (parse_terms k ns)

unfoldable pub parse_tokens : ℕ → List ℕ → Parsed (List Token)
unfolding with_parsed
parse_tokens zero ns = parsed [] ns
parse_tokens (suc k) [] = failed
parse_tokens (suc k) (zero ∷ []) = failed
parse_tokens (suc k) (zero ∷ n ∷ ns) = with_parsed (λ (ks : List Token). step n ∷ ks) (parse_tokens k ns)
parse_tokens (suc k) (suc zero ∷ []) = failed
parse_tokens (suc k) (suc zero ∷ l ∷ ns) = with_parsed (λ (ks : List Token). literal l ∷ ks) (parse_tokens k ns)
parse_tokens (suc k) (suc (suc zero) ∷ ns) = with_parsed (λ (ks : List Token). add ∷ ks) (parse_tokens k ns)
parse_tokens (suc k) (suc (suc (suc zero)) ∷ []) = failed
parse_tokens (suc k) (suc (suc (suc zero)) ∷ d ∷ ns) = with_parsed (λ (ks : List Token). divide d ∷ ks) (parse_tokens k ns)
parse_tokens (suc k) (suc (suc (suc (suc zero))) ∷ ns) = with_parsed (λ (ks : List Token). saturate ∷ ks) (parse_tokens k ns)
parse_tokens (suc k) (suc (suc (suc (suc (suc t)))) ∷ ns) = failed

-- The bound after the terms.
unfoldable pub parse_bound : ℕ → Parsed (List Term) → Parsed Record
parse_bound w (parsed ts []) = failed
parse_bound w (parsed ts (b ∷ ns)) = parsed (sum w ts b) ns
parse_bound w failed = failed

-- One record: kind, then what the kind has.
unfoldable pub parse_record : List ℕ → Parsed Record
unfolding parse_bound parse_many parse_terms parse_tokens with_parsed
parse_record [] = failed
parse_record (zero ∷ ns) = failed
parse_record (suc zero ∷ []) = failed
parse_record (suc zero ∷ w ∷ []) = failed
parse_record (suc zero ∷ w ∷ k ∷ ns) = parse_bound w (parse_terms k ns)
parse_record (suc (suc zero) ∷ []) = failed
parse_record (suc (suc zero) ∷ k ∷ ns) = with_parsed derivation (parse_tokens k ns)
parse_record (suc (suc (suc zero)) ∷ []) = failed
parse_record (suc (suc (suc zero)) ∷ s ∷ []) = failed
parse_record (suc (suc (suc zero)) ∷ s ∷ k ∷ ns) = with_parsed (clause s) (parse_many k ns)
parse_record (suc (suc (suc (suc zero))) ∷ []) = failed
parse_record (suc (suc (suc (suc zero))) ∷ k ∷ ns) = with_parsed deletion (parse_many k ns)
parse_record (suc (suc (suc (suc (suc t)))) ∷ ns) = failed

-- All the records of a list of numbers. The bound on the recursion is its length: every record takes a number.
unfoldable pub records_in : ℕ → List ℕ → Option (List Record)
unfolding parse_record with_more
records_in zero [] = some []
records_in zero (n ∷ ns) = none
records_in (suc k) [] = some []
records_in (suc k) (n ∷ ns) = elim (parse_record (n ∷ ns)) [ parsed r rest ↦ with_more r (records_in k rest) | failed ↦ none ]

-- The records of a log, cut at its length.
unfoldable pub decode_log : List ℕ → Option (List Record)
unfolding numbers_in records_in
decode_log bs = elim (numbers_in (length bs) bs) [ none ↦ none | some ns ↦ records_in (length ns) ns ]
