-- The numbers of an accepted script's log fit in the groups of a number, so that the log reads back as its records.
use mathlib.Core.Path.{refl, sym, subst}
use mathlib.Core.Logic.{⊎_elim, dite}
use mathlib.Core.List.Memᴰ
use mathlib.Core.List.{List, [], ◌∷◌, ◌++◌, map, flat_map, Memᴰ}
use Prim.Native.Nat.{ℕ, zero, suc, ◌+◌, ◌-◌, ◌≤◌, ◌<◌, ◌^◌}
use native.Mathlib.Decide.{dec_lt}
use native.Mathlib.Omega.{arith}
use lib.ListN.{length, length-append}
use Rattle.sizes.specs.Sizes.{most_bytes}
use Rattle.number.specs.Number.{groups}
use Rattle.pb.specs.Rules.{Token, step, literal, add, divide, saturate}
use Rattle.pb.specs.Sum.{Term, ◌·◌, neg, units}
use Rattle.memo.proofs.Lists.{map_twice, flat_map_append}
use Rattle.record.specs.Record.{Record, term_numbers, token_numbers, sum, derivation, clause, deletion, numbers, bytes}
use Rattle.record.proofs.Bytes.{numbers_bytes}
use Rattle.record.proofs.Decode.{Small}
use Rattle.record.proofs.Sums.{terms_append}
use Rattle.record.proofs.Tokens.{tokens_append}
use Rattle.totdb.specs.Nodes.{Node, leaves, len, output, range, node_at, outputs}
use Rattle.cert.specs.Definitions.{at_least_zero, real_if, real_only_if, real_records, add_sequence, total, Definition, nothing, axiom_of, stored, Key, if_part, real, only_if_part, window_if, window_only_if, key_records, window_zero, window}
use Rattle.cert.specs.Requests.{Clause, definition, def_tokens, clause_tokens}
use Rattle.cert.proofs.Apart.{range_mem}
use Rattle.cert.proofs.Fits.{KeyFits}

-- ---- lists of numbers below a bound

unfoldable pub AllBelow : ℕ → List ℕ → Type 0
AllBelow b [] = Unit {0}
AllBelow b (n ∷ ns) = (n < b) × AllBelow b ns

pub below_append : (b : ℕ) (ns ms : List ℕ) → AllBelow b ns → AllBelow b ms → AllBelow b (ns ++ ms)
unfolding AllBelow
below_append b [] ms p q = q
below_append b (n ∷ ns) ms p q = (p.0, below_append b ns ms p.1 q)

below_split : (b : ℕ) (ns ms : List ℕ) → AllBelow b (ns ++ ms) → AllBelow b ns × AllBelow b ms
unfolding AllBelow
below_split b [] ms p = (tt, p)
below_split b (n ∷ ns) ms p = let q = below_split b ns ms p.1 in ((p.0, q.0), q.1)

pub below_mono : (b c : ℕ) (ns : List ℕ) → b ≤ c → AllBelow b ns → AllBelow c ns
unfolding AllBelow
below_mono b c [] h p = tt
below_mono b c (n ∷ ns) h p = (omega (arith, p.0), below_mono b c ns h p.1)

pub below_map : (b : ℕ) (f : ℕ → ℕ) (ns : List ℕ) → ((n : ℕ) → Memᴰ n ns → f n < b) → AllBelow b (map f ns)
unfolding AllBelow
below_map b f [] h = tt
below_map b f (n ∷ ns) h = (h n (Memᴰ.head refl), below_map b f ns (λ m i. h m (Memᴰ.tail i)))

pub below_at : (b : ℕ) (ns : List ℕ) → AllBelow b ns → (n : ℕ) → Memᴰ n ns → n < b
unfolding AllBelow
below_at b [] p n m = absurd (Memᴰ.not-nil m)
below_at b (k ∷ ns) p n m = ⊎_elim (λ e. rw e p.0) (below_at b ns p.1 n) (Memᴰ.cases_cons m)

-- ---- the values of a record: all its numbers but kind and count

unfoldable pub values : Record → List ℕ
unfolding term_numbers token_numbers
values (sum w ts b) = w ∷ b ∷ term_numbers ts
values (derivation ks) = token_numbers ks
values (clause s ls) = s ∷ ls
values (deletion ss) = ss

terms_length : (ts : List Term) → length ts ≤ length (term_numbers ts)
unfolding term_numbers
terms_length [] = omega arith
terms_length ((c · l) ∷ ts) = omega (arith, terms_length ts)

tokens_length : (ks : List Token) → length ks ≤ length (token_numbers ks)
unfolding token_numbers
tokens_length [] = omega arith
tokens_length (step n ∷ ks) = omega (arith, tokens_length ks)
tokens_length (literal n ∷ ks) = omega (arith, tokens_length ks)
tokens_length (add ∷ ks) = omega (arith, tokens_length ks)
tokens_length (divide n ∷ ks) = omega (arith, tokens_length ks)
tokens_length (saturate ∷ ks) = omega (arith, tokens_length ks)

below_small : (ns : List ℕ) → AllBelow (128 ^ groups) ns → Small ns
unfolding AllBelow Small
below_small [] p = tt
below_small (n ∷ ns) p = (p.0, below_small ns p.1)

-- A record whose values fit, and which is not too long.
record_below : (b : ℕ) (r : Record) → 4 < b → length (numbers r) < b → AllBelow b (values r) → AllBelow b (numbers r)
unfolding AllBelow values numbers
record_below b (sum w ts n) k l p = (
  omega arith,
  (
    p.0,
    (omega (arith, terms_length ts, length-append (term_numbers ts) (n ∷ [])), below_append b (term_numbers ts) (n ∷ []) p.1.1 (p.1.0, tt)),
  ),
)
record_below b (derivation ks) k l p = (omega arith, (omega (arith, tokens_length ks), p))
record_below b (clause s ls) k l p = (omega arith, (p.0, (omega arith, p.1)))
record_below b (deletion ss) k l p = (omega arith, (omega arith, p))

records_below : (b : ℕ) (rs : List Record) → 4 < b → length (flat_map numbers rs) < b → AllBelow b (flat_map values rs)
    → AllBelow b (flat_map numbers rs)
unfolding flat_map
records_below b [] k l p = unfold AllBelow in tt
records_below b (r ∷ rs) k l p =
    let q = below_split b (values r) (flat_map values rs) p in
    below_append b (numbers r) (flat_map numbers rs) (record_below b r k (omega (arith, length-append (numbers r) (flat_map numbers rs))) q.0)
    (records_below b rs k (omega (arith, length-append (numbers r) (flat_map numbers rs))) q.1)

pub log_small : (rs : List Record) → length (bytes rs) ≤ most_bytes → AllBelow (128 ^ groups) (flat_map values rs) → Small (flat_map numbers rs)
unfolding bytes
log_small rs l p = below_small (flat_map numbers rs)
    (records_below (128 ^ groups) rs (omega arith) (omega (arith, numbers_bytes (flat_map numbers rs))) p)

-- ---- records of a key

-- The literals of a node are low, and it is short.
pub record LowNode (b : ℕ) (x : Node) : Type 0 where
  pub lits : AllBelow b (leaves x)
  pub nots : AllBelow b (map neg (leaves x))
  pub outs : (i : ℕ) → 1 ≤ i → i ≤ len x → (output x i + 1 < b) × (neg (output x i) + 1 < b)
  pub short : len x + 200 < b

units_below : (b : ℕ) (ls : List ℕ) → 1 < b → AllBelow b ls → AllBelow b (term_numbers (units ls))
unfolding term_numbers units AllBelow
units_below b [] h p = tt
units_below b (l ∷ ls) h p = (h, (p.0, units_below b ls h p.1))

zero_below : (b : ℕ) (ls : List ℕ) → 1 < b → AllBelow b ls → AllBelow b (values (at_least_zero ls))
unfolding values at_least_zero AllBelow
zero_below b ls h p = (omega arith, (omega arith, units_below b ls h p))

real_if-below : (b : ℕ) (x : Node) (v : ℕ) → LowNode b x → 1 ≤ v → v ≤ len x → AllBelow b (values (real_if x v))
unfolding values real_if AllBelow
real_if-below b x v p h l =
    let o = p.outs v h l in
    let s = p.short in (
      o.0,
      (
        omega arith,
        subst (AllBelow b) (sym (terms_append (units (map neg (leaves x))) ((len x + 1 - v) · output x v ∷ [])))
            (below_append b (term_numbers (units (map neg (leaves x)))) (term_numbers ((len x + 1 - v) · output x v ∷ []))
            (units_below b (map neg (leaves x)) (omega arith) p.nots) (unfold term_numbers AllBelow in (omega arith, (omega (arith, o.0), tt)))),
      ),
    )

real_only_below : (b : ℕ) (x : Node) (v : ℕ) → LowNode b x → 1 ≤ v → v ≤ len x → AllBelow b (values (real_only_if x v))
unfolding values real_only_if AllBelow
real_only_below b x v p h l =
    let o = p.outs v h l in
    let s = p.short in (
      o.1,
      (
        omega arith,
        subst (AllBelow b) (sym (terms_append (units (leaves x)) (v · neg (output x v) ∷ [])))
            (below_append b (term_numbers (units (leaves x))) (term_numbers (v · neg (output x v) ∷ [])) (units_below b (leaves x) (omega arith) p.lits)
            (unfold term_numbers AllBelow in (omega arith, (omega (arith, o.1), tt)))),
      ),
    )

one_record : (b : ℕ) (r : Record) → AllBelow b (values r) → AllBelow b (flat_map values (r ∷ []))
unfolding flat_map
one_record b r p = below_append b (values r) [] p (unfold AllBelow in tt)

two_records : (b : ℕ) (r q : Record) (rs : List Record) → AllBelow b (values r) → AllBelow b (values q) → AllBelow b (flat_map values rs)
    → AllBelow b (flat_map values (r ∷ q ∷ rs))
unfolding flat_map
two_records b r q rs p o z = below_append b (values r) (values q ++ flat_map values rs) p (below_append b (values q) (flat_map values rs) o z)

real_records-below : (b : ℕ) (x : Node) (v : ℕ) → LowNode b x → AllBelow b (flat_map values (real_records x v))
unfolding real_records
real_records-below b x zero p = one_record b (at_least_zero (leaves x)) (zero_below b (leaves x) (omega (arith, p.short)) p.lits)
real_records-below b x (suc v) p = by (dec_lt (len x) (suc v))
  where
    by : (d : Dec (len x < suc v))
        → AllBelow b (flat_map values
        (dite {C = List Record} d (λ _. at_least_zero (map neg (leaves x)) ∷ []) (λ _. real_if x (suc v) ∷ real_only_if x (suc v) ∷ [])))
    by (yes e) = one_record b (at_least_zero (map neg (leaves x))) (zero_below b (map neg (leaves x)) (omega (arith, p.short)) p.nots)
    by (no e) = two_records b (real_if x (suc v)) (real_only_if x (suc v)) [] (real_if-below b x (suc v) p (omega arith) (omega arith))
        (real_only_below b x (suc v) p (omega arith) (omega arith)) (unfold flat_map AllBelow in tt)

-- ---- derivations

abbrev TokensBelow : ℕ → List Token → Type 0
TokensBelow b ks = AllBelow b (token_numbers ks)

join_below : (b : ℕ) (ks js : List Token) → TokensBelow b ks → TokensBelow b js → TokensBelow b (ks ++ js)
join_below b ks js p q = subst (AllBelow b) (sym (tokens_append ks js)) (below_append b (token_numbers ks) (token_numbers js) p q)

plus_below : (b : ℕ) → 4 < b → TokensBelow b (add ∷ [])
unfolding token_numbers AllBelow
plus_below b h = (omega arith, tt)

add_text_below : (b : ℕ) (ks js : List Token) → 4 < b → TokensBelow b ks → TokensBelow b js → TokensBelow b (add_sequence ks js)
unfolding add_sequence
add_text_below b ks [] h p q = p
add_text_below b ks (j ∷ js) h p q = join_below b ks ((j ∷ js) ++ (add ∷ [])) p (join_below b (j ∷ js) (add ∷ []) q (plus_below b h))

total_below : (b : ℕ) (f : ℕ → List Token) (ks : List Token) (vs : List ℕ) → 4 < b → TokensBelow b ks
    → ((v : ℕ) → Memᴰ v vs → TokensBelow b (f v)) → TokensBelow b (total ks (map f vs))
unfolding total
total_below b f ks [] h p q = p
total_below b f [] (v ∷ vs) h p q = total_below b f (f v) vs h (q v (Memᴰ.head refl)) (λ u m. q u (Memᴰ.tail m))
total_below b f (k ∷ ks) (v ∷ vs) h p q =
    total_below b f (add_sequence (k ∷ ks) (f v)) vs h (add_text_below b (k ∷ ks) (f v) h p (q v (Memᴰ.head refl))) (λ u m. q u (Memᴰ.tail m))

-- ---- windows and clauses, where the steps are low

-- A definition with a low literal, or at a low place.
unfoldable pub DefLow : ℕ → Definition → Type 0
DefLow b nothing = Unit {0}
DefLow b (axiom_of l) = l < b
DefLow b (stored k i) = i ≤ 130

module _ (b : ℕ) (at_step : Key → ℕ → ℕ) (low-steps : (k : Key) (i : ℕ) → i ≤ 130 → at_step k i < b) (big : 200 < b) where
  lit_below : (l : ℕ) → l < b → TokensBelow b (literal l ∷ [])
  unfolding token_numbers AllBelow
  lit_below l h = (omega arith, (h, tt))

  piece_below : (k j : Key) (i u d : ℕ) → i ≤ 130 → u ≤ 130 → d < b
      → TokensBelow b (step (at_step k i) ∷ step (at_step j u) ∷ add ∷ divide d ∷ saturate ∷ [])
  unfolding token_numbers AllBelow
  piece_below k j i u d h g l =
      (omega arith, (low-steps k i h, (omega arith, (low-steps j u g, (omega arith, (omega arith, (l, (omega arith, tt))))))))

  nil_below : TokensBelow b []
  unfolding token_numbers AllBelow
  nil_below = tt

  if_part-below : (n : ℕ) (x : Node) (v s : ℕ) → LowNode b x → 1 ≤ v → v ≤ len x → 1 ≤ s → s ≤ len x → TokensBelow b (if_part at_step n x v s)
  unfolding if_part
  if_part-below n x v s p hv lv hs ls = by (dec_lt s v) (dec_lt v s)
    where
      by : (c : Dec (s < v)) (d : Dec (v < s))
          → TokensBelow b (dite {C = List Token} c (λ _. literal (neg (output x s)) ∷ [])
          (λ _. dite {C = List Token} d (λ _. step (at_step (real n v) 0) ∷ step (at_step (real n s) 1) ∷ add ∷ divide (s - v + 1) ∷ saturate ∷ [])
          (λ _. [])))
      by (yes e) d = lit_below (neg (output x s)) (omega (arith, p.outs s hs ls))
      by (no e) (yes f) = piece_below (real n v) (real n s) 0 1 (s - v + 1) (omega arith) (omega arith) (omega (arith, p.short))
      by (no e) (no f) = nil_below

  only_if_part-below : (n : ℕ) (x : Node) (v s : ℕ) → LowNode b x → 1 ≤ v → v ≤ len x → 1 ≤ s → s ≤ len x → TokensBelow b (only_if_part at_step n x v s)
  unfolding only_if_part
  only_if_part-below n x v s p hv lv hs ls = by (dec_lt s v) (dec_lt v s)
    where
      by : (c : Dec (s < v)) (d : Dec (v < s))
          → TokensBelow b (dite {C = List Token} c
          (λ _. step (at_step (real n v) 1) ∷ step (at_step (real n s) 0) ∷ add ∷ divide (v - s + 1) ∷ saturate ∷ [])
          (λ _. dite {C = List Token} d (λ _. literal (output x s) ∷ []) (λ _. [])))
      by (yes e) d = piece_below (real n v) (real n s) 1 0 (v - s + 1) (omega arith) (omega arith) (omega (arith, p.short))
      by (no e) (yes f) = lit_below (output x s) (omega (arith, p.outs s hs ls))
      by (no e) (no f) = nil_below

  module _ (n : ℕ) (x : Node) (f m : ℕ) (p : LowNode b x) (fits : f + m ≤ len x) where
    inside : (v : ℕ) → Memᴰ v (range (f + 1) m) → (1 ≤ v) × (v ≤ len x)
    inside v i = omega (arith, range_mem (f + 1) m v i)

    windows_below : (vs : List ℕ) → ((v : ℕ) → Memᴰ v vs → (1 ≤ v) × (v ≤ len x))
        → AllBelow b (flat_map values (flat_map {B = Record} (λ (v : ℕ). window_if at_step n x f m v ∷ window_only_if at_step n x f m v ∷ []) vs))
    unfolding flat_map window_if window_only_if values
    windows_below [] h = unfold AllBelow in tt
    windows_below (v ∷ vs) h =
        let hv = h v (Memᴰ.head refl) in
        below_append b (token_numbers (total [] (map (if_part at_step n x v) (range (f + 1) m)))) _
        (total_below b (if_part at_step n x v) [] (range (f + 1) m) (omega arith) nil_below
        (λ s i. let k = inside s i in if_part-below n x v s p hv.0 hv.1 k.0 k.1))
        (below_append b (token_numbers (total [] (map (only_if_part at_step n x v) (range (f + 1) m)))) _
        (total_below b (only_if_part at_step n x v) [] (range (f + 1) m) (omega arith) nil_below
        (λ s i. let k = inside s i in only_if_part-below n x v s p hv.0 hv.1 k.0 k.1))
        (windows_below vs (λ u i. h u (Memᴰ.tail i))))

    outputs_below : AllBelow b (outputs x f m)
    unfolding outputs
    outputs_below = below_map b (output x) (range (f + 1) m) (λ v i. let k = inside v i in omega (arith, p.outs v k.0 k.1))

    negs_below : AllBelow b (map neg (outputs x f m))
    unfolding outputs
    negs_below = subst (AllBelow b) (sym (map_twice (output x) neg (range (f + 1) m)))
        (below_map b (λ (v : ℕ). neg (output x v)) (range (f + 1) m) (λ v i. let k = inside v i in omega (arith, p.outs v k.0 k.1)))

  pub key_records-below : (t : List Node) → ((n : ℕ) → n < length t → LowNode b (node_at t n)) → (k : Key) → KeyFits t k
      → AllBelow b (flat_map values (key_records at_step t k))
  unfolding key_records KeyFits
  key_records-below t low (real n v) g = real_records-below b (node_at t n) v (low n g.0)
  key_records-below t low (window_zero n f m) g =
      one_record b (at_least_zero (outputs (node_at t n) f m))
      (zero_below b (outputs (node_at t n) f m) (omega arith) (outputs_below n (node_at t n) f m (low n g.0) g.1))
  key_records-below t low (window n f m) g =
      subst (AllBelow b) (sym
      (flat_map_append values
      (flat_map {B = Record} (λ (v : ℕ). window_if at_step n (node_at t n) f m v ∷ window_only_if at_step n (node_at t n) f m v ∷ []) (range (f + 1) m))
      (at_least_zero (map neg (outputs (node_at t n) f m)) ∷ [])))
      (below_append b _ _ (windows_below n (node_at t n) f m (low n g.0) g.1 (range (f + 1) m) (inside n (node_at t n) f m (low n g.0) g.1))
      (one_record b (at_least_zero (map neg (outputs (node_at t n) f m)))
      (zero_below b (map neg (outputs (node_at t n) f m)) (omega arith) (negs_below n (node_at t n) f m (low n g.0) g.1))))

  def_tokens-below : (d : Definition) → DefLow b d → TokensBelow b (def_tokens at_step d)
  unfolding def_tokens DefLow
  def_tokens-below nothing p = nil_below
  def_tokens-below (axiom_of l) p = lit_below l p
  def_tokens-below (stored k i) p = unfold token_numbers AllBelow in (omega arith, (low-steps k i p, tt))

  pub clause_tokens-below : (t : List Node) (c : Clause) → DefLow b (definition t c.left) → DefLow b (definition t c.right)
      → DefLow b (definition t c.this) → TokensBelow b (clause_tokens at_step t c)
  unfolding clause_tokens
  clause_tokens-below t c l r th =
      let left = def_tokens at_step (definition t c.left) in
      let right = def_tokens at_step (definition t c.right) in
      let this = def_tokens at_step (definition t c.this) in
      join_below b (add_sequence (add_sequence this left) right) (saturate ∷ [])
      (add_text_below b (add_sequence this left) right (omega arith)
      (add_text_below b this left (omega arith) (def_tokens-below (definition t c.this) th) (def_tokens-below (definition t c.left) l))
      (def_tokens-below (definition t c.right) r))
      (unfold token_numbers AllBelow in (omega arith, tt))
