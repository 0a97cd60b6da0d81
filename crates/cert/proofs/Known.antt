-- The steps of every stored key come to the sums that document 01 gives for it: real definitions as written,
-- and a window's derivations to its definitions.
use mathlib.Core.Path.{◌≡◌, refl, sym, ◌∙◌, ap, subst}
use mathlib.Core.Logic.{◌≢◌, dite, ⊎_elim}
use mathlib.Core.List.Memᴰ
use mathlib.Core.List.{List, [], ◌∷◌, ◌++◌, map, flat_map, map-append, append_assoc, append-nil, Memᴰ}
use mathlib.Core.Option.{Option, none, some}
use Prim.Native.Nat.{ℕ, zero, suc, ◌+◌, ◌-◌, ◌≤◌, ◌<◌}
use native.Mathlib.Decide.{dec_lt}
use native.Mathlib.Omega.{arith}
use borrow.Author.Tests.{le-ltb}
use lib.ListN.{length, get_or, get_or-append}
use lib.Seq.{get_or-append-add}
use Rattle.pb.specs.Rules.{evaluate}
use Rattle.pb.specs.Sum.{Sum, normal, ◌≥◌, keep, ◌·◌, neg, Term, units, variable}
use Rattle.pb.proofs.Normal.{Off, Apart}
use Rattle.record.specs.Record.{Record, sum, derivation, clause, deletion, steps}
use Rattle.record.specs.Steps.{Defined, written, derived, sums_after, step_sum}
use Rattle.record.proofs.Steps.{sums_append, sums_grow, sums_length}
use Rattle.totdb.specs.Nodes.{Node, len, leaves, output, range, join, leaf, node_at, outputs}
use Rattle.totdb.specs.declared.Side.{Side}
use Rattle.cert.specs.Definitions.{Key, defined_by, real_records, real_if, real_only_if, at_least_zero, as_written, real, outputs_before, outputs_after, total, if_part, window_if_sum, only_if_part, window_only_if_sum, window_if, window_only_if, pulls, window, key_records, window_zero}
use Rattle.cert.specs.Equal.{key_dec}
use Rattle.cert.specs.State.{Stored, from_in, State, keys, step_in, define, Head}
use Rattle.cert.proofs.Apart.{range_mem}
use Rattle.cert.proofs.Counts.{steps_append}
use Rattle.cert.proofs.Distinct.{Different, different_apart, outputs_different, output_inj, Distinct, off_units}
use Rattle.cert.proofs.Fits.{KeyFits}
use Rattle.cert.proofs.Totalizer.{real_if_sum, real_only_if_sum}
use Rattle.cert.proofs.Pulls.{pulls_real}
use Rattle.cert.proofs.WindowDerivations.{range_around, window_if_evaluates, window_only_if_evaluates}

-- The sum of a definition.
unfoldable pub sum_of : Defined → Option Sum
sum_of (written w ts b) = some (normal (ts ≥ b))
sum_of (derived s) = s

-- ---- a part of the sums known

-- From place p on, the sums known are xs.
pub record Segment (known : List (Option Sum)) (p : ℕ) (xs : List (Option Sum)) : Type 0 where
  pub pre : List (Option Sum)
  pub post : List (Option Sum)
  pub whole : known ≡ pre ++ (xs ++ post)
  pub place : length pre ≡ p

segment_more : (known ext : List (Option Sum)) (p : ℕ) (xs : List (Option Sum)) → Segment known p xs → Segment (known ++ ext) p xs
segment_more known ext p xs s =
    record {
      pre = s.pre;
      post = s.post ++ ext;
      whole = ap (λ (l : List (Option Sum)). l ++ ext) s.whole
          ∙ append_assoc s.pre (xs ++ s.post) ext ∙ ap (λ (l : List (Option Sum)). s.pre ++ l) (append_assoc xs s.post ext);
      place = s.place;
    }

pub segment_step : (first : ℕ) (known : List (Option Sum)) (p : ℕ) (xs : List (Option Sum)) → Segment known p xs → (i : ℕ) → i < length xs
    → step_sum first known (first + p + i) ≡ get_or xs i none
unfolding step_sum
segment_step first known p xs s i h =
    rw (le-ltb (first + p + i) first (omega arith), step_sum)
    (let e : first + p + i - first ≡ length s.pre + i = omega (arith, s.place) in
    rw (e, s.whole) (get_or-append-add s.pre (xs ++ s.post) i none ∙ get_or-append xs s.post none i h))

-- ---- what is stored

pub from_in-found : (es : List Stored) (k : Key) → Memᴰ k (map {B = Key} (λ (e : Stored). e.key) es) → (e : Stored) × Memᴰ e es
    × (e.key ≡ k) × (from_in es k ≡ e.from)
unfolding from_in
from_in-found [] k m = absurd (Memᴰ.not-nil m)
from_in-found (e ∷ es) k m = by (key_dec e.key k) (from_in-found es k)
  where
    by : (c : Dec (e.key ≡ k))
        → (Memᴰ k (map {B = Key} (λ (e : Stored). e.key) es) → (d : Stored) × Memᴰ d es × (d.key ≡ k) × (from_in es k ≡ d.from))
        → (d : Stored) × Memᴰ d (e ∷ es) × (d.key ≡ k) × (dite {C = ℕ} c (λ _. e.from) (λ _. from_in es k) ≡ d.from)
    by (yes q) ih = (e, Memᴰ.head refl, q, refl)
    by (no q) ih = let r = ih (⊎_elim (λ z. absurd (q (sym z))) (λ i. i) (Memᴰ.cases_cons m)) in (r.0, Memᴰ.tail r.1, r.2, r.3)

-- The invariant, over a table.
pub record KnownIn (h : Head) (t : List Node) (s : State) : Type 0 where
  pub next : s.next_step ≡ h.step + steps s.log
  pub sums : (e : Stored) → Memᴰ e s.stored → (p : ℕ) × (e.from ≡ h.step + p)
      × Segment (sums_after h.step [] s.log) p (map sum_of (defined_by t e.key))

-- ---- real definitions

pub keep_pos : (c l : ℕ) → 0 < c → keep c l [] ≡ c · l ∷ []
unfolding keep
keep_pos zero l h = absurd (omega arith)
keep_pos (suc c) l h = refl

pub real_two : (x : Node) (v : ℕ) → 1 ≤ v → v ≤ len x → real_records x v ≡ real_if x v ∷ real_only_if x v ∷ []
unfolding real_records
real_two x zero a b = absurd (omega arith)
real_two x (suc v) a b = by (dec_lt (len x) (suc v))
  where
    by : (d : Dec (len x < suc v))
        → dite {C = List Record} d (λ _. at_least_zero (map neg (leaves x)) ∷ []) (λ _. real_if x (suc v) ∷ real_only_if x (suc v) ∷ []) ≡ real_if x
        (suc v) ∷ real_only_if x (suc v) ∷ []
    by (yes e) = absurd (omega arith)
    by (no e) = refl

if_sum : (x : Node) (v : ℕ) → v ≤ len x → map sum_of (as_written (real_if x v)) ≡ some (normal (real_if_sum (leaves x) (output x v) v)) ∷ []
unfolding real_if as_written sum_of real_if_sum len
if_sum x v h = rw (keep_pos (length (leaves x) + 1 - v) (output x v) (omega arith))

only_sum : (x : Node) (v : ℕ) → 1 ≤ v → map sum_of (as_written (real_only_if x v)) ≡ some (normal (real_only_if_sum (leaves x) (output x v) v)) ∷ []
unfolding real_only_if as_written sum_of real_only_if_sum
only_sum x v h = rw (keep_pos v (neg (output x v)) h)

pub real_sums : (x : Node) (v : ℕ) → 1 ≤ v → v ≤ len x
    → map sum_of (flat_map as_written (real_records x v)) ≡ some (normal (real_if_sum (leaves x) (output x v) v)) ∷ some
    (normal (real_only_if_sum (leaves x) (output x v) v)) ∷ []
unfolding flat_map
real_sums x v a b =
    ap (λ (rs : List Record). map sum_of (flat_map as_written rs)) (real_two x v a b)
    ∙ map-append sum_of (as_written (real_if x v)) (as_written (real_only_if x v) ++ [])
    ∙ rw (if_sum x v b, append-nil (as_written (real_only_if x v)), only_sum x v a)

-- ---- what the records of a key come to

-- Records of kind 1 come to their sums.
plain_sums : (first : ℕ) (known : List (Option Sum)) (rs : List Record)
    → ((r : Record) → Memᴰ r rs → (w : ℕ) × (ts : List Term) × (b : ℕ) × (r ≡ sum w ts b))
    → sums_after first known rs ≡ known ++ map sum_of (flat_map as_written rs)
unfolding sums_after flat_map as_written sum_of
plain_sums first known [] h = sym (append-nil known)
plain_sums first known (sum w ts b ∷ rs) h =
    (plain_sums first (known ++ (some (normal (ts ≥ b)) ∷ [])) rs (λ r m. h r (Memᴰ.tail m))
    ∙ append_assoc known (some (normal (ts ≥ b)) ∷ []) (map sum_of (flat_map as_written rs)))
plain_sums first known (derivation ks ∷ rs) h =
    absurd (let k = h (derivation ks) (Memᴰ.head refl) in let e = k.3 in let z : ◌≡◌ {A = ℕ} 0 1 = cc in omega arith)
plain_sums first known (clause s ls ∷ rs) h =
    absurd (let k = h (clause s ls) (Memᴰ.head refl) in let e = k.3 in let z : ◌≡◌ {A = ℕ} 0 1 = cc in omega arith)
plain_sums first known (deletion ss ∷ rs) h =
    absurd (let k = h (deletion ss) (Memᴰ.head refl) in let e = k.3 in let z : ◌≡◌ {A = ℕ} 0 1 = cc in omega arith)

abbrev IsSum : Record → Type 0
IsSum r = (w : ℕ) × (ts : List Term) × (b : ℕ) × (r ≡ sum w ts b)

zero_plain : (ls : List ℕ) → IsSum (at_least_zero ls)
unfolding at_least_zero
zero_plain ls = (0, units ls, 0, refl)

real_plain : (x : Node) (v : ℕ) (r : Record) → Memᴰ r (real_records x v) → IsSum r
unfolding real_records
real_plain x zero r m = let e : r ≡ at_least_zero (leaves x) = Memᴰ.eq_of_singleton m in subst IsSum (sym e) (zero_plain (leaves x))
real_plain x (suc v) r m = by (dec_lt (len x) (suc v)) m
  where
    by : (d : Dec (len x < suc v))
        → Memᴰ r (dite {C = List Record} d (λ _. at_least_zero (map neg (leaves x)) ∷ []) (λ _. real_if x (suc v) ∷ real_only_if x (suc v) ∷ []))
        → IsSum r
    by (yes e) m = let q : r ≡ at_least_zero (map neg (leaves x)) = Memᴰ.eq_of_singleton m in subst IsSum (sym q) (zero_plain (map neg (leaves x)))
    by (no e) m = ⊎_elim
        (λ q. subst IsSum (sym q)
        (unfold real_if in (
          output x (suc v) + 1,
          units (map neg (leaves x)) ++ ((len x + 1 - suc v) · output x (suc v) ∷ []),
          len x + 1 - suc v,
          refl,
        ))) (λ i. let q : r ≡ real_only_if x (suc v) = Memᴰ.eq_of_singleton i in
        subst IsSum (sym q) (unfold real_only_if in
        (neg (output x (suc v)) + 1, units (leaves x) ++ (suc v · neg (output x (suc v)) ∷ []), suc v, refl))) (Memᴰ.cases_cons m)

one_plain : (first : ℕ) (known : List (Option Sum)) (ls : List ℕ)
    → sums_after first known (at_least_zero ls ∷ []) ≡ known ++ map sum_of (written 0 (units ls) 0 ∷ [])
unfolding sums_after at_least_zero sum_of
one_plain first known ls = refl

module _ (first : ℕ) (known : List (Option Sum)) (at_step : Key → ℕ → ℕ) (n : ℕ) (x : Node) (f m : ℕ) (inside : f + m ≤ len x) (some_more : 1 < m)
    (different : Different (leaves x))
    (off : (s : ℕ) → f < s → s ≤ f + m → Off (variable (output x s)) (units (leaves x)))
    (ready-if : (ext : List (Option Sum)) (s : ℕ) → f < s → s ≤ f + m
    → step_sum first (known ++ ext) (at_step (real n s) 0) ≡ some (normal (real_if_sum (leaves x) (output x s) s)))
    (ready-only : (ext : List (Option Sum)) (s : ℕ) → f < s → s ≤ f + m
    → step_sum first (known ++ ext) (at_step (real n s) 1) ≡ some (normal (real_only_if_sum (leaves x) (output x s) s))) where
  outs_apart : (v : ℕ) → f < v → v ≤ f + m → Apart (units (outputs_before x f v ++ output x v ∷ outputs_after x f m v))
  unfolding outputs_before outputs_after
  outs_apart v h l = subst (λ (o : List ℕ). Apart (units o))
      (ap (map (output x)) (range_around f m v h l) ∙ map-append (output x) (range (f + 1) (v - (f + 1))) (v ∷ range (v + 1) (f + m - v)))
      (different_apart (map (output x) (range (f + 1) m)) (outputs_different x (f + 1) m (omega arith) (omega arith)))

  differ : (s v : ℕ) → f < s → s ≤ f + m → f < v → v ≤ f + m → s ≢ v → variable (output x s) ≢ variable (output x v)
  differ s v a b c d ne = output_inj x s v (omega arith) (omega arith) (omega arith) (omega arith) ne

  fits : f + m ≤ length (leaves x)
  fits = unfold len in inside

  if_evaluates : (ext : List (Option Sum)) (v : ℕ) → f < v → v ≤ f + m
      → evaluate (step_sum first (known ++ ext)) (total [] (map (if_part at_step n x v) (range (f + 1) m))) ≡ some (window_if_sum x f m v)
  if_evaluates ext v h l =
      window_if_evaluates (step_sum first (known ++ ext)) at_step n x (leaves x) f m fits (different_apart (leaves x) different) off differ
      (ready-if ext) (ready-only ext) v h l some_more (outs_apart v h l)

  only_if_evaluates : (ext : List (Option Sum)) (v : ℕ) → f < v → v ≤ f + m
      → evaluate (step_sum first (known ++ ext)) (total [] (map (only_if_part at_step n x v) (range (f + 1) m))) ≡ some (window_only_if_sum x f m v)
  only_if_evaluates ext v h l =
      window_only_if_evaluates (step_sum first (known ++ ext)) at_step n x (leaves x) f m fits (different_apart (leaves x) different) off differ
      (ready-if ext) (ready-only ext) v h l some_more (outs_apart v h l)

  windows_sums : (vs : List ℕ) → ((v : ℕ) → Memᴰ v vs → (f < v) × (v ≤ f + m)) → (ext : List (Option Sum))
      → sums_after first (known ++ ext) (flat_map {B = Record} (λ (v : ℕ). window_if at_step n x f m v ∷ window_only_if at_step n x f m v ∷ []) vs)
      ≡ known ++ (ext ++ map sum_of
      (flat_map {B = Defined} (λ (v : ℕ). derived (some (window_if_sum x f m v)) ∷ derived (some (window_only_if_sum x f m v)) ∷ []) vs))
  unfolding flat_map sums_after window_if window_only_if sum_of
  windows_sums [] h ext = ap (λ (l : List (Option Sum)). known ++ l) (sym (append-nil ext))
  windows_sums (v ∷ vs) h ext =
      let k = h v (Memᴰ.head refl) in
      let a : Option Sum = some (window_if_sum x f m v) in
      let b : Option Sum = some (window_only_if_sum x f m v) in
      let e1 : (known ++ ext) ++ (a ∷ []) ≡ known ++ (ext ++ (a ∷ [])) = append_assoc known ext (a ∷ []) in
      let e2 : (known ++ (ext ++ (a ∷ []))) ++ (b ∷ []) ≡ known ++ ((ext ++ (a ∷ [])) ++ (b ∷ [])) = append_assoc known (ext ++ (a ∷ [])) (b ∷ []) in
      rw (if_evaluates ext v k.0 k.1, e1, only_if_evaluates (ext ++ (a ∷ [])) v k.0 k.1, e2)
      (windows_sums vs (λ u i. h u (Memᴰ.tail i)) ((ext ++ (a ∷ [])) ++ (b ∷ []))
      ∙ ap (λ (l : List (Option Sum)). known ++ l) (append_assoc (ext ++ (a ∷ [])) (b ∷ []) _ ∙ append_assoc ext (a ∷ []) _))

-- ---- the acts keep the invariant

abbrev pub known_of : Head → State → List (Option Sum)
known_of h s = sums_after h.step [] s.log

-- A node longer than 1 is a join.
pub long_join : (x : Node) → 1 < len x → (ls : List ℕ) × (o : ℕ) × (a : Side) × (b : Side) × (x ≡ join ls o a b)
unfolding len leaves
long_join (leaf l) h = absurd (omega arith)
long_join (join ls o a b) h = (ls, o, a, b, refl)

module _ (h : Head) (t : List Node) (d : Distinct t) (s : State) (k : KnownIn h t s) where
  pub real_ready : (n v : ℕ) → 1 ≤ v → v ≤ len (node_at t n) → Memᴰ (real n v) (keys s) → (ext : List (Option Sum)) (i : ℕ) (z : Option Sum) → i < 2
      → get_or (some (normal (real_if_sum (leaves (node_at t n)) (output (node_at t n) v) v)) ∷ some
      (normal (real_only_if_sum (leaves (node_at t n)) (output (node_at t n) v) v)) ∷ []) i none ≡ z
      → step_sum h.step (known_of h s ++ ext) (step_in s.stored (real n v) i) ≡ z
  unfolding step_in keys defined_by
  real_ready n v a b m ext i z l e =
      let f = from_in-found s.stored (real n v) m in
      let g = k.sums f.0 f.1 in
      let same : map sum_of (defined_by t f.0.key) ≡ some (normal (real_if_sum (leaves (node_at t n)) (output (node_at t n) v) v)) ∷ some
      (normal (real_only_if_sum (leaves (node_at t n)) (output (node_at t n) v) v)) ∷ [] = ap (λ (j : Key). map sum_of (defined_by t j)) f.2
      ∙ real_sums (node_at t n) v a b in
      let seg = segment_more (known_of h s) ext g.0 _ (subst (Segment (known_of h s) g.0) same g.2) in
      let step_is : from_in s.stored (real n v) + i ≡ h.step + g.0 + i = omega (arith, f.3, g.1) in
      rw step_is (segment_step h.step (known_of h s ++ ext) g.0 _ seg i (omega arith) ∙ e)

  window_off : (n f m : ℕ) → n < length t → f + m ≤ len (node_at t n) → 1 < m → (v : ℕ) → f < v → v ≤ f + m
      → Off (variable (output (node_at t n) v)) (units (leaves (node_at t n)))
  window_off n f m hn fits more v a b =
      let j = long_join (node_at t n) (omega arith) in
      off_units (variable (output (node_at t n) v)) (leaves (node_at t n))
      (λ l i e. d.own n l v j.0 j.1 j.2 j.3 hn j.4 i (omega arith) (omega arith) (sym e))

  pulled : (n f m : ℕ) → ((j : Key) → Memᴰ j (pulls (window n f m)) → Memᴰ j (keys s)) → (v : ℕ) → f < v → v ≤ f + m
      → Memᴰ (real n v) (keys s)
  pulled n f m b v x y = b (real n v) (pulls_real n f m v x y)

  pub key_sums : (j : Key) → KeyFits t j → ((i : Key) → Memᴰ i (pulls j) → Memᴰ i (keys s))
      → sums_after h.step (known_of h s) (key_records (step_in s.stored) t j) ≡ known_of h s ++ map sum_of (defined_by t j)
  unfolding key_records defined_by KeyFits
  key_sums (real n v) g b = plain_sums h.step (known_of h s) (real_records (node_at t n) v) (real_plain (node_at t n) v)
  key_sums (window_zero n f m) g b = one_plain h.step (known_of h s) (outputs (node_at t n) f m)
  key_sums (window n f m) g b =
      let x = node_at t n in
      let rs = flat_map {B = Record} (λ (v : ℕ). window_if (step_in s.stored) n x f m v ∷ window_only_if (step_in s.stored) n x f m v ∷ [])
      (range (f + 1) m) in
      let ds = flat_map {B = Defined} (λ (v : ℕ). derived (some (window_if_sum x f m v)) ∷ derived (some (window_only_if_sum x f m v)) ∷ [])
      (range (f + 1) m) in
      let w : sums_after h.step (known_of h s ++ []) rs ≡ known_of h s ++ ([] ++ map sum_of ds) =
      windows_sums h.step (known_of h s) (step_in s.stored) n x f m g.1 g.2 (d.within n g.0) (window_off n f m g.0 g.1 g.2)
      (λ ext v p q. real_ready n v (omega arith) (omega (arith, g.1)) (pulled n f m b v p q) ext 0 _ (omega arith) refl)
      (λ ext v p q. real_ready n v (omega arith) (omega (arith, g.1)) (pulled n f m b v p q) ext 1 _ (omega arith) refl)
      (range (f + 1) m) (λ v i. omega (arith, range_mem (f + 1) m v i)) [] in
      let w' : sums_after h.step (known_of h s) rs ≡ known_of h s ++ map sum_of ds =
      subst (λ (y : List (Option Sum)). sums_after h.step y rs ≡ known_of h s ++ map sum_of ds) (append-nil (known_of h s)) w in
      sums_append h.step (known_of h s) rs (at_least_zero (map neg (outputs x f m)) ∷ [])
      ∙ ap (λ (y : List (Option Sum)). sums_after h.step y (at_least_zero (map neg (outputs x f m)) ∷ [])) w'
      ∙ one_plain h.step (known_of h s ++ map sum_of ds) (map neg (outputs x f m))
      ∙ append_assoc (known_of h s) (map sum_of ds) _
      ∙ ap (λ (y : List (Option Sum)). known_of h s ++ y) (sym (map-append sum_of ds (written 0 (units (map neg (outputs x f m))) 0 ∷ [])))

  pub known_define : (j : Key) → KeyFits t j → ((i : Key) → Memᴰ i (pulls j) → Memᴰ i (keys s)) → KnownIn h t (define t j s)
  unfolding define
  known_define j g b =
      let rs = key_records (step_in s.stored) t j in
      let e : sums_after h.step [] (s.log ++ rs) ≡ known_of h s ++ map sum_of (defined_by t j) = sums_append h.step [] s.log rs
      ∙ key_sums j g b in
      record {
        next = omega (arith, k.next, steps_append s.log rs);
        sums = λ c m. ⊎_elim
            (λ i. let q = k.sums c i in (
              q.0,
              q.1,
              subst (λ (y : List (Option Sum)). Segment y q.0 (map sum_of (defined_by t c.key))) (sym e)
                  (segment_more (known_of h s) (map sum_of (defined_by t j)) q.0 _ q.2),
            ))
            (λ i. let z : c ≡ record { key = j; from = s.next_step } = Memᴰ.eq_of_singleton i in
            subst (λ (c : Stored). (p : ℕ) × (c.from ≡ h.step + p)
            × Segment (sums_after h.step [] (s.log ++ rs)) p (map sum_of (defined_by t c.key))) (sym z) (
              steps s.log,
              k.next,
              record {
                pre = known_of h s;
                post = [];
                whole = e
                    ∙ ap (λ (y : List (Option Sum)). known_of h s ++ y) (sym (append-nil (map sum_of (defined_by t j))));
                place =
                    sums_length h.step [] s.log ∙ omega arith;
              },
            ))
            (Memᴰ.append_cases s.stored m);
      }

  -- More records that store nothing.
  pub known_more : (u : State) (rs : List Record) → u.log ≡ s.log ++ rs → u.stored ≡ s.stored → u.next_step ≡ s.next_step + steps rs
      → KnownIn h t u
  known_more u rs e f g =
      let w = sums_grow h.step (known_of h s) rs in
      record {
        next = rw e (omega (arith, k.next, steps_append s.log rs));
        sums = λ c m. let q = k.sums c (rw f at m) in
            (q.0, q.1, rw (e, sums_append h.step [] s.log rs, w.1) (segment_more (known_of h s) w.0 q.0 _ q.2));
      }
