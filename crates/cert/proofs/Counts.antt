-- Steps: a step for each sum that a key defines and for each clause. The next step is the first plus the steps of the log.
use mathlib.Core.Path.{◌≡◌, refl, sym, ◌∙◌, ap, subst}
use mathlib.Core.Logic.{dite, ⊎_elim}
use mathlib.Core.List.Memᴰ
use mathlib.Core.List.{List, [], ◌∷◌, ◌++◌, map, flat_map, append-nil, Memᴰ}
use mathlib.Core.Option.{some}
use Prim.Native.Nat.{ℕ, zero, suc, ◌+◌, ◌<◌}
use native.Mathlib.Decide.{dec_lt}
use native.Mathlib.Omega.{arith}
use lib.ListN.{length, length-append}
use Rattle.pb.specs.Sum.{neg}
use Rattle.memo.proofs.Lists.{flat_map_append}
use Rattle.record.specs.Record.{Record, steps, sum, derivation, clause, deletion, clauses}
use Rattle.record.specs.Steps.{Defined, derived}
use Rattle.totdb.specs.Nodes.{Node, len, leaves, node_at, range, outputs}
use Rattle.cert.specs.Counted.{KeyIn, key_node, CountedIn, Counted}
use Rattle.cert.specs.Definitions.{real_records, as_written, at_least_zero, real_if, real_only_if, Key, window_if, window_only_if, window_if_sum, window_only_if_sum, key_records, defined_by, real, window_zero, window}
use Rattle.cert.specs.Requests.{Clause, clause_tokens, Request}
use Rattle.cert.specs.State.{State, keys, start, define, step_in, write, serve, hold, Head}
use Rattle.cert.proofs.Rules.{at_more, Ok}
use Rattle.cert.proofs.Serving.{define_keys, define_clauses, write_clauses, Asked, serve_in}

pub steps_append : (rs qs : List Record) → steps (rs ++ qs) ≡ steps rs + steps qs
unfolding steps
steps_append [] qs = omega arith
steps_append (sum w ts b ∷ rs) qs = omega (arith, steps_append rs qs)
steps_append (derivation ks ∷ rs) qs = omega (arith, steps_append rs qs)
steps_append (clause s ls ∷ rs) qs = steps_append rs qs
steps_append (deletion ss ∷ rs) qs = steps_append rs qs

-- ---- a key writes as many steps as it defines sums

real_count : (x : Node) (v : ℕ) → steps (real_records x v) ≡ length (flat_map as_written (real_records x v))
unfolding real_records steps as_written flat_map at_least_zero real_if real_only_if
real_count x zero = refl
real_count x (suc v) = by (dec_lt (len x) (suc v))
  where
    by : (d : Dec (len x < suc v))
        → steps (dite {C = List Record} d (λ _. at_least_zero (map neg (leaves x)) ∷ []) (λ _. real_if x (suc v) ∷ real_only_if x (suc v) ∷ [])) ≡ length
        (flat_map as_written (dite {C = List Record} d (λ _. at_least_zero (map neg (leaves x)) ∷ [])
        (λ _. real_if x (suc v) ∷ real_only_if x (suc v) ∷ [])))
    by (yes p) = refl
    by (no p) = refl

windows_count : (f : Key → ℕ → ℕ) (n : ℕ) (x : Node) (o m : ℕ) (vs : List ℕ)
    → steps (flat_map {B = Record} (λ (v : ℕ). window_if f n x o m v ∷ window_only_if f n x o m v ∷ []) vs)
    ≡ length (flat_map {B = Defined} (λ (v : ℕ). derived (some (window_if_sum x o m v)) ∷ derived (some (window_only_if_sum x o m v)) ∷ []) vs)
unfolding steps flat_map window_if window_only_if
windows_count f n x o m [] = refl
windows_count f n x o m (v ∷ vs) = omega (arith, windows_count f n x o m vs)

pub key_count : (f : Key → ℕ → ℕ) (t : List Node) (k : Key) → steps (key_records f t k) ≡ length (defined_by t k)
unfolding key_records defined_by
key_count f t (real n v) = real_count (node_at t n) v
key_count f t (window_zero n o m) = unfold steps at_least_zero in refl
key_count f t (window n o m) = simp (steps_append, length-append) (omega (arith, windows_count f n (node_at t n) o m (range (o + 1) m), one))
  where
    one : steps (at_least_zero (map neg (outputs (node_at t n) o m)) ∷ []) ≡ 1
    one = unfold steps at_least_zero in refl

-- Later nodes change no definition.
pub defined_more : (t u : List Node) (k : Key) → KeyIn t k → defined_by t k ≡ defined_by (t ++ u) k
unfolding defined_by KeyIn key_node
defined_more t u (real n v) i = rw (at_more t u n i)
defined_more t u (window_zero n o m) i = rw (at_more t u n i)
defined_more t u (window n o m) i = rw (at_more t u n i)

-- ---- the invariant, over a table

pub counted_start : (h : Head) → Counted h (start h)
unfolding start keys steps clauses flat_map
counted_start h = record { next = omega arith; keys_in = λ k m. absurd (Memᴰ.not-nil m); count = refl }

snoc_length : {A B : Type 0} (f : A → List B) (xs : List A) (k : A) → length (flat_map f (xs ++ (k ∷ []))) ≡ length (flat_map f xs) + length (f k)
unfolding flat_map
snoc_length f xs k = rw (flat_map_append f xs (k ∷ []), length-append (flat_map f xs) (f k ++ []), append-nil (f k))

pub counted_define : (h : Head) (t : List Node) (k : Key) (s : State) → KeyIn t k → CountedIn h t s → CountedIn h t (define t k s)
counted_define h t k s i c = record {
  next = unfold define in omega (arith, c.next, steps_append s.log (key_records (step_in s.stored) t k));
  keys_in = λ j m. ⊎_elim (c.keys_in j) (λ n. subst (KeyIn t) (sym (Memᴰ.eq_of_singleton n)) i)
      (Memᴰ.append_cases (keys s) (subst (Memᴰ j) (define_keys t k s) m));
  count = rw (define_keys t k s, define_clauses t k s, snoc_length (defined_by t) (keys s) k)
      (unfold define in omega (arith, c.count, steps_append s.log (key_records (step_in s.stored) t k), key_count (step_in s.stored) t k));
}

write_steps : (t : List Node) (c : Clause) (s : State) → steps (write t c s).log ≡ steps s.log + 1
unfolding write
write_steps t c s = steps_append s.log (derivation (clause_tokens (step_in s.stored) t c) ∷ clause s.next_step c.literals ∷ [])
    ∙ (unfold steps in refl)

pub counted_write : (h : Head) (t : List Node) (c : Clause) (s : State) → CountedIn h t s → CountedIn h t (write t c s)
counted_write h t c s k = record {
  next = omega (arith, write_steps t c s, k.next, write_next);
  keys_in = unfold write keys in k.keys_in;
  count = rw (write_clauses t c s, length-append (clauses s.log) (c.literals ∷ []))
      (omega (arith, write_steps t c s, k.count, ap (λ (l : List Key). length (flat_map (defined_by t) l)) write_keys_same));
}
  where
    write_next : (write t c s).next_step ≡ s.next_step + 1
    write_next = unfold write in refl

    write_keys_same : keys (write t c s) ≡ keys s
    write_keys_same = unfold write keys in refl

pub counted_hold : (h : Head) (t : List Node) (x : Request) (s : State) → CountedIn h t s → CountedIn h t (hold x s)
counted_hold h t x s r = record { next = unfold hold in r.next; keys_in = unfold hold keys in r.keys_in; count = unfold hold keys in r.count }

pub counted_serve : (h : Head) (t : List Node) → Ok t → (xs : List Request) → Asked t xs → (s : State) → CountedIn h t s
    → CountedIn h t (serve t xs s)
counted_serve h t ok xs a s c =
    serve_in t ok (CountedIn h t) (λ k u i r. counted_define h t k u i r) (λ e u r. counted_write h t e u r) (λ x u r. counted_hold h t x u r) xs a s c
