-- A request serves the closure of what it names: what is held, stored and written is as crate `memo` has it. What each act keeps, a request keeps.
use mathlib.Core.Path.{◌≡◌, refl, sym, ◌∙◌, ap}
use mathlib.Core.Logic.{dite}
use mathlib.Core.List.Memᴰ
use mathlib.Core.List.{List, [], ◌∷◌, ◌++◌, map, flat_map, append-nil, map-append, Memᴰ, Nodup}
use Prim.Native.Nat.{ℕ, zero, suc, ◌+◌, ◌<◌}
use native.Mathlib.Decide.{dec_lt}
use lib.Seq.{append_snoc}
use Rattle.pb.specs.Sum.{neg}
use Rattle.memo.specs.Visit.{each}
use Rattle.memo.proofs.Grow.{Step}
use Rattle.memo.proofs.Lists.{mem_flat_map}
use Rattle.memo.proofs.Machine.{each_still, ask_still, asks_serve, batch_serves, each_keeps, ask_keeps, batch_keeps}
use Rattle.memo.proofs.Memo.{Log, Works, batch_kept}
use Rattle.memo.proofs.Serve.{Serves, serves_nil, serves_then, Falls}
use Rattle.record.specs.Record.{Record, clauses, sum, derivation, clause, deletion}
use Rattle.totdb.specs.Nodes.{Node, len, leaves, node_at, range, outputs}
use Rattle.cert.specs.Counted.{KeyIn}
use Rattle.cert.specs.Definitions.{real_records, at_least_zero, real_if, real_only_if, Key, window_if, window_only_if, key_records, real, window_zero, window, pulls}
use Rattle.cert.specs.Equal.{key_dec, key_rank, request_dec}
use Rattle.cert.specs.Requests.{Clause, Request, looks_of, clauses_of, node_of, needs, literals_of, lookups}
use Rattle.cert.specs.State.{State, keys, define, Stored, step_in, write, look_up, write_clause, write_request, hold, serve}
use Rattle.cert.proofs.Rules.{pulls_fall, Ok, In, counters_grow, counters, needs_fall}

-- ---- the acts, as far as crate `memo` looks at them

pub clauses_append : (rs qs : List Record) → clauses (rs ++ qs) ≡ clauses rs ++ clauses qs
unfolding clauses
clauses_append [] qs = refl
clauses_append (sum w ts b ∷ rs) qs = clauses_append rs qs
clauses_append (derivation ks ∷ rs) qs = clauses_append rs qs
clauses_append (clause s ls ∷ rs) qs = ap {B = List (List ℕ)} (λ (l : List (List ℕ)). ls ∷ l) (clauses_append rs qs)
clauses_append (deletion ss ∷ rs) qs = clauses_append rs qs

real_no_clauses : (x : Node) (v : ℕ) → clauses (real_records x v) ≡ []
unfolding clauses real_records at_least_zero real_if real_only_if
real_no_clauses x zero = refl
real_no_clauses x (suc v) = by (dec_lt (len x) (suc v))
  where
    by : (d : Dec (len x < suc v))
        → clauses (dite {C = List Record} d (λ _. at_least_zero (map neg (leaves x)) ∷ []) (λ _. real_if x (suc v) ∷ real_only_if x (suc v) ∷ [])) ≡ []
    by (yes p) = refl
    by (no p) = refl

windows_no_clauses : (f : Key → ℕ → ℕ) (n : ℕ) (x : Node) (o m : ℕ) (vs : List ℕ)
    → clauses (flat_map {B = Record} (λ (v : ℕ). window_if f n x o m v ∷ window_only_if f n x o m v ∷ []) vs) ≡ []
unfolding clauses flat_map window_if window_only_if
windows_no_clauses f n x o m [] = refl
windows_no_clauses f n x o m (v ∷ vs) = windows_no_clauses f n x o m vs

pub key_no_clauses : (f : Key → ℕ → ℕ) (t : List Node) (k : Key) → clauses (key_records f t k) ≡ []
unfolding key_records
key_no_clauses f t (real n v) = real_no_clauses (node_at t n) v
key_no_clauses f t (window_zero n o m) = unfold clauses at_least_zero in refl
key_no_clauses f t (window n o m) =
    clauses_append (flat_map {B = Record} (λ (v : ℕ). window_if f n (node_at t n) o m v ∷ window_only_if f n (node_at t n) o m v ∷ []) (range (o + 1) m))
    (at_least_zero (map neg (outputs (node_at t n) o m)) ∷ [])
    ∙ rw (windows_no_clauses f n (node_at t n) o m (range (o + 1) m)) (unfold clauses at_least_zero in refl)

pub define_keys : (t : List Node) (k : Key) (s : State) → keys (define t k s) ≡ keys s ++ (k ∷ [])
unfolding keys define
define_keys t k s = map-append (λ (e : Stored). e.key) s.stored (record { key = k; from = s.next_step } ∷ [])

pub define_clauses : (t : List Node) (k : Key) (s : State) → clauses (define t k s).log ≡ clauses s.log
unfolding define
define_clauses t k s = clauses_append s.log (key_records (step_in s.stored) t k)
    ∙ rw (key_no_clauses (step_in s.stored) t k) (append-nil (clauses s.log))

define_held : (t : List Node) (k : Key) (s : State) → (define t k s).held ≡ s.held
unfolding define
define_held t k s = refl

pub write_clauses : (t : List Node) (c : Clause) (s : State) → clauses (write t c s).log ≡ clauses s.log ++ (c.literals ∷ [])
unfolding write
write_clauses t c s = clauses_append s.log _ ∙ (unfold clauses in refl)

-- What crate `memo` sees of a state.
unfoldable pub view : State → Log Request Key (List ℕ) ℕ
view s = record { items = s.held; keys = keys s; clauses = clauses s.log; summed = [] }

no_sums : (ks : List Key) → [] ≡ flat_map {B = ℕ} (λ (k : Key). []) ks
unfolding flat_map
no_sums [] = refl
no_sums (k ∷ ks) = no_sums ks

-- ---- the clauses of a request, one after the other

module _ (t : List Node) where
  look_ups_held : (ks : List Key) (s : State) → (each (look_up t) ks s).held ≡ s.held
  unfolding look_up
  look_ups_held ks s = each_still (λ (u : State). u.held) ks
      (ask_still key_dec pulls key_rank keys (define t) (λ (u : State). u.held) (define_held t)) s

  look_ups_clauses : (ks : List Key) (s : State) → clauses (each (look_up t) ks s).log ≡ clauses s.log
  unfolding look_up
  look_ups_clauses ks s =
      each_still (λ (u : State). clauses u.log) ks
      (ask_still key_dec pulls key_rank keys (define t) (λ (u : State). clauses u.log) (define_clauses t)) s

  pub look_ups_serve : (ks : List Key) → ((k : Key) → Memᴰ k ks → KeyIn t k) → (s : State)
      → Serves pulls ks (keys s) (keys (each (look_up t) ks s))
  unfolding look_up
  look_ups_serve ks g s = asks_serve key_dec (pulls_fall t) keys (define t) (define_keys t) ks g s

  write_held : (c : Clause) (s : State) → (write_clause t c s).held ≡ s.held
  unfolding write_clause write
  write_held c s = look_ups_held (looks_of t c) s

  writes_held : (cs : List Clause) (s : State) → (each (write_clause t) cs s).held ≡ s.held
  writes_held cs s = each_still (λ (u : State). u.held) cs write_held s

  one_clause : (c : Clause) (s : State) → clauses (write_clause t c s).log ≡ clauses s.log ++ (c.literals ∷ [])
  unfolding write_clause
  one_clause c s = write_clauses t c (each (look_up t) (looks_of t c) s) ∙ rw (look_ups_clauses (looks_of t c) s)

  writes_clauses : (cs : List Clause) (s : State)
      → clauses (each (write_clause t) cs s).log ≡ clauses s.log ++ map {B = List ℕ} (λ (c : Clause). c.literals) cs
  unfolding each
  writes_clauses [] s = sym (append-nil (clauses s.log))
  writes_clauses (c ∷ cs) s = writes_clauses cs (write_clause t c s)
      ∙ rw (one_clause c s) (append_snoc (clauses s.log) c.literals (map {B = List ℕ} (λ (c : Clause). c.literals) cs))

  write_keys : (c : Clause) → ((k : Key) → Memᴰ k (looks_of t c) → KeyIn t k) → (s : State)
      → Serves pulls (looks_of t c) (keys s) (keys (write_clause t c s))
  unfolding write_clause write keys
  write_keys c g s = look_ups_serve (looks_of t c) g s

  writes_keys : (cs : List Clause) → ((k : Key) → Memᴰ k (flat_map (looks_of t) cs) → KeyIn t k) → (s : State)
      → Serves pulls (flat_map (looks_of t) cs) (keys s) (keys (each (write_clause t) cs s))
  unfolding each flat_map
  writes_keys [] g s = serves_nil
  writes_keys (c ∷ cs) g s =
      serves_then (write_keys c (λ k m. g k (Memᴰ.append_left (flat_map (looks_of t) cs) m)) s)
      (writes_keys cs (λ k m. g k (Memᴰ.append_right (looks_of t c) m)) (write_clause t c s))

  request_held : (x : Request) (s : State) → (write_request t x s).held ≡ s.held ++ (x ∷ [])
  unfolding write_request hold
  request_held x s = ap {B = List Request} (λ (l : List Request). l ++ (x ∷ [])) (writes_held (clauses_of t x) s)

  request_clauses : (x : Request) (s : State) → clauses (write_request t x s).log ≡ clauses s.log ++ literals_of t x
  unfolding write_request hold literals_of
  request_clauses x s = writes_clauses (clauses_of t x) s

  request_keys : Ok t → (x : Request) (s : State) → In t x → Serves pulls (lookups t x) (keys s) (keys (write_request t x s))
  unfolding write_request hold keys lookups
  request_keys ok x s i = writes_keys (clauses_of t x) (λ k m. counters_grow.lookups_in t ok x k i m) s

  works : Ok t → Works (counters.rules t) (In t) view (write_request t)
  unfolding view
  works ok = record {
    item_added = request_held;
    keys_served = λ x s i. request_keys ok x s i;
    clauses_added = request_clauses;
    sums_kept = λ x s i e. no_sums (keys (write_request t x s));
  }

  -- The directions of a request command: none twice, all at one node of the table.
  pub record Asked (xs : List Request) : Type 0 where
    pub there : (x : Request) → Memᴰ x xs → In t x
    pub once : Nodup xs
    pub at_node : ℕ
    pub one_node : (x : Request) → Memᴰ x xs → node_of x ≡ at_node

  pub serve_step : Ok t → (xs : List Request) → Asked xs → (s : State) → Step counters t xs (view s) (view (serve t xs s))
  unfolding serve view
  serve_step ok xs a s = record {
    asked = a.there;
    served = batch_serves request_dec (needs_fall t ok) (λ (u : State). u.held) (write_request t) request_held xs a.at_node a.once a.there
        a.one_node s;
    filled = batch_kept request_dec (needs_fall t ok) (works ok) xs a.at_node a.once a.there a.one_node s;
  }

  -- What each act keeps, a request keeps. The requests served and the keys stored are as good as those that are asked for and looked up.
  module _ (ItemGood : Request → Type 0) (KeyGood : Key → Type 0) (falls : Falls (needs t) ItemGood node_of) (key_falls : Falls pulls KeyGood key_rank)
      (looked : (x : Request) (c : Clause) (k : Key) → ItemGood x → Memᴰ c (clauses_of t x) → Memᴰ k (looks_of t c) → KeyGood k)
      (R : State → Type 0)
      (kept-define : (k : Key) (s : State) → KeyGood k → ¬ Memᴰ k (keys s) → ((j : Key) → Memᴰ j (pulls k) → Memᴰ j (keys s)) → R s
      → R (define t k s))
      (kept-write : (x : Request) (c : Clause) (s : State) → ItemGood x → Memᴰ c (clauses_of t x)
      → ((k : Key) → Memᴰ k (looks_of t c) → Memᴰ k (keys s)) → R s → R (write t c s))
      (kept-hold : (x : Request) (s : State) → ItemGood x → R s → R (hold x s)) where
    keep_look_ups : (ks : List Key) → ((k : Key) → Memᴰ k ks → KeyGood k) → (s : State) → R s → R (each (look_up t) ks s)
    unfolding look_up
    keep_look_ups ks g s r = each_keeps R ks (λ k m u q. ask_keeps key_dec key_falls keys (define t) (define_keys t) R kept-define k (g k m) u q) s r

    keep_clause : (x : Request) (c : Clause) → ItemGood x → Memᴰ c (clauses_of t x) → (s : State) → R s → R (write_clause t c s)
    unfolding write_clause look_up
    keep_clause x c i m s r =
        let g : (k : Key) → Memᴰ k (looks_of t c) → KeyGood k = λ k n. looked x c k i m n in
        kept-write x c (each (look_up t) (looks_of t c) s) i m (asks_serve key_dec key_falls keys (define t) (define_keys t) (looks_of t c) g s).has
        (keep_look_ups (looks_of t c) g s r)

    keep_request : (x : Request) → ItemGood x → (s : State) → R s → R (write_request t x s)
    unfolding write_request
    keep_request x i s r =
        kept-hold x (each (write_clause t) (clauses_of t x) s) i (each_keeps R (clauses_of t x) (λ c m u q. keep_clause x c i m u q) s r)

    pub serve_keeps : (xs : List Request) → ((x : Request) → Memᴰ x xs → ItemGood x) → Asked xs → (s : State) → R s → R (serve t xs s)
    unfolding serve
    serve_keeps xs good a s r =
        batch_keeps request_dec falls (λ (u : State). u.held) (write_request t) request_held R (λ x u i n b q. keep_request x i u q) xs a.at_node
        a.once good a.one_node s r

  -- With the nodes of the table alone.
  pub serve_in : Ok t → (R : State → Type 0)
      → ((k : Key) (s : State) → KeyIn t k → R s → R (define t k s)) → ((c : Clause) (s : State) → R s → R (write t c s))
      → ((x : Request) (s : State) → R s → R (hold x s))
      → (xs : List Request) → Asked xs → (s : State) → R s → R (serve t xs s)
  serve_in ok R d w h xs a s r =
      serve_keeps (In t) (KeyIn t) (needs_fall t ok) (pulls_fall t)
      (λ x c k i m n. counters_grow.lookups_in t ok x k i (unfold lookups in mem_flat_map (looks_of t) m n)) R (λ k u i n b q. d k u i q)
      (λ x c u i m b q. w c u q) (λ x u i q. h x u q) xs a.there a s r
