-- The step that a clause record names comes to the clause, in every accepted log.
use mathlib.Core.Path.{◌≡◌, refl, sym, ◌∙◌, ap, subst}
use mathlib.Core.Bool.{Bool, true, false}
use mathlib.Core.Logic.{◌≢◌, ⊎_elim}
use mathlib.Core.List.{List, [], ◌∷◌, ◌++◌, append-nil, Memᴰ}
use mathlib.Core.Option.{Option, none, some}
use Prim.Native.Nat.{ℕ, zero, suc, ◌+◌, ◌-◌, ◌≤◌, ◌<◌}
use native.Mathlib.Numerals.{add-one}
use native.Mathlib.Omega.{arith}
use lib.Dec.{ltb}
use lib.ListN.{length, get_or}
use lib.Seq.{get_or-append-add}
use Rattle.memo.proofs.Lists.{mem_flat_map}
use Rattle.pb.specs.Rules.{Token, evaluate}
use Rattle.pb.specs.Sum.{Sum, normal, variable, units, clause_sum}
use Rattle.pb.proofs.Normal.{Off, Apart}
use Rattle.record.specs.Record.{Record, sum, derivation, clause, deletion, clauses, steps}
use Rattle.record.specs.Steps.{step_sum, sums_after, step_of}
use Rattle.record.proofs.Steps.{sums_append, step_known}
use Rattle.totdb.specs.Nodes.{Node, leaf, join, node_at, leaves, len, output, side_len, side_lit, side_leaves, known, joined}
use Rattle.totdb.specs.declared.Side.{Side}
use Rattle.cert.specs.Definitions.{Key, Definition, if, only_if, Direction, real, stored, real_def, side_def, pulls, key_records}
use Rattle.cert.specs.Requests.{Request, request, Lookup, of_node, Clause, if_clause, only_if_clause, clauses_of, splits, definition, key_of, looked_up, looks_of, def_tokens, clause_tokens, Right}
use Rattle.cert.specs.Sized.{Fit, Sized}
use Rattle.cert.specs.State.{State, keys, step_in, define, write, hold, serve, start, requests, Head, stored_steps}
use Rattle.cert.proofs.Apart.{splits_mem, sized_ok}
use Rattle.cert.proofs.Available.{Available, node_if_from, node_only_if_to, clause_available}
use Rattle.cert.proofs.ClauseDerivations.{if_evaluates, only_if_evaluates, if_literals, only_literals}
use Rattle.cert.proofs.Distinct.{Different, Distinct, LeftApart, different_apart, off_units}
use Rattle.cert.proofs.Fits.{KeyFits, request_falls, key_falls, looked_fit}
use Rattle.cert.proofs.Known.{KnownIn, known_of, known_define, known_more, real_ready}
use Rattle.cert.proofs.LeavesBelow.{separate_differ}
use Rattle.cert.proofs.Rules.{ClauseForm, an_if, an_only_if, clause_form}
use Rattle.cert.proofs.Serving.{define_keys, key_no_clauses, Asked, serve_keeps}
use Rattle.cert.proofs.SideTokens.{node_off, side_only, side_if}
use Rattle.cert.proofs.Totalizer.{real_if_sum, real_only_if_sum}
use Rattle.cert.proofs.WindowDerivations.{real_if_clean, real_only_clean}
use Rattle.player.specs.Formed.{Sound}
use Rattle.player.specs.Passes.{AllPassed}
use Rattle.player.specs.Player.{make, delete, first_no, questions, act}
use Rattle.player.specs.declared.Command.{Command}
use Rattle.player.proofs.Counts.{all_keep}
use Rattle.player.proofs.Defines.{Told, told_start, told_act, known_after, known_length}
use Rattle.player.proofs.Sound.{side_leaves-length, request_fits, requests_asked, requests_right, sound_start}

-- ---- the second part of a list

different_right : (ls rs : List ℕ) → Different (ls ++ rs) → Different rs
unfolding Different
different_right [] rs d = d
different_right (l ∷ ls) rs d = different_right ls rs d.1

off_right : (x : ℕ) (ls rs : List ℕ) → Off x (units (ls ++ rs)) → Off x (units rs)
unfolding units
off_right x [] rs h = h
off_right x (l ∷ ls) rs h = off_right x ls rs h.1

-- ---- one clause, where its definitions are stored

-- The two real definitions of a value from 1 on.
this_if : (n v : ℕ) → 1 ≤ v → real_def n v if ≡ stored (real n v) 0
unfolding real_def
this_if n zero h = absurd (omega arith)
this_if n (suc v) h = refl

this_only : (n v : ℕ) → 1 ≤ v → real_def n v only_if ≡ stored (real n v) 1
unfolding real_def
this_only n zero h = absurd (omega arith)
this_only n (suc v) h = refl

-- The keys of a definition, and of all that a clause looks up, are stored.
abbrev Has : State → Definition → Type 0
Has s d = (j : Key) → Memᴰ j (key_of d) → Memᴰ j (keys s)

abbrev HasAll : List Node → State → Clause → Type 0
HasAll t s c = (j : Key) → Memᴰ j (looks_of t c) → Memᴰ j (keys s)

abbrev AllAvailable : List Node → Clause → Type 0
AllAvailable t c = (l : Lookup) → Memᴰ l (looked_up c) → Available t l

-- With a key stands all that it pulls in.
abbrev Closed : State → Type 0
Closed s = (i j : Key) → Memᴰ i (keys s) → Memᴰ j (pulls i) → Memᴰ j (keys s)

-- The derivation that is written for a clause comes to it.
abbrev ComesTo : Head → List Node → State → Clause → Type 0
ComesTo h t s c = evaluate (step_sum h.step (known_of h s)) (clause_tokens (step_in s.stored) t c) ≡ some (normal (clause_sum c.literals))

has_parts : (t : List Node) (s : State) (c : Clause) → HasAll t s c
    → Has s (definition t c.left) × Has s (definition t c.right) × Has s (definition t c.this)
unfolding looks_of
has_parts t s c has =
    let keys_of : Lookup → List Key = λ l. key_of (definition t l) in
    let left : Memᴰ c.left (looked_up c) = mathlib.Core.List.Memᴰ.head refl in
    let right : Memᴰ c.right (looked_up c) = mathlib.Core.List.Memᴰ.tail (mathlib.Core.List.Memᴰ.head refl) in
    let this : Memᴰ c.this (looked_up c) = mathlib.Core.List.Memᴰ.tail (mathlib.Core.List.Memᴰ.tail (mathlib.Core.List.Memᴰ.head refl)) in
    (λ j m. has j (mem_flat_map keys_of left m), λ j m. has j (mem_flat_map keys_of right m), λ j m. has j (mem_flat_map keys_of this m))

has_one : (s : State) (d : Definition) (j : Key) (i : ℕ) → d ≡ stored j i → Has s d → Memᴰ j (keys s)
unfolding key_of
has_one s d j i e has = has j (rw e (mathlib.Core.List.Memᴰ.head refl))

module _ (h : Head) (t : List Node) (sz : Sized t) (d : Distinct t) (s : State) (k : KnownIn h t s) (closed : Closed s) where
  module _ (n : ℕ) (m : List ℕ) (o : ℕ) (l r : Side) (there : n < length t) (e : node_at t n ≡ join m o l r) where
    fit : Fit t n (join m o l r)
    unfolding Sized
    fit = subst (Fit t n) e (sz n there)

    whole : leaves (node_at t n) ≡ side_leaves t l ++ side_leaves t r
    unfolding Fit leaves
    whole = ap leaves e ∙ fit.6

    long : 1 < len (node_at t n)
    unfolding Fit len leaves
    long = rw e (omega (arith, fit.5, fit.7, fit.8))

    apart_whole : Apart (units (leaves (node_at t n)))
    apart_whole = different_apart (leaves (node_at t n)) (d.within n there)

    apart_right : Apart (units (side_leaves t r))
    apart_right = different_apart (side_leaves t r) (different_right (side_leaves t l) (side_leaves t r) (subst Different whole (d.within n there)))

    -- A literal of a side is no output of the join.
    side_this : (c : Side) → c.node < n → c.offset + side_len t c ≤ len (node_at t c.node) → (a v : ℕ) → 1 ≤ a → a ≤ side_len t c → 1 ≤ v
        → v ≤ len (node_at t n)
        → variable (side_lit t c a) ≢ variable (output (node_at t n) v)
    unfolding side_lit
    side_this c lower inside a v x y z w =
        d.outputs c.node n (c.offset + a) v (omega arith) there (λ q. absurd (omega arith)) (omega arith) (omega arith) z w

    -- The sides' literals are over different variables.
    left_right : (a b : ℕ) → 1 ≤ a → a ≤ side_len t l → 1 ≤ b → b ≤ side_len t r → variable (side_lit t l a) ≢ variable (side_lit t r b)
    unfolding side_lit Fit
    left_right a b x y z w =
        d.outputs l.node r.node (l.offset + a) (r.offset + b) (omega (arith, fit.0)) (omega (arith, fit.1))
        (separate_differ t (sized_ok t sz) l.node r.node (omega (arith, fit.0)) fit.2)
        (omega arith) (omega (arith, fit.3)) (omega arith) (omega (arith, fit.4))

    -- A left literal is over no variable that the right side hands on.
    left_off : (a : ℕ) → 1 ≤ a → a ≤ side_len t l → Off (variable (side_lit t l a)) (units (side_leaves t r))
    unfolding side_lit Fit LeftApart
    left_off a x y =
        let f = subst (LeftApart t) e (d.lefts n there) in
        off_units (variable (side_lit t l a)) (side_leaves t r) (λ w i. f.2 (l.offset + a) w (omega arith) (omega (arith, fit.3)) i)

    module _ (v : ℕ) (low : 1 ≤ v) (high : v ≤ len (node_at t n)) where
      own : Off (variable (output (node_at t n) v)) (units (leaves (node_at t n)))
      own = node_off h t sz d s k closed n there long v low high

      own_right : Off (variable (output (node_at t n) v)) (units (side_leaves t r))
      own_right =
          off_right (variable (output (node_at t n) v)) (side_leaves t l) (side_leaves t r)
          (subst (λ (ls : List ℕ). Off (variable (output (node_at t n) v)) (units ls)) whole own)

      -- The real definitions of this value, and the step of each.
      reals : List (Option Sum)
      reals = some (normal (real_if_sum (leaves (node_at t n)) (output (node_at t n) v) v)) ∷ some
          (normal (real_only_if_sum (leaves (node_at t n)) (output (node_at t n) v) v)) ∷ []

      this_step : (i : ℕ) → i < 2 → (e : Definition) → e ≡ stored (real n v) i → Has s e
          → step_sum h.step (known_of h s) (step_in s.stored (real n v) i) ≡ get_or reals i none
      unfolding reals
      this_step i g e q has =
          subst (λ (y : List (Option Sum)). step_sum h.step y (step_in s.stored (real n v) i) ≡ get_or reals i none) (append-nil (known_of h s))
          (real_ready h t d s k n v low high (has_one s e (real n v) i q has) [] i (get_or reals i none) g refl)

      if_comes : (a : ℕ) → Memᴰ a (splits v (side_len t l) (side_len t r))
          → AllAvailable t (if_clause t n (node_at t n) l r v a) → HasAll t s (if_clause t n (node_at t n) l r v a) → ComesTo h t s (if_clause t n (node_at t n) l r v a)
      unfolding if_clause definition clause_tokens Fit reals
      if_comes a i av has =
          let b : ℕ = v - a in
          let p = splits_mem v (side_len t l) (side_len t r) a i in
          let z = has_parts t s (if_clause t n (node_at t n) l r v a) has in
          let this = this_if n v low in
          let nl = side_leaves-length t l in
          let nr = side_leaves-length t r in
          let y = output (node_at t n) v in
          let defs : Definition → List Token = def_tokens (step_in s.stored) in
          rw this (unfold def_tokens in
          if_evaluates (step_sum h.step (known_of h s)) (step_in s.stored (real n v) 0) (defs (side_def t l a only_if))
          (defs (side_def t r b only_if))
          (side_leaves t l) (side_leaves t r) y (side_lit t l a) (side_lit t r b) v a b (omega (arith, nl, p))
          (omega (arith, nr, p)) apart_right own_right
          (rw (← whole) (this_step 0 (omega arith) (real_def n v if) this z.2))
          (rw (← whole) (real_if_clean (leaves (node_at t n)) y apart_whole own v))
          (side_only h t sz d s k closed l (omega (arith, fit.0)) fit.3 fit.7 a (av _ (mathlib.Core.List.Memᴰ.head refl)) z.0)
          (side_only h t sz d s k closed r (omega (arith, fit.1)) fit.4 fit.8 b (av _ (mathlib.Core.List.Memᴰ.tail (mathlib.Core.List.Memᴰ.head refl))) z.1)
          (omega (arith, p))
          (λ q. side_this l fit.0 fit.3 a v (omega arith) p.1 low high)
          (λ q. side_this r fit.1 fit.4 b v (omega arith) (omega (arith, p)) low high)
          (λ q w. left_right a b (omega arith) p.1 (omega arith) (omega (arith, p)))
          (λ q. left_off a (omega arith) p.1)
          ∙ ap (λ (c : List ℕ). some (normal (clause_sum c))) (if_literals t l r a b y))

      only_if_comes : (a : ℕ) → Memᴰ a (splits (v - 1) (side_len t l) (side_len t r))
          → AllAvailable t (only_if_clause t n (node_at t n) l r v a) → HasAll t s (only_if_clause t n (node_at t n) l r v a)
          → ComesTo h t s (only_if_clause t n (node_at t n) l r v a)
      unfolding only_if_clause definition clause_tokens Fit reals
      only_if_comes a i av has =
          let b : ℕ = v - 1 - a in
          let p = splits_mem (v - 1) (side_len t l) (side_len t r) a i in
          let z = has_parts t s (only_if_clause t n (node_at t n) l r v a) has in
          let this = this_only n v low in
          let nl = side_leaves-length t l in
          let nr = side_leaves-length t r in
          let y = output (node_at t n) v in
          let defs : Definition → List Token = def_tokens (step_in s.stored) in
          rw this (unfold def_tokens in
          only_if_evaluates (step_sum h.step (known_of h s)) (step_in s.stored (real n v) 1) (defs (side_def t l (suc a) if))
          (defs (side_def t r (suc b) if))
          (side_leaves t l) (side_leaves t r) y (side_lit t l (suc a)) (side_lit t r (suc b)) v a b (omega (arith, nl, p))
          (omega (arith, nr, p)) apart_right own_right
          (rw (← whole) (this_step 1 (omega arith) (real_def n v only_if) this z.2))
          (rw (← whole) (real_only_clean (leaves (node_at t n)) y apart_whole own v))
          (rw (add-one a) (side_if h t sz d s k closed l (omega (arith, fit.0)) fit.3 fit.7 (suc a) (av _ (mathlib.Core.List.Memᴰ.head refl)) (omega (arith, p)) z.0))
          (rw (add-one b) (side_if h t sz d s k closed r (omega (arith, fit.1)) fit.4 fit.8 (suc b) (av _ (mathlib.Core.List.Memᴰ.tail (mathlib.Core.List.Memᴰ.head refl))) (omega (arith, p)) z.1))
          (omega (arith, p))
          (λ q. side_this l fit.0 fit.3 (suc a) v (omega arith) (omega (arith, nl)) low high)
          (λ q. side_this r fit.1 fit.4 (suc b) v (omega arith) (omega (arith, nr)) low high)
          (λ q w. left_right (suc a) (suc b) (omega arith) (omega (arith, nl)) (omega arith) (omega (arith, nr)))
          (λ q. left_off (suc a) (omega arith) (omega (arith, nl)))
          ∙ rw (nl, nr) (ap (λ (c : List ℕ). some (normal (clause_sum c))) (only_literals t l r a b y)))

  -- Every clause of a right request.
  clause_comes : (x : Request) (c : Clause) → Right t x → Memᴰ c (clauses_of t x) → HasAll t s c → ComesTo h t s c
  unfolding clauses_of Right if_clause only_if_clause
  clause_comes (request n v dir) c g m = go refl (clause_form t n v (node_at t n) dir c m) (clause_available t (request n v dir) c g m)
    where
      own : {l r a : Lookup} → Memᴰ a (l ∷ r ∷ a ∷ [])
      own = mathlib.Core.List.Memᴰ.tail (mathlib.Core.List.Memᴰ.tail (mathlib.Core.List.Memᴰ.head refl))

      go : {x : Node} {dir : Direction} {c : Clause} → node_at t n ≡ x → ClauseForm t n v x dir c → AllAvailable t c → HasAll t s c → ComesTo h t s c
      go e (an_if {ls = ls} {o = o} {l = l} {r = r} a m) av =
          subst (λ (y : Node). let c = if_clause t n y l r v a in AllAvailable t c → HasAll t s c → ComesTo h t s c) e
          (if_comes n ls o l r g.0 e v (node_if_from v (av (of_node n v if) own)) g.2 a m) av
      go e (an_only_if {ls = ls} {o = o} {l = l} {r = r} a m) av =
          subst (λ (y : Node). let c = only_if_clause t n y l r v a in AllAvailable t c → HasAll t s c → ComesTo h t s c) e
          (only_if_comes n ls o l r g.0 e v g.1 (node_only_if_to v (av (of_node n v only_if) own)) a m) av

-- ---- later records

get_d_more : {A : Type 0} (l ext : List (Option A)) (i : ℕ) (x : A) → get_or l i none ≡ some x → get_or (l ++ ext) i none ≡ some x
get_d_more [] ext i x e = absurd (let z : ◌≡◌ {A = ℕ} 0 1 = cc in omega arith)
get_d_more (y ∷ l) ext zero x e = e
get_d_more (y ∷ l) ext (suc i) x e = get_d_more l ext i x e

-- A step that comes to a sum comes to it later too.
step_more : (first : ℕ) (sums ext : List (Option Sum)) (n : ℕ) (x : Sum) → step_sum first sums n ≡ some x → step_sum first (sums ++ ext) n ≡ some x
unfolding step_sum
step_more first sums ext n x = by (ltb n first)
  where
    by : (b : Bool) → elim b as (λ _. Option Sum) [ true ↦ none | false ↦ get_or sums (n - first) none ] ≡ some x
        → elim b as (λ _. Option Sum) [ true ↦ none | false ↦ get_or (sums ++ ext) (n - first) none ] ≡ some x
    by true e = e
    by false e = get_d_more sums ext (n - first) x e

-- A clause record is one of the clauses.
clause_mem : (rs : List Record) (n : ℕ) (ls : List ℕ) → Memᴰ (clause n ls) rs → Memᴰ ls (clauses rs)
unfolding clauses
clause_mem [] n ls m = absurd (mathlib.Core.List.Memᴰ.not-nil m)
clause_mem (sum w ts b ∷ rs) n ls m = ⊎_elim (λ e. absurd (let z : ◌≡◌ {A = ℕ} 0 1 = cc in omega arith)) (clause_mem rs n ls) (mathlib.Core.List.Memᴰ.cases_cons m)
clause_mem (derivation ks ∷ rs) n ls m =
    ⊎_elim (λ e. absurd (let z : ◌≡◌ {A = ℕ} 0 1 = cc in omega arith)) (clause_mem rs n ls) (mathlib.Core.List.Memᴰ.cases_cons m)
clause_mem (clause i js ∷ rs) n ls m =
    ⊎_elim (λ e. let z : ls ≡ js = cc in mathlib.Core.List.Memᴰ.head z) (λ j. mathlib.Core.List.Memᴰ.tail (clause_mem rs n ls j)) (mathlib.Core.List.Memᴰ.cases_cons m)
clause_mem (deletion ss ∷ rs) n ls m =
    ⊎_elim (λ e. absurd (let z : ◌≡◌ {A = ℕ} 0 1 = cc in omega arith)) (clause_mem rs n ls) (mathlib.Core.List.Memᴰ.cases_cons m)

-- ---- the invariant

-- Of every clause record among rs, the step comes to the clause.
abbrev Come : Head → State → List Record → Type 0
Come h s rs = (n : ℕ) (ls : List ℕ) → Memᴰ (clause n ls) rs → step_sum h.step (known_of h s) n ≡ some (normal (clause_sum ls))

record Kept (h : Head) (s : State) : Type 0 where
  closed : Closed s
  come : Come h s s.log

-- Over a table, as a request needs it.
record Stepped (h : Head) (t : List Node) (s : State) : Type 0 where
  known_sums : KnownIn h t s
  kept : Kept h s

come_none : (h : Head) (s : State) (rs : List Record) → clauses rs ≡ [] → Come h s rs
come_none h s rs e n ls m = absurd (mathlib.Core.List.Memᴰ.not-nil (subst (Memᴰ ls) e (clause_mem rs n ls m)))

come_more : (h : Head) (s u : State) (rs : List Record) → u.log ≡ s.log ++ rs → Come h s s.log → Come h u rs → Come h u u.log
come_more h s u rs e c new n ls m =
    let w = known_after h s u rs e in
    ⊎_elim (λ i. rw w.1 (step_more h.step (known_of h s) w.0 n (normal (clause_sum ls)) (c n ls i))) (new n ls)
    (mathlib.Core.List.Memᴰ.append_cases s.log (subst (Memᴰ (clause n ls)) e m))

closed_define : (t : List Node) (k : Key) (s : State) → ((j : Key) → Memᴰ j (pulls k) → Memᴰ j (keys s)) → Closed s → Closed (define t k s)
closed_define t k s b c i j m n =
    let new : i ≡ k → Memᴰ j (keys s) = λ e. b j (subst (λ (y : Key). Memᴰ j (pulls y)) e n) in
    let one = mathlib.Core.List.Memᴰ.append_cases (keys s) (subst (Memᴰ i) (define_keys t k s) m) in
    rw (define_keys t k s) (mathlib.Core.List.Memᴰ.append_left (k ∷ []) (⊎_elim (λ x. c i j x n) (λ x. new (mathlib.Core.List.Memᴰ.eq_of_singleton x)) one))

-- The records of a clause.
abbrev clause_records : List Node → State → Clause → List Record
clause_records t s c = derivation (clause_tokens (step_in s.stored) t c) ∷ clause s.next_step c.literals ∷ []

module _ (h : Head) (t : List Node) (sz : Sized t) (d : Distinct t) (s : State) (k : Stepped h t s) where
  -- More records that store nothing.
  stepped_more : (u : State) (rs : List Record) → u.log ≡ s.log ++ rs → u.stored ≡ s.stored → u.next_step ≡ s.next_step + steps rs
      → Come h u rs → Stepped h t u
  stepped_more u rs e f g new = record {
    known_sums = known_more h t d s k.known_sums u rs e f g;
    kept = record { closed = unfold keys in rw f (unfold keys in k.kept.closed); come = come_more h s u rs e k.kept.come new };
  }

  stepped_define : (j : Key) → KeyFits t j → ((i : Key) → Memᴰ i (pulls j) → Memᴰ i (keys s)) → Stepped h t (define t j s)
  stepped_define j g b =
      let rs = key_records (step_in s.stored) t j in
      let none-new = come_none h (define t j s) rs (key_no_clauses (step_in s.stored) t j) in
      record {
        known_sums = known_define h t d s k.known_sums j g b;
        kept = record {
          closed = closed_define t j s b k.kept.closed;
          come =
              come_more h s (define t j s) rs (unfold define in refl) k.kept.come none-new;
        };
      }

  -- The clause's own step is the next one.
  write_come : (c : Clause) → ComesTo h t s c → Come h (write t c s) (clause_records t s c)
  write_come c e n ls m =
      ⊎_elim (λ q. absurd (let z : ◌≡◌ {A = ℕ} 0 1 = cc in omega arith)) (λ i. at_next (mathlib.Core.List.Memᴰ.eq_of_singleton i)) (mathlib.Core.List.Memᴰ.cases_cons m)
    where
      known_is : known_of h (write t c s) ≡ known_of h s ++ (evaluate (step_sum h.step (known_of h s)) (clause_tokens (step_in s.stored) t c) ∷ [])
      known_is = unfold write sums_after in sums_append h.step [] s.log (clause_records t s c)

      at_next : clause n ls ≡ clause s.next_step c.literals → step_sum h.step (known_of h (write t c s)) n ≡ some (normal (clause_sum ls))
      at_next q =
          let x : n ≡ s.next_step = cc in
          let y : ls ≡ c.literals = cc in
          let z : n ≡ h.step + (length (known_of h s) + 0) = omega (arith, k.known_sums.next, known_length h s) in
          rw (known_is, z, y) (step_known h.step _ (length (known_of h s) + 0) ∙ get_or-append-add (known_of h s) _ 0 none ∙ e)

  stepped_write : (x : Request) (c : Clause) → Right t x → Memᴰ c (clauses_of t x) → HasAll t s c → Stepped h t (write t c s)
  stepped_write x c g m has =
      stepped_more (write t c s) (clause_records t s c) (unfold write in refl) (unfold write in refl) (unfold write steps in refl)
      (write_come c (clause_comes h t sz d s k.known_sums k.kept.closed x c g m has))

  stepped_hold : (x : Request) → Stepped h t (hold x s)
  stepped_hold x =
      stepped_more (hold x s) [] (unfold hold in sym (append-nil s.log)) (unfold hold in refl) (unfold hold steps in omega arith)
      (λ n ls m. absurd (mathlib.Core.List.Memᴰ.not-nil m))

stepped_serve : (h : Head) (t : List Node) → Sized t → Distinct t → (xs : List Request) → ((x : Request) → Memᴰ x xs → Right t x) → Asked t xs
    → (s : State) → Stepped h t s → Stepped h t (serve t xs s)
stepped_serve h t sz d xs r a s k =
    serve_keeps t (Right t) (KeyFits t) (request_falls t sz) (key_falls t) (looked_fit t sz) (Stepped h t)
    (λ j u g n b q. stepped_define h t sz d u q j g b)
    (λ x c u g m b q. stepped_write h t sz d u q x c g m b) (λ x u g q. stepped_hold h t sz d u q x) xs r a s k

-- ---- every command

-- A command changes the table; what is known over the new one is in `Told`.
record Good (h : Head) (s : State) : Type 0 where
  told : Told h s
  kept : Kept h s

good_start : (h : Head) → Good h (start h)
good_start h = record {
  told = told_start h;
  kept = unfold start keys in record { closed = λ i j m. absurd (mathlib.Core.List.Memᴰ.not-nil m); come = λ n ls m. absurd (mathlib.Core.List.Memᴰ.not-nil m) };
}

-- A new node changes no key and no record.
kept_make : (h : Head) (a : Node) (n : ℕ) (s : State) → Kept h s → Kept h (make a n s)
unfolding make keys
kept_make h a n s k = record { closed = k.closed; come = k.come }

kept_act : (h : Head) (c : Command) (s : State) → first_no (questions h s.nodes c) ≡ 0 → Sound h s → Good h s → Kept h (act c s)
unfolding act
kept_act h (Command.Leaf l) s q p k = by (known s.nodes l)
  where
    by : (b : Bool) → Kept h (elim b as (λ _. State) [ true ↦ s | false ↦ make (leaf l) 0 s ])
    by true = k.kept
    by false = kept_make h (leaf l) 0 s k.kept
kept_act h (Command.Join l r) s q p k =
    kept_make h (joined s.nodes s.next_variable l r) (len (joined s.nodes s.next_variable l r)) s k.kept
kept_act h (Command.Request n v d) s q p k =
    let t = s.nodes in
    let f = request_fits h t n v d q in
    let before : Stepped h t s = record { known_sums = k.told.meant.known_sums; kept = k.kept } in
    (stepped_serve h t p.sized k.told.distinct (requests n v d) (requests_right t n v d f) (requests_asked t n v d f) s before).kept
kept_act h Command.Close s q p k =
    let rs : List Record = deletion (stored_steps s.nodes s.stored) ∷ [] in
    record {
      closed = unfold delete keys in k.kept.closed;
      come = come_more h s (delete s) rs (unfold delete in refl) k.kept.come (come_none h (delete s) rs (unfold clauses in refl));
    }

good_act : (h : Head) (c : Command) (s : State) → first_no (questions h s.nodes c) ≡ 0 → Sound h s → Good h s → Good h (act c s)
good_act h c s q p k = record { told = told_act h c s q p k.told; kept = kept_act h c s q p k }

-- In the log of an accepted script the step that a clause names comes to the clause.
pub clause_steps : (h : Head) (capacity : ℕ) (cs : List Command) (u : State) → AllPassed h capacity cs (start h) u
    → (n : ℕ) (ls : List ℕ) → Memᴰ (Record.clause n ls) u.log → step_of h.step u.log n ≡ some (normal (clause_sum ls))
unfolding step_of
clause_steps h capacity cs u a = (all_keep (Good h) (good_act h) a (sound_start h) (good_start h)).kept.come
