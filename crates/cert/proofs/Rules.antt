-- The rules of requests and definitions: needs are at lower nodes, and no later node changes what a request needs, looks up and writes.
use mathlib.Core.Path.{◌≡◌, refl, sym, ◌∙◌, ap, subst}
use mathlib.Core.Logic.{◌⊎◌, ⊎_elim}
use mathlib.Core.List.Memᴰ
use mathlib.Core.List.{List, [], ◌∷◌, ◌++◌, map, flat_map, Memᴰ}
use Prim.Native.Nat.{ℕ, zero, suc, ◌+◌, ◌-◌, ◌<◌}
use native.Mathlib.Omega.{arith}
use lib.ListN.{length, length-append, get_or-append}
use Rattle.memo.proofs.Grow.{World, Grows}
use Rattle.memo.proofs.Lists.{map_agree, flat_map_agree, of_flat_map, of_three}
use Rattle.memo.proofs.Serve.{Falls}
use Rattle.totdb.specs.Nodes.{Node, leaf, join, node_at, side_len, side_lit, side_outputs, outputs, range, side_leaves, plain_or, leaves}
use Rattle.totdb.specs.declared.Side.{Side}
use Rattle.cert.specs.Counted.{KeyIn, key_node}
use Rattle.cert.specs.Definitions.{Key, real, window_zero, window, pulls, Direction, Definition, if, only_if, real_def, window_def, side_def, window_reals}
use Rattle.cert.specs.Equal.{key_rank}
use Rattle.cert.specs.Requests.{Request, clauses_of, Lookup, Clause, definition, looked_up, looks_of, node_of, needs, needs_at, below, request, named, key_of, clauses_at, if_clause, only_if_clause, splits, neg_part, pos_part, literals_of, lookups}
use Rattle.cert.proofs.Keyed.{by_form, no_key, real_key, window_key}

-- A table is well made where the sides of each join are at lower nodes.
unfoldable pub Below : ℕ → Node → Type 0
Below n (leaf a) = Unit {0}
Below n (join ls o l r) = (l.node < n) × (r.node < n)

unfoldable pub Ok : List Node → Type 0
Ok t = (n : ℕ) → n < length t → Below n (node_at t n)

unfoldable pub In : List Node → Request → Type 0
In t x = node_of x < length t

-- The counters, as `Grow` asks for them; the sums are left out.
abbrev pub counters : World Node Request Key (List ℕ) ℕ
counters = record {
  rules = λ t. record { needs = needs t; lookups = lookups t; group = literals_of t; pulls = pulls; sums = λ k. [] };
  Ok = Ok;
  In =
      In;
  KeyIn = KeyIn;
}

-- Later nodes change no earlier one.
pub at_more : (t u : List Node) (n : ℕ) → n < length t → node_at t n ≡ node_at (t ++ u) n
unfolding node_at
at_more t u n h = sym (get_or-append t u (leaf 0) n h)

pub side_len-more : (t u : List Node) (s : Side) → s.node < length t → side_len t s ≡ side_len (t ++ u) s
unfolding side_len
side_len-more t u s h = rw (at_more t u s.node h)

pub side_lit-more : (t u : List Node) (s : Side) (i : ℕ) → s.node < length t → side_lit t s i ≡ side_lit (t ++ u) s i
unfolding side_lit
side_lit-more t u s i h = rw (at_more t u s.node h)

side_outputs-more : (t u : List Node) (s : Side) → s.node < length t → side_outputs t s ≡ side_outputs (t ++ u) s
unfolding side_outputs
side_outputs-more t u s h = ap (λ (x : Node). outputs x s.offset (side_len t s)) (at_more t u s.node h)
    ∙ ap (outputs (node_at (t ++ u) s.node) s.offset) (side_len-more t u s h)

pub side_leaves-more : (t u : List Node) (s : Side) → s.node < length t → side_leaves t s ≡ side_leaves (t ++ u) s
unfolding side_leaves
side_leaves-more t u s h =
    ap (λ (a : Node). plain_or s.offset s.limit (leaves a) (side_outputs t s)) (at_more t u s.node h)
    ∙ ap (plain_or s.offset s.limit (leaves (node_at (t ++ u) s.node))) (side_outputs-more t u s h)

-- The sides of a node of a well made table.
pub sides_in : (t : List Node) → Ok t → (n : ℕ) → n < length t → Below (length t) (node_at t n)
unfolding Ok Below
sides_in t ok n h = up (node_at t n) (ok n h)
  where
    up : (a : Node) → Below n a → Below (length t) a
    up (leaf a) b = tt
    up (join ls o l r) b = omega arith

ok_less : (t u : List Node) → Ok (t ++ u) → Ok t
unfolding Ok
ok_less t u ok n h = rw (at_more t u n h) (ok n (omega (arith, length-append t u)))

-- Those of the left side, and those of the right.
pub needs_cases : (t : List Node) (ls : List ℕ) (o : ℕ) (l r : Side) (v : ℕ) (d : Direction) (y : Request)
    → Memᴰ y (needs_at t (join ls o l r) v d)
    → Memᴰ y (below d l (named d v (side_len t l) (side_len t r))) ⊎ Memᴰ y (below d r (named d v (side_len t r) (side_len t l)))
unfolding needs_at
needs_cases t ls o l r v d y m = Memᴰ.append_cases (below d l (named d v (side_len t l) (side_len t r))) m

below_node : (d : Direction) (s : Side) (is : List ℕ) (y : Request) → Memᴰ y (below d s is) → node_of y ≡ s.node
unfolding below node_of
below_node d s is y m = let i = Memᴰ.of_map (λ (i : ℕ). request s.node (s.offset + i) d) is m in rw (← i.2)

needs_under : (t : List Node) (a : Node) (v : ℕ) (d : Direction) (k : ℕ) (y : Request) → Below k a → Memᴰ y (needs_at t a v d) → node_of y < k
unfolding needs_at Below
needs_under t (leaf a) v d k y b m = absurd (Memᴰ.not-nil m)
needs_under t (join ls o l r) v d k y b m =
    ⊎_elim (λ h. rw (below_node d l (named d v (side_len t l) (side_len t r)) y h) b.0)
    (λ h. rw (below_node d r (named d v (side_len t r) (side_len t l)) y h) b.1) (needs_cases t ls o l r v d y m)

needs_more : (t u : List Node) → Ok t → (x : Request) → In t x → needs t x ≡ needs (t ++ u) x
unfolding needs In node_of needs_at Below
needs_more t u ok (request n v d) i = rw (← at_more t u n i) (go (node_at t n) (sides_in t ok n i))
  where
    go : (a : Node) → Below (length t) a → needs_at t a v d ≡ needs_at (t ++ u) a v d
    go (leaf a) b = refl
    go (join ls o l r) b = rw (side_len-more t u l b.0, side_len-more t u r b.1)

-- ---- what holds of the keys that a clause looks up

module _ (P : Key → Type 0) where
  abbrev pub AllKeys : Definition → Type 0
  AllKeys d = (k : Key) → Memᴰ k (key_of d) → P k

  one_key : (d : Definition) (k : Key) → key_of d ≡ k ∷ [] → P k → AllKeys d
  one_key d k e p j m = subst P (sym (Memᴰ.eq_of_singleton (subst (Memᴰ j) e m))) p

  pub node_keys : (n v : ℕ) (d : Direction) → P (real n v) → AllKeys (real_def n v d)
  node_keys n v d p = one_key (real_def n v d) (real n v) (real_key n v d) p

  pub side_keys_lem : (t : List Node) (s : Side) (i : ℕ) (d : Direction) → P (real s.node i)
      → (1 < side_len t s → P (window s.node s.offset (side_len t s))) → AllKeys (side_def t s i d)
  side_keys_lem t s i d p w =
      by_form AllKeys t s i d (λ _ k m. absurd (Memᴰ.not-nil (subst (Memᴰ k) (no_key (side_lit t s 1) i) m))) (λ _ _ _. node_keys s.node i d p)
      (λ l _ v _. one_key (window_def s.node s.offset (side_len t s) v d) (window s.node s.offset (side_len t s))
      (window_key s.node s.offset (side_len t s) v d) (w l))

  pub looks_all : (t : List Node) (c : Clause) → AllKeys (definition t c.left) → AllKeys (definition t c.right) → AllKeys (definition t c.this)
      → (k : Key) → Memᴰ k (looks_of t c) → P k
  unfolding looks_of
  looks_all t c l r h k m =
      let q = of_flat_map (λ (a : Lookup). key_of (definition t a)) (looked_up c) m in
      of_three (λ (a : Lookup). AllKeys (definition t a)) l r h q.0 q.1 k q.2

-- ---- the keys that a request looks up are at its node and at its sides'

-- A clause of a request, by its direction: that of a split over the sides of a join.
pub data ClauseForm (t : List Node) (n v : ℕ) : Node → Direction → Clause → Type 0 where
  an_if : {ls : List ℕ} {o : ℕ} {l r : Side} (a : ℕ) → Memᴰ a (splits v (side_len t l) (side_len t r))
      → ClauseForm t n v (join ls o l r) if (if_clause t n (join ls o l r) l r v a)
  an_only_if : {ls : List ℕ} {o : ℕ} {l r : Side} (a : ℕ) → Memᴰ a (splits (v - 1) (side_len t l) (side_len t r))
      → ClauseForm t n v (join ls o l r) only_if (only_if_clause t n (join ls o l r) l r v a)

pub clause_form : (t : List Node) (n v : ℕ) (x : Node) (d : Direction) (c : Clause) → Memᴰ c (clauses_at t n x v d) → ClauseForm t n v x d c
unfolding clauses_at
clause_form t n v (leaf a) d c m = absurd (Memᴰ.not-nil m)
clause_form t n v (join ls o l r) if c m =
    let j = Memᴰ.of_map (if_clause t n (join ls o l r) l r v) (splits v (side_len t l) (side_len t r)) m in
    subst (ClauseForm t n v (join ls o l r) if) j.2 (an_if j.0 j.1)
clause_form t n v (join ls o l r) only_if c m =
    let j = Memᴰ.of_map (only_if_clause t n (join ls o l r) l r v) (splits (v - 1) (side_len t l) (side_len t r)) m in
    subst (ClauseForm t n v (join ls o l r) only_if) j.2 (an_only_if j.0 j.1)

lookups_in : (t : List Node) → Ok t → (x : Request) (k : Key) → In t x → Memᴰ k (lookups t x) → KeyIn t k
unfolding lookups In KeyIn key_node node_of clauses_of Below definition if_clause only_if_clause
lookups_in t ok (request n v d) k i m =
    let c = of_flat_map (looks_of t) (clauses_of t (request n v d)) m in
    go (sides_in t ok n i) (clause_form t n v (node_at t n) d c.0 c.1) c.2
  where
    go : {x : Node} {d : Direction} {c : Clause} → Below (length t) x → ClauseForm t n v x d c → Memᴰ k (looks_of t c) → KeyIn t k
    go b (an_if {ls = ls} {o = o} {l = l} {r = r} a m) h =
        looks_all (KeyIn t) t (if_clause t n (join ls o l r) l r v a) (side_keys_lem (KeyIn t) t l a only_if b.0 (λ _. b.0))
        (side_keys_lem (KeyIn t) t r (v - a) only_if b.1 (λ _. b.1)) (node_keys (KeyIn t) n v if i) k h
    go b (an_only_if {ls = ls} {o = o} {l = l} {r = r} a m) h =
        looks_all (KeyIn t) t (only_if_clause t n (join ls o l r) l r v a) (side_keys_lem (KeyIn t) t l (suc a) if b.0 (λ _. b.0))
        (side_keys_lem (KeyIn t) t r (suc (v - 1 - a)) if b.1 (λ _. b.1)) (node_keys (KeyIn t) n v only_if i) k h

-- ---- later nodes change no clause

side_def-more : (t u : List Node) (s : Side) (i : ℕ) (d : Direction) → s.node < length t → side_def t s i d ≡ side_def (t ++ u) s i d
unfolding side_def
side_def-more t u s i d h = rw (← side_len-more t u s h, ← side_lit-more t u s 1 h)

neg_part-more : (t u : List Node) (s : Side) (i : ℕ) → s.node < length t → neg_part t s i ≡ neg_part (t ++ u) s i
unfolding neg_part
neg_part-more t u s zero h = refl
neg_part-more t u s (suc i) h = rw (side_lit-more t u s (suc i) h)

pos_part-more : (t u : List Node) (s : Side) (i : ℕ) → s.node < length t → pos_part t s i ≡ pos_part (t ++ u) s i
unfolding pos_part
pos_part-more t u s i h = rw (side_lit-more t u s i h, side_len-more t u s h)

if_clause-more : (t u : List Node) (n : ℕ) (x : Node) (l r : Side) (v a : ℕ) → l.node < length t → r.node < length t
    → if_clause t n x l r v a ≡ if_clause (t ++ u) n x l r v a
unfolding if_clause
if_clause-more t u n x l r v a hl hr =
    rw (← neg_part-more t u l a hl, ← neg_part-more t u r (v - a) hr)

only_if_clause-more : (t u : List Node) (n : ℕ) (x : Node) (l r : Side) (v a : ℕ) → l.node < length t → r.node < length t
    → only_if_clause t n x l r v a ≡ only_if_clause (t ++ u) n x l r v a
unfolding only_if_clause
only_if_clause-more t u n x l r v a hl hr =
    rw (← pos_part-more t u l (suc a) hl, ← pos_part-more t u r (suc (v - 1 - a)) hr)

pub clauses_more : (t u : List Node) → Ok t → (x : Request) → In t x → clauses_of t x ≡ clauses_of (t ++ u) x
unfolding clauses_of In node_of clauses_at Below
clauses_more t u ok (request n v d) i = rw (← at_more t u n i) (go (node_at t n) d (sides_in t ok n i))
  where
    go : (a : Node) (d : Direction) → Below (length t) a → clauses_at t n a v d ≡ clauses_at (t ++ u) n a v d
    go (leaf a) d b = refl
    go (join ls o l r) if b =
        rw (← side_len-more t u l b.0, ← side_len-more t u r b.1)
        (map_agree (splits v (side_len t l) (side_len t r)) (λ a h. if_clause-more t u n (join ls o l r) l r v a b.0 b.1))
    go (join ls o l r) only_if b =
        rw (← side_len-more t u l b.0, ← side_len-more t u r b.1)
        (map_agree (splits (v - 1) (side_len t l) (side_len t r)) (λ a h. only_if_clause-more t u n (join ls o l r) l r v a b.0 b.1))

-- Nor what it looks up.
looks_more : (t u : List Node) → Ok t → (x : Request) → In t x → (c : Clause) → Memᴰ c (clauses_of t x) → looks_of t c ≡ looks_of (t ++ u) c
unfolding clauses_of In node_of Below looks_of definition if_clause only_if_clause
looks_more t u ok (request n v d) i c m = go (sides_in t ok n i) (clause_form t n v (node_at t n) d c m)
  where
    go : {x : Node} {d : Direction} {c : Clause} → Below (length t) x → ClauseForm t n v x d c → looks_of t c ≡ looks_of (t ++ u) c
    go b (an_if {l = l} {r = r} a m) = rw (← side_def-more t u l a only_if b.0, ← side_def-more t u r (v - a) only_if b.1)
    go b (an_only_if {l = l} {r = r} a m) = rw (← side_def-more t u l (suc a) if b.0, ← side_def-more t u r (suc (v - 1 - a)) if b.1)

pub pulls_cases : (n f m : ℕ) (j : Key) → Memᴰ j (pulls (window n f m)) → (j ≡ window_zero n f m) ⊎ Memᴰ j (window_reals n f m)
unfolding pulls
pulls_cases n f m j h = Memᴰ.cases_cons h

reals_node : (n f s k : ℕ) (j : Key) → Memᴰ j (map (λ (i : ℕ). real n (f + i)) (range s k)) → (key_node j ≡ n) × (key_rank j ≡ 0)
unfolding key_node key_rank
reals_node n f s k j h = let q = Memᴰ.of_map (λ (i : ℕ). real n (f + i)) (range s k) h in rw (← q.2) (refl, refl)

window_reals_node : (n f m : ℕ) (j : Key) → Memᴰ j (window_reals n f m) → (key_node j ≡ n) × (key_rank j ≡ 0)
window_reals_node n f m j h = reals_node n f _ _ j h

pulls_in : (t : List Node) (k j : Key) → KeyIn t k → Memᴰ j (pulls k) → (key_node j < length t) × (key_rank j < key_rank k)
unfolding pulls KeyIn key_node key_rank
pulls_in t (real n v) j i m = absurd (Memᴰ.not-nil m)
pulls_in t (window_zero n f k) j i m = absurd (Memᴰ.not-nil m)
pulls_in t (window n f k) j i m =
    ⊎_elim (λ e. rw e (i, omega arith)) (λ h. let q = window_reals_node n f k j h in rw (q.0, q.1) (i, omega arith)) (pulls_cases n f k j m)

needs_in : (t : List Node) → Ok t → (x y : Request) → In t x → Memᴰ y (needs t x) → In t y
unfolding needs In
needs_in t ok (request n v d) y i m = needs_under t (node_at t n) v d (length t) y (sides_in t ok n (unfold node_of in i)) m

needs_lower : (t : List Node) → Ok t → (x y : Request) → In t x → Memᴰ y (needs t x) → node_of y < node_of x
unfolding needs In node_of Ok
needs_lower t ok (request n v d) y i m = needs_under t (node_at t n) v d n y (ok n i) m

-- The theory of crate `memo` applies to the counters.
pub counters_grow : Grows counters
unfolding In KeyIn literals_of lookups
counters_grow = record {
  ok_less = ok_less;
  in_more = λ t u x i. omega (arith, length-append t u);
  needs_in = needs_in;
  lookups_in = lookups_in;
  pulls_in = λ t ok k j i m. (pulls_in t k j i m).0;
  needs_more = needs_more;
  lookups_more = λ t u ok x i. flat_map_agree (clauses_of t x) (looks_more t u ok x i) ∙ ap (flat_map (looks_of (t ++ u))) (clauses_more t u ok x i);
  group_more = λ t u ok x i. ap (map {B = List ℕ} (λ (c : Clause). c.literals)) (clauses_more t u ok x i);
  pulls_more = λ t u ok k i. refl;
  sums_more = λ t u ok k i. refl;
}

pub needs_fall : (t : List Node) → Ok t → Falls (needs t) (In t) node_of
needs_fall t ok = record { good = needs_in t ok; lower = needs_lower t ok }

pub pulls_fall : (t : List Node) → Falls pulls (KeyIn t) key_rank
unfolding KeyIn
pulls_fall t = record { good = λ k j i m. (pulls_in t k j i m).0; lower = λ k j i m. (pulls_in t k j i m).1 }
