-- The definitions that document 01 lists for the clauses of a request are those that the player looks up, with all that they pull in.
use mathlib.Core.Path.{◌≡◌, refl, sym, ap, subst, ◌∙◌}
use mathlib.Core.Logic.{◌⊎◌, inl, inr, ⊎_elim, ite}
use mathlib.Core.List.Memᴰ
use mathlib.Core.List.{List, [], ◌∷◌, ◌++◌, map, flat_map, Memᴰ}
use Prim.Native.Nat.{ℕ, zero, suc, ◌+◌, ◌-◌, ◌≤◌, ◌<◌}
use native.Mathlib.Decide.{ℕ_discrete}
use native.Mathlib.Omega.{arith}
use Rattle.memo.specs.Closure.{From, Reach, reach_here, reach_down}
use Rattle.memo.proofs.Lists.{flat_map_map, map_twice}
use Rattle.totdb.specs.Nodes.{Node, leaf, join, node_at, range, side_len, side_lit, plain_or}
use Rattle.totdb.specs.declared.Side.{Side}
use Rattle.cert.specs.Definitions.{Direction, if, only_if, Key, real, window, Definition, side_def, real_def, pulls}
use Rattle.cert.specs.Lookups.{window_keys, side_keys, lookup_keys, used_at, used_by, keys_of}
use Rattle.cert.specs.Requests.{Request, request, splits, Lookup, of_side, of_node, Clause, definition, looked_up, key_of, looks_of, if_clause, only_if_clause, clauses_at, clauses_of, lookups, Right}
use Rattle.cert.specs.Sized.{Fit, Sized}
use Rattle.cert.proofs.Apart.{range_mem, range_has}
use Rattle.cert.proofs.Keyed.{by_form, no_key, real_key, window_key}
use Rattle.cert.specs.Totalizer.{pairs}
use Rattle.cert.proofs.Rules.{ClauseForm, an_if, an_only_if, clause_form}
use Rattle.cert.proofs.Pulls.{pulls_mem, pulls_zero, pulls_real}
use Rattle.cert.proofs.Schema.{pairs_splits}

-- `ks` are the keys of `xs` and all that these pull in.
abbrev pub Covers : List Key → List Key → Type 0
Covers xs ks = (k : Key) → (From pulls xs k → Memᴰ k ks) × (Memᴰ k ks → From pulls xs k)

covers_nil : Covers [] []
covers_nil k = (λ f. absurd (Memᴰ.not-nil f.1), λ m. absurd (Memᴰ.not-nil m))

covers_append : {xs ys ks js : List Key} → Covers xs ks → Covers ys js → Covers (xs ++ ys) (ks ++ js)
covers_append {xs} {ys} {ks} {js} c d k = (
  λ f. ⊎_elim (λ m. Memᴰ.append_left js ((c k).0 (f.0, m, f.2))) (λ m. Memᴰ.append_right ks ((d k).0 (f.0, m, f.2)))
      (Memᴰ.append_cases xs f.1),
  λ m. ⊎_elim (λ h. let f = (c k).1 h in (f.0, Memᴰ.append_left ys f.1, f.2)) (λ h. let f = (d k).1 h in (f.0, Memᴰ.append_right xs f.1, f.2))
      (Memᴰ.append_cases ks m),
)

covers_flat_map : {A : Type 0} (f g : A → List Key) (l : List A) → ((a : A) → Memᴰ a l → Covers (f a) (g a)) → Covers (flat_map f l) (flat_map g l)
unfolding flat_map
covers_flat_map f g [] h = covers_nil
covers_flat_map f g (x ∷ l) h = covers_append (h x (Memᴰ.head refl)) (covers_flat_map f g l (λ a m. h a (Memᴰ.tail m)))

-- ---- what a key pulls in

first_step : {a b : Key} → Reach pulls a b → (a ≡ b) ⊎ ((c : Key) × Memᴰ c (pulls a) × Reach pulls c b)
first_step (reach_here e) = inl e
first_step (reach_down {c = c} m r) = inr (c, m, r)

-- A key that pulls nothing in.
reach_last : {a b : Key} → pulls a ≡ [] → Reach pulls a b → b ≡ a
reach_last {a} {b} e r = ⊎_elim (λ i. sym i) (λ i. absurd (Memᴰ.not-nil (subst (Memᴰ i.0) e i.1))) (first_step r)

covers_last : (a : Key) → pulls a ≡ [] → Covers (a ∷ []) (a ∷ [])
covers_last a e k = (
  λ f. Memᴰ.head (reach_last e (subst (λ (b : Key). Reach pulls b k) (Memᴰ.eq_of_singleton f.1) f.2)),
  λ m. (a, Memᴰ.head refl, reach_here (sym (Memᴰ.eq_of_singleton m))),
)

covers_real : (n v : ℕ) → Covers (real n v ∷ []) (real n v ∷ [])
covers_real n v = covers_last (real n v) (unfold pulls in refl)

-- What a window pulls in pulls in nothing more.
pulled_last : (n f m : ℕ) (c : Key) → Memᴰ c (pulls (window n f m)) → pulls c ≡ []
unfolding pulls
pulled_last n f m c h = ⊎_elim (λ e. ap pulls e) (λ q. ap pulls (sym q.3)) (pulls_mem n f m c h)

real_listed : (n s k v : ℕ) (ks : List Key) → s ≤ v → v < s + k → Memᴰ (real n v) (map (real n) (range s k) ++ ks)
real_listed n s k v ks h g = Memᴰ.append_left ks (Memᴰ.map (real n) (range_has s k v h g))

of_listed : (n s k : ℕ) (ks : List Key) (c : Key) → Memᴰ c (map (real n) (range s k) ++ ks)
    → ((v : ℕ) × (s ≤ v) × (v < s + k) × (real n v ≡ c)) ⊎ Memᴰ c ks
of_listed n s k ks c h =
    ⊎_elim (λ g. let j = Memᴰ.of_map (real n) (range s k) g in let b = range_mem s k j.0 j.1 in inl (j.0, b.0, b.1, j.2)) inr
    (Memᴰ.append_cases (map (real n) (range s k)) h)

pulled_from : (n f m : ℕ) (c : Key) → Memᴰ c (pulls (window n f m)) → Memᴰ c (window_keys n f m)
pulled_from n f m c h =
    ⊎_elim (λ e. Memᴰ.head e)
    (λ q. Memᴰ.cast (sym q.3) (Memᴰ.tail (real_listed n _ _ q.0 (window n f m ∷ []) (omega (arith, q.1)) (omega (arith, q.2)))))
    (pulls_mem n f m c h)

pulled_has : (n f m : ℕ) (c : Key) → Memᴰ c (window_keys n f m) → (c ≡ window n f m) ⊎ Memᴰ c (pulls (window n f m))
pulled_has n f m c h =
    ⊎_elim (λ e. inr (Memᴰ.cast e (pulls_zero n f m)))
    (λ i. ⊎_elim (λ q. inr (Memᴰ.cast (sym q.3) (pulls_real n f m q.0 (omega (arith, q.1)) (omega (arith, q.2)))))
    (λ g. inl (Memᴰ.eq_of_singleton g)) (of_listed n _ _ (window n f m ∷ []) c i))
    (Memᴰ.cases_cons h)

last_listed : (n s k : ℕ) (c : Key) → Memᴰ c (map (real n) (range s k) ++ (c ∷ []))
last_listed n s k c = Memᴰ.append_right (map (real n) (range s k)) (Memᴰ.head refl)

windows_own : (n f m : ℕ) → Memᴰ (window n f m) (window_keys n f m)
windows_own n f m = Memᴰ.tail (last_listed n _ _ (window n f m))

covers_window : (n f m : ℕ) → Covers (window n f m ∷ []) (window_keys n f m)
covers_window n f m k = (
  λ g. ⊎_elim (λ e. Memᴰ.cast (sym e) (windows_own n f m))
      (λ i. Memᴰ.cast (reach_last (pulled_last n f m i.0 i.1) i.2) (pulled_from n f m i.0 i.1))
      (first_step (subst (λ (b : Key). Reach pulls b k) (Memᴰ.eq_of_singleton g.1) g.2)),
  λ h. ⊎_elim (λ e. (window n f m, Memᴰ.head refl, reach_here (sym e)))
      (λ i. (window n f m, Memᴰ.head refl, reach_down i (reach_here refl)))
      (pulled_has n f m k h),
)

-- ---- the keys of a definition

covers_own : (d : Direction) (n v : ℕ) → Covers (key_of (real_def n v d)) (real n v ∷ [])
covers_own d n v = rw (real_key n v d) (covers_real n v)

module _ (t : List Node) (s : Side) (i : ℕ) where
  keys_short : side_len t s ≡ 1 → side_keys t s i ≡ []
  unfolding side_keys
  keys_short h = by (ℕ_discrete (side_len t s) 1)
    where
      by : (e : Dec (side_len t s ≡ 1)) → ite e [] (plain_or s.offset s.limit (real s.node i ∷ []) (window_keys s.node s.offset (side_len t s))) ≡ []
      by (yes e) = refl
      by (no e) = absurd (e h)

  keys_long : 1 < side_len t s
      → side_keys t s i ≡ plain_or s.offset s.limit (real s.node i ∷ []) (window_keys s.node s.offset (side_len t s))
  unfolding side_keys
  keys_long h = by (ℕ_discrete (side_len t s) 1)
    where
      by : (e : Dec (side_len t s ≡ 1))
          → ite e [] (plain_or s.offset s.limit (real s.node i ∷ []) (window_keys s.node s.offset (side_len t s)))
          ≡ plain_or s.offset s.limit (real s.node i ∷ []) (window_keys s.node s.offset (side_len t s))
      by (yes e) = absurd (omega arith)
      by (no e) = refl

plain_or_lem : {A : Type 0} (f k : ℕ) (a b : A) → f ≡ 0 → k ≡ 0 → plain_or f k a b ≡ a
unfolding plain_or
plain_or_lem f k a b p q = rw (p, q)

pub window_or : {A : Type 0} (f k : ℕ) (a b : A) → 0 < f + k → plain_or f k a b ≡ b
unfolding plain_or
window_or zero zero a b h = absurd (omega arith)
window_or zero (suc k) a b h = refl
window_or (suc f) k a b h = refl

covers_side : (t : List Node) (s : Side) (i : ℕ) (d : Direction) → 1 ≤ side_len t s → Covers (key_of (side_def t s i d)) (side_keys t s i)
covers_side t s i d some-side =
    by_form (λ (x : Definition). Covers (key_of x) (side_keys t s i)) t s i d
    (λ l. rw (no_key (side_lit t s 1) i, keys_short t s i (omega arith)) covers_nil)
    (λ l f k. rw (keys_long t s i l, plain_or_lem s.offset s.limit (real s.node i ∷ []) (window_keys s.node s.offset (side_len t s)) f k)
    (covers_own d s.node i))
    (λ l w v k. rw (
      keys_long t s i l,
      window_or s.offset s.limit (real s.node i ∷ []) (window_keys s.node s.offset (side_len t s)) w,
      window_key s.node s.offset (side_len t s) v d,
    ) (covers_window s.node s.offset (side_len t s)))

-- ---- the definitions and the keys of a request

map_pairs : {B : Type 0} (p q σ : ℕ) (f : ℕ × ℕ → B) → map f (pairs p q σ) ≡ map (λ (α : ℕ). f (α, σ - α)) (splits σ p q)
map_pairs p q σ f = ap (map f) (pairs_splits p q σ) ∙ map_twice (λ (α : ℕ). (α, σ - α)) f (splits σ p q)

-- What the clauses look up is what document 01 lists.
pub used_are : (t : List Node) (x : Request) → Right t x → map {B = List Lookup} looked_up (clauses_of t x) ≡ used_by t x
unfolding clauses_of clauses_at used_by used_at Right if_clause only_if_clause
used_are t (request n v d) h = go (node_at t n) d v h.1
  where
    go : (a : Node) (d : Direction) (v : ℕ) → 1 ≤ v → map {B = List Lookup} looked_up (clauses_at t n a v d) ≡ used_at t n a d v
    go (leaf a) d v low = refl
    go (join ls o l r) if v low =
        map_twice (if_clause t n (join ls o l r) l r v) looked_up (splits v (side_len t l) (side_len t r))
        ∙ sym (map_pairs (side_len t l) (side_len t r) v (λ (x : ℕ × ℕ). of_side l x.0 only_if ∷ of_side r x.1 only_if ∷ of_node n v if ∷ []))
    go (join ls o l r) only_if zero low = absurd (omega arith)
    go (join ls o l r) only_if (suc σ) low =
        let e : suc σ - 1 ≡ σ = omega arith in
        map_twice (only_if_clause t n (join ls o l r) l r (suc σ)) looked_up (splits (suc σ - 1) (side_len t l) (side_len t r))
        ∙ rw e (sym (map_pairs (side_len t l) (side_len t r) σ
        (λ (x : ℕ × ℕ). of_side l (suc x.0) if ∷ of_side r (suc x.1) if ∷ of_node n (suc σ) only_if ∷ [])))

-- So are the keys, with all that they pull in.
pub lookups_are : (t : List Node) → Sized t → (x : Request) → Right t x → Covers (lookups t x) (keys_of t x)
unfolding lookups clauses_of keys_of Right Sized Fit looks_of definition lookup_keys if_clause only_if_clause flat_map
lookups_are t sz (request n v d) h =
    rw (← used_are t (request n v d) h, flat_map_map looked_up (flat_map {B = Key} (lookup_keys t)) (clauses_of t (request n v d)))
    (covers_flat_map (looks_of t) (λ (c : Clause). flat_map {B = Key} (lookup_keys t) (looked_up c)) (clauses_of t (request n v d))
    (λ c m. one (sz n h.0) (clause_form t n v (node_at t n) d c m)))
  where
    one : {x : Node} {d : Direction} {c : Clause} → Fit t n x → ClauseForm t n v x d c → Covers (looks_of t c) (flat_map {B = Key} (lookup_keys t) (looked_up c))
    one fit (an_if {l = l} {r = r} a m) =
        covers_append (covers_side t l a only_if fit.7)
        (covers_append (covers_side t r (v - a) only_if fit.8) (covers_append (covers_own if n v) covers_nil))
    one fit (an_only_if {l = l} {r = r} a m) =
        covers_append (covers_side t l (suc a) if fit.7)
        (covers_append (covers_side t r (suc (v - 1 - a)) if fit.8) (covers_append (covers_own only_if n v) covers_nil))
