-- The clauses are each written once: no request has one twice, and no two requests share one. A clause's last literal says whose it is.
use mathlib.Core.Path.{◌≡◌, refl, sym, ◌∙◌, ap, subst}
use mathlib.Core.Logic.{◌⊎◌, inl, inr, ⊎_elim, dite}
use mathlib.Core.List.Memᴰ
use mathlib.Core.List.{List, [], ◌∷◌, ◌++◌, map, Memᴰ, Nodup, Nodup-nil, Nodup-cons, head-eq_of_cons-eq}
use Prim.Native.Nat.{ℕ, zero, suc, ◌+◌, ◌-◌, ◌%◌, min, ◌≤◌, ◌<◌}
use native.Mathlib.Decide.{dec_le, dec_lt}
use native.Mathlib.Omega.{arith}
use lib.ListN.{length}
use Rattle.pb.specs.Sum.{neg}
use Rattle.memo.proofs.Lists.{not_mem, map_twice, nodup_map}
use Rattle.totdb.specs.Nodes.{range, Node, len, node_at, leaf, join, side_len, output, side_lit}
use Rattle.totdb.specs.declared.Side.{Side}
use Rattle.cert.specs.Definitions.{Direction, if, only_if}
use Rattle.cert.specs.Requests.{splits, positive, within, named, Request, request, needs, needs_at, below, neg_part, pos_part, clauses_of, clauses_at, if_clause, only_if_clause, Clause, literals_of, Right}
use Rattle.cert.specs.Sized.{Fit, Sized, Numbered}
use Rattle.cert.proofs.LeavesBelow.{separate_differ}
use Rattle.cert.proofs.Rules.{Ok, Below, needs_cases}

pub range_mem : (s n a : ℕ) → Memᴰ a (range s n) → (s ≤ a) × (a < s + n)
unfolding range
range_mem s zero a m = absurd (Memᴰ.not-nil m)
range_mem s (suc n) a m = ⊎_elim (λ e. omega arith) (λ h. omega (arith, range_mem (suc s) n a h)) (Memᴰ.cases_cons m)

pub range_has : (s n a : ℕ) → s ≤ a → a < s + n → Memᴰ a (range s n)
unfolding range
range_has s zero a l h = absurd (omega arith)
range_has s (suc n) a l h = step (dec_le a s) (λ k. range_has (suc s) n a k (omega arith))
  where
    step : Dec (a ≤ s) → (suc s ≤ a → Memᴰ a (range (suc s) n)) → Memᴰ a (s ∷ range (suc s) n)
    step (yes k) f = let e : a ≡ s = omega arith in Memᴰ.head e
    step (no k) f = Memᴰ.tail (f (omega arith))

range_once : (s n : ℕ) → Nodup (range s n)
unfolding range
range_once s zero = Nodup-nil
range_once s (suc n) = Nodup-cons.1 (not_mem (λ m. omega (arith, range_mem (suc s) n s m)), range_once (suc s) n)

splits_once : (v p q : ℕ) → Nodup (splits v p q)
unfolding splits
splits_once v p q = range_once (v - q) (suc (min v p) - (v - q))

-- `splits v p q` are the `a` with `a + b ≡ v`, `a ≤ p` and `b ≤ q`.
pub splits_mem : (v p q a : ℕ) → Memᴰ a (splits v p q) → (a ≤ v) × (a ≤ p) × (v ≤ a + q)
unfolding splits
splits_mem v p q a m = omega (arith, range_mem (v - q) (suc (min v p) - (v - q)) a m)

pub splits_has : (v p q a : ℕ) → a ≤ v → a ≤ p → v ≤ a + q → Memᴰ a (splits v p q)
unfolding splits
splits_has v p q a h k l = range_has (v - q) (suc (min v p) - (v - q)) a (omega arith) (omega arith)

pub positive_mem : (l : List ℕ) (a : ℕ) → Memᴰ a (positive l) → (1 ≤ a) × Memᴰ a l
unfolding positive
positive_mem [] a m = absurd (Memᴰ.not-nil m)
positive_mem (zero ∷ l) a m = let r = positive_mem l a m in (r.0, Memᴰ.tail r.1)
positive_mem (suc b ∷ l) a m =
    ⊎_elim (λ e. (omega arith, Memᴰ.head e)) (λ h. let r = positive_mem l a h in (r.0, Memᴰ.tail r.1)) (Memᴰ.cases_cons m)

pub positive_has : (l : List ℕ) (a : ℕ) → 1 ≤ a → Memᴰ a l → Memᴰ a (positive l)
unfolding positive
positive_has [] a h m = m
positive_has (zero ∷ l) a h m = ⊎_elim (λ e. absurd (omega arith)) (positive_has l a h) (Memᴰ.cases_cons m)
positive_has (suc b ∷ l) a h m = ⊎_elim (λ e. Memᴰ.head e) (λ i. Memᴰ.tail (positive_has l a h i)) (Memᴰ.cases_cons m)

pub within_mem : (p : ℕ) (l : List ℕ) (a : ℕ) → Memᴰ a (within p l) → (a ≤ p) × Memᴰ a l
unfolding within
within_mem p [] a m = absurd (Memᴰ.not-nil m)
within_mem p (b ∷ l) a m = step (dec_le b p) (within_mem p l a) m
  where
    step : (d : Dec (b ≤ p)) → (Memᴰ a (within p l) → (a ≤ p) × Memᴰ a l) → Memᴰ a (dite d (λ _. b ∷ within p l) (λ _. within p l))
        → (a ≤ p) × Memᴰ a (b ∷ l)
    step (yes k) f h = ⊎_elim (λ e. (omega arith, Memᴰ.head e)) (λ i. let r = f i in (r.0, Memᴰ.tail r.1)) (Memᴰ.cases_cons h)
    step (no k) f h = let r = f h in (r.0, Memᴰ.tail r.1)

pub within_has : (p : ℕ) (l : List ℕ) (a : ℕ) → a ≤ p → Memᴰ a l → Memᴰ a (within p l)
unfolding within
within_has p [] a h m = m
within_has p (b ∷ l) a h m = step (dec_le b p) (within_has p l a h) (Memᴰ.cases_cons m)
  where
    step : (d : Dec (b ≤ p)) → (Memᴰ a l → Memᴰ a (within p l)) → (a ≡ b) ⊎ Memᴰ a l
        → Memᴰ a (dite d (λ _. b ∷ within p l) (λ _. within p l))
    step (yes k) f (inl e) = Memᴰ.head e
    step (yes k) f (inr i) = Memᴰ.tail (f i)
    step (no k) f (inl e) = absurd (omega arith)
    step (no k) f (inr i) = f i

-- In both directions the same indices are named.
pub named_mem : (d : Direction) (v p q a : ℕ) → 1 ≤ v → Memᴰ a (named d v p q) → (1 ≤ a) × (a ≤ p) × (a ≤ v) × (v ≤ a + q)
unfolding named
named_mem if v p q a h m = let r = positive_mem (splits v p q) a m in omega (arith, r.0, splits_mem v p q a r.1)
named_mem only_if v p q a h m =
    let r = within_mem p (map suc (splits (v - 1) p q)) a m in
    let i = Memᴰ.of_map suc (splits (v - 1) p q) r.1 in
    omega (arith, r.0, i.2, splits_mem (v - 1) p q i.0 i.1)

pub named_has : (d : Direction) (v p q a : ℕ) → 1 ≤ a → a ≤ p → a ≤ v → v ≤ a + q → Memᴰ a (named d v p q)
unfolding named
named_has if v p q a h k i j = positive_has (splits v p q) a h (splits_has v p q a i k j)
named_has only_if v p q zero h k i j = absurd (omega arith)
named_has only_if v p q (suc a) h k i j =
    within_has p (map suc (splits (v - 1) p q)) (suc a) k
    (Memᴰ.map suc (splits_has (v - 1) p q a (omega arith) (omega arith) (omega arith)))

-- A table whose joins fit is well made.
pub sized_ok : (t : List Node) → Sized t → Ok t
unfolding Sized Ok Fit Below
sized_ok t sz n h = go (node_at t n) (sz n h)
  where
    go : (a : Node) → Fit t n a → Below n a
    go (leaf a) f = tt
    go (join m o l r) f = (f.0, f.1)

pub fit_at : (t : List Node) → Sized t → (n : ℕ) (ls : List ℕ) (o : ℕ) (l r : Side) → n < length t → node_at t n ≡ join ls o l r
    → Fit t n (join ls o l r)
unfolding Sized
fit_at t sz n ls o l r h e = subst (Fit t n) e (sz n h)

-- No two outputs have one literal.
unfoldable pub Apart : List Node → Type 0
Apart t = (n m i j : ℕ) → n < length t → m < length t → 1 ≤ i → i ≤ len (node_at t n) → 1 ≤ j → j ≤ len (node_at t m) → output (node_at t n) i ≡ output (node_at t m) j
    → (n ≡ m) × (i ≡ j)

pub right_needs : (t : List Node) → Sized t → (x y : Request) → Right t x → Memᴰ y (needs t x) → Right t y
unfolding needs Right Sized needs_at Fit below
right_needs t sz (request n v d) y x m = go (node_at t n) (sz n x.0) m
  where
    side : (s : Side) (q : ℕ) → s.node < length t → s.offset + side_len t s ≤ len (node_at t s.node)
        → Memᴰ y (below d s (named d v (side_len t s) q)) → Right t y
    side s q h k g =
        let i = Memᴰ.of_map (λ (i : ℕ). request s.node (s.offset + i) d) (named d v (side_len t s) q) g in
        subst (Right t) i.2 (omega (arith, named_mem d v (side_len t s) q i.0 x.1 i.1))

    go : (a : Node) → Fit t n a → Memᴰ y (needs_at t a v d) → Right t y
    go (leaf a) f g = absurd (Memᴰ.not-nil g)
    go (join p o l r) f g =
        ⊎_elim (side l (side_len t r) (omega arith) f.3) (side r (side_len t l) (omega arith) f.4) (needs_cases t p o l r v d y g)

-- The literals of the clauses of a request, by the node.
unfoldable group_at : List Node → Node → ℕ → Direction → List (List ℕ)
unfolding neg_part pos_part output splits side_len neg
group_at t (leaf a) v d = []
group_at t (join m o l r) v if =
    map {B = List ℕ} (λ (a : ℕ). neg_part t l a ++ neg_part t r (v - a) ++ (output (join m o l r) v ∷ [])) (splits v (side_len t l) (side_len t r))
group_at t (join m o l r) v only_if =
    map {B = List ℕ} (λ (a : ℕ). pos_part t l (suc a) ++ pos_part t r (suc (v - 1 - a)) ++ (neg (output (join m o l r) v) ∷ []))
    (splits (v - 1) (side_len t l) (side_len t r))

group_is : (t : List Node) (n v : ℕ) (d : Direction) → literals_of t (request n v d) ≡ group_at t (node_at t n) v d
unfolding literals_of clauses_of clauses_at group_at if_clause only_if_clause
group_is t n v d = go (node_at t n) d
  where
    go : (a : Node) (d : Direction) → map {B = List ℕ} (λ (c : Clause). c.literals) (clauses_at t n a v d) ≡ group_at t a v d
    go (leaf a) d = refl
    go (join m o l r) if = map_twice (if_clause t n (join m o l r) l r v) (λ (c : Clause). c.literals) (splits v (side_len t l) (side_len t r))
    go (join m o l r) only_if =
        map_twice (only_if_clause t n (join m o l r) l r v) (λ (c : Clause). c.literals) (splits (v - 1) (side_len t l) (side_len t r))

-- The last literal of a clause.
last_of : ℕ → List ℕ → ℕ
last_of d [] = d
last_of d (x ∷ xs) = last_of x xs

last_snoc : (d : ℕ) (l : List ℕ) (z : ℕ) → last_of d (l ++ (z ∷ [])) ≡ z
unfolding last_of
last_snoc d [] z = refl
last_snoc d (x ∷ xs) z = last_snoc x xs z

-- The literal that ends each clause of a request.
ends : List Node → Request → ℕ
ends t (request n v if) = output (node_at t n) v
ends t (request n v only_if) = neg (output (node_at t n) v)

group_ends : (t : List Node) (x : Request) (c : List ℕ) → Memᴰ c (literals_of t x) → last_of 0 c ≡ ends t x
unfolding group_at ends
group_ends t (request n v if) c m = go (node_at t n) (rw group_is at m)
  where
    go : (a : Node) → Memᴰ c (group_at t a v if) → last_of 0 c ≡ output a v
    go (leaf a) g = absurd (Memᴰ.not-nil g)
    go (join p o l r) g =
        let i = Memᴰ.of_map {B = List ℕ} (λ (a : ℕ). neg_part t l a ++ neg_part t r (v - a) ++ (output (join p o l r) v ∷ []))
        (splits v (side_len t l) (side_len t r)) g in
        ap (last_of 0) (sym i.2) ∙ last_snoc 0 (neg_part t l i.0 ++ neg_part t r (v - i.0)) (output (join p o l r) v)
group_ends t (request n v only_if) c m = go (node_at t n) (rw group_is at m)
  where
    go : (a : Node) → Memᴰ c (group_at t a v only_if) → last_of 0 c ≡ neg (output a v)
    go (leaf a) g = absurd (Memᴰ.not-nil g)
    go (join p o l r) g =
        let i = Memᴰ.of_map {B = List ℕ} (λ (a : ℕ). pos_part t l (suc a) ++ pos_part t r (suc (v - 1 - a)) ++ (neg (output (join p o l r) v) ∷ []))
        (splits (v - 1) (side_len t l) (side_len t r)) g in
        ap (last_of 0) (sym i.2) ∙ last_snoc 0 (pos_part t l (suc i.0) ++ pos_part t r (suc (v - 1 - i.0))) (neg (output (join p o l r) v))

-- A request with a clause is at a join, whose outputs are even.
group_even : (t : List Node) (n v : ℕ) (d : Direction) (c : List ℕ) → Memᴰ c (literals_of t (request n v d)) → output (node_at t n) v % 2 ≡ 0
unfolding group_at output
group_even t n v d c m = go (node_at t n) (rw group_is at m)
  where
    go : (a : Node) → Memᴰ c (group_at t a v d) → output a v % 2 ≡ 0
    go (leaf a) g = absurd (Memᴰ.not-nil g)
    go (join p o l r) g = omega arith

neg_inj : (x y : ℕ) → neg x ≡ neg y → x ≡ y
unfolding neg
neg_inj x y e = omega arith

-- No two requests share a clause.
pub group_apart : (t : List Node) → Apart t → (x y : Request) (c : List ℕ) → Right t x → Right t y → Memᴰ c (literals_of t x)
    → Memᴰ c (literals_of t y) → x ≡ y
unfolding Right Apart ends neg
group_apart t ap (request n v if) (request m w if) c x y i j = let k =
    ap n m v w x.0 y.0 x.1 x.2 y.1 y.2 (sym (group_ends t (request n v if) c i) ∙ group_ends t (request m w if) c j) in let p =
    k.0 in let q = k.1 in cc
group_apart t ap (request n v only_if) (request m w only_if) c x y i j = let k =
    ap n m v w x.0 y.0 x.1 x.2 y.1 y.2
    (neg_inj (output (node_at t n) v) (output (node_at t m) w) (sym (group_ends t (request n v only_if) c i) ∙ group_ends t (request m w only_if) c j)) in
    let p = k.0 in let q = k.1 in cc
group_apart t ap (request n v if) (request m w only_if) c x y i j =
    absurd (omega (
      arith,
      group_even t n v if c i,
      group_even t m w only_if c j,
      group_ends t (request n v if) c i,
      group_ends t
          (request m w only_if) c j,
    ))
group_apart t ap (request n v only_if) (request m w if) c x y i j =
    absurd (omega (
      arith,
      group_even t n v only_if c i,
      group_even t m w if c j,
      group_ends t (request n v only_if) c i,
      group_ends t
          (request m w if) c j,
    ))

neg_part-pos : (t : List Node) (s : Side) (i : ℕ) → 1 ≤ i → neg_part t s i ≡ neg (side_lit t s i) ∷ []
unfolding neg_part
neg_part-pos t s zero h = absurd (omega arith)
neg_part-pos t s (suc i) h = refl

pos_part-in : (t : List Node) (s : Side) (i : ℕ) → i ≤ side_len t s → pos_part t s i ≡ side_lit t s i ∷ []
unfolding pos_part
pos_part-in t s i h = step (dec_le i (side_len t s))
  where
    step : (d : Dec (i ≤ side_len t s)) → dite {C = List ℕ} d (λ _. side_lit t s i ∷ []) (λ _. []) ≡ side_lit t s i ∷ []
    step (yes k) = refl
    step (no k) = absurd (k h)

pos_part-out : (t : List Node) (s : Side) (i : ℕ) → side_len t s < i → pos_part t s i ≡ []
unfolding pos_part
pos_part-out t s i h = step (dec_le i (side_len t s))
  where
    step : (d : Dec (i ≤ side_len t s)) → dite {C = List ℕ} d (λ _. side_lit t s i ∷ []) (λ _. []) ≡ []
    step (yes k) = absurd (omega arith)
    step (no k) = refl

module _ (t : List Node) (ok : Ok t) (apart : Apart t) (m : List ℕ) (o : ℕ) (l r : Side) (fit : Fit t (length t) (join m o l r)) where
  left_inj : (i j : ℕ) → 1 ≤ i → i ≤ side_len t l → 1 ≤ j → j ≤ side_len t l → side_lit t l i ≡ side_lit t l j → i ≡ j
  unfolding Apart Fit side_lit
  left_inj i j hi ki hj kj e =
      omega (
        arith,
        apart l.node l.node (l.offset + i) (l.offset + j) fit.0 fit.0 (omega arith) (omega (arith, fit.3)) (omega arith)
            (omega (arith, fit.3)) e,
      )

  sides_apart : (i j : ℕ) → 1 ≤ i → i ≤ side_len t l → 1 ≤ j → j ≤ side_len t r → side_lit t l i ≡ side_lit t r j → ⊥
  unfolding Apart Fit side_lit
  sides_apart i j hi ki hj kj e =
      separate_differ t ok l.node r.node fit.0 fit.2 (apart l.node r.node (l.offset + i) (r.offset + j) fit.0 fit.1 (omega arith) (omega (arith, fit.3)) (omega arith)
      (omega (arith, fit.4)) e).0

  if_inj : (v z a b : ℕ) → 1 ≤ v → Memᴰ a (splits v (side_len t l) (side_len t r)) → Memᴰ b (splits v (side_len t l) (side_len t r))
      → neg_part t l a ++ neg_part t r (v - a) ++ (z ∷ []) ≡ neg_part t l b ++ neg_part t r (v - b) ++ (z ∷ []) → a ≡ b
  unfolding neg_part
  if_inj v z zero zero h i j e = refl
  if_inj v z zero (suc b) h i j e =
      let p = splits_mem v (side_len t l) (side_len t r) zero i in
      let q = splits_mem v (side_len t l) (side_len t r) (suc b) j in
      absurd (sides_apart (suc b) (v - 0) (omega arith) q.1 (omega arith) (omega arith)
      (sym (neg_inj (side_lit t r (v - 0)) (side_lit t l (suc b)) (head-eq_of_cons-eq (rw (neg_part-pos t r (v - 0) (omega arith)) at e)))))
  if_inj v z (suc a) zero h i j e =
      let p = splits_mem v (side_len t l) (side_len t r) (suc a) i in
      let q = splits_mem v (side_len t l) (side_len t r) zero j in
      absurd (sides_apart (suc a) (v - 0) (omega arith) p.1 (omega arith) (omega arith)
      (neg_inj (side_lit t l (suc a)) (side_lit t r (v - 0)) (head-eq_of_cons-eq (rw (neg_part-pos t r (v - 0) (omega arith)) at e))))
  if_inj v z (suc a) (suc b) h i j e =
      let p = splits_mem v (side_len t l) (side_len t r) (suc a) i in
      let q = splits_mem v (side_len t l) (side_len t r) (suc b) j in
      left_inj (suc a) (suc b) (omega arith) p.1 (omega arith) q.1 (neg_inj (side_lit t l (suc a)) (side_lit t l (suc b)) (head-eq_of_cons-eq e))

  only_inj : (v z a b : ℕ) → 1 ≤ v → v ≤ length m → Memᴰ a (splits (v - 1) (side_len t l) (side_len t r))
      → Memᴰ b (splits (v - 1) (side_len t l) (side_len t r))
      → pos_part t l (suc a) ++ pos_part t r (suc (v - 1 - a)) ++ (z ∷ []) ≡ pos_part t l (suc b) ++ pos_part t r (suc (v - 1 - b)) ++ (z ∷ []) → a ≡ b
  unfolding Fit
  only_inj v z a b h k i j e = step (dec_le (suc a) (side_len t l)) (dec_le (suc b) (side_len t l))
    where
      p : (a ≤ v - 1) × (a ≤ side_len t l) × (v - 1 ≤ a + side_len t r)
      p = splits_mem (v - 1) (side_len t l) (side_len t r) a i

      q : (b ≤ v - 1) × (b ≤ side_len t l) × (v - 1 ≤ b + side_len t r)
      q = splits_mem (v - 1) (side_len t l) (side_len t r) b j

      step : Dec (suc a ≤ side_len t l) → Dec (suc b ≤ side_len t l) → a ≡ b
      step (yes x) (yes y) =
          omega (
            arith,
            left_inj (suc a) (suc b) (omega arith) x (omega arith) y
                (head-eq_of_cons-eq (rw (pos_part-in t l (suc a) x, pos_part-in t l (suc b) y) at e)),
          )
      step (yes x) (no y) =
          let w : suc (v - 1 - b) ≤ side_len t r = omega (arith, q, fit.5) in
          absurd (sides_apart (suc a) (suc (v - 1 - b)) (omega arith) x (omega arith) w
          (head-eq_of_cons-eq (rw (pos_part-in t l (suc a) x, pos_part-out t l (suc b) (omega arith), pos_part-in t r (suc (v - 1 - b)) w) at e)))
      step (no x) (yes y) =
          let w : suc (v - 1 - a) ≤ side_len t r = omega (arith, p, fit.5) in
          absurd (sides_apart (suc b) (suc (v - 1 - a)) (omega arith) y (omega arith) w
          (sym (head-eq_of_cons-eq
          (rw (pos_part-in t l (suc b) y, pos_part-out t l (suc a) (omega arith), pos_part-in t r (suc (v - 1 - a)) w) at e))))
      step (no x) (no y) = omega (arith, p, q)

-- No request has a clause twice.
pub group_once : (t : List Node) → Sized t → Apart t → (x : Request) → Right t x → Nodup (literals_of t x)
unfolding group_at Right Sized Fit len
group_once t sz apart (request n v d) x = rw group_is (go (node_at t n) d (sz n x.0) x.2)
  where
    go : (a : Node) (d : Direction) → Fit t n a → v ≤ len a → Nodup (group_at t a v d)
    go (leaf a) d f h = Nodup-nil
    go (join m o l r) if f h =
        let fit : Fit t (length t) (join m o l r) = (omega arith, omega arith, f.2, f.3, f.4, f.5, f.6, f.7, f.8) in
        nodup_map {B = List ℕ} (λ (a : ℕ). neg_part t l a ++ neg_part t r (v - a) ++ (output (join m o l r) v ∷ []))
        (splits v (side_len t l) (side_len t r)) (splits_once v (side_len t l) (side_len t r))
        (λ a b i j e. if_inj t (sized_ok t sz) apart m o l r fit v (output (join m o l r) v) a b x.1 i j e)
    go (join m o l r) only_if f h =
        let fit : Fit t (length t) (join m o l r) = (omega arith, omega arith, f.2, f.3, f.4, f.5, f.6, f.7, f.8) in
        nodup_map {B = List ℕ} (λ (a : ℕ). pos_part t l (suc a) ++ pos_part t r (suc (v - 1 - a)) ++ (neg (output (join m o l r) v) ∷ []))
        (splits (v - 1) (side_len t l) (side_len t r)) (splits_once (v - 1) (side_len t l) (side_len t r))
        (λ a b i j e. only_inj t (sized_ok t sz) apart m o l r fit v (neg (output (join m o l r) v)) a b x.1 h i j e)

pub numbered_apart : (start : ℕ) (t : List Node) → Numbered start t → Apart t
unfolding Apart len output
numbered_apart start t law n k i j hn hk i₁ i₂ j₁ j₂ e = go (node_at t n) (node_at t k) refl refl i₂ j₂ e
  where
    go : (x y : Node) → node_at t n ≡ x → node_at t k ≡ y → i ≤ len x → j ≤ len y → output x i ≡ output y j → (n ≡ k) × (i ≡ j)
    go (leaf a) (leaf b) p q u w g = (law.leaf_once n k a hn hk p (q ∙ ap leaf (sym g)), omega arith)
    go (leaf a) (join m o l r) p q u w g = absurd (omega (arith, law.leaf_low n a hn p, law.join_high k m o l r hk q))
    go (join m o l r) (leaf b) p q u w g = absurd (omega (arith, law.leaf_low k b hk q, law.join_high n m o l r hn p))
    go (join m o l r) (join m' o' l' r') p q u w g = order (dec_lt n k) (dec_lt k n)
      where
        order : Dec (n < k) → Dec (k < n) → (n ≡ k) × (i ≡ j)
        order (yes h) d = absurd (omega (arith, law.join_next n k m o m' o' l r l' r' h hk p q))
        order (no f) (yes h) = absurd (omega (arith, law.join_next k n m' o' m o l' r' l r h hn q p))
        order (no f) (no h) =
            let z : n ≡ k = omega arith in
            let c : o ≡ o' = cc in
            (z, omega arith)
