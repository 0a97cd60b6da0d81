-- The variables of a table are different: those of a leaf list, of two nodes with no leaf below both, and of outputs.
use mathlib.Core.Path.{◌≡◌, refl, sym, ◌∙◌, ap, subst}
use mathlib.Core.Logic.{◌≢◌, ⊎_elim}
use mathlib.Core.List.Memᴰ
use mathlib.Core.List.{List, [], ◌∷◌, ◌++◌, map, Memᴰ, Nodup, Nodup-nil, Nodup-cons}
use Prim.Native.Nat.{ℕ, zero, suc, ◌+◌, ◌*◌, ◌≤◌, ◌<◌}
use native.Mathlib.Decide.{ℕ_discrete}
use native.Mathlib.Omega.{arith}
use lib.ListN.{length}
use Rattle.pb.specs.Sum.{variable, units}
use Rattle.pb.proofs.Normal.{Off, Apart}
use Rattle.memo.proofs.Lists.{not_mem}
use Rattle.totdb.specs.Nodes.{Node, len, node_at, output, leaf, leaves, join, range, side_len, side_leaves, side_outputs, outputs, plain_or}
use Rattle.totdb.specs.Below.{leaves_below}
use Rattle.totdb.specs.declared.Side.{Side}
use Rattle.cert.specs.Sized.{Separate, Fit, Sized}
use Rattle.cert.proofs.Apart.{range_mem, sized_ok, fit_at}
use Rattle.cert.proofs.LeavesBelow.{below_join, descend, some_below}
use Rattle.cert.proofs.Tables.{at_snoc, sized_nil}

-- Two lists of literals share no variable.
abbrev pub Disjoint : List ℕ → List ℕ → Type 0
Disjoint ls ms = (l m : ℕ) → Memᴰ l ls → Memᴰ m ms → variable l ≢ variable m

-- A list of literals has no variable twice.
unfoldable pub Different : List ℕ → Type 0
Different [] = Unit {0}
Different (l ∷ ls) = ((m : ℕ) → Memᴰ m ls → variable l ≢ variable m) × Different ls

pub off_units : (x : ℕ) (ls : List ℕ) → ((m : ℕ) → Memᴰ m ls → x ≢ variable m) → Off x (units ls)
unfolding units
off_units x [] h = tt
off_units x (l ∷ ls) h = (h l (Memᴰ.head refl), off_units x ls (λ m i. h m (Memᴰ.tail i)))

pub different_apart : (ls : List ℕ) → Different ls → Apart (units ls)
unfolding units Different
different_apart [] d = tt
different_apart (l ∷ ls) d = (off_units (variable l) ls d.0, different_apart ls d.1)

pub different_once : (ls : List ℕ) → Different ls → Nodup (map variable ls)
unfolding Different
different_once [] d = Nodup-nil
different_once (l ∷ ls) d =
    Nodup-cons.1 (not_mem (λ m. let k = Memᴰ.of_map variable ls m in d.0 k.0 k.1 (sym k.2)), different_once ls d.1)

different_append : (ls ms : List ℕ) → Different ls → Different ms → Disjoint ls ms → Different (ls ++ ms)
unfolding Different
different_append [] ms d e h = e
different_append (l ∷ ls) ms d e h = (
  (λ m i. ⊎_elim (d.0 m) (λ j. h l m (Memᴰ.head refl) j) (Memᴰ.append_cases ls i)),
  different_append ls ms d.1 e
      (λ x y i j. h x y (Memᴰ.tail i) j),
)

-- ---- the invariant of a table

-- A literal that node n hands on is an output of n or of an earlier node, below which lies no leaf but those below n.
record Owner (t : List Node) (n l : ℕ) : Type 0 where
  node : ℕ
  value : ℕ
  there : node < length t
  up_to : node ≤ n
  low : 1 ≤ value
  high : value ≤ len (node_at t node)
  is : l ≡ output (node_at t node) value
  under : (x : ℕ) → Memᴰ x (leaves_below t node) → Memᴰ x (leaves_below t n)

-- The outputs of a join's left node, all of them, are over no variable that its right side hands on.
unfoldable pub LeftApart : List Node → Node → Type 0
LeftApart t (leaf l) = Unit {0}
LeftApart t (join ls o l r) =
    (l.node < length t) × (r.node < length t)
    × ((i m : ℕ) → 1 ≤ i → i ≤ len (node_at t l.node) → Memᴰ m (side_leaves t r) → variable (output (node_at t l.node) i) ≢ variable m)

-- The outputs of these values of two nodes are over different variables.
abbrev pub ValuesApart : ℕ → ℕ → Node → Node → Type 0
ValuesApart i j x y = 1 ≤ i → i ≤ len x → 1 ≤ j → j ≤ len y → variable (output x i) ≢ variable (output y j)

-- The outputs of two nodes share no variable.
abbrev pub OutputsApart : List Node → Type 0
OutputsApart t = (n m i j : ℕ) → n < length t → m < length t → n ≢ m → ValuesApart i j (node_at t n) (node_at t m)

pub record Distinct (t : List Node) : Type 0 where
  pub outputs : OutputsApart t
  pub within : (n : ℕ) → n < length t → Different (leaves (node_at t n))
  -- no literal of a join's leaf list is one of its own outputs
  pub own : (n l j : ℕ) (ls : List ℕ) (o : ℕ) (a b : Side) → n < length t → node_at t n ≡ join ls o a b → Memᴰ l (leaves (node_at t n)) → 1 ≤ j
      → j ≤ len (node_at t n) → variable l ≢ variable (output (node_at t n) j)
  pub lefts : (n : ℕ) → n < length t → LeftApart t (node_at t n)

-- The outputs of a node are over different variables.
pub output_inj : (x : Node) (i j : ℕ) → 1 ≤ i → 1 ≤ j → i ≤ len x → j ≤ len x → i ≢ j → variable (output x i) ≢ variable (output x j)
unfolding output variable len leaves
output_inj (leaf l) i j a b c d ne = λ e. ne (omega arith)
output_inj (join ls o l r) i j a b c d ne = λ e. ne (omega arith)

pub outputs_different : (x : Node) (a k : ℕ) → 1 ≤ a → a + k ≤ len x + 1 → Different (map (output x) (range a k))
unfolding Different range
outputs_different x a zero h l = tt
outputs_different x a (suc k) h l = (
  λ m i. let q = Memᴰ.of_map (output x) (range (suc a) k) i in let r = range_mem (suc a) k q.0 q.1 in
      subst (λ (y : ℕ). variable (output x a) ≢ variable y) q.2
      (output_inj x a q.0 h (omega arith) (omega arith) (omega (arith, r)) (λ e. absurd (omega (arith, r)))),
  outputs_different x (suc a) k (omega arith) (omega arith),
)

-- The outputs of values above an offset.
shifted : (x : Node) (o k : ℕ) → o + k ≤ len x → Different (outputs x o k)
unfolding outputs
shifted x o k h = outputs_different x (o + 1) k (omega arith) (omega arith)

-- ---- a table whose sides fit, and whose outputs share no variable

module _ (t : List Node) (sz : Sized t) where
  -- A node hands on its own outputs.
  owner_own : (n i : ℕ) → n < length t → 1 ≤ i → i ≤ len (node_at t n) → Owner t n (output (node_at t n) i)
  owner_own n i h x y = record { node = n; value = i; there = h; up_to = omega arith; low = x; high = y; is = refl; under = λ z m. m }

  owner_up : (n m l : ℕ) → n ≤ m → ((x : ℕ) → Memᴰ x (leaves_below t n) → Memᴰ x (leaves_below t m)) → Owner t n l → Owner t m l
  owner_up n m l h f o = record {
    node = o.node;
    value = o.value;
    there = o.there;
    up_to = omega (arith, o.up_to);
    low = o.low;
    high = o.high;
    is = o.is;
    under = λ x i. f x (o.under x i);
  }

  -- What a side hands on is its node's: literals of the leaf list, or outputs.
  handed : (c : Side) → c.node < length t → c.offset + side_len t c ≤ len (node_at t c.node)
      → ((x : ℕ) → Memᴰ x (leaves (node_at t c.node)) → Owner t c.node x) → (x : ℕ) → Memᴰ x (side_leaves t c) → Owner t c.node x
  unfolding side_leaves
  handed c h g listed x m = by c.offset c.limit m
    where
      out : Memᴰ x (side_outputs t c) → Owner t c.node x
      out m =
          let q = Memᴰ.of_map (output (node_at t c.node)) (range (c.offset + 1) (side_len t c)) (unfold side_outputs outputs in m) in
          let k = range_mem (c.offset + 1) (side_len t c) q.0 q.1 in
          subst (Owner t c.node) q.2 (owner_own c.node q.0 h (omega (arith, k)) (omega (arith, k)))

      by : (o k : ℕ) → Memᴰ x (plain_or o k (leaves (node_at t c.node)) (side_outputs t c)) → Owner t c.node x
      by zero zero m = listed x (unfold plain_or in m)
      by zero (suc k) m = out (unfold plain_or in m)
      by (suc o) k m = out (unfold plain_or in m)

  leaves_at : (n : ℕ) (ls : List ℕ) (o : ℕ) (l r : Side) → n < length t → node_at t n ≡ join ls o l r
      → leaves (node_at t n) ≡ side_leaves t l ++ side_leaves t r
  unfolding Fit leaves
  leaves_at n ls o l r h e = ap leaves e ∙ (fit_at t sz n ls o l r h e).6

  owners : (n : ℕ) → n < length t → (x : ℕ) → Memᴰ x (leaves (node_at t n)) → Owner t n x
  owners =
      descend t (sized_ok t sz) (λ n. (x : ℕ) → Memᴰ x (leaves (node_at t n)) → Owner t n x)
      (λ n l h e x m.
      let f : x ≡ output (node_at t n) 1 = rw e (unfold leaves output in Memᴰ.eq_of_singleton (rw e at m)) in
      rw f (owner_own n 1 h (omega arith) (rw e (unfold len leaves in omega arith))))
      (λ n ls o l r h e a c left right x m.
      let f = fit_at t sz n ls o l r h e in
      let b = below_join t n ls o l r h e a c in
      ⊎_elim
      (λ i. owner_up l.node n x (omega arith) (λ y j. rw b (Memᴰ.append_left (leaves_below t r.node) j))
      (handed l (omega arith) (unfold Fit in f.3) left x i))
      (λ i. owner_up r.node n x (omega arith) (λ y j. rw b (Memᴰ.append_right (leaves_below t l.node) j))
      (handed r (omega arith) (unfold Fit in f.4) right x i))
      (Memᴰ.append_cases (side_leaves t l) (rw (leaves_at n ls o l r h e) at m)))

  module _ (apart : OutputsApart t) where
    -- Where no leaf lies below both, two nodes hand on no variable in common.
    owners_apart : (n m x y : ℕ) → Separate t n m → Owner t n x → Owner t m y → variable x ≢ variable y
    owners_apart n m x y s o p = by (ℕ_discrete o.node p.node)
      where
        by : Dec (o.node ≡ p.node) → variable x ≢ variable y
        by (yes e) =
            let z = some_below t (sized_ok t sz) o.node o.there in
            absurd (s z.0 (o.under z.0 z.1) (p.under z.0 (subst (λ (k : ℕ). Memᴰ z.0 (leaves_below t k)) e z.1)))
        by (no e) = rw (o.is, p.is) (apart o.node p.node o.value p.value o.there p.there e o.low o.high p.low p.high)

    pub leaves_apart : (n m : ℕ) → n < length t → m < length t → Separate t n m → Disjoint (leaves (node_at t n)) (leaves (node_at t m))
    leaves_apart n m a b s x y i j = owners_apart n m x y s (owners n a x i) (owners m b y j)

    -- Nor do two sides.
    pub sides_apart : (c e : Side) → c.node < length t → e.node < length t → c.offset + side_len t c ≤ len (node_at t c.node)
        → e.offset + side_len t e ≤ len (node_at t e.node) → Separate t c.node e.node → Disjoint (side_leaves t c) (side_leaves t e)
    sides_apart c e a b f g s x y i j =
        owners_apart c.node e.node x y s (handed c a f (owners c.node a) x i) (handed e b g (owners e.node b) y j)

    side_different : (c : Side) → c.offset + side_len t c ≤ len (node_at t c.node) → Different (leaves (node_at t c.node)) → Different (side_leaves t c)
    unfolding side_leaves
    side_different c g d = by c.offset c.limit
      where
        out : Different (side_outputs t c)
        out = unfold side_outputs in shifted (node_at t c.node) c.offset (side_len t c) g

        by : (o k : ℕ) → Different (plain_or o k (leaves (node_at t c.node)) (side_outputs t c))
        by zero zero = unfold plain_or in d
        by zero (suc k) = unfold plain_or in out
        by (suc o) k = unfold plain_or in out

    module _ (n : ℕ) (ls : List ℕ) (o : ℕ) (l r : Side) (h : n < length t) (e : node_at t n ≡ join ls o l r) where
      side_owner : (s : Side) → s.node < n → s.offset + side_len t s ≤ len (node_at t s.node) → (x : ℕ) → Memᴰ x (side_leaves t s)
          → Owner t s.node x
      side_owner s low inside = let b : s.node < length t = omega arith in handed s b inside (owners s.node b)

      sides_different : Different (leaves (node_at t l.node)) → Different (leaves (node_at t r.node)) → Different (leaves (node_at t n))
      unfolding Fit
      sides_different d g =
          let f = fit_at t sz n ls o l r h e in
          rw (leaves_at n ls o l r h e)
          (different_append (side_leaves t l) (side_leaves t r) (side_different l f.3 d) (side_different r f.4 g)
          (sides_apart l r (omega (arith, f.0)) (omega (arith, f.1)) f.3 f.4 f.2))

      own_outputs : (x j : ℕ) → Memᴰ x (leaves (node_at t n)) → 1 ≤ j → j ≤ len (node_at t n) → variable x ≢ variable (output (node_at t n) j)
      unfolding Fit
      own_outputs x j m a b =
          let f = fit_at t sz n ls o l r h e in
          ⊎_elim (λ i. earlier l.node f.0 (side_owner l f.0 f.3 x i)) (λ i. earlier r.node f.1 (side_owner r f.1 f.4 x i))
          (Memᴰ.append_cases (side_leaves t l) (rw (leaves_at n ls o l r h e) at m))
        where
          earlier : (k : ℕ) → k < n → Owner t k x → variable x ≢ variable (output (node_at t n) j)
          earlier k g w = rw w.is (apart w.node n w.value j w.there h (λ q. absurd (omega (arith, w.up_to))) w.low w.high a b)

      left_apart : LeftApart t (join ls o l r)
      unfolding Fit LeftApart
      left_apart =
          let f = fit_at t sz n ls o l r h e in (
            omega (arith, f.0),
            omega (arith, f.1),
            λ i m x y j. owners_apart l.node r.node (output (node_at t l.node) i) m f.2
                (owner_own l.node i (omega (arith, f.0)) x y) (side_owner r f.1 f.4 m j),
          )

    -- Shared nodes and windows included, the variables of every leaf list are different.
    pub distinct : Distinct t
    distinct = record {
      outputs = apart;
      within = descend t (sized_ok t sz) (λ n. Different (leaves (node_at t n)))
          (λ n l h e. rw e (unfold leaves Different in (λ m i. absurd (Memᴰ.not-nil i), tt)))
          (λ n ls o l r h e a c left right. sides_different n ls o l r h e left right);
      own = λ n x j ls o l r h e. own_outputs n ls o l r h e x j;
      lefts = λ n h. by n h (node_at t n) refl;
    }
      where
        by : (n : ℕ) → n < length t → (x : Node) → node_at t n ≡ x → LeftApart t x
        by n h (leaf l) e = unfold LeftApart in tt
        by n h (join ls o l r) e = left_apart n ls o l r h e

-- ---- one node more

module _ (t : List Node) (a : Node) (d : OutputsApart t) (new : (n i j : ℕ) → n < length t → ValuesApart i j (node_at t n) a) where
  pub outputs_snoc : OutputsApart (t ++ (a ∷ []))
  outputs_snoc n m i j hn hm =
      at_snoc t a (λ n x. n ≢ m → ValuesApart i j x (node_at (t ++ (a ∷ [])) m))
      (λ n hn. at_snoc t a (λ m y. n ≢ m → ValuesApart i j (node_at t n) y) (λ m hm. d n m i j hn hm) (λ ne. new n i j hn) m hm)
      (at_snoc t a (λ m y. length t ≢ m → ValuesApart i j a y) (λ m hm ne x y z w e. new m j i hm z w x y (sym e)) (λ ne. absurd (ne refl)) m hm)
      n hn

pub distinct_nil : Distinct []
distinct_nil = distinct [] sized_nil (λ n m i j h. absurd (omega arith))

pub higher : (y v j : ℕ) (ls : List ℕ) (l r : Side) → y < 2 * v → 1 ≤ j → variable y ≡ variable (output (join ls v l r) j) → ⊥
unfolding output variable
higher y v j ls l r h g e = omega arith
