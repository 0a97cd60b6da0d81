-- No clause of a right request looks up a definition that there is not, and no window is derived from one.
use mathlib.Core.Path.{◌≡◌, subst}
use mathlib.Core.Logic.{⊎_elim}
use mathlib.Core.List.Memᴰ
use mathlib.Core.List.{List, Memᴰ}
use Prim.Native.Nat.{ℕ, suc, ◌-◌, ◌≤◌, ◌<◌}
use native.Mathlib.Omega.{arith}
use Rattle.memo.proofs.Lists.{of_three}
use Rattle.totdb.specs.Nodes.{Node, node_at, len, side_len}
use Rattle.totdb.specs.declared.Side.{Side}
use Rattle.cert.specs.Definitions.{Direction, if, only_if, Key, real, window_zero, window, pulls}
use Rattle.cert.specs.Requests.{Request, request, Lookup, of_side, of_node, Undefined, if_at_zero, only_if_above, node_if_at_zero, node_only_if_above, Clause, if_clause, only_if_clause, clauses_of, looked_up, looks_of, Right}
use Rattle.cert.specs.Sized.{Sized}
use Rattle.cert.proofs.Apart.{splits_mem}
use Rattle.cert.proofs.Fits.{KeyFits, looked_fit}
use Rattle.cert.proofs.Pulls.{pulls_mem}
use Rattle.cert.proofs.Rules.{ClauseForm, an_if, an_only_if, clause_form}

-- A definition that there is.
abbrev pub Available : List Node → Lookup → Type 0
Available t l = Undefined t l → ⊥

-- ---- an if from value 1 on, an only-if up to the length

module _ {t : List Node} {s : Side} (i : ℕ) where
  side_if : 1 ≤ i → Available t (of_side s i if)
  side_if h (if_at_zero e) = omega arith

  side_only_if : i ≤ side_len t s → Available t (of_side s i only_if)
  side_only_if h (only_if_above k) = omega arith

  pub side_if_from : Available t (of_side s i if) → 1 ≤ i
  side_if_from a = let k : ¬ (◌≡◌ {A = ℕ} i 0) = λ e. a (if_at_zero {s = s} {i = i} (omega (arith, e))) in omega (arith, k)

  pub side_only_if_to : Available t (of_side s i only_if) → i ≤ side_len t s
  side_only_if_to a = let k : ¬ (side_len t s < i) = λ h. a (only_if_above {s = s} {i = i} (omega (arith, h))) in omega (arith, k)

module _ {t : List Node} {n : ℕ} (v : ℕ) where
  node_if : 1 ≤ v → Available t (of_node n v if)
  node_if h (node_if_at_zero e) = omega arith

  node_only_if : v ≤ len (node_at t n) → Available t (of_node n v only_if)
  node_only_if h (node_only_if_above k) = omega arith

  pub node_if_from : Available t (of_node n v if) → 1 ≤ v
  node_if_from a = let k : ¬ (◌≡◌ {A = ℕ} v 0) = λ e. a (node_if_at_zero {n = n} {v = v} (omega (arith, e))) in omega (arith, k)

  pub node_only_if_to : Available t (of_node n v only_if) → v ≤ len (node_at t n)
  node_only_if_to a = let k : ¬ (len (node_at t n) < v) = λ h. a (node_only_if_above {n = n} {v = v} (omega (arith, h))) in omega (arith, k)

-- ---- clauses

pub clause_available : (t : List Node) (x : Request) (c : Clause) → Right t x → Memᴰ c (clauses_of t x) → (l : Lookup) → Memᴰ l (looked_up c)
    → Available t l
unfolding clauses_of Right if_clause only_if_clause
clause_available t (request n v d) c g m = go (clause_form t n v (node_at t n) d c m)
  where
    go : {x : Node} {d : Direction} {c : Clause} → ClauseForm t n v x d c → (l : Lookup) → Memᴰ l (looked_up c) → Available t l
    go (an_if {l = l} {r = r} a m) =
        let p = splits_mem v (side_len t l) (side_len t r) a m in
        of_three (Available t) (side_only_if a (omega (arith, p))) (side_only_if (v - a) (omega (arith, p))) (node_if v (omega (arith, g.1)))
    go (an_only_if {l = l} {r = r} a m) =
        of_three (Available t) (side_if (suc a) (omega arith)) (side_if (suc (v - 1 - a)) (omega arith)) (node_only_if v (omega (arith, g.2)))

-- ---- windows

-- A window adds up the real definitions of its outputs, in both directions.
pulled_has : (t : List Node) (k : Key) (n v : ℕ) (d : Direction) → KeyFits t k → Memᴰ (real n v) (pulls k) → Available t (of_node n v d)
unfolding KeyFits pulls
pulled_has t (real m w) n v d g i = absurd (Memᴰ.not-nil i)
pulled_has t (window_zero m f k) n v d g i = absurd (Memᴰ.not-nil i)
pulled_has t (window m f k) n v d g i =
    ⊎_elim (λ e. absurd (let z : ◌≡◌ {A = ℕ} 0 1 = cc in omega arith))
    (λ q. let e : m ≡ n = let p = q.3 in cc in let w : q.0 ≡ v = let p = q.3 in cc in
    inside d (omega (arith, q.1, w)) (subst (λ (m : ℕ). v ≤ len (node_at t m)) e (omega (arith, q.2, w, g.1))))
    (pulls_mem m f k (real n v) i)
  where
    inside : (d : Direction) → 1 ≤ v → v ≤ len (node_at t n) → Available t (of_node n v d)
    inside if a b = node_if v a
    inside only_if a b = node_only_if v b

pub pulled_available : (t : List Node) → Sized t → (x : Request) (c : Clause) (k : Key) (n v : ℕ) (d : Direction) → Right t x
    → Memᴰ c (clauses_of t x) → Memᴰ k (looks_of t c) → Memᴰ (real n v) (pulls k) → Available t (of_node n v d)
pulled_available t sz x c k n v d g m i j = pulled_has t k n v d (looked_fit t sz x c k g m i) j
