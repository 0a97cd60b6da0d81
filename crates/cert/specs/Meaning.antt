-- What the sums that a key defines mean, over assignments: document 01's "if" and "only-if" of a value.
use Rattle.std.specs.Prelude.{◌≡◌, ◌↔◌, List, [], ◌∷◌, map, ℕ, zero, ◌+◌, ◌-◌, ◌≤◌, ◌<◌, length}
use Rattle.std.proofs.Math.Option.{some}
use Rattle.pb.specs.Sum.{neg, Term, Sum, ◌≥◌}
use Rattle.pb.specs.Truth.{Assignment, True, count, value, Satisfies}
use Rattle.record.specs.Steps.{Defined, written, derived}
use Rattle.totdb.specs.Nodes.{Node, node_at, leaves, len, output, outputs, range}
use Rattle.cert.specs.Definitions.{Key, real, window_zero, window, defined_by}

-- ---- one sum: literals ls, output o, value v

-- If: where at least v of the literals are true, the output is true. The output's coefficient is the bound: where the output and all the
-- literals are true, the bound is just reached.
pub record MeansIf (ls : List ℕ) (o v : ℕ) (s : Sum) : Type 0 where
  pub exactly : (a : Assignment) → Satisfies a s ↔ (v ≤ count a ls → True a o)
  pub just : (a : Assignment) → True a o → count a ls ≡ length ls → value a s.terms ≡ s.bound

-- Only-if: the output is true only where at least v of the literals are. The negated output's coefficient is the bound.
pub record MeansOnlyIf (ls : List ℕ) (o v : ℕ) (s : Sum) : Type 0 where
  pub exactly : (a : Assignment) → Satisfies a s ↔ (True a o → v ≤ count a ls)
  pub just : (a : Assignment) → True a (neg o) → count a ls ≡ 0 → value a s.terms ≡ s.bound

-- At least 0 of the literals are true, as they always are.
pub record MeansNothing (ls : List ℕ) (s : Sum) : Type 0 where
  pub always : (a : Assignment) → Satisfies a s
  pub counts : (a : Assignment) → value a s.terms ≡ count a ls

-- The literal l is a witness of the sum: made true, it satisfies the sum, whatever else is true.
abbrev pub Witness : ℕ → Sum → Type 0
Witness l s = (a : Assignment) → True a l → Satisfies a s

-- ---- the sums of a key, in order

-- A window of node x, offset f, m outputs: for each of the values the if and the only-if over the window's outputs, of which value v is the (v - f)-th; last
-- the value above.
pub data MeansWindow (x : Node) (f m : ℕ) : List ℕ → List Defined → Type 0 where
  means_value : {v : ℕ} {vs : List ℕ} {s r : Sum} {ds : List Defined} → MeansIf (outputs x f m) (output x v) (v - f) s
      → MeansOnlyIf (outputs x f m) (output x v) (v - f) r → MeansWindow x f m vs ds
      → MeansWindow x f m (v ∷ vs) (derived (some s) ∷ derived (some r) ∷ ds)
  means_last : {ts : List Term} {b : ℕ} → MeansNothing (map neg (outputs x f m)) (ts ≥ b) → MeansWindow x f m [] (written 0 ts b ∷ [])

-- A real definition: the if with the output as its witness, then the only-if with the negated output; at value 0 and above the length, one sum and no
-- witness. A window's value 0, and the rest of it.
pub data Means (t : List Node) : Key → List Defined → Type 0 where
  means_real : {n v : ℕ} {ts us : List Term} {b c : ℕ} → 1 ≤ v → v ≤ len (node_at t n)
      → MeansIf (leaves (node_at t n)) (output (node_at t n) v) v (ts ≥ b) → Witness (output (node_at t n) v) (ts ≥ b)
      → MeansOnlyIf (leaves (node_at t n)) (output (node_at t n) v) v (us ≥ c) → Witness (neg (output (node_at t n) v)) (us ≥ c)
      → Means t (real n v) (written (output (node_at t n) v + 1) ts b ∷ written (neg (output (node_at t n) v) + 1) us c ∷ [])
  means_zero : {n : ℕ} {ts : List Term} {b : ℕ} → MeansNothing (leaves (node_at t n)) (ts ≥ b) → Means t (real n zero) (written 0 ts b ∷ [])
  means_above : {n v : ℕ} {ts : List Term} {b : ℕ} → len (node_at t n) < v → MeansNothing (map neg (leaves (node_at t n))) (ts ≥ b)
      → Means t (real n v) (written 0 ts b ∷ [])
  means_window_zero : {n f m : ℕ} {ts : List Term} {b : ℕ} → MeansNothing (outputs (node_at t n) f m) (ts ≥ b)
      → Means t (window_zero n f m) (written 0 ts b ∷ [])
  means_window : {n f m : ℕ} {ds : List Defined} → MeansWindow (node_at t n) f m (range (f + 1) m) ds → Means t (window n f m) ds

-- The sums of every key mean what they are named for.
unfoldable pub Meanings : Type 0
unfolding defined_by
Meanings = (t : List Node) (k : Key) → Means t k (defined_by t k)
