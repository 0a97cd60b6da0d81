-- A request: what it needs below, the clauses it writes, and what is looked up and derived for each, as functions of a table of nodes.
use Rattle.std.specs.Prelude.{◌≡◌, ℕ, zero, suc, ◌+◌, ◌-◌, min, ◌≤◌, ◌<◌, length}
use Rattle.std.proofs.Math.Logic.{dite}
use mathlib.Core.List.{List, [], ◌∷◌, ◌++◌, map, flat_map}
use Rattle.std.proofs.Math.Decide.{dec_le}
use Rattle.pb.specs.Rules.{Token, step, literal, saturate}
use Rattle.pb.specs.Sum.{neg}
use Rattle.totdb.specs.Nodes.{Node, leaf, join, node_at, len, output, range, side_len, side_lit}
use Rattle.totdb.specs.declared.Side.{Side}
use Rattle.cert.specs.Definitions.{Direction, if, only_if, Key, Definition, nothing, axiom_of, stored, real_def, side_def, add_sequence}

-- A node, a value of it and a direction. It is held once its clauses are written.
pub data Request : Type 0 where
  request : ℕ → ℕ → Direction → Request

unfoldable pub node_of : Request → ℕ
node_of (request n v d) = n

-- What a request command names, by its node, value and direction: 1 if, 2 only-if, 3 both, as two.
pub data Names (n v : ℕ) : ℕ → Request → Type 0 where
  names_if : Names n v 1 (request n v if)
  names_only_if : Names n v 2 (request n v only_if)
  names_both_if : Names n v 3 (request n v if)
  names_both_only_if : Names n v 3 (request n v only_if)

-- ---- needs

-- The a, ascending, with a + b = v for some b, a at most p and b at most q.
unfoldable pub splits : ℕ → ℕ → ℕ → List ℕ
unfolding range
splits v p q = range (v - q) (suc (min v p) - (v - q))

unfoldable pub positive : List ℕ → List ℕ
positive [] = []
positive (zero ∷ l) = positive l
positive (suc a ∷ l) = suc a ∷ positive l

unfoldable pub within : ℕ → List ℕ → List ℕ
unfolding dec_le
within p [] = []
within p (a ∷ l) = dite (dec_le a p) (λ _. a ∷ within p l) (λ _. within p l)

-- The indices of the literals that the clauses of value v name on a side of length p, where the other has length q, ascending.
unfoldable pub named : Direction → ℕ → ℕ → ℕ → List ℕ
unfolding splits positive within
named if v p q = positive (splits v p q)
named only_if v p q = within p (map suc (splits (v - 1) p q))

-- They are requested of the side's node, in the same direction.
unfoldable pub below : Direction → Side → List ℕ → List Request
below d s l = map {B = Request} (λ (i : ℕ). request s.node (s.offset + i) d) l

unfoldable pub needs_at : List Node → Node → ℕ → Direction → List Request
unfolding below named side_len
needs_at t (leaf a) v d = []
needs_at t (join ls o l r) v d = below d l (named d v (side_len t l) (side_len t r)) ++ below d r (named d v (side_len t r) (side_len t l))

-- Left, then right. A leaf needs nothing.
unfoldable pub needs : List Node → Request → List Request
unfolding node_at needs_at
needs t (request n v d) = needs_at t (node_at t n) v d

-- ---- clauses

-- A definition as it is looked up: the value of a side, or of a node, and the direction wanted.
pub data Lookup : Type 0 where
  of_side : Side → ℕ → Direction → Lookup
  of_node : ℕ → ℕ → Direction → Lookup

-- An if at value 0, or an only-if above the length: there is no such definition (document 02, §7).
pub data Undefined (t : List Node) : Lookup → Type 0 where
  if_at_zero : {s : Side} {i : ℕ} → i ≡ 0 → Undefined t (of_side s i if)
  only_if_above : {s : Side} {i : ℕ} → side_len t s < i → Undefined t (of_side s i only_if)
  node_if_at_zero : {n v : ℕ} → v ≡ 0 → Undefined t (of_node n v if)
  node_only_if_above : {n v : ℕ} → len (node_at t n) < v → Undefined t (of_node n v only_if)

-- A clause with the definitions that its step adds up: this one, plus left, plus right, saturated.
pub record Clause : Type 0 where
  pub left : Lookup
  pub right : Lookup
  pub this : Lookup
  pub literals : List ℕ

-- A part with index 0 is absent.
unfoldable pub neg_part : List Node → Side → ℕ → List ℕ
unfolding neg side_lit
neg_part t s zero = []
neg_part t s (suc i) = neg (side_lit t s (suc i)) ∷ []

-- A part above its side's length is absent.
unfoldable pub pos_part : List Node → Side → ℕ → List ℕ
unfolding side_len side_lit dec_le
pos_part t s i = dite (dec_le i (side_len t s)) (λ _. side_lit t s i ∷ []) (λ _. [])

-- If, a + b = v: ¬L(a), ¬R(b), o(v), with the sides' only-if at a and b.
unfoldable pub if_clause : List Node → ℕ → Node → Side → Side → ℕ → ℕ → Clause
unfolding neg_part output
if_clause t n x l r v a = record {
  left = of_side l a only_if;
  right = of_side r (v - a) only_if;
  this = of_node n v if;
  literals = neg_part t l a ++ neg_part t r (v - a) ++ (output x v ∷ []);
}

-- Only-if, a + b = v - 1: L(a + 1), R(b + 1), ¬o(v), with the sides' if at a + 1 and b + 1.
unfoldable pub only_if_clause : List Node → ℕ → Node → Side → Side → ℕ → ℕ → Clause
unfolding pos_part output neg
only_if_clause t n x l r v a = record {
  left = of_side l (suc a) if;
  right = of_side r (suc (v - 1 - a)) if;
  this = of_node n v only_if;
  literals = pos_part t l (suc a) ++ pos_part t r (suc (v - 1 - a)) ++ (neg (output x v) ∷ []);
}

unfoldable pub clauses_at : List Node → ℕ → Node → ℕ → Direction → List Clause
unfolding if_clause only_if_clause splits side_len
clauses_at t n (leaf a) v d = []
clauses_at t n (join ls o l r) v if = map {B = Clause} (if_clause t n (join ls o l r) l r v) (splits v (side_len t l) (side_len t r))
clauses_at t n (join ls o l r) v only_if = map {B = Clause} (only_if_clause t n (join ls o l r) l r v) (splits (v - 1) (side_len t l) (side_len t r))

-- The clauses of a request, in order. A leaf has none.
unfoldable pub clauses_of : List Node → Request → List Clause
unfolding node_at clauses_at
clauses_of t (request n v d) = clauses_at t n (node_at t n) v d

-- ---- lookups and derivation

unfoldable pub definition : List Node → Lookup → Definition
unfolding side_def real_def
definition t (of_side s i d) = side_def t s i d
definition t (of_node n v d) = real_def n v d

unfoldable pub key_of : Definition → List Key
key_of nothing = []
key_of (axiom_of l) = []
key_of (stored k i) = k ∷ []

-- Left, right, this.
abbrev pub looked_up : Clause → List Lookup
looked_up c = c.left ∷ c.right ∷ c.this ∷ []

-- The keys of these, in their order.
unfoldable pub looks_of : List Node → Clause → List Key
unfolding definition key_of flat_map
looks_of t c = flat_map {B = Key} (λ (l : Lookup). key_of (definition t l)) (looked_up c)

-- What a request's clauses are, and what they look up.
unfoldable pub literals_of : List Node → Request → List (List ℕ)
unfolding clauses_of
literals_of t x = map {B = List ℕ} (λ (c : Clause). c.literals) (clauses_of t x)

unfoldable pub lookups : List Node → Request → List Key
unfolding clauses_of looks_of flat_map
lookups t x = flat_map (looks_of t) (clauses_of t x)

-- `at_step` gives the step of each place of a key.
unfoldable pub def_tokens : (Key → ℕ → ℕ) → Definition → List Token
def_tokens at_step nothing = []
def_tokens at_step (axiom_of l) = literal l ∷ []
def_tokens at_step (stored k i) = step (at_step k i) ∷ []

-- This definition, plus left, plus right, saturated.
abbrev pub step_sequence : List Token → List Token → List Token → List Token
step_sequence this left right = add_sequence (add_sequence this left) right ++ (saturate ∷ [])

unfoldable pub clause_tokens : (Key → ℕ → ℕ) → List Node → Clause → List Token
unfolding definition def_tokens add_sequence
clause_tokens at_step t c =
    step_sequence (def_tokens at_step (definition t c.this)) (def_tokens at_step (definition t c.left)) (def_tokens at_step (definition t c.right))

-- A request as it is put: the value is one of the node's.
unfoldable pub Right : List Node → Request → Type 0
Right t (request n v d) = (n < length t) × (1 ≤ v) × (v ≤ len (node_at t n))
