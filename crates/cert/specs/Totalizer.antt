-- The clauses of the totalizer of Bailleux and Boufkhad (Efficient CNF encoding of Boolean cardinality constraints, 2003), and what they name of the
-- sides' nodes, apart from what writes and requests them.
-- A join has the outputs o_1 .. o_m, and its sides L_1 .. L_p and R_1 .. R_q. For 0 ≤ α ≤ p, 0 ≤ β ≤ q and α + β = σ there are two clauses,
--   C1(α, β, σ): ¬L_α ∨ ¬R_β ∨ o_σ,    C2(α, β, σ): L_(α+1) ∨ R_(β+1) ∨ ¬o_(σ+1),
-- where L_0, R_0 and o_0 are true, and L_(p+1), R_(q+1) and o_(m+1) are false.
use Rattle.std.proofs.Math.Logic.{dite, ite}
use mathlib.Core.List.{List, [], ◌∷◌, map, flat_map}
use Rattle.std.specs.Prelude.{ℕ, zero, suc, ◌+◌}
use Rattle.std.proofs.Math.Decide.{dec_le, ℕ_discrete}
use Rattle.pb.specs.Sum.{neg}
use Rattle.totdb.specs.Nodes.{Node, leaf, join, node_at, len, output, range, side_len, side_lit}
use Rattle.totdb.specs.declared.Side.{Side}
use Rattle.cert.specs.Definitions.{Direction, if, only_if}
use Rattle.cert.specs.Requests.{Request, request}

-- ---- the schema, by the lengths p, q and m alone

-- L_i, R_i or o_i.
pub data Name : Type 0 where
  L R out : ℕ → Name

-- A name as it is, or negated.
pub data Literal : Type 0 where
  plain negated : Name → Literal

-- A literal, or one of the two truth constants.
pub data Extended : Type 0 where
  always never : Extended
  lit : Literal → Extended

-- x_i, of x_1 .. x_n: true at 0, false above n.
unfoldable pub literal_at : (ℕ → Name) → ℕ → ℕ → Extended
unfolding dec_le
literal_at x n zero = always
literal_at x n (suc i) = dite (dec_le (suc i) n) (λ _. lit (plain (x (suc i)))) (λ _. never)

unfoldable pub opposite : Literal → Literal
opposite (plain x) = negated x
opposite (negated x) = plain x

unfoldable pub complement : Extended → Extended
unfolding opposite
complement always = never
complement never = always
complement (lit l) = lit (opposite l)

-- A disjunction as clauses: none if a part is true, else one, of the literals left. A part that is false drops out.
unfoldable pub simplify : List Extended → List (List Literal)
simplify [] = [] ∷ []
simplify (always ∷ xs) = []
simplify (never ∷ xs) = simplify xs
simplify (lit l ∷ xs) = map {B = List Literal} (λ (c : List Literal). l ∷ c) (simplify xs)

-- With at least α true literals on one side and β on the other there are at least σ.
unfoldable pub C1 : (p q m α β σ : ℕ) → List Extended
unfolding literal_at complement
C1 p q m α β σ = complement (literal_at L p α) ∷ complement (literal_at R q β) ∷ literal_at out m σ ∷ []

-- With at most α true literals on one side and β on the other there are at most σ.
unfoldable pub C2 : (p q m α β σ : ℕ) → List Extended
unfolding literal_at complement
C2 p q m α β σ = literal_at L p (suc α) ∷ literal_at R q (suc β) ∷ complement (literal_at out m (suc σ)) ∷ []

-- All (α, β) with α from 0 to p, β from 0 to q and α + β = σ, ascending.
unfoldable pub pairs : ℕ → ℕ → ℕ → List (ℕ × ℕ)
unfolding flat_map range ℕ_discrete
pairs p q σ =
    flat_map {B = ℕ × ℕ} (λ (α : ℕ). flat_map {B = ℕ × ℕ} (λ (β : ℕ). ite (ℕ_discrete (α + β) σ) ((α, β) ∷ []) []) (range 0 (suc q)))
    (range 0 (suc p))

-- By value v: all C1 whose output o_σ, or all C2 whose output o_(σ+1), is that of v.
unfoldable pub schema : (p q m : ℕ) → Direction → ℕ → List (List Literal)
unfolding pairs simplify C1 C2 flat_map
schema p q m if σ = flat_map {B = List Literal} (λ (x : ℕ × ℕ). simplify (C1 p q m x.0 x.1 σ)) (pairs p q σ)
schema p q m only_if zero = []
schema p q m only_if (suc σ) = flat_map {B = List Literal} (λ (x : ℕ × ℕ). simplify (C2 p q m x.0 x.1 σ)) (pairs p q σ)

-- ---- the clauses of a request: the literals as numbers

-- The i-th literal of a side, or the output of value i of the node x.
unfoldable pub number_of : List Node → Node → Side → Side → Name → ℕ
unfolding side_lit output
number_of t x l r (L i) = side_lit t l i
number_of t x l r (R i) = side_lit t r i
number_of t x l r (out i) = output x i

unfoldable pub literal_of : List Node → Node → Side → Side → Literal → ℕ
unfolding number_of neg
literal_of t x l r (plain y) = number_of t x l r y
literal_of t x l r (negated y) = neg (number_of t x l r y)

-- A leaf has none.
unfoldable pub totalizer_at : List Node → Node → Direction → ℕ → List (List ℕ)
unfolding schema literal_of side_len len
totalizer_at t (leaf a) d v = []
totalizer_at t (join ls o l r) d v =
    map {B = List ℕ} (map (literal_of t (join ls o l r) l r)) (schema (side_len t l) (side_len t r) (len (join ls o l r)) d v)

unfoldable pub totalizer : List Node → Request → List (List ℕ)
unfolding node_at totalizer_at
totalizer t (request n v d) = totalizer_at t (node_at t n) d v

-- ---- what a request depends on: for each L_i or R_i in its clauses, negated or not, that side's node, value f + i, same direction

unfoldable pub name_of : Literal → Name
name_of (plain x) = x
name_of (negated x) = x

unfoldable pub dependency : Side → Side → Direction → Name → List Request
dependency l r d (L i) = request l.node (l.offset + i) d ∷ []
dependency l r d (R i) = request r.node (r.offset + i) d ∷ []
dependency l r d (out i) = []

unfoldable pub dependencies_at : List Node → Node → Direction → ℕ → List Request
unfolding schema dependency name_of side_len len flat_map
dependencies_at t (leaf a) d v = []
dependencies_at t (join ls o l r) d v =
    flat_map {B = Request} (flat_map {B = Request} (λ (x : Literal). dependency l r d (name_of x)))
    (schema (side_len t l) (side_len t r) (len (join ls o l r)) d v)

unfoldable pub dependencies : List Node → Request → List Request
unfolding node_at dependencies_at
dependencies t (request n v d) = dependencies_at t (node_at t n) d v
