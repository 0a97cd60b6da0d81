-- The definitions that the clauses of a request are derived from, as document 01 lists them, apart from what looks them up.
use Rattle.std.proofs.Math.Logic.{ite}
use mathlib.Core.List.{List, [], ◌∷◌, ◌++◌, map, flat_map}
use Rattle.std.specs.Prelude.{ℕ, zero, suc, ◌+◌}
use Rattle.std.proofs.Math.Decide.{ℕ_discrete}
use Rattle.totdb.specs.Nodes.{Node, leaf, join, node_at, range, side_len, plain_or}
use Rattle.totdb.specs.declared.Side.{Side}
use Rattle.cert.specs.Definitions.{Direction, if, only_if, Key, real, window_zero, window}
use Rattle.cert.specs.Requests.{Request, request, Lookup, of_side, of_node}
use Rattle.cert.specs.Totalizer.{pairs}

-- A window is defined all at once: value 0, the real definitions of its m outputs from f + 1 up, the rest.
abbrev pub window_keys : ℕ → ℕ → ℕ → List Key
window_keys n f m = window_zero n f m ∷ map {B = Key} (real n) (range (f + 1) m) ++ (window n f m ∷ [])

-- Of value i of a side: one of length 1 has no stored definition; a plain one has the real definition of its node; else it is a window.
unfoldable pub side_keys : List Node → Side → ℕ → List Key
unfolding side_len plain_or range ℕ_discrete
side_keys t s i =
    ite {C = List Key} (ℕ_discrete (side_len t s) 1) []
    (plain_or s.offset s.limit (real s.node i ∷ []) (window_keys s.node s.offset (side_len t s)))

-- Of a node's value it is the real definition.
unfoldable pub lookup_keys : List Node → Lookup → List Key
unfolding side_keys
lookup_keys t (of_side s i d) = side_keys t s i
lookup_keys t (of_node n v d) = real n v ∷ []

-- What each clause of a value uses, left, right, this: C1(α, β, σ) the sides' only-if at α and β and the if of σ, C2(α, β, σ) the sides' if at α + 1 and
-- β + 1 and the only-if of σ + 1. A leaf has no clause.
unfoldable pub used_at : List Node → ℕ → Node → Direction → ℕ → List (List Lookup)
unfolding side_len pairs
used_at t n (leaf a) d v = []
used_at t n (join ls o l r) if σ =
    map {B = List Lookup} (λ (x : ℕ × ℕ). of_side l x.0 only_if ∷ of_side r x.1 only_if ∷ of_node n σ if ∷ []) (pairs (side_len t l) (side_len t r) σ)
used_at t n (join ls o l r) only_if zero = []
used_at t n (join ls o l r) only_if (suc σ) =
    map {B = List Lookup} (λ (x : ℕ × ℕ). of_side l (suc x.0) if ∷ of_side r (suc x.1) if ∷ of_node n (suc σ) only_if ∷ [])
    (pairs (side_len t l) (side_len t r) σ)

unfoldable pub used_by : List Node → Request → List (List Lookup)
unfolding node_at used_at
used_by t (request n v d) = used_at t n (node_at t n) d v

unfoldable pub keys_of : List Node → Request → List Key
unfolding used_by lookup_keys flat_map
keys_of t x = flat_map {B = Key} (flat_map {B = Key} (lookup_keys t)) (used_by t x)
