-- Worked cases of the totalizer's clauses and of those that a request writes, as one theorem over one list.
use mathlib.Core.Path.{◌≡◌, refl}
use mathlib.Core.List.{List, [], ◌∷◌, map, flat_map}
use Prim.Native.Nat.{ℕ}
use native.Mathlib.Decide.{dec_le, ℕ_discrete}
use Rattle.pb.specs.Sum.{neg}
use Rattle.totdb.specs.Nodes.{Node, leaf, join, node_at, leaves, len, output, range, limited, side_len, side_lit}
use Rattle.totdb.specs.declared.Side.{Side}
use Rattle.cert.specs.Definitions.{Direction, if, only_if}
use Rattle.cert.specs.Requests.{request, splits, neg_part, pos_part, if_clause, only_if_clause, clauses_at, clauses_of, literals_of}
use Rattle.cert.specs.Totalizer.{literal_at, opposite, complement, simplify, C1, C2, pairs, schema, number_of, literal_of, totalizer_at, totalizer}

-- A side with no limit.
abbrev pub side : ℕ → ℕ → Side
side n f = record { node = n; offset = f; limit = 0 }

-- Two leaves, 0 and 2, joined: outputs 4 and 6.
unfoldable pub two : List Node
two = leaf 0 ∷ leaf 2 ∷ join (0 ∷ 2 ∷ []) 2 (side 0 0) (side 1 0) ∷ []

-- Node 2 has the leaves 0 and 2 and the outputs 6 and 8. With the leaf 4, node 4 joins both of these, and node 5 the second: 10, 12, 14, and 16, 18.
unfoldable pub three : List Node
three =
    leaf 0 ∷ leaf 2 ∷ join (0 ∷ 2 ∷ []) 3 (side 0 0) (side 1 0) ∷ leaf 4
    ∷ join (0 ∷ 2 ∷ 4 ∷ []) 5 (side 2 0) (side 3 0)
    ∷ join (8 ∷ 4 ∷ []) 8 (side 2 1) (side 3 0)
    ∷ []

pub record Case : Type 0 where
  pub got : List (List (List ℕ))
  pub want : List (List (List ℕ))

-- The schema's clauses, and those that the request writes.
has : List Node → ℕ → ℕ → Direction → List (List ℕ) → Case
has t n v d cs = record { got = totalizer t (request n v d) ∷ literals_of t (request n v d) ∷ []; want = cs ∷ cs ∷ [] }

-- Of a value that no request has: the clauses are true.
satisfied : List Node → ℕ → ℕ → Direction → Case
satisfied t n v d = record { got = totalizer t (request n v d) ∷ []; want = [] ∷ [] }

unfoldable pub cases : List Case
unfolding has satisfied
cases =
    -- two leaves
    has two 2 1 if ((3 ∷ 4 ∷ []) ∷ (1 ∷ 4 ∷ []) ∷ [])
    ∷ has two 2 2 if ((1 ∷ 3 ∷ 6 ∷ []) ∷ [])
    ∷ has two 2 1 only_if ((0 ∷ 2 ∷ 5 ∷ []) ∷ [])
    ∷ has two 2 2 only_if ((0 ∷ 7 ∷ []) ∷ (2 ∷ 7 ∷ []) ∷ [])
    -- two outputs and a leaf; a window and a leaf; a leaf has no clause
    ∷ has three 4 2 if ((7 ∷ 5 ∷ 12 ∷ []) ∷ (9 ∷ 12 ∷ []) ∷ [])
    ∷ has three 4 2 only_if ((6 ∷ 13 ∷ []) ∷ (8 ∷ 4 ∷ 13 ∷ []) ∷ [])
    ∷ has three 5 1 if ((5 ∷ 16 ∷ []) ∷ (9 ∷ 16 ∷ []) ∷ [])
    ∷ has two 0 1 if []
    -- C1(0, 0, 0) and C2(p, q, m)
    ∷ satisfied two 2 0 if
    ∷ satisfied two 2 3 only_if
    ∷ []

pub worked : map (λ (c : Case). c.got) cases ≡ map (λ (c : Case). c.want) cases
unfolding
    cases two three node_at leaves len output limited range side_len side_lit neg flat_map dec_le ℕ_discrete
    totalizer totalizer_at literal_of number_of schema pairs simplify C1 C2 complement opposite literal_at literals_of clauses_of clauses_at if_clause only_if_clause splits neg_part
    pos_part
worked = refl
