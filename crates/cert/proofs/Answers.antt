-- Worked out: the sums of a window; two requests in both directions through a window, the numbers of whose records are those that
-- rustsat 0.7.5 writes; what clauses look up.
use mathlib.Core.Path.{◌≡◌, refl}
use mathlib.Core.List.{List, [], ◌∷◌, map, flat_map}
use mathlib.Core.Option.{some}
use native.Mathlib.Decide.{dec_le}
use Rattle.pb.specs.Sum.{◌·◌, ◌≥◌}
use Rattle.record.specs.Record.{numbers}
use Rattle.record.specs.Steps.{written, derived}
use Rattle.totdb.specs.Nodes.{Node, leaf, join, node_at, leaves, len, limited, range, side_len, plain_or, keyed}
use Rattle.cert.specs.Definitions.{if, only_if, real, window, real_def, long_def, side_def, defined_by}
use Rattle.cert.specs.Lookups.{used_at, used_by}
use Rattle.cert.specs.Requests.{request, splits, positive, named, below, needs_at, needs, Lookup, of_side, of_node, if_clause, only_if_clause, clauses_at, clauses_of, definition, key_of, looked_up, looks_of, lookups}
use Rattle.cert.specs.Totalizer.{pairs}
use Rattle.cert.specs.State.{State, start, serve, requests, stored_steps}
use Rattle.cert.proofs.SchemaCases.{side}

-- The window of the last three of four outputs, 10 12 14: if and only-if of values 2, 3 and 4, and the value above.
pub window_sums : defined_by (join (0 ∷ 2 ∷ 4 ∷ 6 ∷ []) 4 (side 0 0) (side 1 0) ∷ []) (window 0 1 3) ≡
    derived (some ((2 · 10 ∷ 1 · 13 ∷ 1 · 15 ∷ []) ≥ 2)) ∷ derived (some ((1 · 12 ∷ 1 · 14 ∷ []) ≥ 0))
    ∷ derived (some ((1 · 11 ∷ 1 · 12 ∷ 1 · 15 ∷ []) ≥ 1)) ∷ derived (some ((1 · 10 ∷ 1 · 13 ∷ 1 · 14 ∷ []) ≥ 1))
    ∷ derived (some ((1 · 11 ∷ 1 · 13 ∷ []) ≥ 0)) ∷ derived (some ((1 · 10 ∷ 1 · 12 ∷ 2 · 15 ∷ []) ≥ 2))
    ∷ written 0 (1 · 11 ∷ 1 · 13 ∷ 1 · 15 ∷ []) 0 ∷ []
unfolding defined_by
window_sums = refl

-- The leaves 0 2 4 6; node 4 joins the first two, node 5 that and the third, node 6 the outputs of node 5 from offset 1 on and the fourth.
unfoldable pub table : List Node
table =
    leaf 0 ∷ leaf 2 ∷ leaf 4 ∷ leaf 6
    ∷ join (0 ∷ 2 ∷ []) 4 (side 0 0) (side 1 0)
    ∷ join (0 ∷ 2 ∷ 4 ∷ []) 6 (side 4 0) (side 2 0)
    ∷ join (14 ∷ 16 ∷ 6 ∷ []) 9 (side 5 1) (side 3 0)
    ∷ []

-- Values 1 and 3 of node 6, each in both directions.
pub after : State
unfolding table
after = serve table (requests 6 3 3) (serve table (requests 6 1 3) (start (record { variable = 12; step = 1 })))

pub record_numbers : flat_map numbers after.log ≡
    1 ∷ 9 ∷ 3 ∷ 1 ∷ 1 ∷ 1 ∷ 3 ∷ 2 ∷ 8 ∷ 2 ∷ 1 ∷ 10 ∷ 3 ∷ 1 ∷ 0 ∷ 1 ∷ 2 ∷ 1 ∷ 9 ∷ 1
    ∷ 2 ∷ 4 ∷ 0 ∷ 1 ∷ 1 ∷ 0 ∷ 2 ∷ 4 ∷ 3 ∷ 3 ∷ 2 ∷ 3 ∷ 8 ∷ 2 ∷ 4 ∷ 0 ∷ 1 ∷ 1 ∷ 2 ∷ 2 ∷ 4 ∷ 3 ∷ 4 ∷ 2 ∷ 1 ∷ 8
    ∷ 1 ∷ 11 ∷ 3 ∷ 1 ∷ 1 ∷ 1 ∷ 3 ∷ 1 ∷ 10 ∷ 1 ∷ 1 ∷ 12 ∷ 3 ∷ 1 ∷ 0 ∷ 1 ∷ 2 ∷ 2 ∷ 11 ∷ 2 ∷ 2 ∷ 2 ∷ 0 ∷ 5 ∷ 4
    ∷ 3 ∷ 7 ∷ 3 ∷ 1 ∷ 3 ∷ 10 ∷ 1 ∷ 15 ∷ 4 ∷ 1 ∷ 1 ∷ 1 ∷ 3 ∷ 1 ∷ 5 ∷ 2 ∷ 14 ∷ 2
    ∷ 1 ∷ 16 ∷ 4 ∷ 1 ∷ 0 ∷ 1 ∷ 2 ∷ 1 ∷ 4 ∷ 2 ∷ 15 ∷ 2 ∷ 2 ∷ 4 ∷ 0 ∷ 8 ∷ 0 ∷ 2 ∷ 2 ∷ 4 ∷ 3 ∷ 10 ∷ 3 ∷ 9 ∷ 5 ∷ 14
    ∷ 2 ∷ 6 ∷ 0 ∷ 8 ∷ 0 ∷ 6 ∷ 2 ∷ 1 ∷ 4 ∷ 2 ∷ 4 ∷ 3 ∷ 11 ∷ 2 ∷ 11 ∷ 14 ∷ 2 ∷ 2 ∷ 0 ∷ 2 ∷ 4
    ∷ 3 ∷ 12 ∷ 3 ∷ 0 ∷ 2 ∷ 9 ∷ 2 ∷ 4 ∷ 0 ∷ 6 ∷ 1 ∷ 3 ∷ 2 ∷ 4 ∷ 3 ∷ 13 ∷ 2 ∷ 0 ∷ 11 ∷ 2 ∷ 4 ∷ 0 ∷ 6 ∷ 1 ∷ 1 ∷ 2 ∷ 4
    ∷ 3 ∷ 14 ∷ 2 ∷ 2 ∷ 11 ∷ 2 ∷ 6 ∷ 0 ∷ 9 ∷ 0 ∷ 1 ∷ 2 ∷ 1 ∷ 5 ∷ 2 ∷ 4 ∷ 3 ∷ 15 ∷ 2 ∷ 8 ∷ 15
    ∷ 2 ∷ 4 ∷ 0 ∷ 9 ∷ 0 ∷ 5 ∷ 2 ∷ 4 ∷ 3 ∷ 16 ∷ 3 ∷ 10 ∷ 4 ∷ 15 ∷ 1 ∷ 0 ∷ 2 ∷ 1 ∷ 14 ∷ 1 ∷ 16 ∷ 0
    ∷ 1 ∷ 17 ∷ 4 ∷ 1 ∷ 1 ∷ 1 ∷ 3 ∷ 1 ∷ 5 ∷ 1 ∷ 16 ∷ 1 ∷ 1 ∷ 18 ∷ 4 ∷ 1 ∷ 0 ∷ 1 ∷ 2 ∷ 1 ∷ 4 ∷ 3 ∷ 17 ∷ 3
    ∷ 2 ∷ 5 ∷ 0 ∷ 8 ∷ 0 ∷ 19 ∷ 2 ∷ 3 ∷ 2 ∷ 4 ∷ 2 ∷ 1 ∷ 1 ∷ 16 ∷ 2 ∷ 1 ∷ 1 ∷ 15
    ∷ 2 ∷ 5 ∷ 0 ∷ 19 ∷ 0 ∷ 8 ∷ 2 ∷ 3 ∷ 2 ∷ 4 ∷ 1 ∷ 0 ∷ 2 ∷ 1 ∷ 15 ∷ 1 ∷ 17 ∷ 0
    ∷ 1 ∷ 19 ∷ 4 ∷ 1 ∷ 15 ∷ 1 ∷ 17 ∷ 1 ∷ 7 ∷ 3 ∷ 18 ∷ 3 ∷ 1 ∷ 20 ∷ 4 ∷ 1 ∷ 14 ∷ 1 ∷ 16 ∷ 1 ∷ 6 ∷ 1 ∷ 19 ∷ 1
    ∷ 2 ∷ 4 ∷ 0 ∷ 25 ∷ 0 ∷ 17 ∷ 2 ∷ 4 ∷ 3 ∷ 27 ∷ 2 ∷ 7 ∷ 18 ∷ 2 ∷ 6 ∷ 0 ∷ 25 ∷ 0 ∷ 21 ∷ 2 ∷ 1 ∷ 6 ∷ 2 ∷ 4
    ∷ 3 ∷ 28 ∷ 2 ∷ 15 ∷ 18 ∷ 2 ∷ 4 ∷ 0 ∷ 26 ∷ 0 ∷ 20 ∷ 2 ∷ 4 ∷ 3 ∷ 29 ∷ 3 ∷ 14 ∷ 6 ∷ 19
    ∷ 2 ∷ 4 ∷ 0 ∷ 18 ∷ 0 ∷ 6 ∷ 2 ∷ 4 ∷ 3 ∷ 30 ∷ 3 ∷ 11 ∷ 5 ∷ 16 ∷ 2 ∷ 6 ∷ 0 ∷ 19 ∷ 0 ∷ 5 ∷ 2 ∷ 1 ∷ 5 ∷ 2 ∷ 4
    ∷ 3 ∷ 31 ∷ 2 ∷ 10 ∷ 17 ∷ 1 ∷ 0 ∷ 2 ∷ 1 ∷ 1 ∷ 1 ∷ 3 ∷ 0 ∷ 2 ∷ 4 ∷ 0 ∷ 19 ∷ 0 ∷ 32 ∷ 2 ∷ 4 ∷ 3 ∷ 33 ∷ 2 ∷ 4 ∷ 17
    ∷ 1 ∷ 23 ∷ 4 ∷ 1 ∷ 15 ∷ 1 ∷ 17 ∷ 1 ∷ 7 ∷ 1 ∷ 22 ∷ 1 ∷ 1 ∷ 24 ∷ 4 ∷ 1 ∷ 14 ∷ 1 ∷ 16 ∷ 1 ∷ 6 ∷ 3 ∷ 23 ∷ 3
    ∷ 2 ∷ 4 ∷ 0 ∷ 34 ∷ 0 ∷ 23 ∷ 2 ∷ 4 ∷ 3 ∷ 36 ∷ 3 ∷ 17 ∷ 7 ∷ 22 ∷ 2 ∷ 6 ∷ 0 ∷ 35 ∷ 0 ∷ 22 ∷ 2 ∷ 1 ∷ 7 ∷ 2 ∷ 4
    ∷ 3 ∷ 37 ∷ 2 ∷ 16 ∷ 23 ∷ 2 ∷ 4 ∷ 0 ∷ 35 ∷ 0 ∷ 24 ∷ 2 ∷ 4 ∷ 3 ∷ 38 ∷ 2 ∷ 6 ∷ 23 ∷ []
unfolding after serve requests start numbers flat_map
record_numbers = refl

-- Of the 38 steps the stored ones are those of no clause, a window's derivations among them.
pub stored_steps_lem : stored_steps table after.stored ≡ 1 ∷ 2 ∷ 5 ∷ 6 ∷ 8 ∷ 9 ∷ 17 ∷ 18 ∷ 19 ∷ 20 ∷ 21 ∷ 22 ∷ 23 ∷ 24 ∷ 25 ∷ 26 ∷ 32 ∷ 34 ∷ 35 ∷ []
unfolding table after serve requests start stored_steps
stored_steps_lem = refl

-- What the clauses of two values of node 6 look up, left, right, this: of the window and of the leaf the only-if from 0 to the length, and the if from 1 to
-- one above it.
unfoldable pub value_one : List (List Lookup)
value_one =
    (of_side (side 5 1) 0 only_if ∷ of_side (side 3 0) 1 only_if ∷ of_node 6 1 if ∷ [])
    ∷ (of_side (side 5 1) 1 only_if ∷ of_side (side 3 0) 0 only_if ∷ of_node 6 1 if ∷ [])
    ∷ []

unfoldable pub value_three : List (List Lookup)
value_three =
    (of_side (side 5 1) 2 if ∷ of_side (side 3 0) 2 if ∷ of_node 6 3 only_if ∷ [])
    ∷ (of_side (side 5 1) 3 if ∷ of_side (side 3 0) 1 if ∷ of_node 6 3 only_if ∷ [])
    ∷ []

pub wanted : (map looked_up (clauses_of table (request 6 1 if)) ≡ value_one) × (map looked_up (clauses_of table (request 6 3 only_if)) ≡ value_three)
unfolding table value_one value_three node_at leaves len limited range side_len splits clauses_of clauses_at if_clause only_if_clause
wanted = (refl, refl)

pub listed : (used_by table (request 6 1 if) ≡ value_one) × (used_by table (request 6 3 only_if) ≡ value_three)
unfolding table value_one value_three node_at leaves len limited range side_len used_by used_at pairs flat_map
listed = (refl, refl)

-- Two nodes of length 2 under a third: what a value needs below, and the keys that its clauses look up, in order.
unfoldable pub four : List Node
four =
    leaf 0 ∷ leaf 2 ∷ leaf 4 ∷ leaf 6
    ∷ join (0 ∷ 2 ∷ []) 4 (side 0 0) (side 1 0)
    ∷ join (4 ∷ 6 ∷ []) 6 (side 2 0) (side 3 0)
    ∷ join (0 ∷ 2 ∷ 4 ∷ 6 ∷ []) 8 (side 4 0) (side 5 0)
    ∷ []

pub below_both : needs four (request 6 1 if) ≡ request 4 1 if ∷ request 5 1 if ∷ []
unfolding four node_at leaves len limited range side_len splits positive named below needs_at needs
below_both = refl

pub in_order : lookups four (request 6 1 if) ≡ real 4 0 ∷ real 5 1 ∷ real 6 1 ∷ real 4 1 ∷ real 5 0 ∷ real 6 1 ∷ []
unfolding four node_at leaves len limited range side_len splits flat_map lookups clauses_of clauses_at if_clause looks_of definition side_def long_def plain_or real_def key_of keyed dec_le
in_order = refl
