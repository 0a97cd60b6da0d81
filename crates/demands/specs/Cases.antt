-- The whole case of document 01, its cases marked (P), and those of document 02, §2 to §5, as one list: what the definitions give, and what
-- the documents say.
use Rattle.std.specs.Prelude.{List, [], ◌∷◌, ◌++◌, ℕ, zero, suc, ◌+◌, ◌*◌, length, take, replicate}
use Rattle.std.proofs.Math.Option.{Option, none, some}
use Rattle.number.specs.Number.{Front, number, bad, above, read_in, read}
use Rattle.pb.specs.Sum.{Sum, ◌·◌, ◌≥◌}
use Rattle.record.specs.Record.{Record, decode_log}
use Rattle.record.specs.Steps.{step_of, defined}
use Rattle.totdb.specs.Nodes.{Node}
use Rattle.totdb.specs.Leaves.{LeafEntry, node_found, looked_at, lookup_in, lookup_leaf}
use Rattle.totdb.specs.declared.LeafLookup.{LeafLookup}
use Rattle.totdb.specs.declared.Side.{Side}
use Rattle.cert.specs.Definitions.{if}
use Rattle.cert.specs.Requests.{Request, request}
use Rattle.cert.specs.Totalizer.{totalizer, dependencies}
use Rattle.player.specs.Called.{table}
use Rattle.player.specs.Player.{first_no, questions, played}
use Rattle.player.specs.Script.{script, headless, read_script}
use Rattle.player.specs.declared.Command.{Command}

-- What is worked out: an outcome (its six numbers and the log), a number read, what a step of a log comes to, how many sums a log defines, what a
-- request needs below and its clauses, which node the lookup of a leaf finds and how many leaves it looks at, or which question is the first that a
-- command does not pass.
pub data Value : Type 0 where
  answer : ℕ → ℕ → ℕ → ℕ → ℕ → ℕ → List ℕ → Value
  reading : Front → Value
  comes_to : Option Sum → Value
  sums : Option ℕ → Value
  needed : List Request → List (List ℕ) → Value
  looks_up : Option ℕ → ℕ → Value
  question : ℕ → Value

pub record Case : Type 0 where
  pub got : Value
  pub want : Value

unfoldable plays : List ℕ → ℕ → Value → Case
unfolding played
plays s c w = let o = played s c in record { got = answer o.number o.place o.used o.steps o.clauses o.nodes o.log; want = w }

unfoldable reads : List ℕ → Front → Case
unfolding read_in above
reads bs r = record { got = reading (read bs); want = reading r }

unfoldable records : List ℕ → ℕ → Option (List Record)
unfolding played decode_log
records s c = let o = played s c in decode_log (take o.used o.log)

unfoldable steps_to : List ℕ → ℕ → ℕ → Option Sum → Case
unfolding records step_of
steps_to s c n w = record { got = comes_to (elim (records s c) [ none ↦ none | some rs ↦ step_of 1 rs n ]); want = comes_to w }

unfoldable defines : List ℕ → ℕ → ℕ → Case
unfolding records defined
defines s c n = record { got = sums (elim (records s c) [ none ↦ none | some rs ↦ some (length (defined 1 rs)) ]); want = sums (some n) }

unfoldable nodes_of : List ℕ → List Node
unfolding read_script table
nodes_of s = elim (read_script s) [ script h cs ↦ table h cs.list | headless ↦ [] ]

unfoldable calls_for : List ℕ → Request → List Request → List (List ℕ) → Case
unfolding nodes_of dependencies totalizer
calls_for s x ys cs = record { got = needed (dependencies (nodes_of s) x) (totalizer (nodes_of s) x); want = needed ys cs }

unfoldable comes_upon : LeafLookup → Option ℕ → ℕ → Case
unfolding node_found looked_at
comes_upon r n k = record { got = looks_up (node_found r) (looked_at r); want = looks_up n k }

-- among the leaves of a script
unfoldable looks : List ℕ → ℕ → Option ℕ → ℕ → Case
unfolding nodes_of lookup_leaf comes_upon
looks s l n k = comes_upon (lookup_leaf (nodes_of s) l) n k

-- a command after the nodes of a script
unfoldable asks : List ℕ → Command → ℕ → Case
unfolding nodes_of first_no questions
asks s c n = record { got = question (first_no (questions (record { variable = 2; step = 1 }) (nodes_of s) c)); want = question n }

-- two leaves and their join; with the request of value v in direction d
unfoldable pair : ℕ → ℕ → List ℕ
pair v d = 2 ∷ 1 ∷ 1 ∷ 0 ∷ 1 ∷ 2 ∷ 2 ∷ 0 ∷ 0 ∷ 0 ∷ 1 ∷ 0 ∷ 0 ∷ 3 ∷ 2 ∷ v ∷ d ∷ []

unfoldable pair_log : List ℕ
pair_log =
    0x01 ∷ 0x05 ∷ 0x03 ∷ 0x01 ∷ 0x01 ∷ 0x01 ∷ 0x03 ∷ 0x02 ∷ 0x04 ∷ 0x02
    ∷ 0x01 ∷ 0x06 ∷ 0x03 ∷ 0x01 ∷ 0x00 ∷ 0x01 ∷ 0x02 ∷ 0x01 ∷ 0x05 ∷ 0x01
    ∷ 0x02 ∷ 0x04 ∷ 0x00 ∷ 0x01 ∷ 0x01 ∷ 0x00 ∷ 0x02 ∷ 0x04
    ∷ 0x03 ∷ 0x03 ∷ 0x02 ∷ 0x03 ∷ 0x04
    ∷ 0x02 ∷ 0x04 ∷ 0x00 ∷ 0x01 ∷ 0x01 ∷ 0x02 ∷ 0x02 ∷ 0x04
    ∷ 0x03 ∷ 0x04 ∷ 0x02 ∷ 0x01 ∷ 0x04 ∷ []

-- the whole case with these limits of the two leaves
unfoldable limited_pair : ℕ → ℕ → List ℕ
limited_pair j k = 2 ∷ 1 ∷ 1 ∷ 0 ∷ 1 ∷ 2 ∷ 2 ∷ 0 ∷ 0 ∷ j ∷ 1 ∷ 0 ∷ k ∷ 3 ∷ 2 ∷ 1 ∷ 1 ∷ []

-- leaves 0 2 4 6, node 4 joins the first two, node 5 that and the third (its outputs on the variables 6 to 8), node 6 joins node 5 from offset f on and
-- the fourth
unfoldable tree : ℕ → List ℕ
tree f = 4 ∷ 1 ∷ 1 ∷ 0 ∷ 1 ∷ 2 ∷ 1 ∷ 4 ∷ 1 ∷ 6 ∷ 2 ∷ 0 ∷ 0 ∷ 0 ∷ 1 ∷ 0 ∷ 0 ∷ 2 ∷ 4 ∷ 0 ∷ 0 ∷ 2 ∷ 0 ∷ 0 ∷ 2 ∷ 5 ∷ f ∷ 0 ∷ 3 ∷ 0 ∷ 0 ∷ []

-- the same with offset 1, and the request of value 1, if, of node 6
unfoldable window : List ℕ
unfolding tree
window = tree 1 ++ (3 ∷ 6 ∷ 1 ∷ 1 ∷ [])

-- n pairs of leaves, each with its join, from pair i on: the leaves of pair i are the nodes 3i and 3i + 1, their literals 4i and 4i + 2
unfoldable pairs : ℕ → ℕ → List ℕ
pairs zero i = []
pairs (suc n) i = 1 ∷ 4 * i ∷ 1 ∷ (4 * i + 2) ∷ 2 ∷ 3 * i ∷ 0 ∷ 0 ∷ (3 * i + 1) ∷ 0 ∷ 0 ∷ pairs n (suc i)

-- 64 leaves with joins between them
unfoldable sixty_four : List ℕ
unfolding pairs
sixty_four = 64 ∷ 1 ∷ pairs 32 0

-- the nodes 0, 1, 3 and 6 are leaves; two have one literal, as in no script
unfoldable four_leaves : List LeafEntry
four_leaves =
    record { literal = 4; node = 0 } ∷ record { literal = 3; node = 1 } ∷ record { literal = 4; node = 3 } ∷ record { literal = 9; node = 6 } ∷ []

-- leaves 0 2 4 6 8; node 5 joins the first two, node 6 that and the third, which are three outputs
unfoldable leg : List ℕ
leg = 5 ∷ 1 ∷ 1 ∷ 0 ∷ 1 ∷ 2 ∷ 1 ∷ 4 ∷ 1 ∷ 6 ∷ 1 ∷ 8 ∷ 2 ∷ 0 ∷ 0 ∷ 0 ∷ 1 ∷ 0 ∷ 0 ∷ 2 ∷ 5 ∷ 0 ∷ 0 ∷ 2 ∷ 0 ∷ 0 ∷ []

-- node 7 joins node 6, with offset f and limit k, and the fourth leaf; node 8 joins node 6, with offset g and limit j, and the fifth; of both value 2 in
-- both directions
unfoldable relay : ℕ → ℕ → ℕ → ℕ → List ℕ
unfolding leg
relay f k g j = leg ++ (2 ∷ 6 ∷ f ∷ k ∷ 3 ∷ 0 ∷ 0 ∷ 2 ∷ 6 ∷ g ∷ j ∷ 4 ∷ 0 ∷ 0 ∷ 3 ∷ 7 ∷ 2 ∷ 3 ∷ 3 ∷ 8 ∷ 2 ∷ 3 ∷ [])

-- the join of two plain sides
unfoldable joins : ℕ → ℕ → List ℕ
joins n m = 2 ∷ n ∷ 0 ∷ 0 ∷ m ∷ 0 ∷ 0 ∷ []

-- n joins of two leaves
unfoldable again : ℕ → List ℕ
unfolding joins
again zero = 2 ∷ 1 ∷ 1 ∷ 0 ∷ 1 ∷ 2 ∷ []
again (suc n) = again n ++ joins 0 1

unfoldable plain : ℕ → Side
plain n = record { node = n; offset = 0; limit = 0 }

-- 100,000,000, and one more
unfoldable most : List ℕ
most = 0x80 ∷ 0xc2 ∷ 0xd7 ∷ 0x2f ∷ []

unfoldable over : List ℕ
over = 0x81 ∷ 0xc2 ∷ 0xd7 ∷ 0x2f ∷ []

unfoldable pub cases : List Case
unfolding most over plays reads steps_to defines calls_for comes_upon looks lookup_in asks pair limited_pair pair_log tree window sixty_four four_leaves leg relay joins again plain
cases =
    -- the whole case; with a log one byte too short; the sums it defines; what its request calls for
    plays (pair 1 1) 46 (answer 0 4 46 4 2 3 pair_log)
    ∷ plays (pair 1 1) 45 (answer 14 4 0 0 0 3 (replicate 45 0))
    ∷ defines (pair 1 1) 46 2
    ∷ calls_for (pair 1 1) (request 2 1 if) (request 1 1 if ∷ request 0 1 if ∷ []) ((3 ∷ 4 ∷ []) ∷ (1 ∷ 4 ∷ []) ∷ [])
    -- the empty script; a head alone
    ∷ plays [] 2 (answer 2 0 0 0 0 0 (0 ∷ 0 ∷ []))
    ∷ plays (2 ∷ 1 ∷ []) 2 (answer 0 0 0 0 0 0 (0 ∷ 0 ∷ []))
    -- numbers
    ∷ reads (0x7f ∷ []) (number 127 [])
    ∷ reads (0x80 ∷ 0x01 ∷ []) (number 128 [])
    ∷ reads (0x80 ∷ 0x00 ∷ []) bad
    ∷ plays (0x80 ∷ 0x00 ∷ 1 ∷ []) 0 (answer 2 0 0 0 0 0 [])
    ∷ reads (0xff ∷ 0xff ∷ 0x7f ∷ []) (number 2097151 [])
    -- document 02, §2: a fourth group reads, a fifth gives 2; the head's limits, and one past each
    ∷ reads (0xff ∷ 0xff ∷ 0xff ∷ 0x01 ∷ []) (number 4194303 [])
    ∷ reads (0xff ∷ 0xff ∷ 0xff ∷ 0x7f ∷ []) (number 268435455 [])
    ∷ reads (0xff ∷ 0xff ∷ 0xff ∷ 0xff ∷ 0x01 ∷ []) bad
    ∷ plays (0xff ∷ 0xff ∷ 0xff ∷ 0xff ∷ 0x01 ∷ 1 ∷ []) 0 (answer 2 0 0 0 0 0 [])
    ∷ plays (most ++ most) 0 (answer 0 0 0 0 0 0 [])
    ∷ plays (over ++ most) 0 (answer 3 0 0 0 0 0 [])
    ∷ plays (most ++ over) 0 (answer 3 0 0 0 0 0 [])
    ∷ plays (0 ∷ 1 ∷ []) 0 (answer 0 0 0 0 0 0 [])
    ∷ plays (0 ∷ 0 ∷ []) 0 (answer 3 0 0 0 0 0 [])
    -- value 0 and length + 1; the length passes
    ∷ plays (pair 0 1) 0 (answer 11 4 0 0 0 3 [])
    ∷ plays (pair 3 1) 0 (answer 11 4 0 0 0 3 [])
    ∷ plays (pair 2 1) 31
    (answer 0 4 31 3 1 3
    (0x01 ∷ 0x07 ∷ 0x03 ∷ 0x01 ∷ 0x01 ∷ 0x01 ∷ 0x03 ∷ 0x01 ∷ 0x06 ∷ 0x01 ∷ 0x01 ∷ 0x08 ∷ 0x03 ∷ 0x01 ∷ 0x00 ∷ 0x01 ∷ 0x02 ∷ 0x02 ∷ 0x07 ∷ 0x02 ∷
    0x02 ∷ 0x02 ∷ 0x00 ∷ 0x01 ∷ 0x04 ∷ 0x03 ∷ 0x03 ∷ 0x03 ∷ 0x01 ∷ 0x03 ∷ 0x06 ∷ []))
    -- offset length - 1 passes; the length does not
    ∷ plays (tree 2) 0 (answer 0 7 0 0 0 7 [])
    ∷ plays (tree 3) 0 (answer 10 7 0 0 0 6 [])
    -- document 02, §3: the whole length for a limit on one side, on both; one past it
    ∷ plays (limited_pair 1 0) 46 (answer 0 4 46 4 2 3 pair_log)
    ∷ plays (limited_pair 1 1) 46 (answer 0 4 46 4 2 3 pair_log)
    ∷ plays (limited_pair 0 2) 46 (answer 10 3 0 0 0 2 (replicate 46 0))
    -- document 02, §4: no leaf; one; of 64 leaves the newest, the third and the oldest, a negation and an output; old ones again, and the negation
    ∷ looks (1 ∷ 1 ∷ []) 0 none 0
    ∷ looks (1 ∷ 1 ∷ 1 ∷ 0 ∷ []) 0 (some 0) 1
    ∷ looks (1 ∷ 1 ∷ 1 ∷ 0 ∷ []) 1 none 1
    ∷ looks sixty_four 126 (some 94) 1
    ∷ looks sixty_four 4 (some 3) 62
    ∷ looks sixty_four 0 (some 0) 64
    ∷ looks sixty_four 1 none 64
    ∷ looks sixty_four 128 none 64
    ∷ plays (sixty_four ++ (1 ∷ 126 ∷ 1 ∷ 0 ∷ [])) 0 (answer 0 98 0 0 0 96 [])
    ∷ plays (sixty_four ++ (1 ∷ 1 ∷ [])) 0 (answer 7 97 0 0 0 96 [])
    -- of two leaves the newest
    ∷ comes_upon (lookup_in four_leaves 1) none 4
    ∷ comes_upon (lookup_in four_leaves 4) (some 3) 2
    ∷ comes_upon (lookup_in four_leaves 8) none 4
    -- document 02, §5: node 6 under two joins, through one window, by its limit or not; through two; through a window and plain
    ∷ defines (relay 1 2 1 0) 506 19
    ∷ defines (relay 1 0 0 2) 604 28
    ∷ defines (relay 1 0 0 0) 506 17
    -- a leaf below both sides; one node twice; a node and one under it, through a window that hides its leaf or not; question 8 goes first
    ∷ plays (leg ++ (joins 5 2 ++ joins 6 3 ++ joins 7 8)) 0 (answer 9 10 0 0 0 9 [])
    ∷ plays (leg ++ joins 6 6) 0 (answer 9 8 0 0 0 7 [])
    ∷ plays (leg ++ (2 ∷ 6 ∷ 2 ∷ 0 ∷ 0 ∷ 0 ∷ 0 ∷ [])) 0 (answer 9 8 0 0 0 7 [])
    ∷ plays (leg ++ (2 ∷ 6 ∷ 2 ∷ 0 ∷ 3 ∷ 0 ∷ 0 ∷ 2 ∷ 7 ∷ 0 ∷ 0 ∷ 5 ∷ 3 ∷ 0 ∷ [])) 0 (answer 9 9 0 0 0 8 [])
    ∷ plays (leg ++ joins 6 7) 0 (answer 8 8 0 0 0 7 [])
    -- 255 joins pass, the 256th does not; 9 is put before 15, and 15 before 10
    ∷ plays (again 256) 0 (answer 15 258 0 0 0 257 [])
    ∷ asks (again 254) (Command.Join (plain 0) (plain 1)) 0
    ∷ asks (again 255) (Command.Join (plain 0) (plain 1)) 15
    ∷ asks (again 255) (Command.Join (plain 256) (plain 1)) 9
    ∷ asks (again 255) (Command.Join (plain 0) (record { node = 1; offset = 1; limit = 0 })) 15
    ∷ asks (again 254) (Command.Join (plain 0) (record { node = 1; offset = 1; limit = 0 })) 10
    -- three outputs (literals 12 14 16), offset 1: if and only-if of 2, if and only-if of 3
    ∷ steps_to window 252 15 (some ((1 · 14 ∷ 1 · 17 ∷ []) ≥ 1))
    ∷ steps_to window 252 16 (some ((1 · 16 ∷ []) ≥ 0))
    ∷ steps_to window 252 17 (some ((1 · 15 ∷ []) ≥ 0))
    ∷ steps_to window 252 18 (some ((1 · 14 ∷ 1 · 17 ∷ []) ≥ 1))
    -- a request repeated adds nothing
    ∷ plays (pair 1 1 ++ (3 ∷ 2 ∷ 1 ∷ 1 ∷ [])) 46 (answer 0 5 46 4 2 3 pair_log)
    ∷ []
