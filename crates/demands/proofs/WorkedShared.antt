-- Two scripts in which a node stands under three joins, through windows: they meet the hypotheses of the demands and of document 02, §5.
use mathlib.Core.Path.{◌≡◌, refl, sym, ◌∙◌}
use mathlib.Core.Bool.{true, false, true≢false}
use mathlib.Core.Logic.{◌≢◌, ◌⊎◌, inl, inr}
use mathlib.Core.List.{List, [], ◌∷◌, ◌++◌, flat_map, head-eq_of_cons-eq, Memᴰ, Nodup}
use Prim.Native.Nat.{ℕ, zero, suc, ◌≤◌, ◌<◌, ◌-◌}
use native.Mathlib.Omega.{arith}
use lib.ListN.{length, drop}
use Rattle.number.specs.Number.{Bytes, encode, encode_in}
use Rattle.memo.specs.Closure.{SameMembers}
use Rattle.memo.proofs.Lists.{of_three}
use Rattle.pb.specs.Sum.{variable}
use Rattle.record.specs.Record.{clauses}
use Rattle.totdb.proofs.Overlap.{any_has}
use Rattle.totdb.specs.Nodes.{any, limited, node_at, leaves, len, side_outputs}
use Rattle.totdb.specs.Below.{share_leaf}
use Rattle.totdb.specs.declared.Side.{Side}
use Rattle.cert.specs.Definitions.{Direction, if, only_if, Key, side_def}
use Rattle.cert.specs.Requests.{Request, request, key_of}
use Rattle.cert.specs.State.{Head, State, start}
use Rattle.cert.proofs.LeavesBelow.{leaf_join}
use Rattle.player.specs.Called.{makes, table}
use Rattle.player.specs.Player.{act, play, played}
use Rattle.player.specs.Script.{closes, command_numbers, script_bytes}
use Rattle.player.specs.Verdict.{Below, itself, through_left, through_right, Reads, own_join, joins, offset_high, limit_high, Reached, at_head, one_more}
use Rattle.player.specs.declared.Command.{Command}
use Rattle.player.proofs.Accepted.{are_short, short_tested, script_tested, accepted_reached}
use Rattle.player.proofs.Coding.{are_bytes, bytes_tested}
use Rattle.player.proofs.Judged.{reached_all, reached_ok}
use Rattle.player.proofs.Matching.{nodes_table}
use Rattle.player.proofs.Questions.{accepted_exactly}
use Rattle.player.proofs.Runs.{asked}
use Rattle.demands.specs.Demands.{Alike, Meets3, Demand3}
use Rattle.demands.specs.Shared.{NoneBelow, Window, SharedIn}
use Rattle.demands.proofs.Demand3.{demand_3}
use Rattle.demands.proofs.Shared.{none_below, shared_nodes}
use Rattle.demands.proofs.Worked.{alike_tested}

-- No close is among the commands.
unclosed : (cs : List Command) → any closes cs ≡ false → Memᴰ Command.Close cs → ⊥
unfolding closes
unclosed cs e m = true≢false (sym (any_has closes Command.Close cs m refl) ∙ e)

-- Five leaves; node 5 joins the first two, node 6 that and the third, node 7 outputs 2 and 3 of node 6 and the fourth leaf, node 8 the same outputs, by a
-- limit, and the fifth, node 9 outputs 1 and 2 and the fourth.
unfoldable nodes : List ℕ
nodes =
    5 ∷ 1 ∷ 1 ∷ 0 ∷ 1 ∷ 2 ∷ 1 ∷ 4 ∷ 1 ∷ 6 ∷ 1 ∷ 8 ∷ 2 ∷ 0 ∷ 0 ∷ 0 ∷ 1 ∷ 0 ∷ 0 ∷ 2 ∷ 5 ∷ 0 ∷ 0 ∷ 2 ∷ 0 ∷ 0 ∷ 2 ∷ 6 ∷ 1 ∷ 0 ∷ 3 ∷ 0 ∷ 0 ∷
    2 ∷ 6 ∷ 1 ∷ 2 ∷ 4 ∷ 0 ∷ 0 ∷ 2 ∷ 6 ∷ 0 ∷ 2 ∷ 3 ∷ 0 ∷ 0 ∷ []

-- Of node 7 value 1 in both directions, of node 8 value 3, if; and the other way round.
unfoldable pub first : List ℕ
unfolding nodes
first = nodes ++ (3 ∷ 7 ∷ 1 ∷ 3 ∷ 3 ∷ 8 ∷ 3 ∷ 1 ∷ [])

unfoldable pub second : List ℕ
unfolding nodes
second = nodes ++ (3 ∷ 8 ∷ 3 ∷ 1 ∷ 3 ∷ 7 ∷ 1 ∷ 2 ∷ 3 ∷ 7 ∷ 1 ∷ 1 ∷ [])

unfoldable pub head : Head
head = record { variable = 5; step = 1 }

unfoldable pub side : ℕ → ℕ → ℕ → Side
side n f k = record { node = n; offset = f; limit = k }

unfoldable ten : List Command → List Command
unfolding side
ten cs =
    Command.Leaf 0 ∷ Command.Leaf 2 ∷ Command.Leaf 4 ∷ Command.Leaf 6 ∷ Command.Leaf 8 ∷ Command.Join (side 0 0 0) (side 1 0 0)
    ∷ Command.Join (side 5 0 0) (side 2 0 0) ∷ Command.Join (side 6 1 0) (side 3 0 0) ∷ Command.Join (side 6 1 2) (side 4 0 0)
    ∷ Command.Join (side 6 0 2) (side 3 0 0) ∷ cs

unfoldable pub first_commands : List Command
unfolding ten
first_commands = ten (Command.Request 7 1 3 ∷ Command.Request 8 3 1 ∷ [])

unfoldable pub second_commands : List Command
unfolding ten
second_commands = ten (Command.Request 8 3 1 ∷ Command.Request 7 1 2 ∷ Command.Request 7 1 1 ∷ [])

turned : (a b c : Request) → SameMembers (a ∷ b ∷ c ∷ []) (c ∷ b ∷ a ∷ [])
turned a b c x = (
  of_three (λ (y : Request). Memᴰ y (c ∷ b ∷ a ∷ [])) (mathlib.Core.List.Memᴰ.tail (mathlib.Core.List.Memᴰ.tail (mathlib.Core.List.Memᴰ.head refl)))
      (mathlib.Core.List.Memᴰ.tail (mathlib.Core.List.Memᴰ.head refl)) (mathlib.Core.List.Memᴰ.head refl) x,
  of_three (λ (y : Request). Memᴰ y (a ∷ b ∷ c ∷ [])) (mathlib.Core.List.Memᴰ.tail (mathlib.Core.List.Memᴰ.tail (mathlib.Core.List.Memᴰ.head refl)))
      (mathlib.Core.List.Memᴰ.tail (mathlib.Core.List.Memᴰ.head refl)) (mathlib.Core.List.Memᴰ.head refl) x,
)

first_bytes : Bytes first
unfolding first are_bytes
first_bytes = bytes_tested first refl

second_bytes : Bytes second
unfolding second are_bytes
second_bytes = bytes_tested second refl

pub alike : Alike first second (played first 500) (played second 500) head first_commands second_commands
unfolding first second head first_commands second_commands are_short script_bytes command_numbers flat_map played makes asked
alike =
    alike_tested first second (played first 500) (played second 500) head first_commands second_commands (script_tested first head first_commands refl refl)
    (script_tested second head second_commands refl refl) refl refl refl (turned (request 7 1 if) (request 7 1 only_if) (request 8 3 if))

pub matched : Meets3 head first_commands second_commands (played first 500) (played second 500)
unfolding Demand3
matched = demand_3 first second 500 500 head first_commands second_commands first_bytes second_bytes alike

-- Steps, clauses and nodes, as the original has them.
pub counted : (played first 500).steps ∷ (played first 500).clauses ∷ (played first 500).nodes ∷ (played second 500).steps
    ∷ (played second 500).clauses ∷ (played second 500).nodes ∷ []
    ≡ 33 ∷ 15 ∷ 10 ∷ 33 ∷ 15 ∷ 10 ∷ []
unfolding first second played
counted = refl

-- ---- what document 02, §5, says of the first

pub once : Nodup (clauses matched.records)
once = shared_nodes.once first 500 matched.records first_bytes matched.holds.0

pub reached : (s : State) × Reached first 500 head first_commands s []
reached = accepted_reached first_bytes alike.one_head.0 alike.accepted_both.0

nodes_are : reached.0.nodes ≡ table head first_commands
nodes_are = nodes_table head 500 first_commands reached.0 (reached_all reached.1).3

shared : SharedIn (table head first_commands)
shared =
    rw nodes_are at (shared_nodes.nodes first 500 head first_commands reached.0 [] reached.1)

-- The windows of nodes 7, 8 and 9: node 6 has three outputs.
shows : (f k : ℕ) → f < 3 → k ≤ 3 - f → (0 < f) ⊎ ((0 < k) × (k < 3)) → 2 ≤ limited k (3 - f) → Window (table head first_commands) (side 6 f k)
unfolding head first_commands table side
shows f k low inside hides several = record {
  there = omega arith;
  inside = λ o. elim o [ offset_high l ↦ omega arith | limit_high l ↦ omega arith ];
  hides = hides;
  several = several;
}

shows_7 : Window (table head first_commands) (side 6 1 0)
shows_7 = shows 1 0 (omega arith) (omega arith) (inl (omega arith)) (unfold limited in omega arith)

shows_8 : Window (table head first_commands) (side 6 1 2)
shows_8 = shows 1 2 (omega arith) (omega arith) (inl (omega arith)) (unfold limited in omega arith)

shows_9 : Window (table head first_commands) (side 6 0 2)
shows_9 = shows 0 2 (omega arith) (omega arith) (inr (omega arith, omega arith)) (unfold limited in omega arith)

pub one_window : (i : ℕ) (d : Direction) → side_def (table head first_commands) (side 6 1 0) i d ≡ side_def (table head first_commands) (side 6 1 2) i d
unfolding head first_commands table side side_outputs
one_window = shared.one (side 6 1 0) (side 6 1 2) shows_7 shows_8 refl

-- Window 9 shows other outputs than window 7.
others : side_outputs (table head first_commands) (side 6 1 0) ≢ side_outputs (table head first_commands) (side 6 0 2)
unfolding head first_commands table side side_outputs
others e = omega (arith, head-eq_of_cons-eq e)

pub own_windows : (k : Key) → Memᴰ k (key_of (side_def (table head first_commands) (side 6 1 0) 2 if))
    → Memᴰ k (key_of (side_def (table head first_commands) (side 6 0 2) 2 if)) → ⊥
own_windows k m n = shared.own (side 6 1 0) (side 6 0 2) shows_7 shows_9 others 2 2 if if k m n

-- No leaf lies below both node 7 and the fifth leaf.
apart : NoneBelow (table head first_commands) 7 4
unfolding head first_commands table share_leaf
apart = none_below (table head first_commands) (rw nodes_are at (reached_ok reached.1)) 7 4 refl

pub no_common : (x y : ℕ) → Memᴰ x (leaves (node_at (table head first_commands) 7)) → Memᴰ y (leaves (node_at (table head first_commands) 4)) → variable x ≢ variable y
unfolding head first_commands table
no_common = shared.apart 7 4 (omega arith) (omega arith) apart

-- Below the first leaf lies no other.
one_below : (x n : ℕ) → n ≡ 0 → Below (table head first_commands) x n → Memᴰ x (0 ∷ [])
unfolding head first_commands table node_at
one_below x n z (itself h e) = mathlib.Core.List.Memᴰ.head z
one_below x n z (through_left h e b) = absurd (leaf_join (rw z at e))
one_below x n z (through_right h e b) = absurd (leaf_join (rw z at e))

pub no_longer : len (node_at (table head first_commands) 0) ≤ 1
no_longer = shared.no_longer 0 (0 ∷ []) there (λ x. one_below x 0 refl)
  where
    there : 0 < length (table head first_commands)
    there = unfold head first_commands table in omega arith

-- ---- a script that comes past joins: two leaves, and their join twice

unfoldable pub twice : List ℕ
twice = 2 ∷ 1 ∷ 1 ∷ 0 ∷ 1 ∷ 2 ∷ 2 ∷ 0 ∷ 0 ∷ 0 ∷ 1 ∷ 0 ∷ 0 ∷ 2 ∷ 0 ∷ 0 ∷ 0 ∷ 1 ∷ 0 ∷ 0 ∷ []

unfoldable pub two : Head
two = record { variable = 2; step = 1 }

abbrev pub the_join : Command
the_join = Command.Join (side 0 0 0) (side 1 0 0)

-- The leaves, and n joins.
unfoldable pub made : ℕ → State
unfolding start two act side
made zero = act (Command.Leaf 2) (act (Command.Leaf 0) (start two))
made (suc n) = act the_join (made n)

tested : (ns rest : List ℕ) → are_short ns ≡ true → Reads (flat_map encode ns ++ rest) ns rest
tested ns rest e = record { coded = refl; short = short_tested ns e }

at_leaves : Reached twice 0 two [] (start two) (drop 2 twice)
unfolding twice two are_short encode encode_in flat_map
at_leaves =
    at_head (omega arith) (omega arith) (tested (2 ∷ 1 ∷ []) (drop 2 twice) refl) (omega arith) (omega arith) (omega arith)

one_leaf : Reached twice 0 two (Command.Leaf 0 ∷ []) (act (Command.Leaf 0) (start two)) (drop 4 twice)
unfolding twice two are_short encode encode_in flat_map command_numbers play start
one_leaf =
    one_more at_leaves (λ m. mathlib.Core.List.Memᴰ.not-nil m) (tested (1 ∷ 0 ∷ []) (drop 4 twice) refl)
    ((accepted_exactly two 0 (start two) (reached_ok at_leaves) (Command.Leaf 0)).0 refl)

two_leaves : Reached twice 0 two (Command.Leaf 0 ∷ Command.Leaf 2 ∷ []) (made 0) (drop 6 twice)
unfolding twice two are_short encode encode_in flat_map command_numbers play start made closes any
two_leaves =
    one_more one_leaf (unclosed (Command.Leaf 0 ∷ []) refl) (tested (1 ∷ 2 ∷ []) (drop 6 twice) refl)
    ((accepted_exactly two 0 (act (Command.Leaf 0) (start two)) (reached_ok one_leaf) (Command.Leaf 2)).0 refl)

-- Nothing stands over the leaves when they are joined, and then a join does.
pub past_join : Reached twice 0 two (Command.Leaf 0 ∷ Command.Leaf 2 ∷ the_join ∷ []) (made 1) (drop 13 twice)
unfolding twice two are_short encode encode_in flat_map command_numbers made closes any start act side joins own_join share_leaf
past_join =
    shared_nodes.joined twice 0 two (Command.Leaf 0 ∷ Command.Leaf 2 ∷ []) (made 0) (drop 6 twice) (drop 13 twice) (side 0 0 0) (side 1 0 0) two_leaves
    (unclosed (Command.Leaf 0 ∷ Command.Leaf 2 ∷ []) refl) (tested (command_numbers the_join) (drop 13 twice) refl) (omega arith)
    (omega arith) (none_below (made 0).nodes (reached_ok two_leaves) 0 1 refl) (omega arith)
    (λ o. elim o [ offset_high l ↦ omega arith | limit_high l ↦ omega arith ]) (λ o. elim o [ offset_high l ↦ omega arith | limit_high l ↦ omega arith ])

pub past_both : Reached twice 0 two (Command.Leaf 0 ∷ Command.Leaf 2 ∷ the_join ∷ the_join ∷ []) (made 2) []
unfolding twice two are_short encode encode_in flat_map command_numbers made closes any start act side joins own_join share_leaf
past_both =
    shared_nodes.joined twice 0 two (Command.Leaf 0 ∷ Command.Leaf 2 ∷ the_join ∷ []) (made 1) (drop 13 twice) [] (side 0 0 0) (side 1 0 0) past_join
    (unclosed (Command.Leaf 0 ∷ Command.Leaf 2 ∷ the_join ∷ []) refl) (tested (command_numbers the_join) [] refl)
    (omega arith) (omega arith) (none_below (made 1).nodes (reached_ok past_join) 0 1 refl) (omega arith)
    (λ o. elim o [ offset_high l ↦ omega arith | limit_high l ↦ omega arith ]) (λ o. elim o [ offset_high l ↦ omega arith | limit_high l ↦ omega arith ])
