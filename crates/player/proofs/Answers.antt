-- Plays worked out: the six numbers, and the log, of scripts at the edge of a question; the nodes, outputs and deletions of a longer one.
use mathlib.Core.Path.{◌≡◌, refl}
use mathlib.Core.List.{List, [], ◌∷◌, map}
use mathlib.Core.Option.{none, some}
use Prim.Native.Nat.{ℕ}
use lib.ListN.{take}
use Rattle.record.specs.Record.{decode_log}
use Rattle.record.specs.Written.{deletions}
use Rattle.totdb.specs.declared.Side.{Side}
use Rattle.cert.specs.State.{Head}
use Rattle.player.specs.Accepted.{makers, join_outputs}
use Rattle.player.specs.Called.{table}
use Rattle.player.specs.Player.{played}
use Rattle.player.specs.Script.{Commands}
use Rattle.player.specs.declared.Command.{Command}

-- number, place, log length, steps, clauses, nodes, and the log
unfoldable pub answer : List ℕ → ℕ → List ℕ
unfolding played
answer bs capacity =
    let o = played bs capacity in
    o.number ∷ o.place ∷ o.used ∷ o.steps ∷ o.clauses ∷ o.nodes ∷ o.log

pub record Case : Type 0 where
  pub got : List ℕ
  pub want : List ℕ

case : List ℕ → ℕ → List ℕ → Case
case bs capacity w = record { got = answer bs capacity; want = w }

unfoldable pub cases : List Case
unfolding case
cases =
    -- a close takes two bytes
    case (2 ∷ 1 ∷ 4 ∷ []) 2 (0 ∷ 1 ∷ 2 ∷ 0 ∷ 0 ∷ 0 ∷ 4 ∷ 0 ∷ [])
    ∷ case (2 ∷ 1 ∷ 4 ∷ []) 1 (14 ∷ 1 ∷ 0 ∷ 0 ∷ 0 ∷ 0 ∷ 0 ∷ [])
    ∷ case (2 ∷ 1 ∷ 4 ∷ []) 4 (0 ∷ 1 ∷ 2 ∷ 0 ∷ 0 ∷ 0 ∷ 4 ∷ 0 ∷ 0 ∷ 0 ∷ [])
    -- document 01's whole case, then a close: it deletes the two steps that define, and not those of the two clauses
    ∷ case
    (2 ∷ 1 ∷ 1 ∷ 0 ∷ 1 ∷ 2 ∷ 2 ∷ 0 ∷ 0 ∷ 0 ∷ 1 ∷ 0 ∷ 0 ∷ 3 ∷ 2 ∷ 1 ∷ 1 ∷ 4 ∷ []) 50
    (0 ∷ 5 ∷ 50 ∷ 4 ∷ 2 ∷ 3 ∷ 1 ∷ 5 ∷ 3 ∷ 1 ∷ 1 ∷ 1 ∷ 3 ∷ 2 ∷ 4 ∷ 2 ∷ 1 ∷ 6 ∷ 3 ∷ 1 ∷ 0 ∷ 1 ∷ 2 ∷ 1 ∷ 5 ∷ 1 ∷ 2 ∷ 4 ∷ 0 ∷ 1 ∷ 1 ∷ 0 ∷ 2 ∷ 4 ∷ 3 ∷ 3 ∷ 2 ∷ 3 ∷ 4 ∷
    2 ∷ 4 ∷ 0 ∷ 1 ∷ 1 ∷ 2 ∷ 2 ∷ 4 ∷ 3 ∷ 4 ∷ 2 ∷ 1 ∷ 4 ∷ 4 ∷ 2 ∷ 1 ∷ 2 ∷ [])
    -- a leaf literal seen before gets its old node
    ∷ case (2 ∷ 1 ∷ 1 ∷ 0 ∷ 1 ∷ 0 ∷ []) 0 (0 ∷ 2 ∷ 0 ∷ 0 ∷ 0 ∷ 1 ∷ [])
    -- one node on both sides; a limit past the rest of the node
    ∷ case (2 ∷ 1 ∷ 1 ∷ 0 ∷ 2 ∷ 0 ∷ 0 ∷ 0 ∷ 0 ∷ 0 ∷ 0 ∷ []) 0 (9 ∷ 2 ∷ 0 ∷ 0 ∷ 0 ∷ 1 ∷ [])
    ∷ case (3 ∷ 1 ∷ 1 ∷ 0 ∷ 1 ∷ 2 ∷ 1 ∷ 4 ∷ 2 ∷ 0 ∷ 0 ∷ 0 ∷ 1 ∷ 0 ∷ 0 ∷ 2 ∷ 3 ∷ 1 ∷ 2 ∷ 2 ∷ 0 ∷ 0 ∷ []) 0 (10 ∷ 5 ∷ 0 ∷ 0 ∷ 0 ∷ 4 ∷ [])
    -- the outputs of a second join come after those of the first: value 2 of it, if, is on variable 7
    ∷ case
    (4 ∷ 1 ∷ 1 ∷ 0 ∷ 1 ∷ 2 ∷ 1 ∷ 4 ∷ 1 ∷ 6 ∷ 2 ∷ 0 ∷ 0 ∷ 0 ∷ 1 ∷ 0 ∷ 0 ∷ 2 ∷ 2 ∷ 0 ∷ 0 ∷ 3 ∷ 0 ∷ 0 ∷ 3 ∷ 5 ∷ 2 ∷ 1 ∷ []) 31
    (0 ∷ 7 ∷ 31 ∷ 3 ∷ 1 ∷ 6 ∷ 1 ∷ 15 ∷ 3 ∷ 1 ∷ 5 ∷ 1 ∷ 7 ∷ 1 ∷ 14 ∷ 1 ∷ 1 ∷ 16 ∷ 3 ∷ 1 ∷ 4 ∷ 1 ∷ 6 ∷ 2 ∷ 15 ∷ 2 ∷ 2 ∷ 2 ∷ 0 ∷ 1 ∷ 4 ∷ 3 ∷ 3 ∷ 3 ∷ 5 ∷ 7 ∷ 14 ∷ [])
    ∷ []

pub worked : map (λ (c : Case). c.got) cases ≡ map (λ (c : Case). c.want) cases
unfolding cases answer
worked = refl

-- ---- a script that passes, with a leaf repeated, a window and a close

-- Four leaves, the second named twice; node 4 joins the first two, node 5 that and the third, node 6 node 5 from offset 1 on and the fourth. Of node 6
-- value 1, if; then a close.
unfoldable pub closing : List ℕ
closing =
    4 ∷ 1 ∷ 1 ∷ 0 ∷ 1 ∷ 2 ∷ 1 ∷ 2 ∷ 1 ∷ 5 ∷ 1 ∷ 7 ∷ 2 ∷ 0 ∷ 0 ∷ 0 ∷ 1 ∷ 0 ∷ 0 ∷ 2 ∷ 4 ∷ 0 ∷ 0 ∷ 2 ∷ 0 ∷ 0 ∷ 2 ∷ 5 ∷ 1 ∷ 0 ∷ 3 ∷ 0 ∷ 0 ∷
    3 ∷ 6 ∷ 1 ∷ 1 ∷ 4 ∷ []

unfoldable pub closing_head : Head
closing_head = record { variable = 4; step = 1 }

unfoldable side : ℕ → ℕ → Side
side n f = record { node = n; offset = f; limit = 0 }

unfoldable pub joins : List Command → List Command
unfolding side
joins cs = Command.Join (side 0 0) (side 1 0) ∷ Command.Join (side 4 0) (side 2 0) ∷ Command.Join (side 5 1) (side 3 0) ∷ cs

unfoldable pub closing_commands : Commands
unfolding joins
closing_commands = record {
  list = Command.Leaf 0 ∷ Command.Leaf 2 ∷ Command.Leaf 2 ∷ Command.Leaf 5 ∷ Command.Leaf 7 ∷ joins (Command.Request 6 1 1 ∷ Command.Close ∷ []);
  ending = 0;
}

pub made : makers closing_commands.list ≡ Command.Leaf 0 ∷ Command.Leaf 2 ∷ Command.Leaf 5 ∷ Command.Leaf 7 ∷ joins []
unfolding closing_commands makers
made = refl

pub outputs : join_outputs (table closing_head closing_commands.list) ≡ 8 ∷ 10 ∷ 12 ∷ 14 ∷ 16 ∷ 18 ∷ 20 ∷ 22 ∷ []
unfolding closing_commands closing_head table join_outputs
outputs = refl

unfoldable pub deleted : List (List ℕ)
unfolding closing played decode_log deletions
deleted = let o = played closing 600 in elim (decode_log (take o.used o.log)) [ none ↦ [] | some rs ↦ deletions rs ]

-- Step 3 is the first clause's; a window is defined from 12 to 19.
pub deleted_are : deleted ≡ (1 ∷ 2 ∷ 5 ∷ 6 ∷ 8 ∷ 9 ∷ 12 ∷ 13 ∷ 14 ∷ 15 ∷ 16 ∷ 17 ∷ 18 ∷ 19 ∷ 20 ∷ 21 ∷ []) ∷ []
unfolding deleted
deleted_are = refl
