-- Requests, alone and together; the directions held of a value as a number; and what a request is handed.
use Rattle.std.specs.Prelude.{Bool, true, false, cond, not, List, ℕ, ◌+◌, ◌≤◌, ◌<◌, ◌%◌, eqb, leb, length}
use Rattle.sizes.specs.Sizes.{most_nodes, width, store_row, store_at}
use Rattle.memo.specs.Visit.{ask, each}
use Rattle.totdb.specs.Nodes.{Node, node_at, len}
use Rattle.cert.specs.Definitions.{if, only_if}
use Rattle.cert.specs.Equal.{request_dec}
use Rattle.cert.specs.Requests.{Request, request, node_of, needs}
use Rattle.cert.specs.State.{State, write_request}
use Rattle.rows.specs.Rows.{ShownOf}
use Rattle.rows.specs.declared.Shown.{Shown}

-- ---- requests

-- A request that a need is, alone: it is skipped where it is held.
abbrev pub ask_for : List Node → Request → State → State
ask_for t x s = ask request_dec (needs t) node_of (λ (u : State). u.held) (write_request t) x s

-- Both directions: one after the other, and together.
abbrev pub ask_both : List Node → ℕ → ℕ → State → State
ask_both t n v s = ask_for t (request n v only_if) (ask_for t (request n v if) s)

abbrev pub write_both : List Node → ℕ → ℕ → State → State
write_both t n v s =
    write_request t (request n v only_if) (write_request t (request n v if)
    (each (ask_for t) (needs t (request n v only_if)) (each (ask_for t) (needs t (request n v if)) s)))

-- ---- directions as a number: 1 if, 2 only-if, 3 both. The flag is that of only-if.

unfoldable pub is_held : Bool → ℕ → Bool
is_held true h = leb 2 h
is_held false h = eqb (h % 2) 1

-- One direction put to those that are held.
unfoldable pub held_with : Bool → ℕ → ℕ
unfolding is_held
held_with b h = cond (is_held (not b) h) 3 (cond b 2 1)

-- ---- what the code is handed

-- A value of a node.
pub record RequestIn (t : List Node) (n v : ℕ) : Type 0 where
  pub there : n < length t
  pub above : 1 ≤ v
  pub within : v ≤ len (node_at t n)

-- A side, beside one of q literals, of a join of which the value v is asked.
pub record SideAsked (t : List Node) (s : Shown) (q v : ℕ) : Type 0 where
  pub shown : ShownOf t s
  pub other : q ≤ width
  pub above : 1 ≤ v
  pub within : v ≤ width

-- A value with a place in the store.
pub record HeldRoom (store : List ℕ) (n v : ℕ) : Type 0 where
  pub node : n < most_nodes
  pub row : store_at n + store_row ≤ length store
  pub value : v ≤ width
