-- The store: where the first steps of a definition, the held directions of a value and the counters stand, and what each region says of a state.
use Rattle.std.specs.Prelude.{◌≡◌, Bool, true, false, cond, List, map, ℕ, ◌+◌, ◌*◌, ◌≤◌, ◌<◌, ltb, length, get_or, take, set}
use Rattle.std.proofs.Math.Logic.{dite}
use Rattle.sizes.specs.Sizes.{width, trail, marks_at, step_at, clauses_at, store_at, held_at}
use Rattle.memo.specs.Visit.{dec_memᴰ}
use Rattle.record.specs.Record.{clauses}
use Rattle.totdb.specs.Nodes.{Node, leaf, join, node_at, len}
use Rattle.cert.specs.Definitions.{Direction, if, only_if, Key, real, window_zero, window}
use Rattle.cert.specs.Equal.{request_dec}
use Rattle.cert.specs.Requests.{Request, request}
use Rattle.cert.specs.State.{State, Stored, from_in}
use Rattle.rows.specs.Windows.{Showing, window_at}
use Rattle.derivation.specs.Operands.{step_after, next_step}

-- ---- first steps

-- The place of a key's first step: a real definition's by node and value, a window's with the first side that shows it.
unfoldable pub slot : List Node → Key → ℕ
unfolding window_at
slot t (real n v) = store_at n + v
slot t (window_zero n f m) = window_at t n f m
slot t (window n f m) = window_at t n f m + 1

-- A window that a side shows.
pub record WindowOf (t : List Node) (n f m : ℕ) : Type 0 where
  pub slot : ℕ
  pub shown : Showing t n f m slot
  pub long : 1 < m

-- A key that has a place: of a node with two values or more, or of a window that a side shows.
unfoldable pub Used : List Node → Key → Type 0
Used t (real n v) = (n < length t) × (1 < len (node_at t n)) × (v ≤ len (node_at t n) + 1)
Used t (window_zero n f m) = WindowOf t n f m
Used t (window n f m) = WindowOf t n f m

-- 0 where a key is not stored.
pub record Firsts (t : List Node) (store : List ℕ) (es : List Stored) : Type 0 where
  pub is : (k : Key) → Used t k → get_or store (slot t k) 0 ≡ from_in es k

-- The places of the stored keys, in the order of their writing.
pub record Trail (t : List Node) (store : List ℕ) (marks : ℕ) (es : List Stored) : Type 0 where
  pub count : marks ≡ length es
  pub is : take marks store ≡ map {B = ℕ} (λ (e : Stored). slot t e.key) es

-- ---- held directions

-- 1 where a request is held
unfoldable pub flag : List Request → Request → ℕ
unfolding dec_memᴰ request_dec
flag held x = dite (dec_memᴰ request_dec x held) (λ _. 1) (λ _. 0)

unfoldable pub direction : Bool → Direction
direction true = only_if
direction false = if

-- The directions held of a value, as a request names them: 1 if, 2 only-if, 3 both.
unfoldable pub held_of : List Request → ℕ → ℕ → ℕ
unfolding flag
held_of held n v = flag held (request n v if) + 2 * flag held (request n v only_if)

unfoldable pub IsJoin : Node → Type 0
IsJoin (leaf l) = ⊥
IsJoin (join ls o l r) = Unit {0}

-- Of joins alone: a leaf writes nothing.
pub record HeldFlags (t : List Node) (store : List ℕ) (held : List Request) : Type 0 where
  pub is : (n v : ℕ) → n < length t → IsJoin (node_at t n) → 1 ≤ v → v ≤ width → get_or store (held_at n v) 0 ≡ held_of held n v

-- ---- the counters. How many definitions are stored is in `Trail`.

pub record Counters (store : List ℕ) (s : State) : Type 0 where
  pub step : get_or store step_at 0 ≡ s.next_step
  pub clauses : get_or store clauses_at 0 ≡ length (Rattle.record.specs.Record.clauses s.log)

-- ---- the rows of nodes yet to be made

pub record Blank (t : List Node) (store : List ℕ) : Type 0 where
  pub is : (i : ℕ) → store_at (length t) ≤ i → get_or store i 0 ≡ 0

-- ---- a definition stored, a clause counted

-- The next n steps are those of the key at the place p.
unfoldable pub steps_stored : ℕ → ℕ → List ℕ → List ℕ
unfolding step_after
steps_stored p n store = set (set store p (get_or store step_at 0)) step_at (step_after (get_or store step_at 0) n)

-- And p is marked. Where the trail is full there is no mark.
unfoldable pub key_stored : ℕ → ℕ → List ℕ → List ℕ
unfolding steps_stored
key_stored p n store =
    cond (ltb (get_or store marks_at 0) trail)
    (set (set (steps_stored p n store) (get_or store marks_at 0) p) marks_at (get_or store marks_at 0 + 1))
    (steps_stored p n store)

-- The next step is that of a clause, which is counted.
unfoldable pub clause_counted : List ℕ → List ℕ
unfolding step_after
clause_counted store =
    set (set store step_at (next_step (get_or store step_at 0))) clauses_at (next_step (get_or store clauses_at 0))
