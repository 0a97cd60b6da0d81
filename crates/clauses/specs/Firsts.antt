-- The steps of definitions, as the code reads them from the store.
use Rattle.std.specs.Prelude.{Bool, true, false, not, ◌&&◌, ◌||◌, List, ℕ, zero, suc, ◌+◌, ◌-◌, ◌*◌, ◌≤◌, ◌<◌, eqb, leb, length, get_or}
use Rattle.sizes.specs.Sizes.{step_stop, store_at}
use Rattle.derivation.specs.Operands.{step_after, next_step}
use Rattle.totdb.specs.Nodes.{Node, plain_or, keyed}
use Rattle.cert.specs.Definitions.{Key}
use Rattle.cert.specs.State.{Stored, from_in}
use Rattle.rows.specs.Rows.{Bounded}
use Rattle.rows.specs.declared.Join.{Join}
use Rattle.rows.specs.declared.Shown.{Shown}
use Rattle.define.specs.Store.{Firsts}
use Rattle.define.specs.Lookups.{SideIn}

-- Of a real definition of value v: only-if is the second, at value 0 the one.
unfoldable pub real_step : ℕ → ℕ → Bool → ℕ
unfolding step_after
real_step first zero b = first
real_step first (suc v) true = next_step first
real_step first (suc v) false = first

-- Of a window of offset f, by the key of a value: 0 is its sum of value 0; after that if and only-if in turn, from the key f + 1 on.
unfoldable pub window_step : ℕ → ℕ → ℕ → ℕ → Bool → ℕ
unfolding step_after
window_step origin first f zero b = origin
window_step origin first f (suc v) true = step_after first (2 * (v - f) + 1)
window_step origin first f (suc v) false = step_after first (2 * (v - f))

-- The store has the first steps of what is stored, over the nodes t.
pub record FirstsOf (t : List Node) (store : List ℕ) (es : List Stored) : Type 0 where
  pub firsts : Firsts t store es
  pub few : (k : Key) → from_in es k < step_stop

-- What is read of the a-th value of a side: the nodes, and the steps of what is stored.
pub record SideRead (store : List ℕ) (t : List Node) (es : List Stored) (s : Shown) (a : ℕ) : Type 0 where
  pub bounded : Bounded t
  pub side : SideIn t s a
  pub room : store_at (length t) ≤ length store
  pub firsts_of : FirstsOf t store es

-- ---- what is stored

-- Whether a first step stands at a place of the store.
abbrev pub has_first : List ℕ → ℕ → Bool
has_first store p = not (eqb (get_or store p 0) 0)

-- Whether what the a-th value of a side looks up is stored: nothing for a side of length 1, a real definition, or the window.
unfoldable pub side_stored : List ℕ → Shown → ℕ → Bool
unfolding plain_or keyed
side_stored store s a =
    leb s.len 1
    || has_first store (plain_or s.side.offset s.side.limit (store_at s.side.node + keyed s.side a) (s.window + 1))

-- Whether what both sides of a clause look up is stored.
unfoldable pub sides_stored : List ℕ → Join → ℕ → ℕ → Bool
unfolding side_stored
sides_stored store x i j = side_stored store x.left i && side_stored store x.right j
