-- The stored definitions, as the code of a close reads them.
use Rattle.std.specs.Prelude.{◌≡◌, ℕ, ◌≤◌, length}
use mathlib.Core.List.{List, Memᴰ}
use Rattle.sizes.specs.Sizes.{trail, store_at, step_stop}
use Rattle.totdb.specs.Nodes.{Node}
use Rattle.cert.specs.Definitions.{Key}
use Rattle.cert.specs.State.{Stored, from_in}
use Rattle.rows.specs.Rows.{Table}
use Rattle.define.specs.Store.{Used, slot, Firsts, Trail}

-- The slot of a key over the nodes that the table has.
pub record SlotOf (ns : List ℕ) (t : List Node) (k : Key) (p : ℕ) : Type 0 where
  pub table : Table ns t
  pub used : Used t k
  pub is : p ≡ slot t k

-- The store has the definitions es over the nodes t, each with its first step.
pub record MarkedKeys (ns store : List ℕ) (marks : ℕ) (t : List Node) (es : List Stored) : Type 0 where
  pub table : Table ns t
  pub few : marks ≤ trail
  pub room : store_at (length t) ≤ length store
  pub trail : Trail t store marks es
  pub firsts : Firsts t store es
  pub used : (e : Stored) → Memᴰ e es → Used t e.key
  pub entry : (e : Stored) → Memᴰ e es → from_in es e.key ≡ e.from
  pub low : (e : Stored) → Memᴰ e es → e.from ≤ step_stop
