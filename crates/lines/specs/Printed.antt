-- What a sheet shows of an accepted script: the clauses of its log, in the order of documents 01 and 02.
use Rattle.std.specs.Prelude.{◌≡◌, ℕ}
use mathlib.Core.List.{List, ◌++◌, flat_map, Perm}
use Rattle.sizes.specs.Sizes.{most_bytes}
use Rattle.record.specs.Record.{Record, clauses}
use Rattle.player.specs.Player.{played}
use Rattle.demands.specs.Demands.{Holds}
use Rattle.order.specs.Order.{Ascending}
use Rattle.listing.specs.Line.{line}
use Rattle.lines.specs.Sheet.{header_of, sheet}

-- The records of the log are rs.
pub record Printed (script : List ℕ) (rs : List Record) : Type 0 where
  pub lines : List (List ℕ)
  pub is : sheet script ≡ header_of (played script most_bytes) ++ flat_map line lines
  pub each_as_often : Perm lines (clauses rs)
  pub ascending : Ascending lines
  -- nothing is left to log order
  pub only : (ls : List (List ℕ)) → Perm ls (clauses rs) → Ascending ls → ls ≡ lines

-- It shows the records that the log reads back as.
abbrev pub Shows : List ℕ → Type 0
Shows script = (rs : List Record) × Holds (played script most_bytes) rs × Printed script rs
