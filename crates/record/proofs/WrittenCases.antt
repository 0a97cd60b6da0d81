-- A log of each kind of record, closed: the definition of step 1, a clause with its derivation, step 2, and a window's derivation, step 3.
use mathlib.Core.Path.{◌≡◌}
use mathlib.Core.List.{List, [], ◌∷◌, ◌++◌}
use Prim.Native.Nat.{ℕ}
use Rattle.pb.specs.Rules.{step, literal}
use Rattle.pb.specs.Sum.{◌·◌}
use Rattle.record.specs.Record.{Record, sum, derivation, clause, deletion}
use Rattle.record.specs.Written.{EachFor, Closed}
use Rattle.record.proofs.Closes.{grouped_closed, closed_same}
use Rattle.record.proofs.Groups.{Grouped, grouped_done, grouped_sum, grouped_derivation, grouped_clause, grouped_each}

abbrev pub records : List Record
records = sum 0 (1 · 0 ∷ []) 0 ∷ derivation (step 1 ∷ []) ∷ clause 2 (0 ∷ []) ∷ derivation (literal 1 ∷ []) ∷ []

pub grouped : Grouped 1 records (1 ∷ 3 ∷ []) []
grouped = grouped_sum (grouped_clause (grouped_derivation grouped_done))

pub each : EachFor 1 records
each = grouped_each grouped

pub closed : Closed 1 (records ++ (deletion (1 ∷ 3 ∷ []) ∷ []))
closed = grouped_closed 1 records (1 ∷ 3 ∷ []) grouped

-- With no other list is it closed: not with none, nor with step 2, nor without step 3.
pub closed_so : (ss : List ℕ) → Closed 1 (records ++ (deletion ss ∷ [])) → ss ≡ 1 ∷ 3 ∷ []
closed_so ss c = closed_same 1 records ss (1 ∷ 3 ∷ []) c closed
