-- The sheet of an accepted script shows the clauses of its log in their order, and that of any other the refusal.
use mathlib.Core.Path.{◌≡◌}
use mathlib.Core.List.{List}
use Prim.Native.Nat.{ℕ, suc}
use lib.ListN.{take}
use Rattle.sizes.specs.Sizes.{most_bytes}
use Rattle.record.specs.Record.{Record, clauses}
use Rattle.player.specs.Player.{played}
use Rattle.demands.specs.Demands.{Holds}
use Rattle.demands.proofs.Holds.{some_holds, held_log}
use Rattle.order.specs.Order.{before, sort_by}
use Rattle.order.proofs.Precedes.{sort_ascending, ascending_only}
use Rattle.order.proofs.Sort.{sort_perm}
use Rattle.lines.specs.Printed.{Printed, Shows}
use Rattle.lines.specs.Sheet.{refusal, sheet_of, sheet}
use Rattle.lines.proofs.Played.{clauses_in_lem}

module _ (script : List ℕ) where
  -- Of any records that the log reads back as.
  pub printed_of : (rs : List Record) → (played script most_bytes).number ≡ 0 → Holds (played script most_bytes) rs → Printed script rs
  unfolding sheet_of
  printed_of rs e k =
      let o = played script most_bytes in
      record {
        lines = sort_by before (clauses rs);
        is = rw (e, sheet_of) (rw (clauses_in_lem (take o.used o.log) rs k.decodes));
        each_as_often = sort_perm before (clauses rs);
        ascending = sort_ascending (clauses rs) (held_log script most_bytes rs k).once;
        only = ascending_only (clauses rs);
      }

  pub printed : (played script most_bytes).number ≡ 0 → Shows script
  printed e = let d = some_holds script most_bytes in (d.0, d.1, printed_of d.0 e d.1)

  pub refused : (n : ℕ) → (played script most_bytes).number ≡ suc n → sheet script ≡ refusal (suc n) (played script most_bytes).place
  unfolding sheet_of
  refused n e = rw (e, sheet_of)
