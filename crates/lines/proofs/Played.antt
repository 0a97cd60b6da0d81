-- Every script leaves a log that stands for records, so the walk by places finds the clauses of the log.
use mathlib.Core.Path.{◌≡◌, sym, ◌∙◌, ap}
use mathlib.Core.List.{List}
use mathlib.Core.Option.{some}
use Prim.Native.Nat.{ℕ, ◌≤◌}
use native.Mathlib.Omega.{arith}
use lib.ListN.{length, take, length-take}
use Rattle.record.specs.Record.{Record, bytes, clauses, decode_log}
use Rattle.record.proofs.Decode.{decode_bytes}
use Rattle.player.specs.Player.{played}
use Rattle.player.proofs.Plays.{padded}
use Rattle.demands.specs.Demands.{Holds}
use Rattle.demands.proofs.Holds.{some_holds, held_log}
use Rattle.places.specs.Walk.{clauses_at}
use Rattle.lines.specs.Sheet.{clauses_in}
use Rattle.lines.proofs.Found.{places_clauses}

pub clauses_in_lem : (log : List ℕ) (rs : List Record) → decode_log log ≡ some rs → clauses_in log ≡ clauses rs
unfolding clauses_in
clauses_in_lem log rs e = rw (e, clauses_in)

module _ (script : List ℕ) (capacity : ℕ) where
  pub log_fits : (rs : List Record) → Holds (played script capacity) rs → length (bytes rs) ≤ capacity
  log_fits rs k = omega (arith, simp length-take at (ap length (held_log script capacity rs k).is), (padded capacity script).within)

  pub log_clauses_lem : let log = take (played script capacity).used (played script capacity).log in clauses_at log ≡ clauses_in log
  log_clauses_lem =
      let d = some_holds script capacity in
      let l = held_log script capacity d.0 d.1 in
      rw l.is (places_clauses d.0 l.small ∙ sym (clauses_in_lem (bytes d.0) d.0 (decode_bytes d.0 l.small)))
