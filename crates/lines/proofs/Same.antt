-- Two scripts alike print the same sheet: they have the same clauses, and the order leaves nothing to the logs.
use mathlib.Core.Path.{◌≡◌, refl, sym, ◌∙◌}
use mathlib.Core.Logic.{◌≢◌}
use mathlib.Core.List.Perm
use mathlib.Core.List.{List}
use Prim.Native.Nat.{ℕ}
use native.Mathlib.Omega.{arith}
use lib.ListN.{length, take, drop, length-take}
use lib.Seq.{take-append_seam}
use Rattle.sizes.specs.Sizes.{most_bytes}
use Rattle.player.specs.Player.{played}
use Rattle.demands.specs.Demands.{Alike, Demand3}
use Rattle.demands.proofs.Demand3.{demand_3}
use Rattle.demands.proofs.Worked.{first, second, head, first_commands, second_commands, first_bytes, second_bytes, alike}
use Rattle.lines.specs.Same.{SameSheets, SameWritten}
use Rattle.lines.specs.Sheet.{clauses_in, sheet, Wrote}
use Rattle.lines.proofs.Printed.{printed_of}

pub same_sheets : SameSheets
unfolding SameSheets Demand3
same_sheets bs ds h cs es i j k =
    let m = demand_3 bs ds most_bytes most_bytes h cs es i j k in
    let a = printed_of bs m.records k.accepted_both.0 m.holds.0 in
    let b = printed_of ds m.others k.accepted_both.1 m.holds.1 in
    let lines = b.only a.lines (Perm.trans a.each_as_often m.matching.clauses_match) a.ascending in
    let e = m.matching.answers_match in
    (a.is ∙ rw (e.0, e.1, e.2, lines) (sym b.is), (m.records, m.holds.0, a), (m.others, m.holds.1, b))

-- The bytes counted are the sheet's, as far as the slice reaches.
written : {script out text : List ℕ} {n : ℕ} → Wrote script out n text → take n text ≡ take (length out) (sheet script)
written {script} {out} {text} {n} w =
    let s = sheet script in
    let front = take (length out) s in
    let count : n ≡ length front = omega (arith, w.count, length-take (length out) s) in
    rw (count, w.bytes) (take-append_seam front (drop (length s) out))

pub same_written : SameWritten
unfolding SameWritten SameSheets
same_written bs ds h cs es i j k out other n m text next e w v =
    let s = (same_sheets bs ds h cs es i j k).0 in
    (w.count ∙ rw (s, e) (sym v.count), written w ∙ rw (s, e) (sym (written v)))

-- ---- two scripts of demand 3's worked cases

pub log_clauses : List ℕ → List (List ℕ)
unfolding clauses_in
log_clauses script = let o = played script most_bytes in clauses_in (take o.used o.log)

-- Their logs have the clauses in different orders.
pub orders_differ : log_clauses first ≢ log_clauses second
unfolding first second played clauses_in log_clauses
orders_differ e = let z : ◌≡◌ {A = ℕ} 0 1 = cc in omega arith

both : Alike first second (played first most_bytes) (played second most_bytes) head first_commands second_commands
unfolding first second played
both = record { one_head = alike.one_head; accepted_both = (refl, refl); same_makes = alike.same_makes; same_asked = alike.same_asked }

pub worked : sheet first ≡ sheet second
unfolding SameSheets
worked = (same_sheets first second head first_commands second_commands first_bytes second_bytes both).0
