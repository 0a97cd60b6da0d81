-- `record::copy_out` meets its contract: nothing, where there was no room before or there is none for all; else the bytes.
use Rattle.std.proofs.Common.{rules, arith}
use Rattle.std.proofs.lemmas.Slice.{take-put_mid}
use mathlib.Core.Path.{◌≡◌, refl, ap, ◌∙◌}
use Prim.Native.Nat.{ℕ, ◌≤◌}
use lib.ListN.{length, length-take}
use lib.Seq.{take_all}
use Rattle.record.proofs.Writing.{appended, no_room, full_before}
use Rattle.record.proofs.copy_out.Goals as goal

pub returns-then-log-at-clause-appends : goal.returns-then-log-at-clause-appends
returns-then-log-at-clause-appends c =
    full_before c.args.log.now c.args.log.now c.args.at c.args.at _ c.if-log-at.true c.if-log-at.true

pub returns-then-log-at-2-clause-appends : goal.returns-then-log-at-2-clause-appends
returns-then-log-at-2-clause-appends c =
    no_room c.args.log.now c.args.log.now c.args.at _ _ (omega arith) (omega arith) (omega arith)

-- as many bytes are copied as there are, and they are the record's
pub returns-clause-appends : goal.returns-clause-appends
returns-clause-appends c =
    let many : length c.args.bytes.now ≤ length c.copy_from_slice.new.self = omega (arith, ap length c.copy_from_slice.ensures.after, length-take {A = ℕ}) in
    let all : c.copy_from_slice.new.self ≡ c.args.bytes.now = c.copy_from_slice.ensures.after ∙ grind (arith, take_all) in
    appended c.args.log.now _ c.args.at _ c.args.bytes.now (omega arith) refl (search rules)
    (rw all (take-put_mid c.args.at _ c.args.log.now c.args.bytes.now _ refl (omega arith)))
