use Rattle.std.proofs.Common.{rules, arith}
use mathlib.Core.Path.{◌≡◌, refl, ◌∙◌}
use lib.ListN.{length, take}
use mathlib.Core.Bool.{cond}
use mathlib.Core.List.{◌++◌, append-nil}
use native.Mathlib.Numerals.{add-one}
use Prim.Native.Nat.{◌+◌, ◌<◌}
use lib.Seq.{take-suc-set}
use Rattle.places.specs.Walk.{is_clause}
use Rattle.places.proofs.Collected.{found_some, found_none, count_within, here, collected_none, collected_more, collected_all, room_none, room_more}
use Rattle.places.proofs.Within.{record_after}
use Rattle.places.proofs.collect.Goals as goal
use Rattle.places.proofs.collect.Goals.{in-Some, in_default}

pub loop-at-init : goal.loop-at-init
loop-at-init c = (omega arith, room_none c.args.log.now, refl, collected_none c.args.log.now)

pub overflow_cast-places : goal.overflow_cast-places
overflow_cast-places c =
    omega (arith, (found_some c.args.log.now c.loop-at.at c.in-Some.ensures).1, count_within c.args.log.now c.loop-at.at c.loop-at.invariant.0, c.requires.0)

pub loop-at-smaller : goal.loop-at-smaller
loop-at-smaller c =
    omega (arith, c.after_record-at.ensures, record_after c.args.log.now c.loop-at.at c.loop-at-test.true)

pub loop-at-preserved : goal.loop-at-preserved
loop-at-preserved c =
    let log = c.args.log.now in
    let at = c.loop-at.at in
    let n = c.loop-at.n in
    let found = take n c.loop-at.places in
    let room : n < length c.loop-at.places = omega (arith, c.loop-at.invariant.1.so_far c.loop-at-test.true, c.loop-at.invariant.2, c.requires.1, c.loop-at-test.true) in
    let added : (c.match-clause_place.n ≡ cond (is_clause log at) (n + 1) n) × (take c.match-clause_place.n c.match-clause_place.places ≡ found ++ here log at) =
    elim c.match-clause_place.branch [
      | in-Some w ↦ let f = found_some log at w.in-Some.ensures in
          (w.n-is ∙ rw f.0, rw (w.places-is, w.n-is, add-one, take-suc-set c.loop-at.places n w.in-Some.place room, f.0, f.1))
      | in_default w ↦ let f = found_none log at w.in_default.ensures in
          (w.n-is ∙ rw f, rw (w.places-is, w.n-is, f, append-nil found))
    ] in
    let r = record_after log at c.loop-at-test.true in (
      omega (arith, c.after_record-at.ensures, r),
      rw c.after_record-at.ensures (room_more log n at c.loop-at-test.true added.0 c.loop-at.invariant.1),
      search rules,
      rw c.after_record-at.ensures (collected_more log at c.loop-at-test.true added.1 c.loop-at.invariant.3),
    )

pub returns : goal.returns
returns c =
    (omega (arith, c.loop-at.invariant.1.at_end, c.requires), collected_all c.args.log.now c.loop-at-test.false c.loop-at.invariant.3)
