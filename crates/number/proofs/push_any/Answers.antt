-- `number::push_any` meets its contract: what is left takes one group more exactly where it is 128 or more.
use Rattle.std.proofs.Common.{arith}
use mathlib.Core.Path.{refl, ap, ◌∙◌}
use Prim.Native.Nat.{◌+◌, ◌%◌}
use native.Mathlib.Numerals.{add-one}
use lib.ListN.{length, length-set}
use Rattle.number.specs.Number.{encode}
use Rattle.number.proofs.Laws.{encode_last, encode_more, encode_some}
use Rattle.number.proofs.Places.{sets_written}
use Rattle.number.proofs.push_any.Goals as goal

pub loop-rest-init : goal.loop-rest-init
loop-rest-init c = (refl, refl, refl)

pub bounds-log-at : goal.bounds-log-at
bounds-log-at c = omega (arith, encode_some c.loop-rest.rest)

pub overflow_add-at : goal.overflow_add-at
overflow_add-at c = omega (arith, encode_some c.loop-rest.rest)

pub loop-rest-preserved : goal.loop-rest-preserved
loop-rest-preserved c =
    let e = encode_more c.loop-rest.rest c.loop-rest-test.true in
    (rw add-one (rw e at c.loop-rest.invariant.0), omega (arith, ap length e), length-set c.loop-rest.log c.loop-rest.at (c.loop-rest.rest % 128 + 128) ∙ c.loop-rest.invariant.2)

pub bounds-log-at-2 : goal.bounds-log-at-2
bounds-log-at-2 c = omega (arith, encode_some c.loop-rest.rest)

pub overflow_add-result : goal.overflow_add-result
overflow_add-result c = omega (arith, encode_some c.loop-rest.rest)

pub shape_of-log : goal.shape_of-log
shape_of-log c =
    length-set c.loop-rest.log c.loop-rest.at c.loop-rest.rest ∙ c.loop-rest.invariant.2

pub returns : goal.returns
returns c =
    let e = encode_last c.loop-rest.rest c.loop-rest-test.false in
    record { value = omega (arith, ap length e); log_after = (rw e at c.loop-rest.invariant.0) ∙ sets_written c.args.log.now c.args.from c.args.x (encode c.args.x) refl c.requires }
