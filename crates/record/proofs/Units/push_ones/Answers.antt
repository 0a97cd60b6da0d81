use Rattle.std.proofs.Common.{arith}
use mathlib.Core.Path.{◌≡◌}
use mathlib.Core.Bool.{cond}
use Prim.Native.Nat.{◌+◌, ◌*◌, ◌/◌, ◌%◌, ◌<◌}
use lib.ListN.{get_or}
use Rattle.pb.specs.Sum.{neg}
use Rattle.record.proofs.Ones.{ones_at, sign_small}
use Rattle.record.proofs.Sums.{units_none, units_more}
use Rattle.record.proofs.Writing.{after, nothing, put_bytes}
use Rattle.record.proofs.Units.push_ones.Goals as goal

pub loop-k-init : goal.loop-k-init
loop-k-init c =
    let z : c.args.at + 0 ≡ c.args.at = omega arith in
    rw (z, units_none c.args.self.negated c.args.self.literals.now) nothing

-- What is written of a literal has one group.
small : (c : goal.After-sign) → c.sign.result < 128
small c =
    let x = ones_at c.args.self.literals.now c.loop-k.k c.requires.1 c.loop-k-test.true in
    rw c.sign.ensures (sign_small c.args.self.negated _ x)

pub overflow_mul-e : goal.overflow_mul-e
overflow_mul-e c = omega (arith, small c)

pub overflow_add-e : goal.overflow_add-e
overflow_add-e c = omega (arith, small c)

pub overflow_cast-log-in-loop-k : goal.overflow_cast-log-in-loop-k
overflow_cast-log-in-loop-k c = omega (arith, small c)

pub loop-k-preserved : goal.loop-k-preserved
loop-k-preserved c =
    let at = c.args.at + 2 * c.loop-k.k in
    let next : c.args.at + 2 * (c.loop-k.k + 1) ≡ at + 1 + 1 = omega arith in
    let x = get_or c.args.self.literals.now c.loop-k.k 0 in
    let y = cond c.args.self.negated (neg x) x in
    let is : c.sign.result ≡ y = c.sign.ensures in
    let one = put_bytes c.loop-k.log at ((256 * c.sign.result + 1) % 256) 1 ((256 * c.sign.result + 1) / 256) y (omega (arith, c.args.self.few)) (omega arith) (omega arith) (omega arith) (omega (arith, small c)) in
    rw (next, units_more c.args.self.negated c.args.self.literals.now c.loop-k.k c.loop-k-test.true) (after c.loop-k.invariant one)
