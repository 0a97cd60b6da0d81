-- `Numbers::next` meets its contract: nothing is left, or the first number that is left comes.
use Rattle.std.proofs.Common.{arith}
use lib.ListN.{length}
use Prim.Native.Nat.{suc}
use mathlib.Core.Path.{◌≡◌, ap}
use Rattle.places.specs.Walk.{numbers_at}
use Rattle.places.proofs.Turns.{numbers_end, numbers_next}
use Rattle.places.proofs.NumbersIterator.next.Goals as goal

pub returns-in_err-self-clause-steps : goal.returns-in_err-self-clause-steps
returns-in_err-self-clause-steps c =
    let e = numbers_end c.args.self.now.log.now c.args.self.now.left c.args.self.now.at (omega (arith, c.in_err-self.ensures)) in
    rw c.from_residual.ensures (e, e)

pub returns-clause-steps : goal.returns-clause-steps
returns-clause-steps c = numbers_next c.args.self.now.log.now c.args.self.now.at c.number_at-x.ensures (omega (arith, c.in_ok-self.ensures))

pub returns-clause-goes : goal.returns-clause-goes
returns-clause-goes c =
    let e : length (numbers_at c.args.self.now.log.now c.args.self.now.left c.args.self.now.at) ≡ suc (length (numbers_at c.args.self.now.log.now c.in_ok-self.field-0 c.number_at-x.result.end)) =
    ap length (numbers_next c.args.self.now.log.now c.args.self.now.at c.number_at-x.ensures (omega (arith, c.in_ok-self.ensures))) in
    record { on = λ _. (tt, tt, omega (arith, e)); keeps = tt; rests = λ _. tt }
