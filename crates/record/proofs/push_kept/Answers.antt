-- `record::push_kept` meets its contract: one term, or none.
use Rattle.std.proofs.Common.{arith}
use Rattle.record.proofs.Sums.{kept_none, kept_one}
use Rattle.record.proofs.Writing.{after, nothing}
use Rattle.record.proofs.push_kept.Goals as goal

pub returns-then-own-eq0 : goal.returns-then-own-eq0
returns-then-own-eq0 c =
    record { puts = rw (kept_none c.args.own c.args.literal c.if-own-eq0.true) nothing; upper_bound = omega arith }

pub returns : goal.returns
returns c =
    record { puts = rw (kept_one c.args.own c.args.literal c.if-own-eq0.false) (after c.push-after_own.ensures.puts c.push.ensures.puts); upper_bound = omega (arith, c.push-after_own.ensures.upper_bound, c.push.ensures.upper_bound) }
