-- `number::push` meets its contract: from one group to five, by the bounds on x.
use Rattle.std.proofs.Common.{arith}
use mathlib.Core.Path.{ap}
use lib.ListN.{length}
use Rattle.number.proofs.Laws.{encode_last, encode_groups}
use Rattle.number.proofs.push.Goals as goal

pub push_groups-requires : goal.push_groups-requires
push_groups-requires c = omega (arith, ap length (encode_last c.args.x c.if-x-lt128.true))

pub push_groups-requires-then-x-lt16384 : goal.push_groups-requires-then-x-lt16384
push_groups-requires-then-x-lt16384 c = omega (arith, encode_groups c.args.x 1 (omega arith) (omega arith) (omega arith))

pub returns-then-x-lt16384-clause-value : goal.returns-then-x-lt16384-clause-value
returns-then-x-lt16384-clause-value c = omega (arith, encode_groups c.args.x 1 (omega arith) (omega arith) (omega arith))

pub push_groups-requires-then-x-lt2097152 : goal.push_groups-requires-then-x-lt2097152
push_groups-requires-then-x-lt2097152 c = omega (arith, encode_groups c.args.x 2 (omega arith) (omega arith) (omega arith))

pub push_groups-requires-then-x-lt268435456 : goal.push_groups-requires-then-x-lt268435456
push_groups-requires-then-x-lt268435456 c = omega (arith, encode_groups c.args.x 3 (omega arith) (omega arith) (omega arith))

pub returns-then-x-lt268435456-clause-value : goal.returns-then-x-lt268435456-clause-value
returns-then-x-lt268435456-clause-value c = omega (arith, encode_groups c.args.x 3 (omega arith) (omega arith) (omega arith))

pub push_any-requires : goal.push_any-requires
push_any-requires c = omega (arith, encode_groups c.args.x 4 (omega arith) (omega arith) (omega arith))
