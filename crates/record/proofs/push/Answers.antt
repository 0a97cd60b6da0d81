-- `record::push` meets its contract.
use Rattle.std.proofs.Common.{rules, arith}
use Rattle.number.proofs.Laws.{encode_length}
use Rattle.record.proofs.Writing.{put_one}
use Rattle.record.proofs.push.Goals as goal

pub returns : goal.returns
returns c =
    let five = (encode_length c.args.x 5 (omega arith)).1 (omega arith) in
    record { puts = put_one c.args.log.now _ c.args.at _ c.args.x (omega (arith, five, c.requires)) c.push.ensures.value (search rules) c.push.ensures.log_after; upper_bound = omega (arith, five, c.push.ensures.value) }
