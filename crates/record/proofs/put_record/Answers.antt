-- `record::put_record` meets its contract.
use Rattle.std.proofs.Common.{rules}
use Rattle.record.proofs.Writing.{from_apart}
use Rattle.record.proofs.put_record.Goals as goal

pub returns : goal.returns
returns g c ns pushes =
    let apart = pushes _ 0 c.push-n.result _ (search rules) c.push-n.ensures in
    from_apart apart (search rules) (c.copy_out.ensures.onward, c.copy_out.ensures.appends)
