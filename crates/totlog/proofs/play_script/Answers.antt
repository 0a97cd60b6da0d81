use lib.ListN.{length}
use Rattle.totlog.proofs.Heads.{refused_tells, refused_is}
use Rattle.totlog.proofs.play_script.Goals as goal

pub returns-in-Err : goal.returns-in-Err
returns-in-Err c =
    refused_tells (length c.args.log.now) _ _ _ _ (refused_is c.args.script.now (length c.args.log.now) c.in-Err.refusal c.in-Err.ensures)
    c.refuse.ensures
