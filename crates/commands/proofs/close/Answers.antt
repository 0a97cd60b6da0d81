use Rattle.commands.proofs.Writes.{listed, close_ends}
use Rattle.commands.proofs.close.Goals as goal

pub put_deletion-at-requires : goal.put_deletion-at-requires
put_deletion-at-requires c = (c.requires.state.nodes, c.requires.state.stored, rw c.number_at-marks.ensures.0 (listed c.requires.standing))

pub returns : goal.returns
returns c =
    λ h p s st.
    close_ends st _ _ (c.put_deletion-at.ensures s.nodes s.stored (rw c.number_at-marks.ensures.0 (listed st))) _ c.end.ensures
