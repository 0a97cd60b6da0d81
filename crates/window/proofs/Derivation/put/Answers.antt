-- `window::Derivation::put` meets its contract.
use Rattle.window.proofs.Derivation.put.Goals as goal

pub returns : goal.returns
returns c at_step n x handed = c.put_record.ensures _ (λ l a e m room post. post.0 at_step n x handed)
