-- `clauses::look_up_this` meets its contract: the definition is stored, or it is looked up.
use mathlib.Core.Path.{sym, ◌∙◌}
use Rattle.clauses.proofs.Stored.{sims_stored_real}
use Rattle.clauses.proofs.look_up_this.Goals as goal

pub returns-then-has_first : goal.returns-then-has_first
returns-then-has_first c =
    sims_stored_real (sym (rw c.store_at.ensures at c.has_first.ensures) ∙ c.if-has_first.true)
