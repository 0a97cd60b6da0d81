-- `places::after_token` meets its contract: the cases of `after_token`.
use mathlib.Core.Logic.{⊎_elim}
use Rattle.places.proofs.Turns.{token_add, token_saturate, token_other}
use Rattle.places.proofs.after_token.Goals as goal

pub returns-then-t-eq-ADD : goal.returns-then-t-eq-ADD
returns-then-t-eq-ADD c = ⊎_elim (token_add _ _ c.number_at-t.ensures) (λ h. token_saturate _ _ c.number_at-t.ensures h.1) c.then-t-eq-ADD.either

pub returns : goal.returns
returns c = token_other _ _ c.number_at-t.ensures c.if-t-eq-ADD.false c.if-t-eq-SATURATE.false c.number_at.ensures
