-- `splits::later_step` meets its contract.
use mathlib.Core.Path.{sym, ◌∙◌}
use Rattle.define.proofs.Defines.{step_after_lem}
use Rattle.clauses.proofs.Firsts.{real_only, real_if}
use Rattle.splits.proofs.later_step.Goals as goal

pub returns-then-only_if : goal.returns-then-only_if
returns-then-only_if c =
    λ v h. sym (step_after_lem _ 1 c.requires) ∙ real_only _ v _ h c.if-only_if.true

pub returns-else-only_if : goal.returns-else-only_if
returns-else-only_if c =
    λ v h. real_if _ v _ h c.if-only_if.false
