-- `clauses::window_definition` meets its contract: each case is one of `window_step`.
use Rattle.std.proofs.Common.{arith}
use mathlib.Core.Path.{ap, ◌∙◌}
use Rattle.derivation.specs.declared.SemDefinition.TheVariants.{Step}
use Rattle.clauses.proofs.Firsts.{window_origin, window_only, window_if_lem}
use Rattle.clauses.proofs.window_definition.Goals as goal

pub returns-then-key-eq0 : goal.returns-then-key-eq0
returns-then-key-eq0 c = ap Step (window_origin _ _ _ _ _ (omega arith))

pub returns-then-only_if : goal.returns-then-only_if
returns-then-only_if c = ap Step (c.step_after.ensures ∙ window_only _ _ _ _ _ _ (omega arith) (omega arith) c.if-only_if.true)

pub returns : goal.returns
returns c = ap Step (c.step_after-2.ensures ∙ window_if_lem _ _ _ _ _ _ (omega arith) (omega arith) c.if-only_if.false)
