-- `clauses::real_definition` meets its contract: each case is one of `real_step`.
use Rattle.std.proofs.Common.{arith}
use mathlib.Core.Path.{ap, ◌∙◌}
use Rattle.derivation.specs.declared.SemDefinition.TheVariants.{Step}
use Rattle.clauses.proofs.Firsts.{real_zero, real_only, real_if}
use Rattle.clauses.proofs.real_definition.Goals as goal

pub returns-then-value-eq0 : goal.returns-then-value-eq0
returns-then-value-eq0 c = ap Step (rw c.store_at.ensures (real_zero _ _ _ (omega arith)))

pub returns-then-only_if : goal.returns-then-only_if
returns-then-only_if c = ap Step (c.next_step.ensures ∙ rw c.store_at.ensures (real_only _ _ _ (omega arith) c.if-only_if.true))

pub returns : goal.returns
returns c = ap Step (rw c.store_at.ensures (real_if _ _ _ (omega arith) c.if-only_if.false))
