-- `record::Units::push_any` meets its contract: after k turns the terms of the first k literals are written.
use Prim.Native.Nat.{◌+◌, ◌*◌, ◌≤◌}
use lib.ListN.{take}
use Rattle.record.specs.Writing.{buffer, Puts, signed}
use Rattle.record.specs.Record.{term_numbers}
use Rattle.pb.specs.Sum.{units}
use Rattle.record.proofs.Units.push_any.Given as goal

abbrev pub invariant-loop-x : goal.invariant-loop-x
invariant-loop-x l =
    (l.at ≤ l.from + 10 * l.x-index) × Puts (buffer l.initial.log l.from) (term_numbers (units (signed l.self.negated (take l.x-index l.self.literals.now)))) (buffer l.log l.at)
