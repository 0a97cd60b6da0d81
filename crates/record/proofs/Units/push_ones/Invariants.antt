-- `record::Units::push_ones` meets its contract: after k turns the terms of the first k literals are written, two bytes each.
use Prim.Native.Nat.{◌+◌, ◌*◌}
use lib.ListN.{take}
use Rattle.pb.specs.Sum.{units}
use Rattle.record.specs.Record.{term_numbers}
use Rattle.record.specs.Writing.{buffer, Puts, signed}
use Rattle.record.proofs.Units.push_ones.Given as goal

abbrev pub invariant-loop-k : goal.invariant-loop-k
invariant-loop-k l = Puts (buffer l.initial.log l.at) (term_numbers (units (signed l.self.negated (take l.k l.self.literals.now)))) (buffer l.log (l.at + 2 * l.k))
