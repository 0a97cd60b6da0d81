-- The numbers of directions are those from 1 to 3.
use Rattle.std.proofs.Common.{arith}
use Prim.Native.Nat.{◌≤◌}
use Rattle.request.specs.Directions.{number_of}
use Rattle.request.specs.declared.Directions.{Directions}
use Rattle.request.specs.declared.Directions.TheVariants.{If, OnlyIf, Both}

pub number_above : (d : Directions) → 1 ≤ number_of d
number_above If = omega arith
number_above OnlyIf = omega arith
number_above Both = omega arith

pub number_within : (d : Directions) → number_of d ≤ 3
number_within If = omega arith
number_within OnlyIf = omega arith
number_within Both = omega arith
