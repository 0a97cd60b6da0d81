-- A refusal's number tells which it is; 0 and 13 are none's, nor is any above 15.
use mathlib.Core.Path.{◌≡◌}
use mathlib.Core.Logic.{◌≢◌}
use Prim.Native.Nat.{◌≤◌, ◌<◌}
use native.Mathlib.Omega.{arith}
use Rattle.player.specs.Refusals.{number_of}
use Rattle.player.specs.declared.Refusal.{Refusal}

pub number_once : (r q : Refusal) → number_of r ≡ number_of q → r ≡ q
number_once = grind arith

pub number_some : (r : Refusal) → 0 < number_of r
number_some = grind arith

pub number_most : (r : Refusal) → number_of r ≤ 15
number_most = grind arith

pub number_unused : (r : Refusal) → number_of r ≢ 13
number_unused = grind arith
