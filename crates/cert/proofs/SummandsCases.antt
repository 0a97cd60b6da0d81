-- Worked instances of the laws of a window's summands, for value 2 of a node with the outputs 10, 12 and 14.
use mathlib.Core.Path.{◌≡◌}
use mathlib.Core.List.{[], ◌∷◌}
use Prim.Native.Nat.{ℕ, ◌+◌, ◌*◌}
use native.Mathlib.Omega.{arith}
use Rattle.pb.specs.Rules.{step, literal, add, divide, saturate}
use Rattle.pb.specs.Sum.{neg}
use Rattle.totdb.specs.Nodes.{node_at, output}
use Rattle.cert.specs.Definitions.{Key, real, window_zero, window, if_part, only_if_part}
use Rattle.cert.proofs.SchemaCases.{three}
use Rattle.cert.proofs.Summands.{if_low, if_high, if_own, only_if_low, only_if_high, only_if_own}

-- Real definitions alone are stored, two steps for each value.
unfoldable pub places : Key → ℕ → ℕ
places (real n v) i = 2 * v + i
places (window_zero n f m) i = 0
places (window n f m) i = 0

pub if_cases : (if_part places 4 (node_at three 4) 2 1 ≡ literal 11 ∷ [])
    × (if_part places 4 (node_at three 4) 2 2 ≡ [])
    × (if_part places 4 (node_at three 4) 2 3 ≡ step 4 ∷ step 7 ∷ add ∷ divide 2 ∷ saturate ∷ [])
unfolding places three node_at output neg
if_cases = (
  if_low places 4 (node_at three 4) 2 1 (omega arith),
  if_own places 4 (node_at three 4) 2 2 (omega arith) (omega arith),
  if_high places 4 (node_at three 4) 2 3 (omega arith),
)

pub only_if_cases : (only_if_part places 4 (node_at three 4) 2 1 ≡ step 5 ∷ step 2 ∷ add ∷ divide 2 ∷ saturate ∷ [])
    × (only_if_part places 4 (node_at three 4) 2 2 ≡ [])
    × (only_if_part places 4 (node_at three 4) 2 3 ≡ literal 14 ∷ [])
unfolding places three node_at output
only_if_cases = (
  only_if_low places 4 (node_at three 4) 2 1 (omega arith),
  only_if_own places 4 (node_at three 4) 2 2 (omega arith) (omega arith),
  only_if_high places 4 (node_at three 4) 2 3 (omega arith),
)
