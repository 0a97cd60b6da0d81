-- Records of every kind as bytes and read back, and what the steps of document 01's whole case come to.
use mathlib.Core.Path.{◌≡◌, refl}
use mathlib.Core.List.{List, [], ◌∷◌, map, flat_map}
use mathlib.Core.Option.{none, some}
use Prim.Native.Nat.{ℕ}
use native.Mathlib.Omega.{arith}
use Rattle.pb.specs.Rules.{step, literal, add, divide, saturate}
use Rattle.pb.specs.Sum.{◌·◌, ◌≥◌}
use Rattle.record.specs.Record.{Record, sum, derivation, clause, deletion, numbers, bytes, decode_log}
use Rattle.record.specs.Steps.{step_of}
use Rattle.record.proofs.Decode.{Small, decode_bytes}

unfoldable pub records : List Record
records =
    sum 5 (1 · 1 ∷ 1 · 3 ∷ 2 · 4 ∷ []) 2
    ∷ derivation (step 1 ∷ literal 0 ∷ add ∷ divide 300 ∷ saturate ∷ [])
    ∷ clause 3 (3 ∷ 4 ∷ [])
    ∷ deletion (1 ∷ 2 ∷ [])
    ∷ deletion []
    ∷ []

unfoldable pub written : List ℕ
written =
    1 ∷ 5 ∷ 3 ∷ 1 ∷ 1 ∷ 1 ∷ 3 ∷ 2 ∷ 4 ∷ 2
    ∷ 2 ∷ 5 ∷ 0 ∷ 1 ∷ 1 ∷ 0 ∷ 2 ∷ 3 ∷ 172 ∷ 2 ∷ 4
    ∷ 3 ∷ 3 ∷ 2 ∷ 3 ∷ 4
    ∷ 4 ∷ 2 ∷ 1 ∷ 2
    ∷ 4 ∷ 0
    ∷ []

pub writes : bytes records ≡ written
unfolding records written bytes
writes = refl

pub reads : decode_log written ≡ some records
unfolding records written decode_log
reads = refl

-- The hypothesis of `decode_bytes`, that every number fits, can be met.
pub met_decode : decode_log (bytes (clause 300 (3 ∷ []) ∷ [])) ≡ some (clause 300 (3 ∷ []) ∷ [])
unfolding numbers flat_map Small
met_decode = decode_bytes (clause 300 (3 ∷ []) ∷ []) (omega arith, (omega arith, (omega arith, (omega arith, tt))))

-- The whole case: the if and the only-if of value 1, then two clauses, each after its derivation.
unfoldable pub whole_case : List Record
whole_case =
    sum 5 (1 · 1 ∷ 1 · 3 ∷ 2 · 4 ∷ []) 2
    ∷ sum 6 (1 · 0 ∷ 1 · 2 ∷ 1 · 5 ∷ []) 1
    ∷ derivation (step 1 ∷ literal 0 ∷ add ∷ saturate ∷ [])
    ∷ clause 3 (3 ∷ 4 ∷ [])
    ∷ derivation (step 1 ∷ literal 2 ∷ add ∷ saturate ∷ [])
    ∷ clause 4 (1 ∷ 4 ∷ [])
    ∷ []

-- Steps 1 to 4; there is none before and none after.
pub steps_come : map (step_of 1 whole_case) (0 ∷ 1 ∷ 2 ∷ 3 ∷ 4 ∷ 5 ∷ []) ≡
    none
    ∷ some ((1 · 1 ∷ 1 · 3 ∷ 2 · 4 ∷ []) ≥ 2)
    ∷ some ((1 · 0 ∷ 1 · 2 ∷ 1 · 5 ∷ []) ≥ 1)
    ∷ some ((1 · 3 ∷ 1 · 4 ∷ []) ≥ 1)
    ∷ some ((1 · 1 ∷ 1 · 4 ∷ []) ≥ 1)
    ∷ none
    ∷ []
unfolding whole_case step_of
steps_come = refl
