-- Worked cases of a clause's two records, as one theorem over one list.
use mathlib.Core.Path.{◌≡◌, refl}
use mathlib.Core.List.{List, [], ◌∷◌, ◌++◌, map}
use Prim.Native.Nat.{ℕ}
use Rattle.std.specs.Prelude.{Some, None}
use Rattle.record.specs.Record.{Record, clause, derivation, numbers, token_numbers}
use Rattle.cert.specs.Definitions.{add_sequence}
use Rattle.derivation.specs.Operands.{part, step_tokens, tokens, clause_numbers}
use Rattle.derivation.specs.declared.SemDefinition.TheVariants.{Step, Axiom}
use Rattle.derivation.specs.declared.SemDefinition.TheVariants as variant

-- A step alone, one with a literal axiom, and three; a clause with no part, with the right one, and with both.
unfoldable pub records : List Record
unfolding step_tokens tokens add_sequence part
records =
    derivation (step_tokens (Step 7) variant.None variant.None)
    ∷ derivation (step_tokens (Step 7) variant.None (Axiom 4))
    ∷ derivation (step_tokens (Step 7) (Step 3) (Step 300))
    ∷ clause 9 (part None ++ part None ++ (4 ∷ []))
    ∷ clause 9 (part None ++ part (Some 3) ++ (4 ∷ []))
    ∷ clause 9 (part (Some 1) ++ part (Some 3) ++ (4 ∷ []))
    ∷ []

pub clause_records_lem : map {B = List ℕ} numbers records
    ≡ (2 ∷ 2 ∷ 0 ∷ 7 ∷ 4 ∷ [])
    ∷ (2 ∷ 4 ∷ 0 ∷ 7 ∷ 1 ∷ 4 ∷ 2 ∷ 4 ∷ [])
    ∷ (2 ∷ 6 ∷ 0 ∷ 7 ∷ 0 ∷ 3 ∷ 2 ∷ 0 ∷ 300 ∷ 2 ∷ 4 ∷ [])
    ∷ (3 ∷ 9 ∷ 1 ∷ 4 ∷ [])
    ∷ (3 ∷ 9 ∷ 2 ∷ 3 ∷ 4 ∷ [])
    ∷ (3 ∷ 9 ∷ 3 ∷ 1 ∷ 3 ∷ 4 ∷ [])
    ∷ []
unfolding records numbers token_numbers
clause_records_lem = refl

-- A clause with its step by its parts.
pub clause_numbers_lem : clause_numbers (record { step = 9; left = Some 1; right = Some 3; output = 4 }) ≡ 3 ∷ 9 ∷ 3 ∷ 1 ∷ 3 ∷ 4 ∷ []
unfolding clause_numbers
clause_numbers_lem = refl
