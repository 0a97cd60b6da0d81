-- What the code is handed for a clause's two records: the definitions that its step adds up, and the clause by its parts.
use Rattle.std.specs.Prelude.{cond, List, [], ◌∷◌, ◌++◌, ℕ, ◌+◌, ltb, Option, Some, None}
use Rattle.sizes.specs.Sizes.{step_stop}
use Rattle.pb.specs.Rules.{Token, step, literal}
use Rattle.record.specs.Record.{derivation, clause, numbers}
use Rattle.cert.specs.Definitions.{Key, Definition, nothing, axiom_of, stored, add_sequence}
use Rattle.cert.specs.Requests.{step_sequence}
use Rattle.derivation.specs.declared.Clause.{Clause}
use Rattle.derivation.specs.declared.Operands.{Operands}
use Rattle.derivation.specs.declared.Whole.{Whole}
use Rattle.derivation.specs.declared.SemDefinition.{SemDefinition}
use Rattle.derivation.specs.declared.SemDefinition.TheVariants.{Step, Axiom}
use Rattle.derivation.specs.declared.SemDefinition.TheVariants as variant

-- A definition with its step looked up. `at_step` gives the step of each place of a key.
unfoldable pub operand : (Key → ℕ → ℕ) → Definition → SemDefinition
operand at_step nothing = variant.None
operand at_step (axiom_of l) = Axiom l
operand at_step (stored k i) = Step (at_step k i)

unfoldable pub tokens : SemDefinition → List Token
tokens variant.None = []
tokens (Step n) = step n ∷ []
tokens (Axiom l) = literal l ∷ []

-- The code of its token, and the number after it; 0 where there is none.
unfoldable pub token_code : SemDefinition → ℕ
token_code variant.None = 0
token_code (Step n) = 0
token_code (Axiom l) = 1

unfoldable pub token_argument : SemDefinition → ℕ
token_argument variant.None = 0
token_argument (Step n) = n
token_argument (Axiom l) = l

-- The tokens of a clause's step.
unfoldable pub step_tokens : SemDefinition → SemDefinition → SemDefinition → List Token
unfolding tokens add_sequence
step_tokens this left right = step_sequence (tokens this) (tokens left) (tokens right)

abbrev pub sequence : Operands → List Token
sequence o = step_tokens o.this o.left o.right

-- One of the two literals of a clause that may be absent.
unfoldable pub part : Option ℕ → List ℕ
part None = []
part (Some l) = l ∷ []

-- The step k places after n. It stops at a number that no log reaches.
unfoldable pub step_after : ℕ → ℕ → ℕ
step_after n k = cond (ltb n step_stop) (n + k) n

-- The step after n.
abbrev pub next_step : ℕ → ℕ
next_step n = step_after n 1

-- A clause with its step: the parts that there are, then the output.
unfoldable pub clause_numbers : Clause → List ℕ
unfolding numbers part
clause_numbers c = numbers (clause c.step (part c.left ++ part c.right ++ (c.output ∷ [])))

-- No clause takes more bytes with the derivation of its step: 17 numbers of five bytes.
abbrev pub clause_room : ℕ
clause_room = 85

-- ---- a clause with both parts, whose step adds up three steps

unfoldable pub whole_numbers : Whole → List ℕ
unfolding step_tokens clause_numbers
whole_numbers w =
    numbers (derivation (step_tokens (Step w.this) (Step w.left) (Step w.right)))
    ++ clause_numbers (record { step = w.step; left = Some w.left_part; right = Some w.right_part; output = w.output })
