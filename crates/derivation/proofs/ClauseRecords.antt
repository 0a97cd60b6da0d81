-- The numbers of a clause's two records, as `put_clause_step` and `put_clause` write them.
use mathlib.Core.Path.{◌≡◌, refl, sym}
use mathlib.Core.List.{List, [], ◌∷◌, ◌++◌, append_assoc, append-nil}
use Prim.Native.Nat.{ℕ, ◌+◌, ◌*◌}
use Rattle.std.specs.Prelude.{Option, Some}
use Rattle.std.specs.Option.{is_some}
use mir.Val.{bool_byte}
use native.Mathlib.Omega.{arith}
use lib.ListN.{length, length-append}
use Rattle.pb.specs.Rules.{Token, saturate}
use Rattle.record.specs.Record.{clause, derivation, numbers, token_numbers}
use Rattle.record.proofs.Tokens.{tokens_append}
use Rattle.cert.specs.Definitions.{Key, Definition, nothing, axiom_of, stored, add_sequence}
use Rattle.derivation.specs.Operands.{operand, part, step_tokens, tokens, token_code, token_argument, clause_numbers, whole_numbers}
use Rattle.totdb.specs.Nodes.{Node}
use Rattle.cert.specs.Requests.{Clause, definition, clause_tokens, def_tokens}
use Rattle.derivation.specs.declared.Whole.{Whole}
use Rattle.derivation.specs.declared.SemDefinition.{SemDefinition}
use Rattle.derivation.specs.declared.SemDefinition.TheVariants.{None, Step, Axiom}

-- ---- what an `else` leaves: a proof is told which variants the value is not

pub is_none : (d : SemDefinition) → ((n : ℕ) → d ≡ Step n → ⊥) → ((l : ℕ) → d ≡ Axiom l → ⊥) → d ≡ None
is_none None g h = refl
is_none (Step n) g h = absurd (g n refl)
is_none (Axiom l) g h = absurd (h l refl)

pub one_token : (d : SemDefinition) → (d ≡ None → ⊥) → 1 ≡ length (tokens d)
unfolding tokens
one_token None h = absurd (h refl)
one_token (Step n) h = refl
one_token (Axiom l) h = refl

pub token_is : (d : SemDefinition) → (d ≡ None → ⊥) → token_numbers (tokens d) ≡ token_code d ∷ token_argument d ∷ []
unfolding token_numbers tokens token_code token_argument
token_is None h = absurd (h refl)
token_is (Step n) h = refl
token_is (Axiom l) h = refl

pub no_axiom : (d : SemDefinition) → ((l : ℕ) → d ≡ Axiom l → ⊥) → token_code d ≡ 0
unfolding token_code
no_axiom None h = refl
no_axiom (Step n) h = refl
no_axiom (Axiom l) h = absurd (h l refl)

-- ---- the derivation of a clause's step

pub added_some : (d : SemDefinition) → (d ≡ None → ⊥) → token_numbers (add_sequence [] (tokens d)) ≡ token_numbers (tokens d) ++ (2 ∷ [])
unfolding token_numbers add_sequence tokens
added_some None h = absurd (h refl)
added_some (Step n) h = refl
added_some (Axiom l) h = refl

-- Adding appends, whatever stands before.
pub add_append : (ks js : List Token) → add_sequence ks js ≡ ks ++ add_sequence [] js
unfolding add_sequence
add_append ks [] = sym (append-nil ks)
add_append ks (j ∷ js) = refl

added_length : (d : SemDefinition) → length (add_sequence [] (tokens d)) ≡ 2 * length (tokens d)
unfolding add_sequence tokens
added_length None = refl
added_length (Step n) = refl
added_length (Axiom l) = refl

module _ (this left right : SemDefinition) where
  step_append : step_tokens this left right
      ≡ tokens this ++ (add_sequence [] (tokens left) ++ (add_sequence [] (tokens right) ++ (saturate ∷ [])))
  unfolding step_tokens
  step_append =
      rw (
        add_append (add_sequence (tokens this) (tokens left)) (tokens right),
        add_append (tokens this) (tokens left),
        append_assoc,
        append_assoc,
      )

  pub step_length : length (tokens this) + 2 * length (tokens left) + 2 * length (tokens right) + 1 ≡ length (step_tokens this left right)
  step_length = rw step_append (simp (length-append, added_length) (omega arith))

  pub step_is :
      2 ∷ length (step_tokens this left right)
      ∷ (token_numbers (tokens this)
      ++ (token_numbers (add_sequence [] (tokens left)) ++ (token_numbers (add_sequence [] (tokens right)) ++ (4 ∷ []))))
      ≡ numbers (derivation (step_tokens this left right))
  unfolding numbers token_numbers
  step_is = rw (step_append, tokens_append, tokens_append, tokens_append)

-- ---- the step of a clause of a request

operand_tokens : (at_step : Key → ℕ → ℕ) (d : Definition) → tokens (operand at_step d) ≡ def_tokens at_step d
unfolding tokens operand def_tokens
operand_tokens at_step nothing = refl
operand_tokens at_step (axiom_of l) = refl
operand_tokens at_step (stored k i) = refl

pub clause_step : (at_step : Key → ℕ → ℕ) (t : List Node) (c : Clause)
    → step_tokens (operand at_step (definition t c.this)) (operand at_step (definition t c.left)) (operand at_step (definition t c.right))
    ≡ clause_tokens at_step t c
unfolding step_tokens clause_tokens
clause_step at_step t c =
    rw (
      operand_tokens at_step (definition t c.this),
      operand_tokens at_step (definition t c.left),
      operand_tokens at_step (definition t c.right),
    )

-- ---- a clause

pub part_length : (p : Option ℕ) → bool_byte (is_some p) ≡ length (part p)
unfolding part
part_length Option.None = refl
part_length (Some l) = refl

pub clause_is : (s : ℕ) (left right : Option ℕ) (o : ℕ)
    → 3 ∷ s ∷ (length (part left) + length (part right) + 1) ∷ (part left ++ (part right ++ (o ∷ [])))
    ≡ numbers (clause s (part left ++ part right ++ (o ∷ [])))
unfolding numbers
clause_is s left right o =
    let e : length (part left) + length (part right) + 1 ≡ length (part left ++ part right ++ (o ∷ [])) = simp length-append (omega arith) in
    rw (e, append_assoc)

-- ---- a clause with both parts, whose step adds up three steps

pub whole_is : (w : Whole)
    → 2 ∷ 6 ∷ 0 ∷ w.this ∷ 0 ∷ w.left ∷ 2 ∷ 0 ∷ w.right ∷ 2 ∷ 4 ∷ 3 ∷ w.step ∷ 3 ∷ w.left_part ∷ w.right_part ∷ w.output ∷ []
    ≡ whole_numbers w
unfolding whole_numbers numbers token_numbers step_tokens tokens add_sequence clause_numbers part
whole_is w = refl
