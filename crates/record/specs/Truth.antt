-- What the steps of a log are worth: under an assignment that satisfies the sums it defines, all that it derives from them holds.
use Rattle.std.specs.Prelude.{◌≡◌, ℕ}
use mathlib.Core.List.{List, Memᴰ}
use Rattle.std.proofs.Math.Option.{some}
use Rattle.pb.specs.Sum.{Term, Sum, ◌≥◌, normal, clause_sum}
use Rattle.pb.specs.Truth.{Assignment, Satisfies, SatisfiesClause}
use Rattle.record.specs.Record.{Record, sum, clause}
use Rattle.record.specs.Steps.{step_of}

-- The assignment satisfies every sum of kind 1.
abbrev pub SatisfiesSums : Assignment → List Record → Type 0
SatisfiesSums a rs = (w : ℕ) (ts : List Term) (b : ℕ) → Memᴰ (sum w ts b) rs → Satisfies a (ts ≥ b)

-- It satisfies what every step comes to, and every clause whose step comes to it has a true literal.
pub record SatisfiesLog (first : ℕ) (rs : List Record) (a : Assignment) : Type 0 where
  pub steps_hold : (n : ℕ) (s : Sum) → step_of first rs n ≡ some s → Satisfies a s
  pub clauses_hold : (n : ℕ) (ls : List ℕ) → Memᴰ (clause n ls) rs → step_of first rs n ≡ some (normal (clause_sum ls)) → SatisfiesClause a ls

-- The log's sums entail the rest of it, whoever wrote it.
unfoldable pub Entailed : Type 0
Entailed = (first : ℕ) (rs : List Record) (a : Assignment) → SatisfiesSums a rs → SatisfiesLog first rs a
