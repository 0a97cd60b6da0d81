-- What stands where in a log: the record of a step, the derivation that a clause is written for, the record of a close.
use Rattle.std.specs.Prelude.{◌≡◌, Bool, true, false, ◌⊎◌, ℕ, ◌+◌, ◌<◌}
use mathlib.Core.List.{List, [], ◌∷◌, ◌++◌, Memᴰ}
use Rattle.std.proofs.Math.Option.{some}
use Rattle.pb.specs.Rules.{Token, evaluate}
use Rattle.pb.specs.Sum.{Term, normal, clause_sum}
use Rattle.record.specs.Record.{Record, sum, derivation, clause, deletion, steps}
use Rattle.record.specs.Steps.{names, step_of}

-- ---- a step

-- Step n of the log rs is the record r: the steps count the records of kind 1 and 2, from `first` on.
pub record StepIs (first : ℕ) (rs : List Record) (n : ℕ) (r : Record) : Type 0 where
  pub pre : List Record
  pub post : List Record
  pub place : rs ≡ pre ++ (r ∷ post)
  pub number : n ≡ first + steps pre

-- Step n defines a sum: it is a record of kind 1, or a derivation that no clause record names.
pub data Defines (first : ℕ) (rs : List Record) (n : ℕ) : Type 0 where
  by_sum : {w : ℕ} {ts : List Term} {b : ℕ} → StepIs first rs n (sum w ts b) → Defines first rs n
  by_derivation : {ks : List Token} → StepIs first rs n (derivation ks) → names n rs ≡ false → Defines first rs n

-- ---- a clause and its derivation

-- The clause ls, which names step n, stands directly after a derivation, that of step n.
pub record Follows (first : ℕ) (rs : List Record) (n : ℕ) (ls : List ℕ) : Type 0 where
  pub tokens : List Token
  pub step : StepIs first rs n (derivation tokens)
  pub rest : List Record
  pub next : step.post ≡ clause n ls ∷ rest

-- Worked out from the steps before it, this derivation comes to the clause.
pub record WrittenFor (first : ℕ) (rs : List Record) (n : ℕ) (ls : List ℕ) : Type 0 where
  pub follows : Follows first rs n ls
  pub worked_out : step_of first rs n ≡ evaluate (step_of first follows.step.pre) follows.tokens
  pub comes_to : step_of first rs n ≡ some (normal (clause_sum ls))

-- The records begin with a clause that names step n.
abbrev pub ClauseNext : ℕ → List Record → Type 0
ClauseNext n rs = (ls : List ℕ) × (post : List Record) × (rs ≡ clause n ls ∷ post)

-- Every derivation is written for the clause that follows it, or no clause names it.
abbrev pub EachFor : ℕ → List Record → Type 0
EachFor first rs = (n : ℕ) (ks : List Token) (d : StepIs first rs n (derivation ks)) → ClauseNext n d.post ⊎ (names n rs ≡ false)

-- ---- a close

-- The steps of each record of kind 4.
unfoldable pub deletions : List Record → List (List ℕ)
deletions [] = []
deletions (sum w ts b ∷ rs) = deletions rs
deletions (derivation ks ∷ rs) = deletions rs
deletions (clause s ls ∷ rs) = deletions rs
deletions (deletion ss ∷ rs) = ss ∷ deletions rs

unfoldable pub Ascending : List ℕ → Type 0
Ascending [] = Unit {0}
Ascending (n ∷ []) = Unit {0}
Ascending (n ∷ m ∷ ns) = (n < m) × Ascending (m ∷ ns)

-- The last record deletes, and no other: ascending, just the steps before it that define a sum.
pub record Closed (first : ℕ) (rs : List Record) : Type 0 where
  pub before : List Record
  pub listed : List ℕ
  pub last : rs ≡ before ++ (deletion listed ∷ [])
  pub only : deletions before ≡ []
  pub ascending : Ascending listed
  pub listed_are : (n : ℕ) → (Memᴰ n listed → Defines first before n) × (Defines first before n → Memᴰ n listed)

-- With a close, and without.
unfoldable pub Ended : ℕ → List Record → Bool → Type 0
unfolding deletions
Ended first rs true = Closed first rs
Ended first rs false = deletions rs ≡ []
