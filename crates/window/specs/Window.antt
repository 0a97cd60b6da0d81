-- What the code is handed for a window, the two derivations of a value as one definition, and the room that they take.
use Rattle.std.specs.Prelude.{◌≡◌, Bool, cond, List, [], map, ℕ, ◌+◌, ◌-◌, ◌*◌, ◌≤◌, ◌<◌, eqb, length, get_or}
use Rattle.sizes.specs.Sizes.{width, left_window_column}
use Rattle.pb.specs.Rules.{Token}
use Rattle.totdb.specs.Nodes.{Node, output, range}
use Rattle.cert.specs.Definitions.{Key, add_sequence, real, total}
use Rattle.derivation.specs.Operands.{next_step}
use Rattle.derivation.specs.Summands.{summand}

-- ---- what the code is handed

-- For a window of node x of number n, offset f, m outputs: `row` has the first step of the real definition of value s at s, `outputs` the
-- output of value s at s - 1.
pub record Handed (row outputs : List ℕ) (at_step : Key → ℕ → ℕ) (n : ℕ) (x : Node) (f m : ℕ) : Type 0 where
  pub if_step : (s : ℕ) → f < s → s ≤ f + m → at_step (real n s) 0 ≡ get_or row s 0
  pub only_if_step : (s : ℕ) → f < s → s ≤ f + m → at_step (real n s) 1 ≡ next_step (get_or row s 0)
  pub literal : (s : ℕ) → f < s → s ≤ f + m → output x s ≡ get_or outputs (s - 1) 0

-- A window inside the node's row and its outputs. It has two outputs or more, and there are steps and a node that it is handed for.
pub record Bounds (row outputs : List ℕ) (offset len : ℕ) : Type 0 where
  pub size : left_window_column ≤ length row
  pub values : offset + len ≤ width
  pub several : 1 < len
  pub inside : offset + len ≤ length outputs
  pub at_step : Key → ℕ → ℕ
  pub node : ℕ
  pub of : Node
  pub handed : Handed row outputs at_step node of offset len

-- A value of a window.
pub record WindowValue (offset len value : ℕ) : Type 0 where
  pub above : offset < value
  pub below : value ≤ offset + len

-- ---- the two derivations of a value

-- The tokens of the only-if of v in a window, or of its if.
unfoldable pub tokens_of : Bool → (Key → ℕ → ℕ) → ℕ → Node → ℕ → ℕ → ℕ → List Token
unfolding summand total range
tokens_of only_if at_step n x f m v = total [] (map (summand only_if at_step n x v) (range (f + 1) m))

-- A sequence with its addition to what stands before.
abbrev pub added : {A : Type 0} → (A → List Token) → A → List Token
added p a = add_sequence [] (p a)

-- The first value of a window at offset f that is not v.
unfoldable pub first_other : ℕ → ℕ → ℕ
first_other f v = cond (eqb v (f + 1)) (f + 2) (f + 1)

-- ---- room

-- No summand takes more bytes: eight numbers of five bytes; nine with its addition.
abbrev pub summand_room : ℕ
summand_room = 40

abbrev pub added_room : ℕ
added_room = 45

-- No derivation takes more bytes: kind and count, and an added summand for each value of a node.
abbrev pub derivation_room : ℕ
derivation_room = 10 + added_room * width
