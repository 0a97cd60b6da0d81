-- The two derivations of a window's value as one definition: a summand of either.
use Rattle.std.specs.Prelude.{Bool, true, false, List, ℕ}
use Rattle.pb.specs.Rules.{Token}
use Rattle.totdb.specs.Nodes.{Node}
use Rattle.cert.specs.Definitions.{Key, if_part, only_if_part}

-- The summand at s of the only-if of v, or of its if.
unfoldable pub summand : Bool → (Key → ℕ → ℕ) → ℕ → Node → ℕ → ℕ → List Token
unfolding if_part only_if_part
summand true at_step n x v s = only_if_part at_step n x v s
summand false at_step n x v s = if_part at_step n x v s
