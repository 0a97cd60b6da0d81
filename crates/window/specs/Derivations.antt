-- The two derivations of a window's values, of the window and the derivation as the code has them.
use Rattle.std.specs.Prelude.{List, ℕ}
use Rattle.pb.specs.Rules.{Token}
use Rattle.totdb.specs.Nodes.{Node}
use Rattle.cert.specs.Definitions.{Key}
use Rattle.derivation.specs.Summands.{summand}
use Rattle.window.specs.Window.{Handed, tokens_of}
use Rattle.window.specs.declared.Window.{Window}
use Rattle.window.specs.declared.Derivation.{Derivation}

-- What `Handed` says, of node x of number n.
abbrev pub IsHanded : Window → (Key → ℕ → ℕ) → ℕ → Node → Type 0
IsHanded w at_step n x = Handed w.row.now w.outputs.now at_step n x w.offset w.len

abbrev pub tokens : Derivation → (Key → ℕ → ℕ) → ℕ → Node → List Token
tokens d at_step n x = tokens_of d.only_if at_step n x d.window.offset d.window.len d.value

-- The summand at a value.
abbrev pub summands : Derivation → (Key → ℕ → ℕ) → ℕ → Node → ℕ → List Token
summands d at_step n x = summand d.only_if at_step n x d.value
