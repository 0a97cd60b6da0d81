-- A script: a head, then commands. Questions 2, 4 and 5 are put while it is read.
use Rattle.std.specs.Prelude.{Bool, true, false, None, ℕ, zero, suc, length}
use mathlib.Core.List.{List, [], ◌∷◌, flat_map}
use Rattle.number.specs.Number.{encode_in, encode, number, bad, above, read_in, read, read_refusal}
use Rattle.totdb.specs.declared.Side.{Side}
use Rattle.cert.specs.State.{Head}
use Rattle.player.specs.declared.Command.{Command}
use Rattle.player.specs.declared.Command.TheVariants.{Leaf, Join, Request, Close}

-- A command and the bytes after it; or the number of the question that it fails; or the script ends, where a code would stand.
pub data Next : Type 0 where
  command : Command → List ℕ → Next
  refuse : ℕ → Next
  end : Next

-- Question 2, at every number.
unfoldable pub get : List ℕ → (ℕ → List ℕ → Next) → Next
unfolding read_in above
get bs f = elim (read bs) [ number x rest ↦ f x rest | bad ↦ refuse (read_refusal None) ]

abbrev pub get_three : List ℕ → (ℕ → ℕ → ℕ → List ℕ → Next) → Next
get_three bs g = get bs (λ a r. get r (λ b r. get r (λ c r. g a b c r)))

abbrev pub get_side : List ℕ → (Side → List ℕ → Next) → Next
get_side bs g = get_three bs (λ n f k r. g (record { node = n; offset = f; limit = k }) r)

-- Question 5, then the numbers that follow the code.
unfoldable pub arguments : ℕ → List ℕ → Next
unfolding get
arguments zero bs = refuse 5
arguments (suc zero) bs = get bs (λ l r. command (Leaf l) r)
arguments (suc (suc zero)) bs = get_side bs (λ l r. get_side r (λ m r. command (Join l m) r))
arguments (suc (suc (suc zero))) bs = get_three bs (λ n v d r. command (Request n v d) r)
arguments (suc (suc (suc (suc zero)))) bs = command Close bs
arguments (suc (suc (suc (suc (suc c))))) bs = refuse 5

-- Question 4, once the code is read.
unfoldable pub read_command : Bool → List ℕ → Next
unfolding get arguments
read_command closed [] = end
read_command closed (b ∷ bs) = get (b ∷ bs) (λ c r. elim closed [ true ↦ refuse 4 | false ↦ arguments c r ])

unfoldable pub closes : Command → Bool
closes (Leaf l) = false
closes (Join l r) = false
closes (Request n v d) = false
closes Close = true

-- The commands that read, and the number of the question that stops the reading: 0 where the script ends where a code would stand.
pub record Commands : Type 0 where
  pub list : List Command
  pub ending : ℕ

unfoldable pub stop : ℕ → Commands
stop n = record { list = []; ending = n }

unfoldable pub before : Command → Commands → Commands
before c cs = record { list = c ∷ cs.list; ending = cs.ending }

-- The bound on the recursion is the number of bytes: every command takes one.
unfoldable pub read_commands : ℕ → Bool → List ℕ → Commands
unfolding read_command closes stop before
read_commands zero closed bs = stop 0
read_commands (suc k) closed bs =
    elim (read_command closed bs) [ command c rest ↦ before c (read_commands k (closes c) rest) | refuse n ↦ stop n | end ↦ stop 0 ]

-- A head with the commands after it; or one of its numbers does not read.
pub data Script : Type 0 where
  script : Head → Commands → Script
  headless : Script

unfoldable pub read_script : List ℕ → Script
unfolding read_in above read_commands
read_script bs =
    elim (read bs) [
      | number v r ↦ elim (read r) [ number s q ↦ script (record { variable = v; step = s }) (read_commands (length q) false q) | bad ↦ headless ]
      | bad ↦ headless
    ]

-- ---- and back

unfoldable pub command_numbers : Command → List ℕ
command_numbers (Leaf l) = 1 ∷ l ∷ []
command_numbers (Join l r) = 2 ∷ l.node ∷ l.offset ∷ l.limit ∷ r.node ∷ r.offset ∷ r.limit ∷ []
command_numbers (Request n v d) = 3 ∷ n ∷ v ∷ d ∷ []
command_numbers Close = 4 ∷ []

-- The bytes of a script.
unfoldable pub script_bytes : Head → List Command → List ℕ
unfolding encode encode_in flat_map command_numbers
script_bytes h cs = flat_map encode (h.variable ∷ h.step ∷ flat_map command_numbers cs)
