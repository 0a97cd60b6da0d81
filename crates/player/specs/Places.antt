-- A script at a place: what stands there, and the place after it.
use Rattle.std.specs.Prelude.{Bool, List, ℕ, ◌-◌, Option, Some, None, Result, Ok, Err, length, drop}
use Rattle.number.specs.Number.{read_at}
use Rattle.totdb.specs.declared.Side.{Side}
use Rattle.cert.specs.State.{Head}
use Rattle.player.specs.Script.{Next, command, refuse, end, arguments, read_command}
use Rattle.player.specs.declared.Command.{Command}

-- ---- a command

-- What is read of a list, where the list is the end of s: a command, with the place after it; or nothing, where the script ends; or the number of the
-- question that is answered no.
unfoldable pub placed : List ℕ → Next → Result (Option (Command × ℕ)) ℕ
placed s (command c rest) = Ok (Some (c, length s - length rest))
placed s (refuse n) = Err n
placed s end = Ok None

-- after a code
abbrev pub arguments_at : ℕ → List ℕ → ℕ → Result (Option (Command × ℕ)) ℕ
arguments_at c s at = placed s (arguments c (drop at s))

abbrev pub next_at : Bool → List ℕ → ℕ → Result (Option (Command × ℕ)) ℕ
next_at closed s at = placed s (read_command closed (drop at s))

-- A script does not end where a command's numbers are to follow.
abbrev pub followed : Result (Command × ℕ) ℕ → Result (Option (Command × ℕ)) ℕ
followed (Ok x) = Ok (Some x)
followed (Err n) = Err n

-- ---- three numbers, a side, a command's numbers, and the head

-- f of what is read and the place after it; nothing where it does not read.
abbrev pub read_on : {A B : Type 0} → Option (A × ℕ) → (A → ℕ → Option B) → Option B
read_on (Some (x, e)) f = f x e
read_on None f = None

abbrev pub triple_at : List ℕ → ℕ → Option ((ℕ × ℕ × ℕ) × ℕ)
triple_at s at = read_on (read_at s at) (λ x a. read_on (read_at s a) (λ y b. read_on (read_at s b) (λ z e. Some ((x, y, z), e))))

-- f of each of the three
abbrev pub read_on_three : {B : Type 0} → Option ((ℕ × ℕ × ℕ) × ℕ) → (ℕ → ℕ → ℕ → ℕ → Option B) → Option B
read_on_three r f = read_on r (λ t e. f t.0 t.1 t.2 e)

abbrev pub side_at : List ℕ → ℕ → Option (Side × ℕ)
side_at s at = read_on_three (triple_at s at) (λ n f k e. Some (record { node = n; offset = f; limit = k }, e))

abbrev pub leaf_at : List ℕ → ℕ → Option (Command × ℕ)
leaf_at s at = read_on (read_at s at) (λ l e. Some (Command.Leaf l, e))

abbrev pub join_at : List ℕ → ℕ → Option (Command × ℕ)
join_at s at = read_on (side_at s at) (λ l a. read_on (side_at s a) (λ r e. Some (Command.Join l r, e)))

abbrev pub request_at : List ℕ → ℕ → Option (Command × ℕ)
request_at s at = read_on_three (triple_at s at) (λ n v d e. Some (Command.Request n v d, e))

abbrev pub head_at : List ℕ → Option (Head × ℕ)
head_at s = read_on (read_at s 0) (λ v a. read_on (read_at s a) (λ n e. Some (record { variable = v; step = n }, e)))
