-- Numbers of a script and a log: groups of seven bits, low group first, top bit set where another follows, in shortest form.
use Rattle.std.specs.Prelude.{true, false, Option, Some, None, List, [], ◌∷◌, ◌++◌, ℕ, zero, suc, ◌+◌, ◌-◌, ◌*◌, ◌/◌, ◌%◌, ◌<◌, ltb, length, get_or, take, drop}

-- A number that is read takes at most so many groups.
abbrev pub groups : ℕ
groups = 4

-- Every element is a byte. (`get_or` gives 0 past the end.)
unfoldable pub Bytes : List ℕ → Type 0
Bytes bs = (i : ℕ) → get_or bs i 0 < 256

-- ---- the bytes of a number: unsigned LEB128 in minimal form

-- The first argument bounds the recursion. That x is enough is `encode_more` of `proofs/Laws.antt`.
unfoldable pub encode_in : ℕ → ℕ → List ℕ
encode_in zero x = x ∷ []
encode_in (suc g) x = elim (ltb x 128) [ true ↦ x ∷ [] | false ↦ (x % 128 + 128) ∷ encode_in g (x / 128) ]

unfoldable pub encode : ℕ → List ℕ
encode x = encode_in x x

-- ---- the number at the front of a list

-- A number, with the bytes after it; or no number.
pub data Front : Type 0 where
  number : ℕ → List ℕ → Front
  bad : Front

-- The group b, which others follow, and what those come to. Where they come to 0 they add nothing, and the form is not the shortest.
unfoldable pub above : ℕ → Front → Front
above b (number zero bs) = bad
above b (number (suc x) bs) = number (b - 128 + 128 * suc x) bs
above b bad = bad

-- A number of at most g groups.
unfoldable pub read_in : ℕ → List ℕ → Front
read_in zero bs = bad
read_in (suc g) [] = bad
read_in (suc g) (b ∷ bs) = elim (ltb b 128) [ true ↦ number b bs | false ↦ above b (read_in g bs) ]

abbrev pub read : List ℕ → Front
read bs = read_in groups bs

-- ---- the number at a place of a list

-- The number, with the place after it in s, of which the list read is the end.
unfoldable pub placed : List ℕ → Front → Option (ℕ × ℕ)
placed s (number x rest) = Some (x, length s - length rest)
placed s bad = None

abbrev pub read_from : ℕ → List ℕ → ℕ → Option (ℕ × ℕ)
read_from g s at = placed s (read_in g (drop at s))

abbrev pub read_at : List ℕ → ℕ → Option (ℕ × ℕ)
read_at s at = read_from groups s at

-- ---- writing x at a place of a log

-- The log after it, where there is room.
unfoldable pub written : List ℕ → ℕ → ℕ → List ℕ
written log at x = take at log ++ encode x ++ drop (at + length (encode x)) log

-- ---- the refusal of document 01 that an answer stands for; 0 is none

abbrev pub read_refusal : Option (ℕ × ℕ) → ℕ
read_refusal (Some (x, e)) = 0
read_refusal None = 2
