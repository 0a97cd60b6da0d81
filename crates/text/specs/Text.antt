-- Text written into a slice of fixed length: what a writer leaves, and numbers in decimal.
use Rattle.std.specs.Prelude.{◌≡◌, true, false, cond, List, [], ◌∷◌, ◌++◌, ℕ, zero, suc, ◌+◌, ◌/◌, ◌%◌, ltb, length, set, take, drop}

-- A slice, and the place of its next byte.
pub record Page : Type 0 where
  pub bytes : List ℕ
  pub at : ℕ

abbrev pub page : List ℕ → ℕ → Page
page l a = record { bytes = l; at = a }

-- One byte, if there is room.
unfoldable pub print : Page → ℕ → Page
print p b = cond (ltb p.at (length p.bytes)) (page (set p.bytes p.at b) (suc p.at)) p

unfoldable pub prints : Page → List ℕ → Page
prints p [] = p
prints p (b ∷ bs) = prints (print p b) bs

-- The contract of every writer: it wrote the bytes bs on p, which became q.
pub record Prints (p : Page) (bs : List ℕ) (q : Page) : Type 0 where
  pub is : q ≡ prints p bs

-- The bytes bs from the front of l on, as far as it reaches.
abbrev pub laid : List ℕ → List ℕ → List ℕ
laid l bs = take (length l) bs ++ drop (length bs) l

-- ---- numbers

-- The digits of x in ASCII, the first not 0 but for 0 itself. The first argument bounds the recursion; x is enough.
unfoldable pub decimal_in : ℕ → ℕ → List ℕ
decimal_in zero x = (48 + x) ∷ []
decimal_in (suc k) x = elim (ltb x 10) [ true ↦ (48 + x) ∷ [] | false ↦ decimal_in k (x / 10) ++ ((48 + x % 10) ∷ []) ]

unfoldable pub decimal : ℕ → List ℕ
unfolding decimal_in
decimal x = decimal_in x x

-- A number after a space.
abbrev pub spaced : ℕ → List ℕ
spaced x = 32 ∷ decimal x
