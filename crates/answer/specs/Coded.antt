-- An answer as bytes, with its numbers read back, and as text.
use Rattle.std.specs.Prelude.{List, [], ◌∷◌, ◌++◌, ℕ, ◌+◌, ◌*◌, ◌/◌, ◌%◌, get_or, take, replicate, decimal, codes}
use Rattle.answer.specs.declared.Answer.{Answer}

-- Four bytes, low byte first.
abbrev pub le32 : ℕ → List ℕ
le32 x = (x % 256) ∷ (x / 256 % 256) ∷ (x / 65536 % 256) ∷ (x / 16777216) ∷ []

abbrev pub bytes_of : Answer → List ℕ
bytes_of a = le32 a.number ++ (le32 a.place ++ (le32 a.length ++ (le32 a.steps ++ (le32 a.clauses ++ le32 a.nodes))))

-- l as far as n bytes reach, zeros after it.
abbrev pub padded : ℕ → List ℕ → List ℕ
padded n l = take n (l ++ replicate n 0)

-- The number at a place of an answer: four bytes, low byte first.
abbrev pub word_at : List ℕ → ℕ → ℕ
word_at bs i = get_or bs i 0 + 256 * get_or bs (i + 1) 0 + 65536 * get_or bs (i + 2) 0 + 16777216 * get_or bs (i + 3) 0

-- The six numbers in decimal, a space between them.
abbrev pub text_of : Answer → List ℕ
text_of a = before a.number (before a.place (before a.length (before a.steps (before a.clauses (decimal a.nodes)))))
  where
    before : ℕ → List ℕ → List ℕ
    before x rest = decimal x ++ (codes " " ++ rest)
