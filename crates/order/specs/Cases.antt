-- Worked cases of the order, as one list: two lines, and whether the first goes before the second.
use Rattle.std.specs.Prelude.{Bool, true, false, List, [], ◌∷◌, ℕ}

pub record Case : Type 0 where
  pub line : List ℕ
  pub other : List ℕ
  pub want : Bool

unfoldable case : List ℕ → List ℕ → Bool → Case
case a b w = record { line = a; other = b; want = w }

unfoldable pub cases : List Case
unfolding case
cases =
    -- the whole case: one variable, and the first literals differ
    case (1 ∷ 4 ∷ []) (3 ∷ 4 ∷ []) true
    ∷ case (3 ∷ 4 ∷ []) (1 ∷ 4 ∷ []) false
    -- a line does not go before itself
    ∷ case (1 ∷ 4 ∷ []) (1 ∷ 4 ∷ []) false
    -- the variable of the last literal decides before any other
    ∷ case (9 ∷ 4 ∷ []) (1 ∷ 6 ∷ []) true
    ∷ case (1 ∷ 6 ∷ []) (9 ∷ 4 ∷ []) false
    -- an output and its negation have one variable
    ∷ case (0 ∷ 2 ∷ 5 ∷ []) (1 ∷ 4 ∷ []) true
    -- as numbers, not as text
    ∷ case (9 ∷ 120 ∷ []) (101 ∷ 120 ∷ []) true
    -- by literals, not by their variables
    ∷ case (2 ∷ 8 ∷ []) (3 ∷ 8 ∷ []) true
    -- from the first place on, not from the last
    ∷ case (1 ∷ 7 ∷ 8 ∷ []) (3 ∷ 5 ∷ 8 ∷ []) true
    ∷ case (1 ∷ 5 ∷ 8 ∷ []) (1 ∷ 7 ∷ 8 ∷ []) true
    -- a line that is the start of another
    ∷ case (1 ∷ 4 ∷ []) (1 ∷ 4 ∷ 5 ∷ []) true
    ∷ case (1 ∷ 4 ∷ 5 ∷ []) (1 ∷ 4 ∷ []) false
    ∷ case [] (0 ∷ []) true
    ∷ []
