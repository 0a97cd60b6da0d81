-- Writing numbers into a log of fixed length: the contract of every writer.
use Rattle.std.specs.Prelude.{◌≡◌, Bool, true, false, cond, ℕ, ◌+◌, ◌≤◌, leb, ltb, length, take}
use mathlib.Core.List.{List, [], ◌∷◌, ◌++◌, map, flat_map}
use Rattle.number.specs.Number.{encode}
use Rattle.pb.specs.Sum.{neg}

-- A log and the place of its next byte. A place past the end says that what was written did not fit.
pub record Buffer : Type 0 where
  pub log : List ℕ
  pub at : ℕ

abbrev pub buffer : List ℕ → ℕ → Buffer
buffer l a = record { log = l; at = a }

-- What is written so far. Bytes from the place on are left open: the end of a play clears them. So are, where something did not fit, those from
-- the place on where it began, and which place past the end it is.
pub data Content : Type 0 where
  written : List ℕ → Content
  overflow : Content

unfoldable pub content : Buffer → Content
content b = cond (leb b.at (length b.log)) (written (take b.at b.log)) overflow

-- More bytes in a log of length n: all of them, or they do not fit.
unfoldable pub append : ℕ → List ℕ → Content → Content
append n bs (written ws) = cond (leb (length ws + length bs) n) (written (ws ++ bs)) overflow
append n bs overflow = overflow

-- The place goes on, and the bytes before it stay.
pub record Onward (b d : Buffer) : Type 0 where
  pub size : length d.log ≡ length b.log
  pub on : b.at ≤ d.at
  pub front : (k : ℕ) → k ≤ b.at → take k d.log ≡ take k b.log

-- The contract of every writer: it wrote the numbers ns into b, which became d.
pub record Puts (b : Buffer) (ns : List ℕ) (d : Buffer) : Type 0 where
  pub onward : Onward b d
  pub is : content d ≡ append (length b.log) (flat_map encode ns) (content b)

-- ---- literals

-- The literals of a list, or their negations.
unfoldable pub signed : Bool → List ℕ → List ℕ
signed true ls = map neg ls
signed false ls = ls

-- Whether every literal has one group.
unfoldable pub ones : List ℕ → Bool
ones [] = true
ones (l ∷ ls) = cond (ltb l 128) (ones ls) false
