-- The sheet of a script: what the program prints, byte by byte.
use Rattle.std.specs.Prelude.{◌≡◌, ℕ, zero, suc, min, ◌+◌, ◌*◌, length, take}
use Rattle.std.proofs.Math.Option.{none, some}
use mathlib.Core.List.{List, [], ◌∷◌, ◌++◌, flat_map}
use Rattle.sizes.specs.Sizes.{most_bytes}
use Rattle.text.specs.Text.{spaced, laid}
use Rattle.record.specs.Record.{clauses, decode_log}
use Rattle.player.specs.Player.{Outcome, played}
use Rattle.listing.specs.Line.{newline, line}
use Rattle.order.specs.Order.{sorted}

-- `nodes`, `steps`, `clauses`, `refused` and `at`, in ASCII; those after a number with a space before them.
abbrev pub nodes_word : List ℕ
nodes_word = 110 ∷ 111 ∷ 100 ∷ 101 ∷ 115 ∷ []

abbrev pub steps_word : List ℕ
steps_word = 32 ∷ 115 ∷ 116 ∷ 101 ∷ 112 ∷ 115 ∷ []

abbrev pub clauses_word : List ℕ
clauses_word = 32 ∷ 99 ∷ 108 ∷ 97 ∷ 117 ∷ 115 ∷ 101 ∷ 115 ∷ []

abbrev pub refused_word : List ℕ
refused_word = 114 ∷ 101 ∷ 102 ∷ 117 ∷ 115 ∷ 101 ∷ 100 ∷ []

abbrev pub at_word : List ℕ
at_word = 32 ∷ 97 ∷ 116 ∷ []

-- `nodes N steps S clauses C`
unfoldable pub header : ℕ → ℕ → ℕ → List ℕ
header n s c = nodes_word ++ (spaced n ++ (steps_word ++ (spaced s ++ (clauses_word ++ (spaced c ++ newline)))))

-- `refused N at C`
unfoldable pub refusal : ℕ → ℕ → List ℕ
refusal n c = refused_word ++ (spaced n ++ (at_word ++ (spaced c ++ newline)))

-- The clauses of a log, cut at its length.
unfoldable pub clauses_in : List ℕ → List (List ℕ)
unfolding decode_log clauses
clauses_in log = elim (decode_log log) [ none ↦ [] | some rs ↦ clauses rs ]

-- The first line of an accepted script's sheet.
abbrev pub header_of : Outcome → List ℕ
header_of o = header o.nodes o.steps o.clauses

unfoldable pub sheet_of : Outcome → List ℕ
unfolding header refusal flat_map line clauses_in
sheet_of o =
    elim o.number [
      | zero ↦ header_of o ++ flat_map line (sorted (clauses_in (take o.used o.log)))
      | suc n ↦ refusal (suc n) o.place
    ]

-- The script is played with a log of 65,536 bytes.
abbrev pub sheet : List ℕ → List ℕ
sheet script = sheet_of (played script most_bytes)

-- The contract of `lines::sheet`: of the slice `out` it made `text`, of which the first n bytes are the sheet, as far as it reaches.
pub record Wrote (script out : List ℕ) (n : ℕ) (text : List ℕ) : Type 0 where
  pub count : n ≡ min (length (sheet script)) (length out)
  pub bytes : text ≡ laid out (sheet script)

-- The most bytes of a sheet: a line has at most four bytes for each byte of its record, and the header at most 64.
abbrev pub most_sheet : ℕ
most_sheet = 4 * most_bytes + 64
