-- "Two scripts as described in the mission's last demand then print the same sheet, byte by byte" (document 02, §1): of the sheets as they
-- are defined, and of what two calls of `lines::sheet` leave.
use Rattle.std.specs.Prelude.{◌≡◌, List, ℕ, length, take}
use Rattle.sizes.specs.Sizes.{most_bytes}
use Rattle.number.specs.Number.{Bytes}
use Rattle.cert.specs.State.{Head}
use Rattle.player.specs.Player.{played}
use Rattle.player.specs.declared.Command.{Command}
use Rattle.demands.specs.Demands.{Alike}
use Rattle.lines.specs.Printed.{Shows}
use Rattle.lines.specs.Sheet.{sheet, Wrote}

-- Every two scripts of bytes that demand 3 is about, each played with the sheet's log.
abbrev pub EveryTwo : (List ℕ → List ℕ → Type 0) → Type 0
EveryTwo P =
    (bs ds : List ℕ) (h : Head) (cs es : List Command) → Bytes bs → Bytes ds → Alike bs ds (played bs most_bytes) (played ds most_bytes) h cs es → P bs ds

-- One sheet, which shows the clauses of both logs.
unfoldable pub SameSheets : Type 0
SameSheets = EveryTwo (λ bs ds. (sheet bs ≡ sheet ds) × Shows bs × Shows ds)

-- Into slices of one length, whatever they held, as many bytes are written, and the same.
unfoldable pub SameWritten : Type 0
SameWritten =
    EveryTwo
    (λ bs ds. (out other : List ℕ) (n m : ℕ) (text next : List ℕ) → length out ≡ length other → Wrote bs out n text → Wrote ds other m next
    → (n ≡ m) × (take n text ≡ take m next))
