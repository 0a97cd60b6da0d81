-- A script of which its first bytes were kept, one more than a script may have, has the same sheet.
use Rattle.std.proofs.Common.{◌≡◌, ◌+◌, ◌<◌, List, ℕ, length, take, arith, sym, ◌∙◌, ap}
use Rattle.std.proofs.lemmas.List.{take_all, length-take-le}
use native.Mathlib.Decide.{dec_lt}
use Rattle.sizes.specs.Sizes.{most_bytes}
use Rattle.player.specs.Player.{played, refused_at_head}
use Rattle.lines.specs.Sheet.{sheet, sheet_of}

-- A longer script is not read.
too_long : (script : List ℕ) → most_bytes < length script → played script most_bytes ≡ refused_at_head most_bytes 1
unfolding played
too_long script h = grind arith

pub sheet-take : (script : List ℕ) → sheet (take (most_bytes + 1) script) ≡ sheet script
sheet-take script = by (dec_lt most_bytes (length script))
  where
    by : Dec (most_bytes < length script) → sheet (take (most_bytes + 1) script) ≡ sheet script
    by (yes long) =
        let kept : length (take (most_bytes + 1) script) ≡ most_bytes + 1 = length-take-le (most_bytes + 1) script (omega arith) in
        ap sheet_of (too_long (take (most_bytes + 1) script) (omega arith) ∙ sym (too_long script long))
    by (no short) = ap sheet (take_all (most_bytes + 1) script (omega arith))
