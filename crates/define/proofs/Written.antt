-- Records written after those of a log: they fit, or they do not.
use mathlib.Core.Path.{◌≡◌, sym, ap, ◌∙◌}
use mathlib.Core.List.{List, ◌++◌, flat_map}
use Prim.Native.Nat.{ℕ, ◌+◌, ◌≤◌, ◌<◌}
use native.Mathlib.Decide.{dec_le}
use native.Mathlib.Omega.{arith}
use lib.ListN.{length}
use Rattle.record.specs.Record.{Record, numbers, bytes}
use Rattle.record.specs.Writing.{Buffer, content, written, append, Puts}
use Rattle.record.proofs.Bytes.{bytes_append, length_bytes}
use Rattle.record.proofs.Writing.{append_fits, append_over, is_over_lem}

-- The log after it, of c bytes, had the records rs and took qs.
pub data Took (c : ℕ) (rs qs : List Record) (d : Buffer) : Type 0 where
  fits : content d ≡ written (bytes (rs ++ qs)) → Took c rs qs d
  past : c < d.at → c < length (bytes (rs ++ qs)) → Took c rs qs d

pub took : {c : ℕ} {b d : Buffer} (rs qs : List Record) → length b.log ≡ c → content b ≡ written (bytes rs) → Puts b (flat_map numbers qs) d → Took c rs qs d
unfolding bytes
took {c} {b} {d} rs qs size is p = by (dec_le (length (bytes rs) + length (bytes qs)) c)
  where
    after : content d ≡ append c (bytes qs) (written (bytes rs))
    after = p.is ∙ rw (is, size)

    by : Dec (length (bytes rs) + length (bytes qs) ≤ c) → Took c rs qs d
    by (yes h) = fits (after ∙ append_fits c (bytes qs) (bytes rs) h ∙ ap written (sym (bytes_append rs qs)))
    by (no h) =
        past (omega (arith, is_over_lem d.log d.at (after ∙ append_over c (bytes qs) (bytes rs) (omega arith)), p.onward.size, size))
        (omega (arith, length_bytes rs qs))
