-- Worked cases: numbers read, encoded and written, as one theorem over one list; and for each theorem with hypotheses an instance that meets them.
use Rattle.std.specs.Prelude.{Option, Some, None}
use mathlib.Core.Path.{◌≡◌, refl}
use mathlib.Core.List.{List, [], ◌∷◌, ◌++◌, map}
use Prim.Native.Nat.{ℕ, ◌+◌, ◌≤◌, ◌<◌, ◌^◌}
use native.Mathlib.Omega.{arith}
use lib.ListN.{length}
use Rattle.number.specs.Number.{groups, encode_in, encode, Front, number, bad, above, read_in, read, placed, read_at, written, read_refusal}
use Rattle.number.proofs.Laws.{encode_last, encode_more, encode_length, encode_bytes, read_encode, read_number}
use Rattle.number.proofs.Places.{read_from-number, read_from-length, read_at-written}

pub data Value : Type 0 where
  front : Front → Value
  place : Option (ℕ × ℕ) → ℕ → Value
  bytes : List ℕ → Value

pub record Case : Type 0 where
  pub got : Value
  pub want : Value

reads : List ℕ → Front → Case
reads bs r = record { got = front (read bs); want = front r }

reads_at : List ℕ → ℕ → Option (ℕ × ℕ) → ℕ → Case
reads_at s at r refusal = record { got = place (read_at s at) (read_refusal (read_at s at)); want = place r refusal }

encodes : ℕ → List ℕ → Case
encodes x bs = record { got = bytes (encode x); want = bytes bs }

writes : List ℕ → ℕ → ℕ → List ℕ → Case
writes s at x after = record { got = bytes (written s at x); want = bytes after }

unfoldable pub cases : List Case
unfolding reads reads_at encodes writes
cases =
    -- one group
    reads (0x00 ∷ []) (number 0 [])
    ∷ reads (0x7f ∷ []) (number 127 [])
    -- two groups, three and four; the bytes after the number are kept
    ∷ reads (0x80 ∷ 0x01 ∷ []) (number 128 [])
    ∷ reads (0x80 ∷ 0x01 ∷ 0x80 ∷ 0x00 ∷ []) (number 128 (0x80 ∷ 0x00 ∷ []))
    ∷ reads (0xff ∷ 0xff ∷ 0x7f ∷ []) (number 2097151 [])
    ∷ reads (0x80 ∷ 0x80 ∷ 0x80 ∷ 0x01 ∷ []) (number 2097152 [])
    ∷ reads (0xff ∷ 0xff ∷ 0xff ∷ 0x7f ∷ []) (number 268435455 [])
    -- not the shortest form
    ∷ reads (0x80 ∷ 0x00 ∷ []) bad
    ∷ reads (0x80 ∷ 0x80 ∷ 0x00 ∷ []) bad
    ∷ reads (0x80 ∷ 0x80 ∷ 0x80 ∷ 0x00 ∷ []) bad
    -- no byte; a group that another should follow; a fifth group
    ∷ reads [] bad
    ∷ reads (0x80 ∷ []) bad
    ∷ reads (0x80 ∷ 0x80 ∷ 0x80 ∷ []) bad
    ∷ reads (0x80 ∷ 0x80 ∷ 0x80 ∷ 0x80 ∷ 0x01 ∷ []) bad
    ∷ reads (0xff ∷ 0xff ∷ 0xff ∷ 0xff ∷ 0x01 ∷ []) bad
    -- at a place: a number, no number, past the end
    ∷ reads_at (7 ∷ 0x80 ∷ 0x01 ∷ 9 ∷ []) 1 (Some (128, 3)) 0
    ∷ reads_at (7 ∷ 0x80 ∷ 0x00 ∷ []) 1 None 2
    ∷ reads_at (7 ∷ []) 2 None 2
    -- the least and the most of one, two, three and four groups; a number that takes five
    ∷ encodes 0 (0x00 ∷ [])
    ∷ encodes 127 (0x7f ∷ [])
    ∷ encodes 128 (0x80 ∷ 0x01 ∷ [])
    ∷ encodes 16383 (0xff ∷ 0x7f ∷ [])
    ∷ encodes 16384 (0x80 ∷ 0x80 ∷ 0x01 ∷ [])
    ∷ encodes 2097151 (0xff ∷ 0xff ∷ 0x7f ∷ [])
    ∷ encodes 2097152 (0x80 ∷ 0x80 ∷ 0x80 ∷ 0x01 ∷ [])
    ∷ encodes 268435455 (0xff ∷ 0xff ∷ 0xff ∷ 0x7f ∷ [])
    ∷ encodes 268435456 (0x80 ∷ 0x80 ∷ 0x80 ∷ 0x80 ∷ 0x01 ∷ [])
    -- a write at the end, and one before other bytes, which stay
    ∷ writes (7 ∷ 0 ∷ 0 ∷ []) 1 128 (7 ∷ 0x80 ∷ 0x01 ∷ [])
    ∷ writes (7 ∷ 0 ∷ 0 ∷ 9 ∷ []) 1 128 (7 ∷ 0x80 ∷ 0x01 ∷ 9 ∷ [])
    ∷ []

pub worked : map (λ (c : Case). c.got) cases ≡ map (λ (c : Case). c.want) cases
unfolding cases encode encode_in above read_in placed written
worked = refl

-- ---- each theorem at numbers that meet its hypotheses

pub met_last : encode 127 ≡ 127 ∷ []
met_last = encode_last 127 (omega arith)

pub met_more : encode 300 ≡ (44 + 128) ∷ encode 2
met_more = encode_more 300 (omega arith)

pub met_length : length (encode 300) ≤ 2
met_length = (encode_length 300 2 (omega arith)).1 (omega arith)

pub met_read_encode : read (encode 300 ++ (7 ∷ [])) ≡ number 300 (7 ∷ [])
met_read_encode = read_encode 300 (7 ∷ []) (omega arith)

pub met_read_number : (encode 300 ≡ encode 300 ++ []) × (300 < 128 ^ groups)
unfolding encode encode_in above read_in
met_read_number = read_number (encode 300) (encode_bytes 300) refl

pub met_place : (read (0x80 ∷ 0x01 ∷ 9 ∷ []) ≡ number 128 (9 ∷ [])) × (1 < 3) × (3 ≤ 4)
unfolding above read_in placed
met_place = read_from-number groups (7 ∷ 0x80 ∷ 0x01 ∷ 9 ∷ []) 1 refl

pub met_groups : length (encode 300) ≤ groups
unfolding encode encode_in above read_in placed
met_groups = read_from-length groups (encode 300) 0 (encode_bytes 300) refl

pub met_written : read_at (written (7 ∷ 0 ∷ 0 ∷ []) 1 128) 1 ≡ Some (128, 1 + length (encode 128))
unfolding encode encode_in
met_written = read_at-written (7 ∷ 0 ∷ 0 ∷ []) 1 128 (omega arith) (omega arith)
