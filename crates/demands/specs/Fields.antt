-- Document 02, §2, larger numbers of scripts and logs ("big fields": a marathon's many reads), as a claim about their bytes. The proof is in
-- proofs/Fields.antt.
use Rattle.std.specs.Prelude.{◌≡◌, ◌↔◌, ◌⊎◌, ◌≢◌, ℕ, suc, ◌≤◌, ◌<◌, length, get_or, take}
use mathlib.Core.List.{List, [], ◌∷◌, ◌++◌, flat_map, Memᴰ}
use Rattle.number.specs.Number.{Bytes, encode, number, read}
use Rattle.record.specs.Record.{Record, numbers}
use Rattle.cert.specs.State.{State, Head}
use Rattle.player.specs.Player.{Outcome, played}
use Rattle.player.specs.Script.{command_numbers}
use Rattle.player.specs.Verdict.{Reads, Reached}
use Rattle.player.specs.declared.Command.{Command}
use Rattle.player.specs.declared.Command.TheVariants.{Close}
use Rattle.demands.specs.Demands.{Holds}

-- Another group follows the fourth.
abbrev pub FifthGroup : List ℕ → Type 0
FifthGroup bs = (i : ℕ) → i < 4 → 128 ≤ get_or bs i 0

-- The numbers ns are the first of a command, which stands in some bytes, and not all of them.
abbrev pub GoesOn : List ℕ → Type 0
GoesOn ns = (bs : List ℕ) × (c : Command) × (x : ℕ) × (more : List ℕ) × Reads bs (command_numbers c) [] × (command_numbers c ≡ ns ++ (x ∷ more))

abbrev pub RefusedBy : ℕ → ℕ → Outcome → Type 0
RefusedBy n p o = (o.number ≡ n) × (o.place ≡ p)

-- "A number of script or log may take four groups, up to 268,435,455, and the head allows a variable and a step number up to 100,000,000 each.
-- Questions 2 and 3 change in these limits only; a fifth group now gives 2. Every part that reads or writes a number sees the wider promise."
pub record BigFields : Type 0 where
  pub four_groups : (x : ℕ) → (length (encode x) ≤ 4) ↔ (x ≤ 268435455)
  -- just these read, from their own bytes
  pub reads : (bs rest : List ℕ) (x : ℕ) → Bytes bs → (read bs ≡ number x rest) ↔ ((bs ≡ encode x ++ rest) × (x ≤ 268435455))
  -- every log is made of such numbers
  pub logs : (bs : List ℕ) (capacity : ℕ) (rs : List Record) → Holds (played bs capacity) rs
      → (take (played bs capacity).used (played bs capacity).log ≡ flat_map encode (flat_map numbers rs))
      × ((x : ℕ) → Memᴰ x (flat_map numbers rs) → x ≤ 268435455)
  -- question 3
  pub head : (bs rest : List ℕ) (capacity v n : ℕ) → Bytes bs → length bs ≤ 65536 → capacity ≤ 65536 → Reads bs (v ∷ n ∷ []) rest
      → RefusedBy 3 0 (played bs capacity) ↔ ((100000000 < v) ⊎ ((n < 1) ⊎ (100000000 < n)))
  -- question 2, put to a fifth group at a number of the head, and at a number of a command
  pub fifth_in_head : (bs rest ns : List ℕ) (capacity : ℕ) → Bytes bs → length bs ≤ 65536 → capacity ≤ 65536 → length ns < 2 → Reads bs ns rest
      → FifthGroup rest → RefusedBy 2 0 (played bs capacity)
  pub fifth : (bs here rest ns : List ℕ) (capacity : ℕ) (h : Head) (cs : List Command) (s : State) → Bytes bs → Reached bs capacity h cs s here
      → Reads here ns rest → GoesOn ns → (ns ≢ [] → Memᴰ Close cs → ⊥) → FifthGroup rest → RefusedBy 2 (suc (length cs)) (played bs capacity)
