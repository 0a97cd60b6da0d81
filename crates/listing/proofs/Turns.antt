-- Laws that the code's proofs cite: a line, and what one more line leaves.
use mathlib.Core.Path.{◌≡◌}
use mathlib.Core.List.{List, [], ◌∷◌, ◌++◌, map, flat_map, append-nil, map-append}
use Prim.Native.Nat.{ℕ, ◌+◌, ◌≤◌, ◌<◌}
use native.Mathlib.Numerals.{add-one}
use lib.ListN.{length, get_or, take}
use lib.Seq.{take_all, take-suc}
use Rattle.memo.proofs.Lists.{flat_map_append}
use Rattle.places.specs.Walk.{clause_at}
use Rattle.text.specs.Text.{decimal, spaced}
use Rattle.listing.specs.Line.{newline, line}

pub line_none : {ls : List ℕ} → ls ≡ [] → line ls ≡ newline
unfolding line
line_none e = rw e

pub line_some : {ls : List ℕ} (l : ℕ) (rest : List ℕ) → ls ≡ l ∷ rest → line ls ≡ decimal l ++ (flat_map spaced rest ++ newline)
unfolding line
line_some l rest e = rw e

module _ (log places : List ℕ) where
  pub lines_more : (i : ℕ) → i < length places
      → flat_map line (map (clause_at log) (take (i + 1) places)) ≡ flat_map line (map (clause_at log) (take i places)) ++ line (clause_at log (get_or places i 0))
  unfolding flat_map
  lines_more i h = rw (add-one, take-suc places i 0 h, map-append (clause_at log) (take i places) (get_or places i 0 ∷ []), flat_map_append line (map (clause_at log) (take i places)), append-nil (line (clause_at log (get_or places i 0))))

  pub lines_all : (i : ℕ) → length places ≤ i → flat_map line (map (clause_at log) (take i places)) ≡ flat_map line (map (clause_at log) places)
  lines_all i h = rw (take_all i places h)
