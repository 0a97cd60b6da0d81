-- A sheet is not longer than the most: a line has at most four bytes for each byte of its record, and the numbers of the other lines are low.
use mathlib.Core.Path.{◌≡◌, refl, ◌∙◌, ap}
use mathlib.Core.List.{List, [], ◌∷◌, flat_map}
use Prim.Native.Nat.{ℕ, zero, suc, ◌+◌, ◌*◌, ◌^◌, ◌≤◌, ◌<◌}
use native.Mathlib.Omega.{arith}
use lib.ListN.{length, length-append}
use Rattle.sizes.specs.Sizes.{most_bytes, most_nodes}
use Rattle.number.specs.Number.{encode}
use Rattle.number.proofs.Laws.{encode_some, encode_length}
use Rattle.memo.proofs.Lists.{length_perm, flat_map_append, flat_map_perm}
use Rattle.record.specs.Record.{Record, sum, derivation, clause, deletion, numbers, bytes, clauses}
use Rattle.record.proofs.Bytes.{two_bytes}
use Rattle.player.specs.Formed.{Limits}
use Rattle.player.specs.Player.{Outcome, outcome, played}
use Rattle.player.proofs.Counts.{all_keep}
use Rattle.player.proofs.Endings.{ending}
use Rattle.player.proofs.Limits.{limits_start, limits_act, few_nodes_lem}
use Rattle.player.proofs.Plays.{outcome_number, outcome_place}
use Rattle.player.proofs.Scripts.{accepted_reads, passes_is}
use Rattle.player.proofs.Sound.{sound_start}
use Rattle.text.specs.Text.{decimal, spaced}
use Rattle.text.proofs.Laws.{decimal_length}
use Rattle.listing.specs.Line.{line}
use Rattle.lines.specs.Sheet.{header, refusal, sheet, most_sheet}
use Rattle.lines.proofs.Played.{log_fits}
use Rattle.lines.proofs.Printed.{printed, refused}

-- ---- lines

powers : (k : ℕ) → 128 ^ suc k ≤ 10 ^ (4 * k + 3)
powers zero = omega arith
powers (suc k) =
    let e : 4 * suc k + 3 ≡ suc (suc (suc (suc (4 * k + 3)))) = omega arith in
    rw e (omega (arith, powers k))

literal_length : (x : ℕ) → length (decimal x) + 1 ≤ 4 * length (encode x)
literal_length x = by (length (encode x)) refl
  where
    by : (n : ℕ) → length (encode x) ≡ n → length (decimal x) + 1 ≤ 4 * n
    by zero e = absurd (omega (arith, encode_some x))
    by (suc k) e =
        let low : x < 10 ^ (4 * k + 3) = omega (arith, (encode_length x (suc k) (omega arith)).0 (omega arith), powers k) in
        omega (arith, decimal_length x (4 * k + 3) (omega arith) low)

spaced_length : (ls : List ℕ) → length (flat_map spaced ls) ≤ 4 * length (flat_map encode ls)
unfolding flat_map
spaced_length [] = omega arith
spaced_length (l ∷ ls) = simp length-append (omega (arith, literal_length l, spaced_length ls))

line_length : (ls : List ℕ) → (length (line ls) ≤ 4 * length (flat_map encode ls) + 1) × (0 < length (line ls))
unfolding line flat_map
line_length [] = (omega arith, omega arith)
line_length (l ∷ ls) = simp length-append (omega (arith, literal_length l, spaced_length ls))

lines_some : (cs : List (List ℕ)) → length cs ≤ length (flat_map line cs)
unfolding flat_map
lines_some [] = omega arith
lines_some (c ∷ cs) = simp length-append (omega (arith, (line_length c).1, lines_some cs))

more_bytes : (r : Record) (rs : List Record) → length (bytes (r ∷ rs)) ≡ length (flat_map encode (numbers r)) + length (bytes rs)
unfolding bytes flat_map
more_bytes r rs = rw (flat_map_append encode (numbers r) (flat_map numbers rs)) (simp length-append)

clause_bytes : (s : ℕ) (ls : List ℕ) → length (flat_map encode ls) + 3 ≤ length (flat_map encode (numbers (clause s ls)))
unfolding numbers flat_map
clause_bytes s ls = simp length-append (omega (arith, encode_some 3, encode_some s, encode_some (length ls)))

lines_length : (rs : List Record) → length (flat_map line (clauses rs)) ≤ 4 * length (bytes rs)
unfolding flat_map clauses
lines_length [] = omega arith
lines_length (sum w ts b ∷ rs) = omega (arith, more_bytes (sum w ts b) rs, lines_length rs)
lines_length (derivation ks ∷ rs) = omega (arith, more_bytes (derivation ks) rs, lines_length rs)
lines_length (clause s ls ∷ rs) = simp length-append (omega (arith, more_bytes (clause s ls) rs, clause_bytes s ls, (line_length ls).0, lines_length rs))
lines_length (deletion ss ∷ rs) = omega (arith, more_bytes (deletion ss) rs, lines_length rs)

-- ---- the first line

header_length : (n s c : ℕ) → n < 10 ^ 10 → s < 10 ^ 10 → c < 10 ^ 10 → length (header n s c) ≤ 53
unfolding header
header_length n s c h k l =
    simp length-append (omega (arith, decimal_length n 10 (omega arith) h, decimal_length s 10 (omega arith) k, decimal_length c 10 (omega arith) l))

refusal_length : (n c : ℕ) → n < 10 ^ 10 → c < 10 ^ 10 → length (refusal n c) ≤ 33
unfolding refusal
refusal_length n c h k = simp length-append (omega (arith, decimal_length n 10 (omega arith) h, decimal_length c 10 (omega arith) k))

-- ---- low numbers

nodes_most : (bs : List ℕ) (capacity : ℕ) → (played bs capacity).number ≡ 0 → (played bs capacity).nodes ≤ most_nodes
unfolding outcome
nodes_most bs capacity e =
    let a = accepted_reads bs capacity e in
    let h = a.0 in
    rw (passes_is a.2) (few_nodes_lem (all_keep (Limits h) (limits_act h) a.2.all (sound_start h) (limits_start h)))

refusal_low : (bs : List ℕ) (capacity n : ℕ) → (played bs capacity).number ≡ suc n
    → ((played bs capacity).number ≤ 15) × ((played bs capacity).place ≤ most_bytes + 1)
refusal_low bs capacity n e =
    let k = ending bs capacity in
    let low : k.number ≤ 15 = k.number_low in
    let number : (played bs capacity).number ≡ k.number = ap (λ (o : Outcome). o.number) k.is ∙ outcome_number capacity k.number k.place k.state in
    let place : (played bs capacity).place ≡ k.place = ap (λ (o : Outcome). o.place) k.is ∙ outcome_place capacity k.number k.place k.state in
    (omega arith, omega (arith, k.place_low))

-- ---- the sheet

pub sheet_length : (bs : List ℕ) → length (sheet bs) ≤ most_sheet
sheet_length bs = by (played bs most_bytes).number refl
  where
    by : (n : ℕ) → (played bs most_bytes).number ≡ n → length (sheet bs) ≤ most_sheet
    by zero e =
        let o = played bs most_bytes in
        let k = printed bs e in
        let room = log_fits bs most_bytes k.0 k.1 in
        let lines = lines_length k.0 in
        let first = header_length o.nodes o.steps o.clauses (omega (arith, nodes_most bs most_bytes e))
        (omega (arith, k.1.steps_are, two_bytes k.0)) (omega (arith, k.1.clauses_are, lines_some (clauses k.0))) in
        rw k.2.is (simp length-append (omega (arith, length_perm (flat_map_perm line k.2.each_as_often))))
    by (suc n) e =
        let low = refusal_low bs most_bytes n e in
        rw (refused bs n e) (omega (arith, refusal_length (suc n) (played bs most_bytes).place (omega arith) (omega arith)))
