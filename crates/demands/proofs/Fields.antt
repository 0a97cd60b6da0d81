-- Document 02, §2: numbers of four groups, and the head's limits.
use mathlib.Core.Path.{◌≡◌, refl, ◌∙◌, ap, subst}
use mathlib.Core.Logic.{◌⊎◌, inl, inr, ◌≢◌, ⊎_elim}
use mathlib.Core.List.Memᴰ
use mathlib.Core.List.{List, [], ◌∷◌, ◌++◌, flat_map, append_assoc, append-nil, Memᴰ}
use Prim.Native.Nat.{ℕ, suc, ◌≤◌, ◌<◌}
use native.Mathlib.Decide.{dec_le}
use native.Mathlib.Omega.{arith}
use lib.ListN.{length, length-append}
use Rattle.number.specs.Number.{Bytes, encode}
use Rattle.number.proofs.Laws.{encode_some, encode_length, read_encode, read_number, read_in-over}
use Rattle.record.specs.Record.{numbers, bytes}
use Rattle.record.proofs.Decode.{Small}
use Rattle.cert.specs.State.{State, Head}
use Rattle.player.specs.Player.{Outcome, played}
use Rattle.player.specs.Script.{command_numbers}
use Rattle.player.specs.Verdict.{Reads, Reached, Verdict, no_1, no_2_head, no_3, no_2_code, no_4, no_5, no_2, no_more, passed}
use Rattle.player.specs.declared.Command.{Command}
use Rattle.player.specs.declared.Command.TheVariants.{Leaf, Join, Request, Close}
use Rattle.player.proofs.Fronts.{reads_nil, reads_both, reads_split, none_stands, reads_command}
use Rattle.player.proofs.Judged.{number_used, verdict_of, verdict_is}
use Rattle.player.proofs.Questions.{first_holds}
use Rattle.player.proofs.Plays.{outcome_number, outcome_place}
use Rattle.demands.specs.Fields.{FifthGroup, GoesOn, RefusedBy, BigFields}
use Rattle.demands.proofs.Holds.{held_log}

-- ---- what reads at one place

cons_same : {x y : ℕ} {ns ms : List ℕ} → y ≡ x → ms ≡ ns → y ∷ ms ≡ x ∷ ns
cons_same p q = rw (p, q)

-- Of two lists of numbers one is the start of the other, and what is left of it reads after that.
common : (ns ms : List ℕ) {bs r q : List ℕ} → Reads bs ns r → Reads bs ms q → length ns ≤ length ms → (more : List ℕ) × (ms ≡ ns ++ more) × Reads r more q
common [] ms j k l = (ms, refl, rw (reads_nil j) at k)
common (x ∷ ns) [] j k l = absurd (omega arith)
common (x ∷ ns) (y ∷ ms) j k l =
    let p = reads_both j k in
    let t = common ns ms p.2 p.3 (omega arith) in
    (t.0, cons_same p.0 t.1, t.2)

-- ---- a fifth group

none_reads : {bs ms rest : List ℕ} {x : ℕ} → FifthGroup bs → Reads bs (x ∷ ms) rest → ⊥
none_reads {bs} f k = none_stands (read_in-over 4 bs (λ i l. omega (arith, f i (omega arith)))) k

-- No numbers that go on there read.
none_longer : {bs rest q : List ℕ} (ns ms : List ℕ) → Reads bs ns rest → FifthGroup rest → length ns < length ms → Reads bs ms q → ⊥
none_longer {bs} {rest} {q} ns ms j f l k = let t = common ns ms j k (omega arith) in by t.0 t.1 t.2
  where
    by : (more : List ℕ) → ms ≡ ns ++ more → Reads rest more q → ⊥
    by [] e r = omega (arith, ap length e, length-append ns [])
    by (x ∷ more) e r = none_reads f r

-- The numbers of a command are not the start of another's: what the player reads there would be either.
prefix_free : {bs : List ℕ} (c d : Command) (x : ℕ) (more : List ℕ) → Reads bs (command_numbers c) [] → command_numbers c ≡ command_numbers d ++ (x ∷ more) → ⊥
unfolding flat_map
prefix_free {bs} c d x more k e =
    let one = reads_command {c = c} k in
    let other = reads_command {c = d} (reads_split (command_numbers d) (x ∷ more) (subst (λ (ns : List ℕ). Reads bs ns []) e k)) in
    let same : [] ≡ flat_map encode (x ∷ more) ++ [] = cc in
    omega (arith, ap length same, encode_some x, length-append (flat_map encode (x ∷ more)) [], length-append (encode x) (flat_map encode more))

code_low : (c : Command) (x : ℕ) (ms : List ℕ) → command_numbers c ≡ x ∷ ms → (1 ≤ x) × (x ≤ 4)
unfolding command_numbers
code_low (Leaf l) x ms e = let z : 1 ≡ x = cc in (omega arith, omega arith)
code_low (Join l r) x ms e = let z : 2 ≡ x = cc in (omega arith, omega arith)
code_low (Request n v d) x ms e = let z : 3 ≡ x = cc in (omega arith, omega arith)
code_low Close x ms e = let z : 4 ≡ x = cc in (omega arith, omega arith)

-- No command reads where its numbers go on with a fifth group.
none_command : {here rest r : List ℕ} (ns : List ℕ) (d : Command) → Reads here ns rest → GoesOn ns → FifthGroup rest → Reads here (command_numbers d) r → ⊥
none_command ns d j (bs, c, x, more, reads, e) f k = by (dec_le (length (command_numbers d)) (length ns))
  where
    by : Dec (length (command_numbers d) ≤ length ns) → ⊥
    by (yes l) = let t = common (command_numbers d) ns k j l in next t.0 t.1
      where
        next : (ms : List ℕ) → ns ≡ command_numbers d ++ ms → ⊥
        next [] p = prefix_free c d x more reads (e ∙ rw (p, append-nil (command_numbers d)))
        next (y ∷ ms) p = prefix_free c d y (ms ++ (x ∷ more)) reads (e ∙ rw (p, append_assoc (command_numbers d) (y ∷ ms) (x ∷ more)))
    by (no l) = none_longer ns (command_numbers d) j f (omega arith) k

-- ---- question 3

-- Only a head out of range is refused by 3.
three : {bs : List ℕ} {capacity m p : ℕ} {s : State} → m ≡ 3 → Verdict bs capacity m p s
    → (v : ℕ) × (n : ℕ) × (rest : List ℕ) × Reads bs (v ∷ n ∷ []) rest × ((100000000 < v) ⊎ ((n < 1) ⊎ (100000000 < n)))
three e (no_1 o) = absurd (omega arith)
three e (no_2_head short small none) = absurd (omega arith)
three e (no_3 {v = v} {n = n} {rest = rest} short small k o) = (v, n, rest, k, o)
three e (no_2_code r some none) = absurd (omega arith)
three e (no_4 r k m) = absurd (omega arith)
three e (no_5 r k unclosed o) = absurd (omega arith)
three e (no_2 r k unclosed i j none) = absurd (omega arith)
three e (no_more r unclosed k f) = absurd (omega (arith, (number_used (first_holds f)).0, e))
three e (passed r) = absurd (omega arith)

-- ---- the claim

refused_by : {bs : List ℕ} {capacity n p : ℕ} {s : State} → Bytes bs → Verdict bs capacity n p s → RefusedBy n p (played bs capacity)
refused_by {bs} {capacity} {n} {p} {s} w v =
    let e = verdict_is w v in
    (ap (λ (o : Outcome). o.number) e ∙ outcome_number capacity n p s, ap (λ (o : Outcome). o.place) e ∙ outcome_place capacity n p s)

small_low : (ns : List ℕ) → Small ns → (x : ℕ) → Memᴰ x ns → x ≤ 268435455
unfolding Small
small_low [] s x m = absurd (Memᴰ.not-nil m)
small_low (n ∷ ns) s x m = ⊎_elim (λ e. omega (arith, e, s.0)) (small_low ns s.1 x) (Memᴰ.cases_cons m)

fifth_of : (bs here rest ns : List ℕ) (capacity : ℕ) (h : Head) (cs : List Command) (s : State) → Bytes bs → Reached bs capacity h cs s here
    → Reads here ns rest → GoesOn ns → (ns ≢ [] → Memᴰ Close cs → ⊥) → FifthGroup rest → RefusedBy 2 (suc (length cs)) (played bs capacity)
fifth_of bs here rest [] capacity h cs s w r j g unclosed f =
    let at_code : FifthGroup here = rw (reads_nil j) f in
    refused_by w (no_2_code r (λ e. let k = rw e at (at_code 0 (omega arith)) in omega (arith, k)) (λ x more k. none_reads at_code k))
fifth_of bs here rest (x ∷ ns) capacity h cs s w r j g unclosed f =
    let low = code_low g.1 x _ g.5 in
    refused_by w
    (no_2 r (reads_split (x ∷ []) ns j) (unclosed (λ e. let z : ◌≡◌ {A = ℕ} 0 1 = cc in omega arith)) low.0 low.1 (λ d q k. none_command (x ∷ ns) d j g f k))

pub big_fields : BigFields
unfolding bytes
big_fields = record {
  four_groups = λ x. let k = encode_length x 4 (omega arith) in (λ l. omega (arith, k.0 l), λ l. k.1 (omega arith));
  reads = λ bs rest x w. (
    λ e. let k = read_number bs w e in (k.0, omega (arith, k.1)),
    λ k. rw k.0 (read_encode x rest (omega (arith, k.1))),
  );
  logs = λ bs capacity rs k. let l = held_log bs capacity rs k in (l.is, small_low (flat_map numbers rs) l.small);
  head = λ bs rest capacity v n w short small k. (
    λ r.
        let t = three r.0 (verdict_of bs capacity w).1 in
        let c = common (v ∷ n ∷ []) (t.0 ∷ t.1 ∷ []) k t.3 (omega arith) in
        let a : t.0 ≡ v = cc in
        let b : t.1 ≡ n = cc in
        ⊎_elim (λ l. inl (omega arith)) (⊎_elim (λ l. inr (inl (omega arith))) (λ l. inr (inr (omega arith)))) t.4,
    λ o. refused_by w (no_3 short small k (⊎_elim (λ l. inl (omega arith)) (⊎_elim (λ l. inr (inl (omega arith))) (λ l. inr (inr (omega arith)))) o)),
  );
  fifth_in_head = λ bs rest ns capacity w short small l j f. refused_by w (no_2_head short small (λ v n r k. none_longer ns (v ∷ n ∷ []) j f (omega arith) k));
  fifth = fifth_of;
}
