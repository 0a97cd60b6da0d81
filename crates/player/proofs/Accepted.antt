-- A script is that of one head and one list of commands, and an accepted one has reached its end.
use mathlib.Core.Path.{◌≡◌, refl, sym, ◌∙◌, ap}
use mathlib.Core.Bool.{Bool, true, ◌&&◌}
use mathlib.Core.Logic.{⊎_elim}
use mathlib.Core.List.Memᴰ
use mathlib.Core.List.{List, [], ◌∷◌, ◌++◌, flat_map, append_assoc, append-nil, Memᴰ}
use Prim.Native.Nat.{ℕ, ◌≤◌}
use native.Mathlib.Omega.{arith}
use borrow.Author.Tests.{leb-true}
use lib.Dec.{leb}
use lib.ListN.{length}
use Rattle.memo.proofs.Booleans.{and_true}
use Rattle.number.specs.Number.{groups, Bytes, encode, read_in}
use Rattle.memo.proofs.Lists.{flat_map_append}
use Rattle.totdb.specs.declared.Side.{Side}
use Rattle.cert.specs.State.{State, Head}
use Rattle.player.specs.Player.{played}
use Rattle.player.specs.Script.{command_numbers, script_bytes}
use Rattle.player.specs.Verdict.{Reads, IsScript, Reached, at_head, one_more}
use Rattle.player.specs.declared.Command.{Command}
use Rattle.player.specs.declared.Command.TheVariants.{Leaf, Join, Request, Close}
use Rattle.player.proofs.Fronts.{reads_both, reads_nil, none_stands}
use Rattle.player.proofs.Judged.{accepted_whole, verdict_of}

-- ---- numbers

reads_join : {bs ns mid ms rest : List ℕ} → Reads bs ns mid → Reads mid ms rest → Reads bs (ns ++ ms) rest
reads_join {bs} {ns} {mid} {ms} {rest} j k = record {
  coded = j.coded ∙ ap (λ (u : List ℕ). flat_map encode ns ++ u) k.coded ∙ sym (append_assoc (flat_map encode ns) (flat_map encode ms) rest)
      ∙ ap (λ (u : List ℕ). u ++ rest) (sym (flat_map_append encode ns ms));
  short = λ x m. ⊎_elim (j.short x) (k.short x) (Memᴰ.append_cases ns m);
}

nothing_reads : {ns rest : List ℕ} {x : ℕ} → Reads [] (x ∷ ns) rest → ⊥
unfolding read_in
nothing_reads k = none_stands refl k

reads_same : (ns ms : List ℕ) {bs : List ℕ} → Reads bs ns [] → Reads bs ms [] → ns ≡ ms
reads_same [] [] j k = refl
reads_same [] (y ∷ ms) j k = absurd (nothing_reads (rw (reads_nil j) at k))
reads_same (x ∷ ns) [] j k = absurd (nothing_reads (rw (reads_nil k) at j))
reads_same (x ∷ ns) (y ∷ ms) j k = let p = reads_both j k in rw (p.0, reads_same ns ms p.2 p.3)

-- ---- commands

side_same : {n m f g k j : ℕ} → n ≡ m → f ≡ g → k ≡ j
    → ◌≡◌ {A = Side} (record { node = n; offset = f; limit = k }) (record { node = m; offset = g; limit = j })
side_same p q r = rw (p, q, r)

head_same : {v u n m : ℕ} → v ≡ u → n ≡ m → ◌≡◌ {A = Head} (record { variable = v; step = n }) (record { variable = u; step = m })
head_same p q = rw (p, q)

commands_same : (cs es : List Command) → flat_map command_numbers cs ≡ flat_map command_numbers es → cs ≡ es
unfolding flat_map command_numbers
commands_same [] [] e = refl
commands_same [] (Leaf m ∷ es) e = absurd (let z : ◌≡◌ {A = ℕ} 0 1 = cc in omega arith)
commands_same [] (Join a b ∷ es) e = absurd (let z : ◌≡◌ {A = ℕ} 0 1 = cc in omega arith)
commands_same [] (Request n v d ∷ es) e = absurd (let z : ◌≡◌ {A = ℕ} 0 1 = cc in omega arith)
commands_same [] (Close ∷ es) e = absurd (let z : ◌≡◌ {A = ℕ} 0 1 = cc in omega arith)
commands_same (Leaf l ∷ cs) [] e = absurd (let z : ◌≡◌ {A = ℕ} 0 1 = cc in omega arith)
commands_same (Leaf l ∷ cs) (Leaf m ∷ es) e = let p : l ≡ m = cc in let q = commands_same cs es cc in rw (p, q)
commands_same (Leaf l ∷ cs) (Join a b ∷ es) e = absurd (let z : ◌≡◌ {A = ℕ} 1 2 = cc in omega arith)
commands_same (Leaf l ∷ cs) (Request n v d ∷ es) e = absurd (let z : ◌≡◌ {A = ℕ} 1 3 = cc in omega arith)
commands_same (Leaf l ∷ cs) (Close ∷ es) e = absurd (let z : ◌≡◌ {A = ℕ} 1 4 = cc in omega arith)
commands_same (Join l r ∷ cs) [] e = absurd (let z : ◌≡◌ {A = ℕ} 0 1 = cc in omega arith)
commands_same (Join l r ∷ cs) (Leaf m ∷ es) e = absurd (let z : ◌≡◌ {A = ℕ} 1 2 = cc in omega arith)
commands_same (Join l r ∷ cs) (Join a b ∷ es) e =
    let ln : l.node ≡ a.node = cc in
    let lf : l.offset ≡ a.offset = cc in
    let lk : l.limit ≡ a.limit = cc in
    let rn : r.node ≡ b.node = cc in
    let rf : r.offset ≡ b.offset = cc in
    let rk : r.limit ≡ b.limit = cc in
    let p : l ≡ a = side_same ln lf lk in
    let q : r ≡ b = side_same rn rf rk in
    let s = commands_same cs es cc in
    rw (p, q, s)
commands_same (Join l r ∷ cs) (Request n v d ∷ es) e = absurd (let z : ◌≡◌ {A = ℕ} 2 3 = cc in omega arith)
commands_same (Join l r ∷ cs) (Close ∷ es) e = absurd (let z : ◌≡◌ {A = ℕ} 2 4 = cc in omega arith)
commands_same (Request m w c ∷ cs) [] e = absurd (let z : ◌≡◌ {A = ℕ} 0 1 = cc in omega arith)
commands_same (Request m w c ∷ cs) (Leaf l ∷ es) e = absurd (let z : ◌≡◌ {A = ℕ} 1 3 = cc in omega arith)
commands_same (Request m w c ∷ cs) (Join a b ∷ es) e = absurd (let z : ◌≡◌ {A = ℕ} 2 3 = cc in omega arith)
commands_same (Request m w c ∷ cs) (Request n v d ∷ es) e =
    let p : m ≡ n = cc in
    let q : w ≡ v = cc in
    let r : c ≡ d = cc in
    let s = commands_same cs es cc in
    rw (p, q, r, s)
commands_same (Request m w c ∷ cs) (Close ∷ es) e = absurd (let z : ◌≡◌ {A = ℕ} 3 4 = cc in omega arith)
commands_same (Close ∷ cs) [] e = absurd (let z : ◌≡◌ {A = ℕ} 0 1 = cc in omega arith)
commands_same (Close ∷ cs) (Leaf l ∷ es) e = absurd (let z : ◌≡◌ {A = ℕ} 1 4 = cc in omega arith)
commands_same (Close ∷ cs) (Join a b ∷ es) e = absurd (let z : ◌≡◌ {A = ℕ} 2 4 = cc in omega arith)
commands_same (Close ∷ cs) (Request n v d ∷ es) e = absurd (let z : ◌≡◌ {A = ℕ} 3 4 = cc in omega arith)
commands_same (Close ∷ cs) (Close ∷ es) e = let q = commands_same cs es cc in rw q

-- ---- scripts

reached_reads : {bs : List ℕ} {capacity : ℕ} {h : Head} {cs : List Command} {s : State} {rest : List ℕ} → Reached bs capacity h cs s rest
    → Reads bs (h.variable ∷ h.step ∷ flat_map command_numbers cs) rest
unfolding flat_map
reached_reads (at_head short small k v one n) = k
reached_reads {h = h} (one_more {cs = cs} {rest = rest} {c = c} r unclosed k none) =
    let ns : List ℕ = h.variable ∷ h.step ∷ flat_map command_numbers cs in
    let e : flat_map command_numbers (cs ++ (c ∷ [])) ≡ flat_map command_numbers cs ++ command_numbers c =
    flat_map_append command_numbers cs (c ∷ []) ∙ ap (λ (u : List ℕ). flat_map command_numbers cs ++ u) (append-nil (command_numbers c)) in
    rw e (reads_join {ns = ns} {ms = command_numbers c} (reached_reads r) k)

-- An accepted script has reached its end, by the head and the commands that it is the script of.
pub accepted_reached : {bs : List ℕ} {capacity : ℕ} {h : Head} {cs : List Command} → Bytes bs → IsScript bs h cs → (played bs capacity).number ≡ 0
    → (s : State) × Reached bs capacity h cs s []
accepted_reached {bs} {capacity} {h} {cs} w i e =
    let r = accepted_whole e (verdict_of bs capacity w).1 in
    let same = reads_same (r.0.variable ∷ r.0.step ∷ flat_map command_numbers r.1) (h.variable ∷ h.step ∷ flat_map command_numbers cs)
    (reached_reads r.3) i in
    let v : r.0.variable ≡ h.variable = cc in
    let n : r.0.step ≡ h.step = cc in
    let head : r.0 ≡ h = head_same v n in
    let list = commands_same r.1 cs cc in
    (r.2, rw (head, list) at r.3)

-- ---- the script of a head and commands, by a test that computes

unfoldable pub are_short : List ℕ → Bool
unfolding encode
are_short [] = true
are_short (x ∷ ns) = leb (length (encode x)) groups && are_short ns

pub short_tested : (ns : List ℕ) → are_short ns ≡ true → (x : ℕ) → Memᴰ x ns → length (encode x) ≤ groups
unfolding are_short
short_tested [] e x m = absurd (Memᴰ.not-nil m)
short_tested (n ∷ ns) e x m =
    let t = and_true (leb (length (encode n)) groups) (are_short ns) e in
    ⊎_elim (λ q. rw q (leb-true (length (encode n)) groups t.0)) (short_tested ns t.1 x) (Memᴰ.cases_cons m)

pub script_tested : (bs : List ℕ) (h : Head) (cs : List Command) → bs ≡ script_bytes h cs
    → are_short (h.variable ∷ h.step ∷ flat_map command_numbers cs) ≡ true → IsScript bs h cs
unfolding script_bytes
script_tested bs h cs e t =
    record { coded = e ∙ sym (append-nil (script_bytes h cs)); short = short_tested (h.variable ∷ h.step ∷ flat_map command_numbers cs) t }
