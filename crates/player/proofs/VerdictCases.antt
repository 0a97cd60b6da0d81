-- Each question answered no by a script worked out, and a script that passes: the verdicts have scripts.
use mathlib.Core.Path.{◌≡◌, refl}
use mathlib.Core.Bool.{Bool, true, ◌&&◌}
use mathlib.Core.List.{List, [], ◌∷◌, ◌++◌, flat_map}
use Prim.Native.Nat.{ℕ, ◌*◌}
use borrow.Author.Tests.{eqb-true}
use lib.Dec.{eqb}
use Rattle.memo.proofs.Booleans.{and_true}
use Rattle.number.specs.Number.{Bytes}
use Rattle.totdb.specs.Nodes.{range}
use Rattle.cert.specs.State.{State, Head}
use Rattle.player.specs.Player.{played}
use Rattle.player.specs.Verdict.{Reached, Verdict}
use Rattle.player.specs.declared.Command.{Command}
use Rattle.player.proofs.Coding.{are_bytes, bytes_tested}
use Rattle.player.proofs.Judged.{accepted_whole, verdict_of}

-- A script and a log's length, with the number and the place that they come to.
pub record Case : Type 0 where
  pub script : List ℕ
  pub capacity : ℕ
  pub number : ℕ
  pub place : ℕ

case : List ℕ → ℕ → ℕ → ℕ → Case
case bs c n p = record { script = bs; capacity = c; number = n; place = p }

pub record Met (c : Case) : Type 0 where
  pub bytes : Bytes c.script
  pub state : State
  pub verdict : Verdict c.script c.capacity c.number c.place state

-- The player comes to them.
unfoldable comes : Case → Bool
unfolding are_bytes played
comes c =
    let o = played c.script c.capacity in
    are_bytes c.script && (eqb o.number c.number && eqb o.place c.place)

met_by : (c : Case) → Bytes c.script → (played c.script c.capacity).number ≡ c.number → (played c.script c.capacity).place ≡ c.place
    → Met c
met_by c w n p = let v = verdict_of c.script c.capacity w in record { bytes = w; state = v.0; verdict = rw (n, p) at v.1 }

met : (c : Case) → comes c ≡ true → Met c
unfolding comes
met c e =
    let o = played c.script c.capacity in
    let p = and_true (are_bytes c.script) (eqb o.number c.number && eqb o.place c.place) e in
    let q = and_true (eqb o.number c.number) (eqb o.place c.place) p.1 in
    met_by c (bytes_tested c.script p.0) (eqb-true o.number c.number q.0) (eqb-true o.place c.place q.1)

unfoldable pub Each : List Case → Type 0
Each [] = Unit {0}
Each (c ∷ cs) = Met c × Each cs

unfoldable all_come : List Case → Bool
unfolding comes
all_come [] = true
all_come (c ∷ cs) = comes c && all_come cs

each : (cs : List Case) → all_come cs ≡ true → Each cs
unfolding Each all_come
each [] e = tt
each (c ∷ cs) e = let p = and_true (comes c) (all_come cs) e in (met c p.0, each cs p.1)

-- first output variable 3, first step 1, then the leaves 0, 2 and 4, which are the nodes 0, 1 and 2; then their first two joined, node 3
leaves : List ℕ
leaves = 3 ∷ 1 ∷ 1 ∷ 0 ∷ 1 ∷ 2 ∷ 1 ∷ 4 ∷ []

joined : List ℕ
joined = leaves ++ (2 ∷ 0 ∷ 0 ∷ 0 ∷ 1 ∷ 0 ∷ 0 ∷ [])

-- 64 leaves, then one more
many : List ℕ
many = (100 ∷ 1 ∷ flat_map (λ (i : ℕ). 1 ∷ (2 * i) ∷ []) (range 0 64)) ++ (1 ∷ 0x80 ∷ 1 ∷ [])

-- two leaves, then their join 256 times
often : List ℕ
often = 3 ∷ 1 ∷ 1 ∷ 0 ∷ 1 ∷ 2 ∷ flat_map (λ (i : ℕ). 2 ∷ 0 ∷ 0 ∷ 0 ∷ 1 ∷ 0 ∷ 0 ∷ []) (range 0 256)

unfoldable pub cases : List Case
unfolding case leaves joined many often
cases =
    -- 1: a log too long
    case (3 ∷ 1 ∷ []) 65537 1 0
    -- 2: a head number does not read
    ∷ case (3 ∷ []) 0 2 0
    -- 2: a head number of five groups, before 3 is put to the other
    ∷ case (0x80 ∷ 0x80 ∷ 0x80 ∷ 0x80 ∷ 1 ∷ 0 ∷ []) 0 2 0
    -- 3: a variable and a step past 100,000,000, the largest number, and step 0
    ∷ case (0x81 ∷ 0xc2 ∷ 0xd7 ∷ 0x2f ∷ 1 ∷ []) 0 3 0
    ∷ case (3 ∷ 0x81 ∷ 0xc2 ∷ 0xd7 ∷ 0x2f ∷ []) 0 3 0
    ∷ case (0xff ∷ 0xff ∷ 0xff ∷ 0x7f ∷ 1 ∷ []) 0 3 0
    ∷ case (3 ∷ 0 ∷ []) 0 3 0
    -- 2: a code that does not read, and a number after a code
    ∷ case (leaves ++ (0x80 ∷ 0 ∷ [])) 0 2 4
    ∷ case (leaves ++ (1 ∷ [])) 0 2 4
    -- 4, 5
    ∷ case (leaves ++ (4 ∷ 9 ∷ [])) 2 4 5
    ∷ case (leaves ++ (0 ∷ [])) 0 5 4
    ∷ case (leaves ++ (5 ∷ [])) 0 5 4
    -- 6, 7: the first output variable; a negation; a 65th
    ∷ case (leaves ++ (1 ∷ 6 ∷ [])) 0 6 4
    ∷ case (leaves ++ (1 ∷ 1 ∷ [])) 0 7 4
    ∷ case many 0 7 65
    -- 8
    ∷ case (leaves ++ (2 ∷ 3 ∷ 0 ∷ 0 ∷ 0 ∷ 0 ∷ 0 ∷ [])) 0 8 4
    ∷ case (leaves ++ (2 ∷ 0 ∷ 0 ∷ 0 ∷ 3 ∷ 0 ∷ 0 ∷ [])) 0 8 4
    ∷ case (leaves ++ (3 ∷ 3 ∷ 1 ∷ 1 ∷ [])) 0 8 4
    -- 9: one node twice; a join over a leaf, left and right; two windows of one join; two joins over a leaf, one through a window that hides it
    ∷ case (leaves ++ (2 ∷ 0 ∷ 0 ∷ 0 ∷ 0 ∷ 0 ∷ 0 ∷ [])) 0 9 4
    ∷ case (joined ++ (2 ∷ 3 ∷ 0 ∷ 0 ∷ 1 ∷ 0 ∷ 0 ∷ [])) 0 9 5
    ∷ case (joined ++ (2 ∷ 0 ∷ 0 ∷ 0 ∷ 3 ∷ 0 ∷ 1 ∷ [])) 0 9 5
    ∷ case (joined ++ (2 ∷ 3 ∷ 0 ∷ 1 ∷ 3 ∷ 1 ∷ 0 ∷ [])) 0 9 5
    ∷ case (joined ++ (2 ∷ 3 ∷ 1 ∷ 0 ∷ 2 ∷ 0 ∷ 0 ∷ 2 ∷ 4 ∷ 0 ∷ 1 ∷ 3 ∷ 0 ∷ 0 ∷ [])) 0 9 6
    -- 15: a 256th join
    ∷ case often 0 15 258
    -- 10: an offset, a limit past the rest, one past the length, of a leaf and of a join
    ∷ case (joined ++ (2 ∷ 3 ∷ 2 ∷ 0 ∷ 2 ∷ 0 ∷ 0 ∷ [])) 0 10 5
    ∷ case (joined ++ (2 ∷ 3 ∷ 1 ∷ 2 ∷ 2 ∷ 0 ∷ 0 ∷ [])) 0 10 5
    ∷ case (joined ++ (2 ∷ 2 ∷ 0 ∷ 2 ∷ 3 ∷ 0 ∷ 0 ∷ [])) 0 10 5
    ∷ case (joined ++ (2 ∷ 2 ∷ 0 ∷ 0 ∷ 3 ∷ 0 ∷ 3 ∷ [])) 0 10 5
    -- 11, 12: both ends
    ∷ case (joined ++ (3 ∷ 3 ∷ 0 ∷ 1 ∷ [])) 0 11 5
    ∷ case (joined ++ (3 ∷ 3 ∷ 3 ∷ 1 ∷ [])) 0 11 5
    ∷ case (joined ++ (3 ∷ 3 ∷ 2 ∷ 0 ∷ [])) 0 12 5
    ∷ case (joined ++ (3 ∷ 3 ∷ 2 ∷ 4 ∷ [])) 0 12 5
    -- 14: a close takes two bytes
    ∷ case (leaves ++ (4 ∷ [])) 1 14 4
    -- none: a node under two joins; a limit that is the whole length, of a leaf and of a join; the largest head
    ∷ case (joined ++ (2 ∷ 0 ∷ 0 ∷ 0 ∷ 2 ∷ 0 ∷ 0 ∷ [])) 0 0 5
    ∷ case (joined ++ (2 ∷ 2 ∷ 0 ∷ 1 ∷ 3 ∷ 0 ∷ 2 ∷ [])) 0 0 5
    ∷ case (leaves ++ (4 ∷ [])) 2 0 4
    ∷ case (0x80 ∷ 0xc2 ∷ 0xd7 ∷ 0x2f ∷ 0x80 ∷ 0xc2 ∷ 0xd7 ∷ 0x2f ∷ []) 0 0 0
    ∷ []

pub all_met : Each cases
unfolding cases case leaves joined many often all_come
all_met = each cases refl

-- A script that passes: leaves and a close.
unfoldable pub closed : List ℕ
unfolding leaves
closed = leaves ++ (4 ∷ [])

pub met_reached : (h : Head) × (cs : List Command) × (s : State) × Reached closed 2 h cs s []
unfolding closed leaves are_bytes played
met_reached = accepted_whole refl (verdict_of closed 2 (bytes_tested closed refl)).1
