-- Facts alike at several lengths, for a general one: values, windows, leaves and the log's length at their limits.
use mathlib.Core.Path.{◌≡◌, refl, sym, ◌∙◌, ap, subst}
use mathlib.Core.Bool.{Bool, true, false, ◌&&◌}
use mathlib.Core.List.{List, [], ◌∷◌, ◌++◌, map, flat_map}
use Prim.Native.Nat.{ℕ, zero, suc, ◌+◌, ◌-◌, ◌*◌, ◌≤◌, ◌<◌}
use native.Mathlib.Omega.{arith}
use borrow.Author.Tests.{lt-ltb, le-ltb, le-leb, lt-leb, leb-true, leb-false}
use lib.Dec.{leb, ltb}
use lib.ListN.{length, take, replicate, length-append}
use lib.Seq.{take-append_seam}
use Rattle.sizes.specs.Sizes.{most_bytes, most_leaves, most_joins}
use Rattle.number.specs.Number.{encode}
use Rattle.pb.specs.Sum.{variable, neg}
use Rattle.memo.proofs.Lists.{flat_map_append}
use Rattle.record.specs.Record.{Record, numbers, bytes, derivation, clause, deletion}
use Rattle.totdb.specs.Nodes.{Node, leaf, join, node_at, leaves, len, range, known, leaf_count, join_count}
use Rattle.totdb.specs.Below.{share_leaf}
use Rattle.totdb.specs.declared.Side.{Side}
use Rattle.cert.specs.Definitions.{key_records}
use Rattle.cert.specs.Requests.{clause_tokens}
use Rattle.cert.specs.State.{State, start, step_in, define, write, hold, requests, Head, stored_steps}
use Rattle.cert.proofs.Apart.{sized_ok}
use Rattle.cert.proofs.LeavesBelow.{one_twice}
use Rattle.cert.proofs.Rules.{Ok, Below}
use Rattle.cert.proofs.Serving.{serve_in}
use Rattle.player.specs.Formed.{Sound}
use Rattle.player.specs.Passes.{AllPassed, all_done, all_more, Passes}
use Rattle.player.specs.Player.{first_no, ask, side_fits, questions, make, delete, act, plays, Outcome, outcome, played}
use Rattle.player.specs.Script.{Commands}
use Rattle.player.specs.Verdict.{OffNode, offset_high, limit_high}
use Rattle.player.specs.declared.Command.{Command}
use Rattle.player.proofs.Counts.{all_keep}
use Rattle.player.proofs.Questions.{answered_no, answered_yes, side_answer}
use Rattle.player.proofs.Plays.{side, ten, often, play_fits, play_full, plays_done, plays_accepted, plays_refused, outcome_number, start_empty}
use Rattle.player.proofs.Scripts.{accepted_reads, passes_plays, passes_is}
use Rattle.player.proofs.Sound.{sound_start, sound_act, request_fits, requests_asked}

-- ---- the value of a request

module _ (h : Head) (t : List Node) (n : ℕ) (there : n < length t) where
  -- Value 0 and every value above the length, the length + 1 among them, give 11, whatever the direction.
  pub value_zero : (d : ℕ) → first_no (questions h t (Command.Request n 0 d)) ≡ 11
  unfolding questions first_no
  value_zero d = rw (lt-ltb n (length t) there)

  pub value_above : (v d : ℕ) → len (node_at t n) < v → first_no (questions h t (Command.Request n v d)) ≡ 11
  unfolding questions first_no
  value_above v d g = rw (lt-ltb n (length t) there, le-leb 1 v (omega arith), lt-leb v (len (node_at t n)) g)

  pub value_within : (v d : ℕ) → 1 ≤ v → v ≤ len (node_at t n) → 1 ≤ d → d ≤ 3 → first_no (questions h t (Command.Request n v d)) ≡ 0
  unfolding questions first_no
  value_within v d g k e f = rw (lt-ltb n (length t) there, le-leb 1 v g, le-leb v (len (node_at t n)) k, le-leb 1 d e, le-leb d 3 f)

-- ---- the offset and the limit of a side

-- What questions 8, 9 and 15 ask of a join.
pub record Free (t : List Node) (l r : Side) : Type 0 where
  pub left : l.node < length t
  pub right : r.node < length t
  pub apart : share_leaf t l.node r.node ≡ false
  pub few : join_count t < most_joins

-- A side that question 10 lets pass.
pub record Inside (t : List Node) (s : Side) : Type 0 where
  pub below : s.offset < len (node_at t s.node)
  pub within : s.offset + s.limit ≤ len (node_at t s.node)

inside : (t : List Node) (s : Side) → Inside t s → side_fits t s ≡ true
inside t s i = answered_yes (side_answer t s) by
  where
    by : OffNode t s → ⊥
    by (offset_high l) = omega (arith, i.below)
    by (limit_high l) = omega (arith, i.within)

outside : (t : List Node) (s : Side) → OffNode t s → side_fits t s ≡ false
outside t s o = answered_no (side_answer t s) o

module _ (h : Head) (t : List Node) (l r : Side) (free : Free t l r) where
  pub asked_ten : first_no (questions h t (Command.Join l r)) ≡ first_no (ask 10 (side_fits t l && side_fits t r) ∷ [])
  unfolding questions first_no
  asked_ten =
      let left : ltb l.node (length t) ≡ true = lt-ltb l.node (length t) free.left in
      let right : ltb r.node (length t) ≡ true = lt-ltb r.node (length t) free.right in
      rw (left, right, free.apart, lt-ltb (join_count t) most_joins free.few)

  pub sides_inside : Inside t l → Inside t r → first_no (questions h t (Command.Join l r)) ≡ 0
  unfolding first_no
  sides_inside i j = asked_ten ∙ rw (inside t l i, inside t r j)

  pub left_outside : OffNode t l → first_no (questions h t (Command.Join l r)) ≡ 10
  unfolding first_no
  left_outside o = asked_ten ∙ rw (outside t l o)

  pub right_outside : OffNode t r → first_no (questions h t (Command.Join l r)) ≡ 10
  unfolding first_no
  right_outside o = asked_ten ∙ rw (outside t r o) (by (side_fits t l))
    where
      by : (b : Bool) → first_no (ask 10 (b && false) ∷ []) ≡ 10
      by true = refl
      by false = refl

-- A plain side lies in every node that has an output.
pub plain_inside : (t : List Node) (s : Side) → s.offset ≡ 0 → s.limit ≡ 0 → 1 ≤ len (node_at t s.node) → Inside t s
plain_inside t s e f h = record { below = omega arith; within = omega arith }

-- Beside a plain side and with no limit, the length - 1 is the last offset that passes.
module _ (h : Head) (t : List Node) (l r : Side) (free : Free t l r) (unlimited : l.limit ≡ 0)
    (r-offset : r.offset ≡ 0) (r-limit : r.limit ≡ 0) (r_some : 1 ≤ len (node_at t r.node)) where
  pub offset_last : l.offset + 1 ≡ len (node_at t l.node) → first_no (questions h t (Command.Join l r)) ≡ 0
  offset_last e =
      sides_inside h t l r free (record { below = omega arith; within = omega arith })
      (plain_inside t r r-offset r-limit r_some)

  pub offset_length : l.offset ≡ len (node_at t l.node) → first_no (questions h t (Command.Join l r)) ≡ 10
  offset_length e = left_outside h t l r free (offset_high (omega arith))

-- ---- the leaves below the sides of a join, and the number of joins

module _ (h : Head) (t : List Node) (l r : Side) (left : l.node < length t) (right : r.node < length t) where
  -- Questions 15 and 10 are not put.
  pub leaf_shared : share_leaf t l.node r.node ≡ true → first_no (questions h t (Command.Join l r)) ≡ 9
  unfolding questions first_no
  leaf_shared e = rw (lt-ltb l.node (length t) left, lt-ltb r.node (length t) right, e)

  -- One node twice, whatever the windows show.
  pub one_node : Ok t → l.node ≡ r.node → first_no (questions h t (Command.Join l r)) ≡ 9
  one_node ok e = leaf_shared (subst (λ (k : ℕ). share_leaf t l.node k ≡ true) e (one_twice t ok l.node left))

  -- Question 10 is not put.
  pub joins_full : share_leaf t l.node r.node ≡ false → most_joins ≤ join_count t → first_no (questions h t (Command.Join l r)) ≡ 15
  unfolding questions first_no
  joins_full e k = rw (lt-ltb l.node (length t) left, lt-ltb r.node (length t) right, e, le-ltb (join_count t) most_joins k)

-- ---- the leaves

module _ (h : Head) (t : List Node) (l : ℕ) (low : variable l < h.variable) (new : known t l ≡ false) (new-negated : known t (neg l) ≡ false) where
  pub leaves_few : leaf_count t < most_leaves → first_no (questions h t (Command.Leaf l)) ≡ 0
  unfolding questions first_no
  leaves_few k = rw (lt-ltb (variable l) h.variable low, new, new-negated, lt-ltb (leaf_count t) most_leaves k)

  pub leaves_full : most_leaves ≤ leaf_count t → first_no (questions h t (Command.Leaf l)) ≡ 7
  unfolding questions first_no
  leaves_full k = rw (lt-ltb (variable l) h.variable low, new, new-negated, le-ltb (leaf_count t) most_leaves k)

-- ---- the log's length: a command never shortens the log

pub bytes_length : (rs qs : List Record) → length (bytes (rs ++ qs)) ≡ length (bytes rs) + length (bytes qs)
unfolding bytes
bytes_length rs qs =
    rw (flat_map_append numbers rs qs, flat_map_append encode (flat_map numbers rs) (flat_map numbers qs))
    (length-append (flat_map encode (flat_map numbers rs)) (flat_map encode (flat_map numbers qs)))

bytes_grow : (n : ℕ) (rs qs : List Record) → n ≤ length (bytes rs) → n ≤ length (bytes (rs ++ qs))
bytes_grow n rs qs h = omega (arith, bytes_length rs qs)

grown_act : (n : ℕ) (h : Head) (c : Command) (s : State) → first_no (questions h s.nodes c) ≡ 0 → Sound h s → n ≤ length (bytes s.log)
    → n ≤ length (bytes (act c s).log)
unfolding act make define write hold delete
grown_act n h (Command.Leaf l) s q p g = by (known s.nodes l)
  where
    by : (b : Bool) → n ≤ length (bytes (elim b as (λ _. State) [ true ↦ s | false ↦ make (leaf l) 0 s ]).log)
    by true = g
    by false = g
grown_act n h (Command.Join l r) s q p g = g
grown_act n h (Command.Request m v d) s q p g =
    let t = s.nodes in
    serve_in t (sized_ok t p.sized) (λ (u : State). n ≤ length (bytes u.log))
    (λ k u i r. bytes_grow n u.log (key_records (step_in u.stored) t k) r)
    (λ c u r. bytes_grow n u.log (derivation (clause_tokens (step_in u.stored) t c) ∷ clause u.next_step c.literals ∷ []) r) (λ x u r. r)
    (requests m v d) (requests_asked t m v d (request_fits h t m v d q)) s g
grown_act n h Command.Close s q p g = bytes_grow n s.log (deletion (stored_steps s.nodes s.stored) ∷ []) g

-- ---- a run that passes, with another capacity

-- Enough for the whole log is enough for every command.
plays_fits : {h : Head} {capacity : ℕ} {cs : List Command} {s u : State} (other p : ℕ) → AllPassed h capacity cs s u → Sound h s
    → length (bytes u.log) ≤ other → plays h other 0 cs p s ≡ outcome other 0 (p + length cs) u
plays_fits {h} other p (all_done {s}) a l = plays_done h other 0 p s ∙ ap (λ (n : ℕ). outcome other 0 n s) (omega arith)
plays_fits {h} {capacity} other p (all_more {c} {cs} {s} {u} {w} q r) a l =
    let b : Sound h u = subst (Sound h) q.after (sound_act h c s q.asked a) in
    let n : ℕ = length (bytes u.log) in
    let g : n ≤ length (bytes w.log) = all_keep (λ (x : State). n ≤ length (bytes x.log)) (grown_act n h) r b (omega arith) in
    plays_accepted h other 0 c cs p s u (play_fits h capacity other c s u q (omega arith)) ∙ plays_fits other (suc p) r b l
    ∙ ap (λ (n : ℕ). outcome other 0 n w) (omega arith)

-- The first command that outgrows it is refused, and every one before passes.
plays_full : {h : Head} {capacity : ℕ} {cs : List Command} {s u : State} (other ending p : ℕ) → AllPassed h capacity cs s u
    → length (bytes s.log) ≤ other → other < length (bytes u.log) → (plays h other ending cs p s).number ≡ 14
plays_full other ending p all_done a l = absurd (omega arith)
plays_full {h} {capacity} other ending p (all_more {c} {cs} {s} {u} {w} q r) a l = by (leb n other) refl (λ b. plays_full other ending (suc p) r b l)
  where
    n : ℕ
    n = length (bytes u.log)

    by : (b : Bool) → leb n other ≡ b → (n ≤ other → (plays h other ending cs (suc p) u).number ≡ 14) → (plays h other ending (c ∷ cs) p s).number ≡ 14
    by true e ih =
        let k : n ≤ other = leb-true n other e in
        rw (plays_accepted h other ending c cs p s u (play_fits h capacity other c s u q k)) (ih k)
    by false e ih =
        let k : other < n = leb-false n other e in
        rw (plays_refused h other ending c cs p s 14 (play_full h capacity other c s u q k)) (outcome_number other 14 (suc p) s)

-- ---- a whole script that is accepted

-- The numbers and the log up to its length, of two outcomes.
pub record SameAnswer (o other : Outcome) : Type 0 where
  pub number : other.number ≡ o.number
  pub place : other.place ≡ o.place
  pub used : other.used ≡ o.used
  pub steps : other.steps ≡ o.steps
  pub clauses : other.clauses ≡ o.clauses
  pub nodes : other.nodes ≡ o.nodes
  pub log : take o.used other.log ≡ take o.used o.log

outcome_same : (capacity other n p : ℕ) (s : State) → SameAnswer (outcome capacity n p s) (outcome other n p s)
unfolding outcome
outcome_same capacity other n p s =
    let bs = bytes s.log in
    record {
      number = refl;
      place = refl;
      used = refl;
      steps = refl;
      clauses = refl;
      nodes = refl;
      log = take-append_seam bs (replicate (other - length bs) 0) ∙ sym (take-append_seam bs (replicate (capacity - length bs) 0));
    }

outcome_used : (capacity n p : ℕ) (s : State) → (outcome capacity n p s).used ≡ length (bytes s.log)
unfolding outcome
outcome_used capacity n p s = refl

module _ (bs : List ℕ) (capacity other : ℕ) (most : other ≤ most_bytes) (accept : (played bs capacity).number ≡ 0) where
  abbrev run : (h : Head) × (cs : Commands) × Passes bs capacity h cs
  run = accepted_reads bs capacity accept

  other_is : played bs other ≡ plays run.0 other 0 run.1.list 0 (start run.0)
  other_is = passes_plays run.2 other most

  length_is : (played bs capacity).used ≡ length (bytes run.2.state.log)
  length_is = ap (λ (o : Outcome). o.used) (passes_is run.2) ∙ outcome_used capacity 0 (length run.1.list) run.2.state

  -- Every log that is long enough gets the same answer.
  pub capacity_enough : (played bs capacity).used ≤ other → SameAnswer (played bs capacity) (played bs other)
  capacity_enough l =
      let e : played bs other ≡ outcome other 0 (length run.1.list) run.2.state
      = other_is ∙ plays_fits other 0 run.2.all (sound_start run.0) (omega (arith, length_is))
      ∙ ap (λ (n : ℕ). outcome other 0 n run.2.state) (omega arith) in
      rw (e, passes_is run.2) (outcome_same capacity other 0 (length run.1.list) run.2.state)

  -- Every shorter one is refused.
  pub capacity_short : other < (played bs capacity).used → (played bs other).number ≡ 14
  capacity_short l = rw other_is (plays_full other 0 0 run.2.all (start_empty run.0 other) (omega (arith, length_is)))

-- ---- each theorem at numbers that meet its hypotheses

-- four leaves; node 5 has three outputs
three : List Node
three = leaf 0 ∷ leaf 2 ∷ leaf 4 ∷ leaf 6 ∷ join (0 ∷ 2 ∷ []) 10 (side 0 0 0) (side 1 0 0) ∷ join (0 ∷ 2 ∷ 4 ∷ []) 12 (side 4 0 0) (side 2 0 0) ∷ []

met_zero : first_no (questions ten three (Command.Request 5 0 1)) ≡ 11
unfolding three
met_zero = value_zero ten three 5 (omega arith) 1

met_above : first_no (questions ten three (Command.Request 5 4 9)) ≡ 11
unfolding three len node_at leaves
met_above = value_above ten three 5 (omega arith) 4 9 (omega arith)

met_within : first_no (questions ten three (Command.Request 5 3 3)) ≡ 0
unfolding three len node_at leaves
met_within = value_within ten three 5 (omega arith) 3 3 (omega arith) (omega arith) (omega arith) (omega arith)

free_three : (f k g j : ℕ) → Free three (side 5 f k) (side 3 g j)
unfolding three share_leaf join_count
free_three f k g j = record { left = omega arith; right = omega arith; apart = refl; few = omega arith }

met_last : first_no (questions ten three (Command.Join (side 5 2 0) (side 3 0 0))) ≡ 0
unfolding three len node_at leaves
met_last = offset_last ten three (side 5 2 0) (side 3 0 0) (free_three 2 0 0 0) refl refl refl (omega arith) refl

met_length : first_no (questions ten three (Command.Join (side 5 3 0) (side 3 0 0))) ≡ 10
unfolding three len node_at leaves
met_length = offset_length ten three (side 5 3 0) (side 3 0 0) (free_three 3 0 0 0) refl refl refl (omega arith) refl

met_inside : first_no (questions ten three (Command.Join (side 5 1 2) (side 3 0 0))) ≡ 0
unfolding three len node_at leaves
met_inside =
    sides_inside ten three (side 5 1 2) (side 3 0 0) (free_three 1 2 0 0)
    (record { below = omega arith; within = omega arith }) (plain_inside three (side 3 0 0) refl refl (omega arith))

met_left : first_no (questions ten three (Command.Join (side 5 1 3) (side 3 0 0))) ≡ 10
unfolding three len node_at leaves
met_left = left_outside ten three (side 5 1 3) (side 3 0 0) (free_three 1 3 0 0) (limit_high (omega arith))

met_right : first_no (questions ten three (Command.Join (side 5 0 0) (side 3 0 2))) ≡ 10
unfolding three len node_at leaves
met_right = right_outside ten three (side 5 0 0) (side 3 0 2) (free_three 0 0 0 2) (limit_high (omega arith))

met_whole : first_no (questions ten three (Command.Join (side 5 0 3) (side 3 0 1))) ≡ 0
unfolding three len node_at leaves
met_whole =
    sides_inside ten three (side 5 0 3) (side 3 0 1) (free_three 0 3 0 1) (record { below = omega arith; within = omega arith })
    (record { below = omega arith; within = omega arith })

met_shared : first_no (questions ten three (Command.Join (side 5 2 1) (side 4 0 0))) ≡ 9
unfolding three share_leaf
met_shared = leaf_shared ten three (side 5 2 1) (side 4 0 0) (omega arith) (omega arith) refl

one : List Node
one = leaf 0 ∷ []

one_ok : Ok one
unfolding one Ok Below node_at
one_ok zero h = tt
one_ok (suc n) h = absurd (omega arith)

met_one_node : first_no (questions ten one (Command.Join (side 0 0 0) (side 0 9 9))) ≡ 9
unfolding one
met_one_node = one_node ten one (side 0 0 0) (side 0 9 9) (omega arith) (omega arith) one_ok refl

met_joins_full : first_no (questions ten (often 255) (Command.Join (side 0 0 0) (side 1 9 9))) ≡ 15
unfolding often share_leaf join_count
met_joins_full = joins_full ten (often 255) (side 0 0 0) (side 1 9 9) (omega arith) (omega arith) refl (omega arith)

met_few : first_no (questions ten three (Command.Leaf 8)) ≡ 0
unfolding three variable neg known leaf_count
met_few = leaves_few ten three 8 (omega arith) refl refl (omega arith)

-- the leaves 0, 2, 4 and so on
even : ℕ → List Node
even n = map {B = Node} (λ (i : ℕ). leaf (2 * i)) (range 0 n)

met_full : first_no (questions (record { variable = 65; step = 1 }) (even 64) (Command.Leaf 129)) ≡ 7
unfolding even variable neg known leaf_count range
met_full = leaves_full (record { variable = 65; step = 1 }) (even 64) 129 (omega arith) refl refl (omega arith)

-- two leaves, their join, and the request of value 1, if: the log takes 46 bytes
pair : List ℕ
pair = 2 ∷ 1 ∷ 1 ∷ 0 ∷ 1 ∷ 2 ∷ 2 ∷ 0 ∷ 0 ∷ 0 ∷ 1 ∷ 0 ∷ 0 ∷ 3 ∷ 2 ∷ 1 ∷ 1 ∷ []

pair_used : (played pair 65536).used ≡ 46
unfolding pair played
pair_used = refl

pair_passes : (played pair 65536).number ≡ 0
unfolding pair played
pair_passes = refl

met_enough : SameAnswer (played pair 65536) (played pair 46)
met_enough = capacity_enough pair 65536 46 (omega arith) pair_passes (omega (arith, pair_used))

met_short : (played pair 45).number ≡ 14
met_short = capacity_short pair 65536 45 (omega arith) pair_passes (omega (arith, pair_used))
