-- Document 02, §3: a limit that hides nothing. A script plays as the same script with limit 0 for each.
use mathlib.Core.Path.{◌≡◌, refl, sym, ◌∙◌, ap, subst}
use mathlib.Core.Bool.{Bool, true, false, ◌&&◌}
use mathlib.Core.Logic.{◌⊎◌, inl, inr, ⊎_elim}
use mathlib.Core.List.Memᴰ
use mathlib.Core.List.{List, [], ◌∷◌, ◌++◌, flat_map, append_assoc, append-nil}
use Prim.Native.Nat.{ℕ, zero, suc, ◌+◌, ◌-◌, ◌≤◌, ◌<◌}
use native.Mathlib.Decide.{dec_le}
use native.Mathlib.Omega.{arith}
use borrow.Author.Tests.{le-leb, ltb-true}
use lib.Dec.{leb, ltb}
use lib.ListN.{length, length-append, get_or-eq_default}
use Rattle.number.specs.Number.{Bytes, encode}
use Rattle.number.proofs.Laws.{encode_some, encode_length, encode_bytes}
use Rattle.memo.proofs.Lists.{flat_map_append}
use Rattle.record.proofs.Decode.{Small}
use Rattle.totdb.specs.Nodes.{Node, leaf, node_at, leaves, len, limit_over, plain_form, join_of, joined}
use Rattle.totdb.specs.declared.Side.{Side}
use Rattle.totdb.proofs.Sides.{limit_lower, whole_form}
use Rattle.cert.specs.State.{State, start, Head}
use Rattle.cert.proofs.Apart.{sized_ok}
use Rattle.cert.proofs.Rules.{Ok}
use Rattle.player.specs.Accepted.{Pointwise, pointwise_nil, pointwise_cons}
use Rattle.player.specs.Called.{build, table}
use Rattle.player.specs.Formed.{Sound}
use Rattle.player.specs.Passes.{AllPassed, all_done, all_more}
use Rattle.player.specs.Player.{first_no, side_fits, questions, make, act, Result, accepted, refused, fitted, play, plays, Outcome, head_fits, play_script, played}
use Rattle.player.specs.Script.{Next, command, refuse, end, closes, Commands, before, read_command, read_commands, script, read_script, command_numbers, script_bytes}
use Rattle.player.specs.Verdict.{Reads, Begins, Reached}
use Rattle.player.specs.declared.Command.{Command}
use Rattle.demands.specs.Windows.{DropsSide, dropped, kept, DropsCommand, in_join, unchanged, DropsLimits, HidesNothing}
use Rattle.player.proofs.Coding.{bytes_cons, small_split, nothing_left}
use Rattle.player.proofs.Fronts.{short_small, small_short, reads_cons, reads_nil, reads_split, rest_bytes, reads_command, command_reads, command_shorter, closed_code}
use Rattle.player.proofs.Formed.{formed_start, all_formed}
use Rattle.player.proofs.Judged.{head_script, read_on, read_refused, reached_all}
use Rattle.player.proofs.Matching.{nodes_table}
use Rattle.player.proofs.Nodes.{node_kept}
use Rattle.player.proofs.Questions.{answered_no, sizes, sized, join_there}
use Rattle.player.proofs.Plays.{play_passed, plays_accepted, plays_refused, script_true, script_false, played_true, played_false}
use Rattle.player.proofs.Runs.{build_act}
use Rattle.player.proofs.Sound.{sound_start, sound_act}

-- ---- a side, over nodes that t and a longer table u have alike

same_node : {u : List Node} {s a : Side} → DropsSide u s a → a.node ≡ s.node
same_node (dropped p q) = refl
same_node kept = refl

module _ (t u : List Node) (alike : (n : ℕ) → n < length t → node_at u n ≡ node_at t n) where
  whole_here : (s : Side) → s.limit ≡ len (node_at u s.node) → s.node < length t → s.limit ≡ len (node_at t s.node)
  whole_here s q i = omega (arith, q, ap len (alike s.node i))

  same_fits : {s a : Side} → DropsSide u s a → s.node < length t → side_fits t a ≡ side_fits t s
  same_fits kept i = refl
  same_fits {s} (dropped p q) i = unfold side_fits in rw (p, whole_here s (omega (arith, q)) i) (whole (len (node_at t s.node)))
    where
      whole : (n : ℕ) → (ltb 0 n && leb 0 (n - 0)) ≡ (ltb 0 n && leb n (n - 0))
      whole n = ap (λ (b : Bool). ltb 0 n && b) (le-leb 0 (n - 0) (omega arith) ∙ sym (le-leb n (n - 0) (omega arith)))

  same_form : {s a : Side} → DropsSide u s a → s.node < length t → plain_form t a ≡ plain_form t s
  same_form kept i = refl
  same_form {s} (dropped p q) i =
      let n : ℕ = len (node_at t s.node) in
      let none : limit_over 0 0 (len (node_at t s.node)) ≡ 0 = omega (arith, limit_lower 0 0 n) in
      ap {B = Side} (λ (k : ℕ). record { node = s.node; offset = 0; limit = k }) none ∙ sym (whole_form s n p (whole_here s (omega (arith, q)) i))

-- ---- a command, in the state s

module _ (h : Head) (u : List Node) (s : State) (alike : (n : ℕ) → n < length s.nodes → node_at u n ≡ node_at s.nodes n) where
  same_questions : {c d : Command} → DropsCommand u c d → first_no (questions h s.nodes d) ≡ first_no (questions h s.nodes c)
  same_questions unchanged = refl
  same_questions (in_join {l} {r} {a} {b} x y) = by (ltb l.node (length s.nodes)) (ltb r.node (length s.nodes)) refl refl
    where
      by : (i j : Bool) → ltb l.node (length s.nodes) ≡ i → ltb r.node (length s.nodes) ≡ j
          → first_no (questions h s.nodes (Command.Join a b)) ≡ first_no (questions h s.nodes (Command.Join l r))
      by true true e f =
          unfold questions in
          rw (
            same_fits s.nodes u alike x (ltb-true l.node (length s.nodes) e),
            same_fits s.nodes u alike y (ltb-true r.node (length s.nodes) f),
            same_node x,
            same_node y,
          )
      by true false e f = unfold questions first_no in rw (same_node x, same_node y, e, f)
      by false j e f = unfold questions first_no in rw (same_node x, e)

  same_act : Ok s.nodes → {c d : Command} → DropsCommand u c d → first_no (questions h s.nodes c) ≡ 0 → act d s ≡ act c s
  unfolding act joined
  same_act ok unchanged q = refl
  same_act ok (in_join {l} {r} {a} {b} x y) q =
      let t = s.nodes in
      let o = s.next_variable in
      let there = join_there h t ok l r q in
      ap (λ (z : Node). make z (len z) s)
      (ap (λ (z : Side). join_of t o z (plain_form t b)) (same_form t u alike x there.0) ∙ ap (join_of t o (plain_form t l)) (same_form t u alike y there.1))

  same_play : Ok s.nodes → (capacity : ℕ) {c d : Command} → DropsCommand u c d → play h capacity d s ≡ play h capacity c s
  same_play ok capacity {c} {d} x = by (first_no (questions h s.nodes c)) refl
    where
      by : (n : ℕ) → first_no (questions h s.nodes c) ≡ n → play h capacity d s ≡ play h capacity c s
      by zero q = unfold play in rw (same_questions x ∙ q, q, play) (ap (fitted capacity) (same_act ok x q))
      by (suc n) q = unfold play in rw (same_questions x ∙ q, q, play)

-- ---- the commands as they are read

same_closes : {u : List Node} {c d : Command} → DropsCommand u c d → closes d ≡ closes c
unfolding closes
same_closes (in_join x y) = refl
same_closes unchanged = refl

reads_bytes : (ns : List ℕ) {bs rest : List ℕ} → Bytes bs → Reads bs ns rest → Bytes rest
reads_bytes [] w k = subst Bytes (reads_nil k) w
reads_bytes (x ∷ ns) {bs} w k = let r = reads_cons k in reads_bytes ns (rest_bytes bs w r.1) r.2

append_bytes : (xs ys : List ℕ) → Bytes xs → Bytes ys → Bytes (xs ++ ys)
unfolding Bytes
append_bytes [] ys p q i = q i
append_bytes (x ∷ xs) ys p q zero = p zero
append_bytes (x ∷ xs) ys p q (suc i) = append_bytes xs ys (λ j. p (suc j)) q i

numbers_bytes : (ns rest : List ℕ) → Bytes rest → Bytes (flat_map encode ns ++ rest)
unfolding flat_map
numbers_bytes [] rest w = w
numbers_bytes (n ∷ ns) rest w =
    rw (append_assoc (encode n) (flat_map encode ns) rest) (append_bytes (encode n) (flat_map encode ns ++ rest) (encode_bytes n) (numbers_bytes ns rest w))

-- The same numbers, with bytes after them.
pub reads_more : {bs ns : List ℕ} → Reads bs ns [] → (rest : List ℕ) → Reads (bs ++ rest) ns rest
reads_more {ns = ns} k rest = record {
  coded = ap (λ (x : List ℕ). x ++ rest) (k.coded ∙ append-nil (flat_map encode ns));
  short = k.short;
}

-- The rest of the numbers, from where they stand.
reads_rest : (ns ms : List ℕ) {bs rest : List ℕ} → Reads bs (ns ++ ms) rest → Reads (flat_map encode ms ++ rest) ms rest
reads_rest ns ms k = record { coded = refl; short = λ x m. k.short x (Memᴰ.append_right ns m) }

small_join : (ms ns : List ℕ) → Small ms → Small ns → Small (ms ++ ns)
unfolding Small
small_join [] ns p q = q
small_join (m ∷ ms) ns p q = (p.0, small_join ms ns p.1 q)

-- A command's code stands where the command does.
code_stands : (c : Command) {bs rest : List ℕ} → Reads bs (command_numbers c) rest → (x : ℕ) × (r : List ℕ) × Reads bs (x ∷ []) r
unfolding command_numbers
code_stands (Command.Leaf l) k = (1, _, reads_split (1 ∷ []) _ k)
code_stands (Command.Join l r) k = (2, _, reads_split (2 ∷ []) _ k)
code_stands (Command.Request n v d) k = (3, _, reads_split (3 ∷ []) _ k)
code_stands Command.Close k = (4, _, k)

-- The bound of the reading does not show.
any_bound : (k j : ℕ) (closed : Bool) (bs : List ℕ) → Bytes bs → length bs ≤ k → length bs ≤ j → read_commands k closed bs ≡ read_commands j closed bs
unfolding read_commands
any_bound zero j closed [] w a b = sym (nothing_left j closed)
any_bound (suc k) zero closed [] w a b = nothing_left (suc k) closed
any_bound zero j closed (x ∷ bs) w a b = absurd (omega arith)
any_bound (suc k) zero closed (x ∷ bs) w a b = absurd (omega arith)
any_bound (suc k) (suc j) closed bs w a b = by (read_command closed bs) refl (any_bound k j)
  where
    by : (n : Next) → read_command closed bs ≡ n
        → ((d : Bool) (r : List ℕ) → Bytes r → length r ≤ k → length r ≤ j → read_commands k d r ≡ read_commands j d r)
        → read_commands (suc k) closed bs ≡ read_commands (suc j) closed bs
    by (command c r) e go =
        let p = command_reads closed {c = c} w e in
        let l = command_shorter c p.0 in
        rw (e, read_commands) (ap (before c) (go (closes c) r p.1 (omega (arith, l)) (omega (arith, l))))
    by (refuse n) e go = rw (e, read_commands)
    by end e go = rw (e, read_commands)

-- How the player goes on from a place.
abbrev going_on : Head → ℕ → Commands → ℕ → State → Outcome
going_on h capacity cs p s = plays h capacity cs.ending cs.list p s

-- u is the table that the state s and the commands come to.
module _ (h : Head) (capacity : ℕ) (u : List Node) where
  same_plays : {cs ds : List Command} → Pointwise (DropsCommand u) cs ds → (closed : Bool) (k j p : ℕ) (s : State) {bs other rest : List ℕ} → Sound h s
      → u ≡ build cs s.nodes s.next_variable → Bytes rest → Reads bs (flat_map command_numbers cs) rest → Reads other (flat_map command_numbers ds) rest
      → length bs ≤ k → length other ≤ j
      → going_on h capacity (read_commands j closed other) p s ≡ going_on h capacity (read_commands k closed bs) p s
  unfolding flat_map
  same_plays pointwise_nil closed k j p s {bs} {other} {rest} sound is w a b m n =
      let e : bs ≡ rest = reads_nil a in
      let f : other ≡ rest = reads_nil b in
      ap (λ (x : Commands). going_on h capacity x p s)
      (ap (read_commands j closed) f ∙ any_bound j k closed rest w (rw f at n) (rw e at m) ∙ ap (read_commands k closed) (sym e))
  same_plays (pointwise_cons {x = c} {y = d} {xs = cs} {ys = ds} x xs) true k j p s {bs} {other} sound is w a b m n =
      let e = reads_split (command_numbers c) (flat_map command_numbers cs) a in
      let f = reads_split (command_numbers d) (flat_map command_numbers ds) b in
      ap (λ (z : Commands). going_on h capacity z p s)
      (read_refused j true other 4 n (closed_code (code_stands d f).2) ∙ sym (read_refused k true bs 4 m (closed_code (code_stands c e).2)))
  same_plays (pointwise_cons {x = c} {y = d} {xs = cs} {ys = ds} x xs) false k j p s {bs} {other} {rest} sound is w a b m n =
      let e = reads_split (command_numbers c) (flat_map command_numbers cs) a in
      let f = reads_split (command_numbers d) (flat_map command_numbers ds) b in
      let on = read_on k false bs c _ m (command_shorter c e) (reads_command {c = c} e) in
      let other-on = read_on j false other d _ n (command_shorter d f) (reads_command {c = d} f) in
      ap (λ (z : Commands). going_on h capacity z p s) other-on.2
      ∙ by (play h capacity c s) refl
      (read_commands on.0 (closes c) (flat_map encode (flat_map command_numbers cs) ++ rest))
      (read_commands other-on.0 (closes d) (flat_map encode (flat_map command_numbers ds) ++ rest))
      (λ (v : State) (i : Sound h v) (g : u ≡ build cs v.nodes v.next_variable).
      ap (λ (q : Bool). going_on h capacity (read_commands other-on.0 q (flat_map encode (flat_map command_numbers ds) ++ rest)) (suc p) v) (same_closes x)
      ∙ same_plays xs (closes c) on.0 other-on.0 (suc p) v i g w (reads_rest (command_numbers c) (flat_map command_numbers cs) a)
      (reads_rest (command_numbers d) (flat_map command_numbers ds) b) on.1 other-on.1)
      ∙ ap (λ (z : Commands). going_on h capacity z p s) (sym on.2)
    where
      go_same : play h capacity d s ≡ play h capacity c s
      go_same = same_play h u s (node_kept (c ∷ cs) s.nodes s.next_variable is) (sized_ok s.nodes sound.sized) capacity x

      by : (r : Result) → play h capacity c s ≡ r → (ys zs : Commands)
          → ((v : State) → Sound h v → u ≡ build cs v.nodes v.next_variable → going_on h capacity zs (suc p) v ≡ going_on h capacity ys (suc p) v)
          → going_on h capacity (before d zs) p s ≡ going_on h capacity (before c ys) p s
      by (accepted v) e ys zs go =
          let q = play_passed h capacity c s v e in
          unfold before in
          plays_accepted h capacity zs.ending d zs.list p s v (go_same ∙ e)
          ∙ go v (subst (Sound h) q.after (sound_act h c s q.asked sound))
          (is ∙ sym (build_act h c cs s q.asked sound) ∙ ap (λ (z : State). build cs z.nodes z.next_variable) q.after)
          ∙ sym (plays_accepted h capacity ys.ending c ys.list p s v e)
      by (refused i) e ys zs go =
          unfold before in
          plays_refused h capacity zs.ending d zs.list p s i (go_same ∙ e) ∙ sym (plays_refused h capacity ys.ending c ys.list p s i e)

  -- What accepts the others accepts these.
  same_passed : {cs ds : List Command} {s v : State} → Pointwise (DropsCommand u) cs ds → Sound h s → u ≡ build cs s.nodes s.next_variable
      → AllPassed h capacity ds s v → AllPassed h capacity cs s v
  same_passed pointwise_nil sound is all_done = all_done
  same_passed {s = s} (pointwise_cons {x = c} {y = d} {xs = cs} {ys = ds} x xs) sound is (all_more {u = w} q r) =
      let alike = node_kept (c ∷ cs) s.nodes s.next_variable is in
      let asked = sym (same_questions h u s alike x) ∙ q.asked in
      let after = sym (same_act h u s alike (sized_ok s.nodes sound.sized) x asked) ∙ q.after in
      all_more (record { asked = asked; after = after; fits = q.fits })
      (same_passed xs (subst (Sound h) after (sound_act h c s asked sound))
      (is ∙ sym (build_act h c cs s asked sound) ∙ ap (λ (z : State). build cs z.nodes z.next_variable) after) r)

-- ---- the bytes of the other script

-- How many bytes numbers take.
taking : List ℕ → ℕ
taking [] = 0
taking (n ∷ ns) = length (encode n) + taking ns

taking_is : (ns : List ℕ) → length (flat_map encode ns) ≡ taking ns
unfolding taking flat_map
taking_is [] = refl
taking_is (n ∷ ns) = omega (arith, length-append (encode n) (flat_map encode ns), taking_is ns)

-- 0 takes one byte.
zero_takes : length (encode 0) ≡ 1
zero_takes = omega (arith, encode_some 0, (encode_length 0 1 (omega arith)).1 (omega arith))

abbrev side_numbers : Side → List ℕ
side_numbers s = s.node ∷ s.offset ∷ s.limit ∷ []

module _ {u : List Node} where
  side_shorter : {s a : Side} → DropsSide u s a → taking (side_numbers a) ≤ taking (side_numbers s)
  unfolding taking
  side_shorter kept = omega arith
  side_shorter {s} (dropped p q) = omega (arith, zero_takes, encode_some s.offset, encode_some s.limit)

  side_as_long : {s a : Side} → len (node_at u s.node) < 128 → DropsSide u s a → taking (side_numbers s) ≤ taking (side_numbers a)
  unfolding taking
  side_as_long h kept = omega arith
  side_as_long {s} h (dropped p q) =
      omega (arith, zero_takes, (encode_length s.offset 1 (omega arith)).1 (omega (arith, p)), (encode_length s.limit 1 (omega arith)).1 (omega (arith, q)))

  side_small : {s a : Side} → DropsSide u s a → Small (side_numbers s) → Small (side_numbers a)
  unfolding Small
  side_small kept k = k
  side_small (dropped p q) k = (k.0, (omega arith, (omega arith, tt)))

  command_shorter_than : {c d : Command} → DropsCommand u c d → taking (command_numbers d) ≤ taking (command_numbers c)
  unfolding command_numbers taking
  command_shorter_than unchanged = omega arith
  command_shorter_than (in_join x y) = omega (arith, side_shorter x, side_shorter y)

  command_as_long : {c d : Command} → ((n : ℕ) → len (node_at u n) < 128) → DropsCommand u c d → taking (command_numbers c) ≤ taking (command_numbers d)
  unfolding command_numbers taking
  command_as_long h unchanged = omega arith
  command_as_long h (in_join {l} {r} x y) = omega (arith, side_as_long (h l.node) x, side_as_long (h r.node) y)

  command_small : {c d : Command} → DropsCommand u c d → Small (command_numbers c) → Small (command_numbers d)
  unfolding command_numbers Small
  command_small unchanged k = k
  command_small (in_join {l} {r} {a} {b} x y) k =
      let p = small_split (side_numbers l) (side_numbers r) k.1 in
      (k.0, small_join (side_numbers a) (side_numbers b) (side_small x p.0) (side_small y p.1))

abbrev code_length : List Command → ℕ
code_length cs = length (flat_map encode (flat_map command_numbers cs))

code_cons : (c : Command) (cs : List Command) → code_length (c ∷ cs) ≡ taking (command_numbers c) + code_length cs
code_cons c cs =
    omega (
      arith,
      ap length (bytes_cons c cs),
      length-append (flat_map encode (command_numbers c)) (flat_map encode (flat_map command_numbers cs)),
      taking_is (command_numbers c),
    )

module _ {u : List Node} where
  all_shorter : {cs ds : List Command} → Pointwise (DropsCommand u) cs ds → code_length ds ≤ code_length cs
  all_shorter pointwise_nil = omega arith
  all_shorter (pointwise_cons {x = c} {y = d} {xs = cs} {ys = ds} x xs) = omega (arith, code_cons c cs, code_cons d ds, command_shorter_than x, all_shorter xs)

  all_as_long : {cs ds : List Command} → ((n : ℕ) → len (node_at u n) < 128) → Pointwise (DropsCommand u) cs ds → code_length cs ≤ code_length ds
  all_as_long h pointwise_nil = omega arith
  all_as_long h (pointwise_cons {x = c} {y = d} {xs = cs} {ys = ds} x xs) =
      omega (arith, code_cons c cs, code_cons d ds, command_as_long h x, all_as_long h xs)

  all_small : {cs ds : List Command} → Pointwise (DropsCommand u) cs ds → Small (flat_map command_numbers cs) → Small (flat_map command_numbers ds)
  unfolding flat_map
  all_small pointwise_nil k = k
  all_small (pointwise_cons {x = c} {y = d} {xs = cs} {ys = ds} x xs) k =
      let p = small_split (command_numbers c) (flat_map command_numbers cs) k in
      small_join (command_numbers d) (flat_map command_numbers ds) (command_small x p.0) (all_small xs p.1)

-- ---- the claim

whole_length : {bs : List ℕ} (rest : List ℕ) (h : Head) (cs : List Command) → bs ≡ script_bytes h cs ++ rest
    → length bs ≡ length (flat_map encode (h.variable ∷ h.step ∷ [])) + code_length cs + length rest
unfolding script_bytes
whole_length rest h cs e =
    let ns : List ℕ = flat_map command_numbers cs in
    omega (
      arith,
      ap length e,
      length-append (flat_map encode (h.variable ∷ h.step ∷ ns)) rest,
      ap length (flat_map_append encode (h.variable ∷ h.step ∷ []) ns),
      length-append (flat_map encode (h.variable ∷ h.step ∷ [])) (flat_map encode ns),
    )

module _ {bs other : List ℕ} (o : DropsLimits bs other) where
  abbrev h : Head
  h = o.head

  abbrev cs : List Command
  cs = o.own

  abbrev ds : List Command
  ds = o.others

  abbrev rest : List ℕ
  rest = o.rest

  own_bytes : bs ≡ script_bytes h cs ++ rest
  unfolding script_bytes
  own_bytes = o.begins.coded

  other_begins : Begins other h ds rest
  unfolding script_bytes Small
  other_begins =
      let s = short_small (h.variable ∷ h.step ∷ flat_map command_numbers cs) o.begins.short in
      record { coded = o.is; short = small_short (h.variable ∷ h.step ∷ flat_map command_numbers ds) (s.0, (s.1.0, all_small o.drops s.1.1)) }

  other_bytes : Bytes bs → Bytes other
  unfolding script_bytes
  other_bytes w =
      subst Bytes (sym o.is)
      (numbers_bytes (h.variable ∷ h.step ∷ flat_map command_numbers ds) rest
      (reads_bytes (h.variable ∷ h.step ∷ flat_map command_numbers cs) w o.begins))

  other_shorter : length other ≤ length bs
  other_shorter = omega (arith, whole_length rest h cs own_bytes, whole_length rest h ds o.is, all_shorter o.drops)

  other_as_long : ((n : ℕ) → len (node_at (table h cs) n) < 128) → length other ≡ length bs
  other_as_long short = omega (arith, other_shorter, whole_length rest h cs own_bytes, whole_length rest h ds o.is, all_as_long short o.drops)

  first_table : table h cs ≡ build cs (start h).nodes (start h).next_variable
  unfolding table start
  first_table = refl

  module _ (w : Bytes bs) (capacity : ℕ) where
    abbrev rest_of : List Command → List ℕ
    rest_of es = flat_map encode (flat_map command_numbers es) ++ rest

    abbrev read_of : List Command → Commands
    read_of es = read_commands (length (rest_of es)) false (rest_of es)

    own_script : read_script bs ≡ script h (read_of cs)
    own_script = head_script h (reads_split (h.variable ∷ h.step ∷ []) (flat_map command_numbers cs) o.begins)

    other_script : read_script other ≡ script h (read_of ds)
    other_script = head_script h (reads_split (h.variable ∷ h.step ∷ []) (flat_map command_numbers ds) other_begins)

    go_on_same : going_on h capacity (read_of ds) 0 (start h) ≡ going_on h capacity (read_of cs) 0 (start h)
    go_on_same =
        same_plays h capacity (table h cs) o.drops false (length (rest_of cs)) (length (rest_of ds)) 0 (start h) (sound_start h) first_table
        (reads_bytes (h.variable ∷ h.step ∷ flat_map command_numbers cs) w o.begins)
        (reads_rest (h.variable ∷ h.step ∷ []) (flat_map command_numbers cs) o.begins)
        (reads_rest (h.variable ∷ h.step ∷ []) (flat_map command_numbers ds) other_begins) (omega arith) (omega arith)

    scripts_same : play_script capacity (script h (read_of ds)) ≡ play_script capacity (script h (read_of cs))
    scripts_same = by (head_fits h) refl
      where
        by : (b : Bool) → head_fits h ≡ b → play_script capacity (script h (read_of ds)) ≡ play_script capacity (script h (read_of cs))
        by true e = script_true capacity h (read_of ds) e ∙ go_on_same ∙ sym (script_true capacity h (read_of cs) e)
        by false e = script_false capacity h (read_of ds) e ∙ sym (script_false capacity h (read_of cs) e)

    one_refuses : (65536 < length other) ⊎ (65536 < capacity) → (65536 < length bs) ⊎ (65536 < capacity) → played other capacity ≡ played bs capacity
    one_refuses i j =
        played_false capacity other (answered_no (sizes other capacity) i) ∙ sym (played_false capacity bs (answered_no (sizes bs capacity) j))

    played_same : (length other ≤ 65536 → length bs ≤ 65536) → played other capacity ≡ played bs capacity
    played_same alike = by (dec_le (length other) 65536) (dec_le capacity 65536)
      where
        by : Dec (length other ≤ 65536) → Dec (capacity ≤ 65536) → played other capacity ≡ played bs capacity
        by (yes i) (yes j) =
            played_true capacity other (sized other capacity i j) ∙ ap (play_script capacity) other_script ∙ scripts_same
            ∙ sym (ap (play_script capacity) own_script) ∙ sym (played_true capacity bs (sized bs capacity (alike i) j))
        by (no i) d = one_refuses (inl (omega (arith, i))) (inl (omega (arith, i, other_shorter)))
        by (yes i) (no j) = one_refuses (inr (omega (arith, j))) (inr (omega (arith, j)))

-- Past its last node a table has none of more than 64 values either.
none_short : (t : List Node) (n : ℕ) → length t ≤ n → len (node_at t n) < 128
unfolding node_at len leaves
none_short t n h = rw (get_or-eq_default t (leaf 0) h) (omega arith)

-- A table of accepted commands has no node of more than 64 values.
passed_short : {capacity : ℕ} {h : Head} {cs : List Command} {s : State} → head_fits h ≡ true → AllPassed h capacity cs (start h) s
    → (n : ℕ) → len (node_at (table h cs) n) < 128
passed_short {capacity} {h} {cs} {s} fits all n = by (dec_le (length s.nodes) n)
  where
    is : s.nodes ≡ table h cs
    is = nodes_table h capacity cs s all

    by : Dec (length s.nodes ≤ n) → len (node_at (table h cs) n) < 128
    by (yes l) = rw (sym is) (none_short s.nodes n l)
    by (no l) = rw (sym is) (omega (arith, (all_formed all (formed_start h fits)).limits.short n (omega (arith, l))))

reached_as_long : {bs other : List ℕ} {capacity : ℕ} {s : State} (o : DropsLimits bs other)
    → Reached bs capacity o.head o.own s o.rest ⊎ Reached other capacity o.head o.others s o.rest → length other ≡ length bs
reached_as_long {bs} {other} {capacity} {s} o r = other_as_long o (⊎_elim own others r)
  where
    own : Reached bs capacity o.head o.own s o.rest → (n : ℕ) → len (node_at (table o.head o.own) n) < 128
    own r = let a = reached_all r in passed_short a.2 a.3

    others : Reached other capacity o.head o.others s o.rest → (n : ℕ) → len (node_at (table o.head o.own) n) < 128
    others r =
        let a = reached_all r in
        passed_short a.2 (same_passed o.head capacity (table o.head o.own) o.drops (sound_start o.head) (first_table o) a.3)

pub hides_nothing : HidesNothing
hides_nothing = record {
  same = λ bs other capacity w o alike. played_same o w capacity (λ l. omega (arith, alike l));
  no_longer = λ bs other o. omega (arith, other_shorter o);
  as_long = λ bs other capacity s o r. omega (arith, reached_as_long o r);
  begins = λ bs other w o. (other_bytes o w, other_begins o);
}
