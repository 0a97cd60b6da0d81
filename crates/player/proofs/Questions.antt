-- Questions 1 and 3, and one command: the player refuses it with the first question that is answered no, and accepts it exactly if none is.
use Rattle.std.proofs.lemmas.Bool.{true≢false}
use mathlib.Core.Path.{◌≡◌, refl, sym, ◌∙◌, ap, subst}
use mathlib.Core.Bool.{Bool, true, false, ◌&&◌, ◌||◌, not as notb}
use mathlib.Core.Logic.{◌⊎◌, inl, inr, ⊎_elim, ◌↔◌, ◌≢◌}
use mathlib.Core.List.Memᴰ
use mathlib.Core.List.{List, [], ◌∷◌, ◌++◌, flat_map, Memᴰ}
use Prim.Native.Nat.{ℕ, zero, suc, ◌-◌, ◌≤◌, ◌<◌}
use native.Mathlib.Decide.{dec_le}
use native.Mathlib.Omega.{arith}
use borrow.Author.Tests.{not-true, ltb-true, ltb-false, leb-true, leb-false, eqb-true, eqb-false}
use lib.Dec.{leb, ltb, eqb}
use lib.ListN.{length}
use Rattle.sizes.specs.Sizes.{most_head, most_bytes, most_leaves, most_joins}
use Rattle.pb.specs.Sum.{variable, neg}
use Rattle.memo.proofs.Lists.{mem_flat_map, of_flat_map}
use Rattle.record.specs.Record.{bytes}
use Rattle.totdb.specs.Below.{leaves_below, share_leaf}
use Rattle.totdb.specs.Nodes.{Node, leaf, join, node_at, len, any, leaf_of, known, leaf_count, join_count}
use Rattle.totdb.proofs.Overlap.{overlap_has, overlap_from}
use Rattle.totdb.specs.declared.Side.{Side}
use Rattle.cert.specs.Sized.{Separate}
use Rattle.cert.specs.State.{State, Head}
use Rattle.cert.proofs.Rules.{Ok}
use Rattle.player.specs.Player.{head_fits, Question, ask, first_no, side_fits, questions, act, accepted, refused, play}
use Rattle.player.specs.Verdict.{own_literal, leaf_literals, Below, own_join, joins, OffNode, offset_high, limit_high, No, no_6, no_7, no_8_join, no_8_request, no_9, no_15, no_10, no_11, no_12, no_14, order, First, first_here, first_later}
use Rattle.player.specs.declared.Command.{Command}
use Rattle.player.specs.declared.Command.TheVariants.{Leaf, Join, Request as Requested, Close}
use Rattle.player.proofs.Below.{common_number, common_leaf}
use Rattle.player.proofs.Plays.{play_stops, play_goes, play_over}

-- ---- a test and what makes it answer no

pub data Answer (P : Type 0) : Bool → Type 0 where
  answer_yes : (P → ⊥) → Answer P true
  answer_no : P → Answer P false

-- and back
pub answered_no : {P : Type 0} {b : Bool} → Answer P b → P → b ≡ false
answered_no (answer_yes n) p = absurd (n p)
answered_no (answer_no q) p = refl

pub answered_yes : {P : Type 0} {b : Bool} → Answer P b → (P → ⊥) → b ≡ true
answered_yes (answer_yes n) q = refl
answered_yes (answer_no p) q = absurd (q p)

answer_map : {P Q : Type 0} {b : Bool} → (P → Q) → (Q → P) → Answer P b → Answer Q b
answer_map f g (answer_yes n) = answer_yes (λ q. n (g q))
answer_map f g (answer_no p) = answer_no (f p)

answer_below : (m n : ℕ) → Answer (n ≤ m) (ltb m n)
answer_below m n = by (ltb m n) refl
  where
    by : (b : Bool) → ltb m n ≡ b → Answer (n ≤ m) b
    by true e = answer_yes (λ l. omega (arith, ltb-true m n e))
    by false e = answer_no (ltb-false m n e)

answer_most : (m n : ℕ) → Answer (n < m) (leb m n)
answer_most m n = by (leb m n) refl
  where
    by : (b : Bool) → leb m n ≡ b → Answer (n < m) b
    by true e = answer_yes (λ l. omega (arith, leb-true m n e))
    by false e = answer_no (leb-false m n e)

answer_apart : (m n : ℕ) → Answer (m ≡ n) (notb (eqb m n))
answer_apart m n = by (eqb m n) refl
  where
    by : (b : Bool) → eqb m n ≡ b → Answer (m ≡ n) (notb b)
    by true e = answer_no (eqb-true m n e)
    by false e = answer_yes (eqb-false m n e)

answer_both : {P Q : Type 0} {a b : Bool} → Answer P a → Answer Q b → Answer (P ⊎ Q) (a && b)
answer_both (answer_yes n) (answer_yes m) = answer_yes (⊎_elim n m)
answer_both (answer_yes n) (answer_no q) = answer_no (inr q)
answer_both (answer_no p) a = answer_no (inl p)

left_group : {P Q R : Type 0} → (P ⊎ Q) ⊎ R → P ⊎ (Q ⊎ R)
left_group (inl (inl p)) = inl p
left_group (inl (inr q)) = inr (inl q)
left_group (inr r) = inr (inr r)

right_group : {P Q R : Type 0} → P ⊎ (Q ⊎ R) → (P ⊎ Q) ⊎ R
right_group (inl p) = inl (inl p)
right_group (inr (inl q)) = inl (inr q)
right_group (inr (inr r)) = inr r

-- a test that is true where P holds
answer_either : {P Q : Type 0} (a b : Bool) → Answer P (notb a) → Answer Q (notb b) → Answer (P ⊎ Q) (notb (a || b))
answer_either true b (answer_no p) s = answer_no (inl p)
answer_either false true (answer_yes n) (answer_no q) = answer_no (inr q)
answer_either false false (answer_yes n) (answer_yes m) = answer_yes (⊎_elim n m)

answer_unless : {P Q : Type 0} (a : Bool) {b : Bool} → Answer P (notb a) → Answer Q b → Answer ((P → ⊥) × Q) (a || b)
answer_unless true (answer_no p) s = answer_yes (λ k. k.0 p)
answer_unless false (answer_yes n) (answer_yes m) = answer_yes (λ k. m k.1)
answer_unless false (answer_yes n) (answer_no q) = answer_no (n, q)

answer_any : {A : Type 0} {P : A → Type 0} (f : A → Bool) → ((a : A) → Answer (P a) (notb (f a))) → (l : List A)
    → Answer ((a : A) × Memᴰ a l × P a) (notb (any f l))
unfolding any
answer_any f h [] = answer_yes (λ k. Memᴰ.not-nil k.1)
answer_any {A} {P} f h (x ∷ xs) =
    answer_map (⊎_elim (λ p. (x, Memᴰ.head refl, p)) (λ k. (k.0, Memᴰ.tail k.1, k.2)))
    (λ k. ⊎_elim (λ e. inl (rw (← e) k.2)) (λ m. inr (k.0, m, k.2)) (Memᴰ.cases_cons k.1))
    (answer_either (f x) (any f xs) (h x) (answer_any f h xs))

answer_among : (f : Node → Bool) (g : Node → List ℕ) (n : ℕ) → ((a : Node) → Answer (Memᴰ n (g a)) (notb (f a))) → (t : List Node)
    → Answer (Memᴰ n (flat_map g t)) (notb (any f t))
answer_among f g n h t = answer_map (λ k. mem_flat_map g k.1 k.2) (of_flat_map g t) (answer_any f h t)

-- ---- questions 1 and 3: the documents' numerals, and the names of `sizes`

bytes_answer : (n : ℕ) → Answer (65536 < n) (leb n most_bytes)
bytes_answer n = answer_map {P = most_bytes < n} (λ l. omega arith) (λ l. omega arith) (answer_most n most_bytes)

head_answer : (n : ℕ) → Answer (100000000 < n) (leb n most_head)
head_answer n = answer_map {P = most_head < n} (λ l. omega arith) (λ l. omega arith) (answer_most n most_head)

pub sizes : (bs : List ℕ) (capacity : ℕ) → Answer ((most_bytes < length bs) ⊎ (most_bytes < capacity)) (leb (length bs) most_bytes && leb capacity most_bytes)
sizes bs capacity = answer_both (bytes_answer (length bs)) (bytes_answer capacity)

pub sized : (bs : List ℕ) (capacity : ℕ) → length bs ≤ most_bytes → capacity ≤ most_bytes → (leb (length bs) most_bytes && leb capacity most_bytes) ≡ true
sized bs capacity short small = answered_yes (sizes bs capacity) (⊎_elim (λ l. omega arith) (λ l. omega arith))

abbrev pub OutOfRange : ℕ → ℕ → Type 0
OutOfRange v n = (most_head < v) ⊎ ((n < 1) ⊎ (most_head < n))

pub head_range : (h : Head) → Answer (OutOfRange h.variable h.step) (head_fits h)
unfolding head_fits
head_range h =
    answer_map left_group right_group (answer_both (answer_both (head_answer h.variable) (answer_most 1 h.step)) (head_answer h.step))

-- ---- what a table has

known_is : (t : List Node) (l : ℕ) → Answer (Memᴰ l (leaf_literals t)) (notb (known t l))
unfolding known leaf_literals
known_is t l = answer_among (leaf_of l) own_literal l each t
  where
    each : (a : Node) → Answer (Memᴰ l (own_literal a)) (notb (leaf_of l a))
    each (leaf m) = unfold own_literal leaf_of in answer_map Memᴰ.head Memᴰ.eq_of_singleton (answer_apart l m)
    each (join ls o a b) = unfold own_literal leaf_of in answer_yes Memᴰ.not-nil

shared_is : (t : List Node) → Ok t → (n m : ℕ) → Answer ((x : ℕ) × Below t x n × Below t x m) (notb (share_leaf t n m))
unfolding share_leaf
shared_is t ok n m = by (share_leaf t n m) refl
  where
    by : (b : Bool) → share_leaf t n m ≡ b → Answer ((x : ℕ) × Below t x n × Below t x m) (notb b)
    by true e = answer_no (common_leaf t ok n m (overlap_from (leaves_below t n) (leaves_below t m) e))
    by false e =
        answer_yes (λ p. let k = common_number t ok n m p in true≢false (sym (overlap_has (leaves_below t n) (leaves_below t m) k.0 k.1 k.2) ∙ e))

pub joins_counted : (t : List Node) → length (joins t) ≡ join_count t
unfolding joins own_join join_count flat_map
joins_counted [] = refl
joins_counted (leaf l ∷ t) = joins_counted t
joins_counted (join ls o l r ∷ t) = ap suc (joins_counted t)

joins_answer : (t : List Node) → Answer (255 ≤ length (joins t)) (ltb (join_count t) most_joins)
joins_answer t =
    answer_map {P = most_joins ≤ join_count t} (λ l. omega (arith, joins_counted t)) (λ l. omega (arith, joins_counted t))
    (answer_below (join_count t) most_joins)

leaves_counted : (t : List Node) → length (leaf_literals t) ≡ leaf_count t
unfolding leaf_literals own_literal leaf_count flat_map
leaves_counted [] = refl
leaves_counted (leaf l ∷ t) = ap suc (leaves_counted t)
leaves_counted (join ls o l r ∷ t) = leaves_counted t

leaves_answer : (t : List Node) → Answer (64 ≤ length (leaf_literals t)) (ltb (leaf_count t) most_leaves)
leaves_answer t =
    answer_map {P = most_leaves ≤ leaf_count t} (λ l. omega (arith, leaves_counted t)) (λ l. omega (arith, leaves_counted t))
    (answer_below (leaf_count t) most_leaves)

pub side_answer : (t : List Node) (s : Side) → Answer (OffNode t s) (side_fits t s)
unfolding side_fits
side_answer t s =
    let n : ℕ = len (node_at t s.node) in
    answer_map (⊎_elim (λ l. offset_high (omega arith)) (λ l. limit_high (omega arith))) apart (answer_both (answer_below s.offset n) (answer_most s.limit (n - s.offset)))
  where
    apart : OffNode t s → (len (node_at t s.node) ≤ s.offset) ⊎ (len (node_at t s.node) - s.offset < s.limit)
    apart (offset_high l) = inl (omega arith)
    apart (limit_high l) = inr (omega arith)

-- ---- the questions that a command is put, beside the order

-- The two parts of the order.
abbrev before_act : List ℕ
before_act = 6 ∷ 7 ∷ 8 ∷ 9 ∷ 15 ∷ 10 ∷ 11 ∷ 12 ∷ []

abbrev after_act : List ℕ
after_act = 14 ∷ []

data Answers (P : ℕ → Type 0) : List Question → List ℕ → Type 0 where
  all_answered : Answers P [] []
  put : (n : ℕ) {b : Bool} {qs : List Question} {ns : List ℕ} → 0 < n → Answer (P n) b → Answers P qs ns → Answers P (ask n b ∷ qs) (n ∷ ns)
  not_put : (n : ℕ) {qs : List Question} {ns : List ℕ} → (P n → ⊥) → Answers P qs ns → Answers P qs (n ∷ ns)

data Found (P : ℕ → Type 0) (qs : List Question) (ns : List ℕ) : Type 0 where
  found : (n : ℕ) → first_no qs ≡ suc n → First P ns (suc n) → Found P qs ns
  clear : first_no qs ≡ 0 → ((n : ℕ) → Memᴰ n ns → P n → ⊥) → Found P qs ns

clear_more : {P : ℕ → Type 0} {m : ℕ} {ns : List ℕ} → (P m → ⊥) → ((n : ℕ) → Memᴰ n ns → P n → ⊥)
    → (n : ℕ) → Memᴰ n (m ∷ ns) → P n → ⊥
clear_more {P} q c n i p = ⊎_elim (λ e. q (rw e at p)) (λ j. c n j p) (Memᴰ.cases_cons i)

find : {P : ℕ → Type 0} {qs : List Question} {ns : List ℕ} → Answers P qs ns → Found P qs ns
unfolding first_no
find all_answered = clear refl (λ n m. absurd (Memᴰ.not-nil m))
find (put zero l a r) = absurd (omega arith)
find (put (suc n) l (answer_no p) r) = found n refl (first_here p)
find {P} (put (suc n) {qs = qs} {ns = ns} l (answer_yes q) r) = pass (find r)
  where
    pass : Found P qs ns → Found P (ask (suc n) true ∷ qs) (suc n ∷ ns)
    pass (found m e f) = found m e (first_later q f)
    pass (clear e c) = clear e (clear_more q c)
find {P} {qs} (not_put n {ns = ns} q r) = pass (find r)
  where
    pass : Found P qs ns → Found P qs (n ∷ ns)
    pass (found m e f) = found m e (first_later q f)
    pass (clear e c) = clear e (clear_more q c)

first_left : {P : ℕ → Type 0} {ns : List ℕ} {n : ℕ} (ms : List ℕ) → First P ns n → First P (ns ++ ms) n
first_left ms (first_here p) = first_here p
first_left ms (first_later q f) = first_later q (first_left ms f)

first_right : {P : ℕ → Type 0} {ms : List ℕ} {n : ℕ} (ns : List ℕ) → ((m : ℕ) → Memᴰ m ns → P m → ⊥) → First P ms n → First P (ns ++ ms) n
first_right [] c f = f
first_right (m ∷ ns) c f = first_later (c m (Memᴰ.head refl)) (first_right ns (λ k i. c k (Memᴰ.tail i)) f)

pub first_holds : {P : ℕ → Type 0} {ns : List ℕ} {n : ℕ} → First P ns n → P n
first_holds (first_here p) = p
first_holds (first_later q f) = first_holds f

first_one : {P : ℕ → Type 0} {ns : List ℕ} {m n : ℕ} → First P ns m → First P ns n → m ≡ n
first_one (first_here p) (first_here q) = refl
first_one (first_here p) (first_later q f) = absurd (q p)
first_one (first_later q f) (first_here p) = absurd (q p)
first_one (first_later q f) (first_later r g) = first_one f g

-- A number of questions 6 to 12 and 15, or 0.
abbrev Asked : ℕ → Type 0
Asked n = (n ≤ 12) ⊎ (n ≡ 15)

unfoldable AllAsked : List Question → Type 0
AllAsked [] = Unit {0}
AllAsked (ask n b ∷ qs) = Asked n × AllAsked qs

first_asked : (qs : List Question) → AllAsked qs → Asked (first_no qs)
unfolding first_no AllAsked
first_asked [] h = inl (omega arith)
first_asked (ask n true ∷ qs) h = first_asked qs h.1
first_asked (ask n false ∷ qs) h = h.0

pub questions_asked : (h : Head) (t : List Node) (c : Command) → (first_no (questions h t c) ≤ 12) ⊎ (first_no (questions h t c) ≡ 15)
unfolding questions AllAsked
questions_asked h t (Command.Leaf l) = first_asked _ (inl (omega arith), (inl (omega arith), tt))
questions_asked h t (Command.Join l r) = first_asked _ (inl (omega arith), (inl (omega arith), (inr refl, (inl (omega arith), tt))))
questions_asked h t (Command.Request n v d) = first_asked _ (inl (omega arith), (inl (omega arith), (inl (omega arith), tt)))
questions_asked h t Command.Close = first_asked [] tt

module _ (h : Head) (capacity : ℕ) (s : State) where
  abbrev t : List Node
  t = s.nodes

  -- ---- which questions a command is put, and what a no to each is

  leaf_skips : {l : ℕ} (n : ℕ) → 8 ≤ n → n ≢ 14 → No h capacity s (Leaf l) n → ⊥
  leaf_skips n a b (no_6 p) = omega arith
  leaf_skips n a b (no_7 p q) = omega arith
  leaf_skips n a b (no_14 p) = b refl

  join_starts : {l r : Side} (n : ℕ) → n < 8 → No h capacity s (Join l r) n → ⊥
  join_starts n a (no_8_join p) = omega arith
  join_starts n a (no_9 p q) = omega arith
  join_starts n a (no_15 p) = omega arith
  join_starts n a (no_10 p) = omega arith
  join_starts n a (no_14 p) = omega arith

  join_skips : {l r : Side} (n : ℕ) → 10 < n → n ≤ 12 → No h capacity s (Join l r) n → ⊥
  join_skips n a b (no_8_join p) = omega arith
  join_skips n a b (no_9 p q) = omega arith
  join_skips n a b (no_15 p) = omega arith
  join_skips n a b (no_10 p) = omega arith
  join_skips n a b (no_14 p) = omega arith

  request_starts : {m v d : ℕ} (n : ℕ) → n < 8 → No h capacity s (Requested m v d) n → ⊥
  request_starts n a (no_8_request p) = omega arith
  request_starts n a (no_11 p) = omega arith
  request_starts n a (no_12 p) = omega arith
  request_starts n a (no_14 p) = omega arith

  request_skips : {m v d : ℕ} (n : ℕ) → (n ≡ 9) ⊎ ((n ≡ 15) ⊎ (n ≡ 10)) → No h capacity s (Requested m v d) n → ⊥
  request_skips n a (no_8_request p) = omega (arith, a)
  request_skips n a (no_11 p) = omega (arith, a)
  request_skips n a (no_12 p) = omega (arith, a)
  request_skips n a (no_14 p) = omega (arith, a)

  close_skips : (n : ℕ) → n ≢ 14 → No h capacity s Close n → ⊥
  close_skips n a (no_14 p) = a refl

  is_6 : {l : ℕ} → No h capacity s (Leaf l) 6 → h.variable ≤ variable l
  is_6 (no_6 p) = p

  is_7 : {l : ℕ} → No h capacity s (Leaf l) 7
      → (Memᴰ l (leaf_literals t) → ⊥) × (Memᴰ (neg l) (leaf_literals t) ⊎ (most_leaves ≤ length (leaf_literals t)))
  is_7 (no_7 p q) = (p, q)

  is_8_join : {l r : Side} → No h capacity s (Join l r) 8 → (length t ≤ l.node) ⊎ (length t ≤ r.node)
  is_8_join (no_8_join p) = p

  is_8_request : {n v d : ℕ} → No h capacity s (Requested n v d) 8 → length t ≤ n
  is_8_request (no_8_request p) = p

  is_9 : {l r : Side} → No h capacity s (Join l r) 9 → (x : ℕ) × Below t x l.node × Below t x r.node
  is_9 (no_9 {x = x} p q) = (x, p, q)

  is_15 : {l r : Side} → No h capacity s (Join l r) 15 → 255 ≤ length (joins t)
  is_15 (no_15 p) = p

  is_10 : {l r : Side} → No h capacity s (Join l r) 10 → OffNode t l ⊎ OffNode t r
  is_10 (no_10 p) = p

  is_11 : {n v d : ℕ} → No h capacity s (Requested n v d) 11 → (v < 1) ⊎ (len (node_at t n) < v)
  is_11 (no_11 p) = p

  is_12 : {n v d : ℕ} → No h capacity s (Requested n v d) 12 → (d < 1) ⊎ (3 < d)
  is_12 (no_12 p) = p

  is_14 : {c : Command} → No h capacity s c 14 → capacity < length (bytes (act c s).log)
  is_14 (no_14 p) = p

  leaf_answers : (l : ℕ) → Answers (No h capacity s (Leaf l)) (questions h t (Leaf l)) before_act
  unfolding questions
  leaf_answers l =
      put 6 (omega arith) (answer_map no_6 is_6 (answer_below (variable l) h.variable))
      (put 7 (omega arith)
      (answer_map (λ k. no_7 k.0 k.1) is_7
      (answer_unless (known t l) (known_is t l)
      (answer_both (known_is t (neg l)) (leaves_answer t))))
      (not_put 8 (leaf_skips 8 (omega arith) (λ e. omega arith)) (not_put 9 (leaf_skips 9 (omega arith) (λ e. omega arith))
      (not_put 15 (leaf_skips 15 (omega arith) (λ e. omega arith)) (not_put 10 (leaf_skips 10 (omega arith) (λ e. omega arith))
      (not_put 11 (leaf_skips 11 (omega arith) (λ e. omega arith)) (not_put 12 (leaf_skips 12 (omega arith) (λ e. omega arith)) all_answered)))))))

  -- Where the sides of each join of the table are at lower nodes.
  join_answers : Ok t → (l r : Side) → Answers (No h capacity s (Join l r)) (questions h t (Join l r)) before_act
  unfolding questions
  join_answers ok l r =
      not_put 6 (join_starts 6 (omega arith)) (not_put 7 (join_starts 7 (omega arith))
      (put 8 (omega arith) (answer_map no_8_join is_8_join (answer_both (answer_below l.node (length t)) (answer_below r.node (length t))))
      (put 9 (omega arith) (answer_map (λ k. no_9 k.1 k.2) is_9 (shared_is t ok l.node r.node))
      (put 15 (omega arith) (answer_map no_15 is_15 (joins_answer t))
      (put 10 (omega arith) (answer_map no_10 is_10 (answer_both (side_answer t l) (side_answer t r)))
      (not_put 11 (join_skips 11 (omega arith) (omega arith)) (not_put 12 (join_skips 12 (omega arith) (omega arith)) all_answered)))))))

  request_answers : (n v d : ℕ) → Answers (No h capacity s (Requested n v d)) (questions h t (Requested n v d)) before_act
  unfolding questions
  request_answers n v d =
      not_put 6 (request_starts 6 (omega arith)) (not_put 7 (request_starts 7 (omega arith))
      (put 8 (omega arith) (answer_map no_8_request is_8_request (answer_below n (length t)))
      (not_put 9 (request_skips 9 (inl refl)) (not_put 15 (request_skips 15 (inr (inl refl))) (not_put 10 (request_skips 10 (inr (inr refl)))
      (put 11 (omega arith) (answer_map no_11 is_11 (answer_both (answer_most 1 v) (answer_most v (len (node_at t n)))))
      (put 12 (omega arith) (answer_map no_12 is_12 (answer_both (answer_most 1 d) (answer_most d 3))) all_answered)))))))

  close_answers : Answers (No h capacity s Close) (questions h t Close) before_act
  unfolding questions
  close_answers =
      not_put 6 (close_skips 6 (λ e. omega arith)) (not_put 7 (close_skips 7 (λ e. omega arith)) (not_put 8 (close_skips 8 (λ e. omega arith))
      (not_put 9 (close_skips 9 (λ e. omega arith)) (not_put 15 (close_skips 15 (λ e. omega arith)) (not_put 10 (close_skips 10 (λ e. omega arith))
      (not_put 11 (close_skips 11 (λ e. omega arith)) (not_put 12 (close_skips 12 (λ e. omega arith)) all_answered)))))))

  first_answers : Ok t → (c : Command) → Answers (No h capacity s c) (questions h t c) before_act
  first_answers ok (Leaf l) = leaf_answers l
  first_answers ok (Join l r) = join_answers ok l r
  first_answers ok (Requested n v d) = request_answers n v d
  first_answers ok Close = close_answers

  -- Every question of a command is in the order.
  listed : {c : Command} {n : ℕ} → No h capacity s c n → Memᴰ n order
  unfolding order
  listed (no_6 p) = Memᴰ.head refl
  listed (no_7 p q) = Memᴰ.tail (Memᴰ.head refl)
  listed (no_8_join p) = Memᴰ.append_right (6 ∷ 7 ∷ []) (Memᴰ.head refl)
  listed (no_8_request p) = Memᴰ.append_right (6 ∷ 7 ∷ []) (Memᴰ.head refl)
  listed (no_9 p q) = Memᴰ.append_right (6 ∷ 7 ∷ 8 ∷ []) (Memᴰ.head refl)
  listed (no_15 p) = Memᴰ.append_right (6 ∷ 7 ∷ 8 ∷ 9 ∷ []) (Memᴰ.head refl)
  listed (no_10 p) = Memᴰ.append_right (6 ∷ 7 ∷ 8 ∷ 9 ∷ 15 ∷ []) (Memᴰ.head refl)
  listed (no_11 p) = Memᴰ.append_right (6 ∷ 7 ∷ 8 ∷ 9 ∷ 15 ∷ 10 ∷ []) (Memᴰ.head refl)
  listed (no_12 p) = Memᴰ.append_right (6 ∷ 7 ∷ 8 ∷ 9 ∷ 15 ∷ 10 ∷ 11 ∷ []) (Memᴰ.head refl)
  listed (no_14 p) = Memᴰ.append_right before_act (Memᴰ.head refl)

  -- A command that passes the player's tests before it acts.
  none_but_14 : {c : Command} → Answers (No h capacity s c) (questions h t c) before_act → first_no (questions h t c) ≡ 0
      → (n : ℕ) → n ≢ 14 → No h capacity s c n → ⊥
  unfolding order
  none_but_14 {c} a q n l p = by (find a)
    where
      by : Found (No h capacity s c) (questions h t c) before_act → ⊥
      by (found m e f) = omega (arith, q, e)
      by (clear e none) = ⊎_elim (λ i. none n i p) (λ i. l (Memᴰ.eq_of_singleton i)) (Memᴰ.append_cases before_act (listed p))

  -- What the player makes of a command: the first question answered no, or it acts.
  pub data Judged (c : Command) : Type 0 where
    stopped : (n : ℕ) → First (No h capacity s c) order n → play h capacity c s ≡ refused n → Judged c
    allowed : ((n : ℕ) → No h capacity s c n → ⊥) → play h capacity c s ≡ accepted (act c s) → Judged c

  module _ (ok : Ok t) where
    pub judged : (c : Command) → Judged c
    unfolding order
    judged c = by (find (first_answers ok c))
      where
        last : ((n : ℕ) → Memᴰ n before_act → No h capacity s c n → ⊥) → first_no (questions h t c) ≡ 0 → Dec (length (bytes (act c s).log) ≤ capacity)
            → Judged c
        last none e (no l) = stopped 14 (first_right before_act none (first_here (no_14 (omega arith)))) (play_over h capacity c s e (omega arith))
        last none e (yes l) =
            allowed (λ n p. ⊎_elim (λ i. none n i p)
            (λ i. absurd (omega (arith, is_14 (subst (No h capacity s c) (Memᴰ.eq_of_singleton i) p)))) (Memᴰ.append_cases before_act (listed p)))
            (play_goes h capacity c s e l)

        by : Found (No h capacity s c) (questions h t c) before_act → Judged c
        by (found n e f) = stopped (suc n) (first_left after_act f) (play_stops h capacity c s (suc n) (omega arith) e)
        by (clear e none) = last none e (dec_le (length (bytes (act c s).log)) capacity)

    -- Refused with n exactly if n is the first question of the order that is answered no.
    pub refused_exactly : (c : Command) (n : ℕ) → (play h capacity c s ≡ refused n) ↔ First (No h capacity s c) order n
    refused_exactly c n = by (judged c)
      where
        by : Judged c → (play h capacity c s ≡ refused n) ↔ First (No h capacity s c) order n
        by (stopped m f e) =
            (λ k. let same : m ≡ n = cc in rw same at f, λ g. e ∙ ap refused (first_one f g))
        by (allowed none e) =
            (λ k. absurd (let z : ◌≡◌ {A = ℕ} 0 1 = cc in omega arith), λ g. absurd (none n (first_holds g)))

    -- Accepted exactly if none is.
    pub accepted_exactly : (c : Command) → (play h capacity c s ≡ accepted (act c s)) ↔ ((n : ℕ) → No h capacity s c n → ⊥)
    accepted_exactly c = by (judged c)
      where
        by : Judged c → (play h capacity c s ≡ accepted (act c s)) ↔ ((n : ℕ) → No h capacity s c n → ⊥)
        by (stopped m f e) = (λ k. absurd (let z : ◌≡◌ {A = ℕ} 0 1 = cc in omega arith), λ none. absurd (none m (first_holds f)))
        by (allowed none e) = (λ k. none, λ k. e)

    pub asked_none : (c : Command) → first_no (questions h t c) ≡ 0 → (n : ℕ) → n ≢ 14 → No h capacity s c n → ⊥
    asked_none c = none_but_14 (first_answers ok c)

    -- A command that no question but 14 is answered no for passes them.
    pub none_asked : (c : Command) → ((n : ℕ) → n ≢ 14 → No h capacity s c n → ⊥) → first_no (questions h t c) ≡ 0
    none_asked c none = by (find (first_answers ok c))
      where
        by : Found (No h capacity s c) (questions h t c) before_act → first_no (questions h t c) ≡ 0
        by (found n e f) = absurd (none (suc n) (λ q. omega (arith, questions_asked h t c, e, q)) (first_holds f))
        by (clear e _) = e

-- ---- of a table alone: all questions but 14 see no more of a state

bare : List Node → State
bare t = record { nodes = t; next_variable = 0; next_step = 0; held = []; stored = []; log = [] }

module _ (h : Head) (t : List Node) (l : ℕ) (q : first_no (questions h t (Leaf l)) ≡ 0) where
  leaf_none : (n : ℕ) → n ≢ 14 → No h 0 (bare t) (Leaf l) n → ⊥
  unfolding bare
  leaf_none = none_but_14 h 0 (bare t) (leaf_answers h 0 (bare t) l) q

  pub leaf_low : variable l < h.variable
  leaf_low = let k : ¬ (h.variable ≤ variable l) = λ p. leaf_none 6 (λ e. omega arith) (no_6 p) in omega (arith, k)

  module _ (e : known t l ≡ false) where
    new_literal : Memᴰ l (leaf_literals t) → ⊥
    new_literal m = let k : notb (known t l) ≡ false = answered_no (known_is t l) m in let z : ◌≡◌ {A = ℕ} 0 1 = cc in omega arith

    pub leaf_apart : known t (neg l) ≡ false
    unfolding bare
    leaf_apart = not-true (known t (neg l)) (answered_yes (known_is t (neg l)) (λ m. leaf_none 7 (λ e. omega arith) (no_7 new_literal (inl m))))

    pub leaf_few : leaf_count t < most_leaves
    unfolding bare
    leaf_few =
        let k : ¬ (most_leaves ≤ length (leaf_literals t)) = λ p. leaf_none 7 (λ e. omega arith) (no_7 new_literal (inr p)) in
        omega (arith, k, leaves_counted t)

module _ (h : Head) (t : List Node) (ok : Ok t) (l r : Side) (q : first_no (questions h t (Join l r)) ≡ 0) where
  join_none : (n : ℕ) → n ≢ 14 → No h 0 (bare t) (Join l r) n → ⊥
  unfolding bare
  join_none = asked_none h 0 (bare t) ok (Join l r) q

  pub join_there : (l.node < length t) × (r.node < length t)
  unfolding bare
  join_there =
      let i : ¬ (length t ≤ l.node) = λ p. join_none 8 (λ e. omega arith) (no_8_join (inl p)) in
      let j : ¬ (length t ≤ r.node) = λ p. join_none 8 (λ e. omega arith) (no_8_join (inr p)) in
      (omega (arith, i), omega (arith, j))

  pub join_apart : Separate t l.node r.node
  unfolding bare
  join_apart x i j = let p = common_leaf t ok l.node r.node (x, i, j) in join_none 9 (λ e. omega arith) (no_9 p.1 p.2)

  pub join_few : join_count t < most_joins
  unfolding bare
  join_few =
      let k : ¬ (most_joins ≤ length (joins t)) = λ p. join_none 15 (λ e. omega arith) (no_15 p) in omega (arith, k, joins_counted t)

  pub join_sides : (OffNode t l → ⊥) × (OffNode t r → ⊥)
  unfolding bare
  join_sides = (λ o. join_none 10 (λ e. omega arith) (no_10 (inl o)), λ o. join_none 10 (λ e. omega arith) (no_10 (inr o)))

module _ (h : Head) (t : List Node) (n v d : ℕ) (q : first_no (questions h t (Requested n v d)) ≡ 0) where
  request_none : (k : ℕ) → k ≢ 14 → No h 0 (bare t) (Requested n v d) k → ⊥
  unfolding bare
  request_none = none_but_14 h 0 (bare t) (request_answers h 0 (bare t) n v d) q

  pub request_there : n < length t
  unfolding bare
  request_there = let k : ¬ (length t ≤ n) = λ p. request_none 8 (λ e. omega arith) (no_8_request p) in omega (arith, k)

  pub request_value : (1 ≤ v) × (v ≤ len (node_at t n))
  unfolding bare
  request_value =
      let i : ¬ (v < 1) = λ p. request_none 11 (λ e. omega arith) (no_11 (inl p)) in
      let j : ¬ (len (node_at t n) < v) = λ p. request_none 11 (λ e. omega arith) (no_11 (inr p)) in
      (omega (arith, i), omega (arith, j))

  pub request_direction : (1 ≤ d) × (d ≤ 3)
  request_direction =
      let i : ¬ (d < 1) = λ p. request_none 12 (λ e. omega arith) (no_12 (inl p)) in
      let j : ¬ (3 < d) = λ p. request_none 12 (λ e. omega arith) (no_12 (inr p)) in
      (omega (arith, i), omega (arith, j))
