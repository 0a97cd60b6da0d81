-- Accepted commands keep the table well made: its sides fit, and its literals are numbered apart.
use Rattle.std.proofs.lemmas.Bool.{true≢false}
use mathlib.Core.Path.{◌≡◌, refl, sym, ◌∙◌, ap, subst}
use mathlib.Core.Bool.{Bool, true, false}
use mathlib.Core.Logic.{⊎_elim}
use mathlib.Core.List.Memᴰ
use mathlib.Core.List.{List, [], ◌∷◌, ◌++◌, map, Memᴰ, Nodup-nil, Nodup-cons}
use Prim.Native.Nat.{ℕ, zero, suc, ◌+◌, ◌-◌, ◌*◌, ◌≤◌, ◌<◌}
use native.Mathlib.Omega.{arith}
use borrow.Author.Tests.{eq-eqb}
use lib.ListN.{length, length-append, length-map}
use Rattle.pb.specs.Sum.{variable}
use Rattle.memo.proofs.Lists.{not_mem}
use Rattle.sizes.specs.Sizes.{most_joins}
use Rattle.totdb.specs.Nodes.{Node, any, node_at, range, limited, plain_or, side_leaves, side_len, side_outputs, outputs, output, len, leaves, join, known, leaf, leaf_of, join_count, plain_form, join_of, joined}
use Rattle.totdb.specs.declared.Side.{Side}
use Rattle.totdb.proofs.Listed.{length_range}
use Rattle.totdb.proofs.Sides.{plain_length}
use Rattle.cert.specs.Definitions.{if, only_if, Direction}
use Rattle.cert.specs.Requests.{Request, node_of, request, Right}
use Rattle.cert.specs.Sized.{Separate, Fit}
use Rattle.cert.specs.State.{State, start, requests, directions, serve, define, write, hold, Head}
use Rattle.cert.proofs.Apart.{sized_ok}
use Rattle.cert.proofs.Rules.{In, Ok}
use Rattle.cert.proofs.Serving.{Asked, serve_in}
use Rattle.cert.proofs.Tables.{sized_nil, numbered_nil, sized_snoc, numbered_leaf, old_or_new, numbered_join, side_some}
use Rattle.player.specs.Formed.{Sound}
use Rattle.player.specs.Player.{first_no, questions, make, act, delete}
use Rattle.player.specs.Verdict.{OffNode, offset_high, limit_high}
use Rattle.player.specs.declared.Command.{Command}
use Rattle.player.proofs.Questions.{leaf_low, join_there, join_apart, join_few, join_sides, request_there, request_value, request_direction}

-- ---- tests

any_none : (f : Node → Bool) (t : List Node) → any f t ≡ false → (n : ℕ) → n < length t → f (node_at t n) ≡ false
unfolding any node_at
any_none f [] e n h = absurd (omega arith)
any_none f (a ∷ t) e zero h = by (f a) refl
  where
    by : (b : Bool) → f a ≡ b → f a ≡ false
    by false p = p
    by true p = absurd (true≢false (rw p at e))
any_none f (a ∷ t) e (suc n) h = any_none f t (by (f a) refl) n (omega arith)
  where
    by : (b : Bool) → f a ≡ b → any f t ≡ false
    by false p = rw p at e
    by true p = absurd (true≢false (rw p at e))

-- ---- sides

plain_or-length : (f k : ℕ) (ls os : List ℕ) → length os ≡ limited k (length ls - f) → length (plain_or f k ls os) ≡ limited k (length ls - f)
unfolding plain_or limited
plain_or-length zero zero ls os e = omega arith
plain_or-length zero (suc k) ls os e = e
plain_or-length (suc f) k ls os e = e

-- A side's literals are as many as its length.
pub side_leaves-length : (t : List Node) (s : Side) → length (side_leaves t s) ≡ side_len t s
unfolding side_leaves side_len side_outputs outputs len
side_leaves-length t s =
    plain_or-length s.offset s.limit (leaves (node_at t s.node)) (side_outputs t s)
    (length-map (range (s.offset + 1) (side_len t s)) (output (node_at t s.node)) ∙ length_range (s.offset + 1) (side_len t s))

limited_fits : (f k n : ℕ) → f < n → k ≤ n - f → f + limited k (n - f) ≤ n
unfolding limited
limited_fits f zero n h g = omega arith
limited_fits f (suc k) n h g = omega arith

pub side_in : (t : List Node) (s : Side) → (OffNode t s → ⊥) → (s.offset + side_len t s ≤ len (node_at t s.node)) × (s.offset < len (node_at t s.node))
unfolding side_len
side_in t s on =
    let n : ℕ = len (node_at t s.node) in
    let i : ¬ (n ≤ s.offset) = λ l. on (offset_high l) in
    let j : ¬ (n - s.offset < s.limit) = λ l. on (limit_high l) in
    (limited_fits s.offset s.limit n (omega (arith, i)) (omega (arith, j)), omega (arith, i))

-- The plain form of a side is as long.
pub plain_side_len : (t : List Node) (s : Side) → side_len t (plain_form t s) ≡ side_len t s
unfolding side_len
plain_side_len t s = plain_length s (len (node_at t s.node))

-- ---- the invariant

pub sound_start : (h : Head) → Sound h (start h)
unfolding start
sound_start h = record { sized = sized_nil; numbered = numbered_nil h.variable; high = omega arith; after = λ n m o l r i e. absurd (omega arith) }

-- States with the same table.
sound_same : (h : Head) (s u : State) → u.nodes ≡ s.nodes → u.next_variable ≡ s.next_variable → Sound h s → Sound h u
sound_same h s u e f p = record {
  sized = rw e p.sized;
  numbered = rw e p.numbered;
  high = omega (arith, p.high);
  after = λ n m o l r i k. omega (arith, p.after n m o l r (rw e at i) (rw e at k));
}

-- ---- leaf

pub leaf_new : (t : List Node) (l : ℕ) → known t l ≡ false → (n : ℕ) → n < length t → node_at t n ≡ leaf l → ⊥
unfolding known
leaf_new t l e n h p = true≢false (sym (eq-eqb l l refl) ∙ sym (ap (leaf_of l) p) ∙ any_none (leaf_of l) t e n h)

low_literal : (l v : ℕ) → variable l < v → l < 2 * v
unfolding variable
low_literal l v h = omega arith

pub sound_leaf : (h : Head) (l : ℕ) (s : State) → first_no (questions h s.nodes (Command.Leaf l)) ≡ 0 → known s.nodes l ≡ false → Sound h s
    → Sound h (make (leaf l) 0 s)
unfolding make
sound_leaf h l s q new p =
    record {
      sized = sized_snoc s.nodes (leaf l) p.sized (unfold Fit in tt);
      numbered = numbered_leaf h.variable s.nodes p.numbered l (low_literal l h.variable (leaf_low h s.nodes l q))
          (leaf_new s.nodes l new);
      high = omega (arith, p.high);
      after = λ n m o a b i k. ⊎_elim (λ j. omega (arith, p.after n m o a b j.0 j.1))
          (λ j. absurd (let e = j.1 in let z : ◌≡◌ {A = ℕ} 0 1 = cc in omega arith)) (old_or_new s.nodes (leaf l) n (join m o a b) i k);
    }

-- ---- join

-- What questions 8, 9, 15 and 10 say of two sides.
pub record JoinFits (t : List Node) (l r : Side) : Type 0 where
  pub left : l.node < length t
  pub right : r.node < length t
  pub apart : Separate t l.node r.node
  pub few : join_count t < most_joins
  pub left_in : l.offset + side_len t l ≤ len (node_at t l.node)
  pub right_in : r.offset + side_len t r ≤ len (node_at t r.node)
  pub left_some : l.offset < len (node_at t l.node)
  pub right_some : r.offset < len (node_at t r.node)

-- They say it of the plain forms too.
pub join_fits : (h : Head) (t : List Node) → Ok t → (l r : Side) → first_no (questions h t (Command.Join l r)) ≡ 0
    → JoinFits t (plain_form t l) (plain_form t r)
join_fits h t ok l r q =
    let there = join_there h t ok l r q in
    let fits = join_sides h t ok l r q in
    record {
      left = there.0;
      right = there.1;
      apart = join_apart h t ok l r q;
      few = join_few h t ok l r q;
      left_in = rw (plain_side_len t l) (side_in t l fits.0).0;
      right_in = rw (plain_side_len t r) (side_in t r fits.1).0;
      left_some = (side_in t l fits.0).1;
      right_some = (side_in t r fits.1).1;
    }

pub sound_join : (h : Head) (l r : Side) (s : State) → JoinFits s.nodes l r → Sound h s
    → Sound h (make (join_of s.nodes s.next_variable l r) (len (join_of s.nodes s.next_variable l r)) s)
unfolding make len leaves
sound_join h l r s f p =
    let t = s.nodes in
    let ls : List ℕ = side_leaves t l ++ side_leaves t r in
    let fit : Fit t (length t) (join ls s.next_variable l r) = unfold Fit in (
      f.left,
      f.right,
      f.apart,
      f.left_in,
      f.right_in,
      length-append (side_leaves t l) (side_leaves t r)
          ∙ rw (side_leaves-length t l, side_leaves-length t r),
      refl,
      side_some t l f.left_some,
      side_some t r f.right_some,
    ) in
    record {
      sized = sized_snoc t (join ls s.next_variable l r) p.sized fit;
      numbered = numbered_join h.variable t p.numbered ls s.next_variable l r p.high p.after;
      high = omega (arith, p.high);
      after = λ n m o a b i k. ⊎_elim (λ j. omega (arith, p.after n m o a b j.0 j.1))
          (λ j. let e = j.1 in let x : s.next_variable ≡ o = cc in let y : ls ≡ m = cc in omega (arith, ap length y))
          (old_or_new t (join ls s.next_variable l r) n (join m o a b) i k);
    }

-- ---- request

-- What questions 8, 11 and 12 say.
pub record RequestFits (t : List Node) (n v d : ℕ) : Type 0 where
  pub there : n < length t
  pub low : 1 ≤ v
  pub high : v ≤ len (node_at t n)
  pub dir_low : 1 ≤ d
  pub dir_high : d ≤ 3

pub request_fits : (h : Head) (t : List Node) (n v d : ℕ) → first_no (questions h t (Command.Request n v d)) ≡ 0 → RequestFits t n v d
request_fits h t n v d q =
    let value = request_value h t n v d q in
    let direction = request_direction h t n v d q in
    record {
      there = request_there h t n v d q;
      low = value.0;
      high = value.1;
      dir_low = direction.0;
      dir_high = direction.1;
    }

one_request : (t : List Node) (x : Request) → In t x → Asked t (x ∷ [])
one_request t x i = record {
  there = λ y m. subst (In t) (sym (Memᴰ.eq_of_singleton m)) i;
  once = Nodup-cons.1 (not_mem Memᴰ.not-nil, Nodup-nil);
  at_node = node_of x;
  one_node = λ y m. ap node_of (Memᴰ.eq_of_singleton m);
}

two_requests : (t : List Node) (n v : ℕ) → n < length t → Asked t (request n v if ∷ request n v only_if ∷ [])
unfolding In node_of
two_requests t n v h = record {
  there = λ y m. ⊎_elim (λ e. rw e h) (λ k. let e : y ≡ request n v only_if = Memᴰ.eq_of_singleton k in rw e h) (Memᴰ.cases_cons m);
  once = Nodup-cons.1 (
    not_mem (λ m. let e : request n v if ≡ request n v only_if = Memᴰ.eq_of_singleton m in let z : ◌≡◌ {A = ℕ} 0 1 = cc in omega arith),
    Nodup-cons.1 (not_mem Memᴰ.not-nil, Nodup-nil),
  );
  at_node = n;
  one_node = λ y m. ⊎_elim (ap node_of) (λ k. ap node_of (Memᴰ.eq_of_singleton k)) (Memᴰ.cases_cons m);
}

pub requests_asked : (t : List Node) (n v d : ℕ) → RequestFits t n v d → Asked t (requests n v d)
unfolding requests In node_of
requests_asked t n v zero f = absurd (omega (arith, f.dir_low))
requests_asked t n v (suc zero) f = one_request t (request n v if) f.there
requests_asked t n v (suc (suc zero)) f = one_request t (request n v only_if) f.there
requests_asked t n v (suc (suc (suc zero))) f = two_requests t n v f.there
requests_asked t n v (suc (suc (suc (suc d)))) f = absurd (omega (arith, f.dir_high))

pub requests_right : (t : List Node) (n v d : ℕ) → RequestFits t n v d → (x : Request) → Memᴰ x (requests n v d) → Right t x
unfolding requests Right
requests_right t n v d f x m = by d m
  where
    one : (e : Direction) → x ≡ request n v e → Right t x
    one e p = rw p (f.there, f.low, f.high)

    by : (d : ℕ) → Memᴰ x (map {B = Request} (request n v) (directions d)) → Right t x
    by zero m = absurd (Memᴰ.not-nil m)
    by (suc zero) m = one if (Memᴰ.eq_of_singleton m)
    by (suc (suc zero)) m = one only_if (Memᴰ.eq_of_singleton m)
    by (suc (suc (suc zero))) m = ⊎_elim (one if) (λ k. one only_if (Memᴰ.eq_of_singleton k)) (Memᴰ.cases_cons m)
    by (suc (suc (suc (suc d)))) m = absurd (Memᴰ.not-nil m)

-- A request changes no node.
pub serve_nodes : (t : List Node) → Ok t → (xs : List Request) → Asked t xs → (s : State) → ((serve t xs s).nodes ≡ s.nodes)
    × ((serve t xs s).next_variable ≡ s.next_variable)
unfolding define write hold
serve_nodes t ok xs a s =
    serve_in t ok (λ (u : State). (u.nodes ≡ s.nodes) × (u.next_variable ≡ s.next_variable)) (λ k u i r. r) (λ c u r. r) (λ x u r. r) xs a s
    (refl, refl)

-- ---- every command

pub sound_act : (h : Head) (c : Command) (s : State) → first_no (questions h s.nodes c) ≡ 0 → Sound h s → Sound h (act c s)
unfolding act
sound_act h (Command.Leaf l) s q p = by (known s.nodes l) refl
  where
    by : (b : Bool) → known s.nodes l ≡ b → Sound h (elim b as (λ _. State) [ true ↦ s | false ↦ make (leaf l) 0 s ])
    by true e = p
    by false e = sound_leaf h l s q e p
sound_act h (Command.Join l r) s q p = unfold joined in sound_join h _ _ s (join_fits h s.nodes (sized_ok s.nodes p.sized) l r q) p
sound_act h (Command.Request n v d) s q p =
    let k = serve_nodes s.nodes (sized_ok s.nodes p.sized) (requests n v d)
    (requests_asked s.nodes n v d (request_fits h s.nodes n v d q)) s in
    sound_same h s (serve s.nodes (requests n v d) s) k.0 k.1 p
sound_act h Command.Close s q p = sound_same h s (delete s) (unfold delete in refl) (unfold delete in refl) p
