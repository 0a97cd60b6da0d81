-- Leaves and joins are few; so nodes are few and short, and variables low.
use mathlib.Core.Path.{◌≡◌, refl, subst}
use mathlib.Core.Bool.{Bool, true, false}
use mathlib.Core.List.{List, [], ◌∷◌, ◌++◌}
use Prim.Native.Nat.{ℕ, ◌+◌, ◌*◌, ◌≤◌, ◌<◌}
use native.Mathlib.Omega.{arith}
use lib.ListN.{length}
use Rattle.sizes.specs.Sizes.{most_leaves, most_joins, most_nodes, width}
use Rattle.totdb.specs.Nodes.{Node, node_at, join, leaf, leaf_count, join_count, len, known, join_of, joined}
use Rattle.totdb.specs.declared.Side.{Side}
use Rattle.totdb.proofs.Leaves.{leaf_count-leaf, leaf_count-join}
use Rattle.cert.specs.State.{State, start, requests, serve, Head}
use Rattle.cert.proofs.Apart.{sized_ok}
use Rattle.cert.proofs.Few.{nodes_are, len_few}
use Rattle.cert.proofs.Tables.{at_last, length_snoc}
use Rattle.player.specs.Formed.{Sound, Limits}
use Rattle.player.specs.Player.{first_no, questions, make, act, delete}
use Rattle.player.specs.declared.Command.{Command}
use Rattle.player.proofs.Sound.{JoinFits, join_fits, sound_leaf, sound_join, serve_nodes, requests_asked, request_fits}
use Rattle.player.proofs.Questions.{leaf_few}

-- ---- the joins of a table with one node more

pub join_count-leaf : (t : List Node) (l : ℕ) → join_count (t ++ (leaf l ∷ [])) ≡ join_count t
join_count-leaf t l = omega (arith, nodes_are t, nodes_are (t ++ (leaf l ∷ [])), leaf_count-leaf t l, length_snoc t (leaf l))

pub join_count-join : (t : List Node) (ls : List ℕ) (o : ℕ) (l r : Side) → join_count (t ++ (join ls o l r ∷ [])) ≡ join_count t + 1
join_count-join t ls o l r =
    let a : Node = join ls o l r in
    omega (arith, nodes_are t, nodes_are (t ++ (a ∷ [])), leaf_count-join t ls o l r, length_snoc t a)

-- ---- every command

pub limits_start : (h : Head) → Limits h (start h)
unfolding start leaf_count join_count
limits_start h = record { few_leaves = omega arith; few_joins = omega arith; short = λ n h. absurd (omega arith); low = omega arith }

-- Nodes are short where leaves are few.
short_by : (h : Head) (s : State) → Sound h s → leaf_count s.nodes ≤ most_leaves → (n : ℕ) → n < length s.nodes → len (node_at s.nodes n) ≤ width
short_by h s p few n i = omega (arith, len_few s.nodes p.sized n i)

limits_leaf : (h : Head) (l : ℕ) (s : State) → first_no (questions h s.nodes (Command.Leaf l)) ≡ 0 → known s.nodes l ≡ false → Sound h s
    → Limits h s → Limits h (make (leaf l) 0 s)
unfolding make
limits_leaf h l s q e p k =
    let t = s.nodes in
    let few : leaf_count (t ++ (leaf l ∷ [])) ≤ most_leaves = omega (arith, leaf_few h t l q e, leaf_count-leaf t l) in
    record {
      few_leaves = few;
      few_joins = omega (arith, k.few_joins, join_count-leaf t l);
      short = short_by h (make (leaf l) 0 s) (sound_leaf h l s q e p) few;
      low = omega (arith, k.low, join_count-leaf t l);
    }

limits_join : (h : Head) (l r : Side) (s : State) → JoinFits s.nodes l r → Sound h s → Limits h s
    → Limits h (make (join_of s.nodes s.next_variable l r) (len (join_of s.nodes s.next_variable l r)) s)
unfolding make
limits_join h l r s f p k =
    let t = s.nodes in
    let a = join_of t s.next_variable l r in
    let leaves : leaf_count (t ++ (a ∷ [])) ≡ leaf_count t = leaf_count-join t _ s.next_variable l r in
    let joins : join_count (t ++ (a ∷ [])) ≡ join_count t + 1 = join_count-join t _ s.next_variable l r in
    let few : leaf_count (t ++ (a ∷ [])) ≤ most_leaves = omega (arith, k.few_leaves) in
    let short = short_by h (make a (len a) s) (sound_join h l r s f p) few in
    let last : len a ≤ width = subst (λ (x : Node). len x ≤ width) (at_last t a) (short (length t) (omega (arith, length_snoc t a))) in
    record {
      few_leaves = few;
      few_joins = omega (arith, f.few);
      short = short;
      low = omega (arith, k.low);
    }

limits_same : (h : Head) (s u : State) → u.nodes ≡ s.nodes → u.next_variable ≡ s.next_variable → Limits h s → Limits h u
limits_same h s u e f k = record { few_leaves = rw e k.few_leaves; few_joins = rw e k.few_joins; short = rw e k.short; low = rw (e, f) k.low }

pub limits_act : (h : Head) (c : Command) (s : State) → first_no (questions h s.nodes c) ≡ 0 → Sound h s → Limits h s → Limits h (act c s)
unfolding act
limits_act h (Command.Leaf l) s q p k = by (known s.nodes l) refl
  where
    by : (b : Bool) → known s.nodes l ≡ b → Limits h (elim b as (λ _. State) [ true ↦ s | false ↦ make (leaf l) 0 s ])
    by true e = k
    by false e = limits_leaf h l s q e p k
limits_act h (Command.Join l r) s q p k = unfold joined in limits_join h _ _ s (join_fits h s.nodes (sized_ok s.nodes p.sized) l r q) p k
limits_act h (Command.Request n v d) s q p k =
    let t = s.nodes in
    let e = serve_nodes t (sized_ok t p.sized) (requests n v d) (requests_asked t n v d (request_fits h t n v d q)) s in
    limits_same h s (serve t (requests n v d) s) e.0 e.1 k
limits_act h Command.Close s q p k = limits_same h s (delete s) (unfold delete in refl) (unfold delete in refl) k

-- ---- a whole table

pub few_variables : {h : Head} {s : State} → Limits h s → s.next_variable ≤ h.variable + most_joins * width
few_variables k = omega (arith, k.low, k.few_joins)

pub few_nodes_lem : {h : Head} {s : State} → Limits h s → length s.nodes ≤ most_nodes
few_nodes_lem {s = s} k = omega (arith, k.few_leaves, k.few_joins, nodes_are s.nodes)
