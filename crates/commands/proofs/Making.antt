-- A leaf or a join that is made, or a leaf that is there already: accepted, and the tables represent the state after it.
use mathlib.Core.Path.{◌≡◌, refl, sym, ◌∙◌, ap, subst}
use mathlib.Core.Bool.{true, false}
use mathlib.Core.List.{List, [], ◌∷◌, ◌++◌}
use Prim.Native.Nat.{ℕ, ◌+◌, ◌-◌, ◌≤◌, ◌<◌}
use native.Mathlib.Omega.{arith}
use lib.ListN.{length, length-append}
use Rattle.std.specs.Prelude.{Result, Ok}
use Rattle.pb.specs.Sum.{variable}
use Rattle.sizes.specs.Sizes.{most_leaves, most_variable}
use Rattle.totdb.specs.Nodes.{Node, leaf, joined, node_at, leaves, len, known, leaf_count, join_count, plain_form, side_len, side_leaves}
use Rattle.totdb.specs.declared.Side.{Side}
use Rattle.totdb.proofs.Leaves.{leaf_count-leaf, leaf_count-join}
use Rattle.cert.specs.State.{State, Head}
use Rattle.cert.proofs.Apart.{sized_ok}
use Rattle.cert.proofs.Few.{nodes_are}
use Rattle.cert.proofs.Tables.{at_last, length_snoc}
use Rattle.rows.specs.Rows.{Table}
use Rattle.define.specs.Represents.{memory}
use Rattle.nodes.specs.Added.{Leafable, Joinable}
use Rattle.player.specs.Formed.{Formed}
use Rattle.player.specs.Player.{first_no, questions, act, make, accepted}
use Rattle.player.specs.declared.Command.{Command}
use Rattle.player.specs.declared.Refusal.{Refusal}
use Rattle.player.proofs.Formed.{formed_act, head_low}
use Rattle.player.proofs.Sound.{JoinFits, join_fits, side_leaves-length, plain_side_len}
use Rattle.player.proofs.Limits.{few_variables, limits_act}
use Rattle.player.proofs.Plays.{play_goes}
use Rattle.commands.specs.Standing.{Standing, Room, Played, went}
use Rattle.commands.specs.declared.Totals.{Totals}
use Rattle.commands.proofs.CommandEnds.{fits}
use Rattle.commands.proofs.NodeMore.{exact_make}

module _ {h : Head} {c : ℕ} {ns store log : List ℕ} {z : Totals} {s : State} (st : Standing h c ns (memory store log z.at) z s) where
  -- The totals with a node more, and these leaves and this next variable.
  abbrev more : ℕ → ℕ → Totals
  more n v = record { at = z.at; step = z.step; clauses = z.clauses; nodes = z.nodes + 1; leaves = n; variable = v }

  -- A command that makes the node a.
  module _ (k : Command) (asked : first_no (questions h s.nodes k) ≡ 0) (a : Node) (i : ℕ) (is : act k s ≡ make a i s)
      (room : Room ns store z.nodes) (ns' : List ℕ) (table : Table ns' (s.nodes ++ (a ∷ []))) (n v : ℕ) (leaves : n ≡ leaf_count (s.nodes ++ (a ∷ [])))
      (next : v ≡ s.next_variable + i) where
    after : Standing h c ns' (memory store log z.at) (more n v) (make a i s)
    unfolding make
    after = record {
      formed = subst (λ (u : State). Formed h u) is (formed_act h k s asked st.formed);
      table = table;
      exact =
          exact_make s.nodes a st.table.bounded i (omega (arith, room.store_row, st.nodes, table.bounded.few, length_snoc s.nodes a)) st.formed.held st.exact;
      step = st.step;
      clauses = st.clauses;
      nodes = omega (arith, st.nodes, length_snoc s.nodes a);
      leaves = leaves;
      variable = next;
    }

    same_log : (act k s).log ≡ s.log
    same_log = rw is (unfold make in refl)

    makes : (e : Result Totals Refusal) → e ≡ Ok (more n v) → Played h c k s z ns' store log e
    makes e ends =
        went (act k s) (more n v) (play_goes h c k s asked (rw same_log (fits st))) ends
        (subst (λ (u : State). Standing h c ns' (memory store log z.at) (more n v) u) (sym is) after)

  -- ---- a leaf

  -- A leaf that is there already.
  pub leaf_there : (l : ℕ) → first_no (questions h s.nodes (Command.Leaf l)) ≡ 0 → known s.nodes l ≡ true → (e : Result Totals Refusal) → e ≡ Ok z
      → Played h c (Command.Leaf l) s z ns store log e
  leaf_there l asked there e ends =
      let same : act (Command.Leaf l) s ≡ s = unfold act in rw (there, act) in
      went s z (play_goes h c (Command.Leaf l) s asked (rw same (fits st)) ∙ ap accepted same) ends st

  pub leafable : (l : ℕ) → variable l < h.variable → z.leaves < most_leaves → Leafable ns s.nodes z.nodes z.leaves l
  unfolding variable
  leafable l low few = record {
    table = st.table;
    next = sym st.nodes;
    leaves = sym st.leaves;
    few = few;
    room = omega (arith, st.nodes, st.leaves, few, nodes_are s.nodes, st.formed.limits.few_joins);
    low = omega (arith, low, (head_low h st.formed.head).0);
  }

  pub leaf_made : (l : ℕ) → first_no (questions h s.nodes (Command.Leaf l)) ≡ 0 → known s.nodes l ≡ false
      → Room ns store z.nodes → (ns' : List ℕ) → Table ns' (s.nodes ++ (leaf l ∷ [])) → (e : Result Totals Refusal)
      → e ≡ Ok (more (z.leaves + 1) z.variable) → Played h c (Command.Leaf l) s z ns' store log e
  leaf_made l asked new room ns' table =
      makes (Command.Leaf l) asked (leaf l) 0 (unfold act in rw (new, act)) room ns' table _ _
      (omega (arith, st.leaves, leaf_count-leaf s.nodes l)) (omega (arith, st.variable))

  -- ---- a join

  -- The joins made.
  pub joins_made : (z.leaves ≤ z.nodes) × (join_count s.nodes ≡ z.nodes - z.leaves)
  joins_made = (omega (arith, nodes_are s.nodes, st.nodes, st.leaves), omega (arith, nodes_are s.nodes, st.nodes, st.leaves))

  pub join_made : (l r : Side) → first_no (questions h s.nodes (Command.Join l r)) ≡ 0 → Room ns store z.nodes
      → (ns' : List ℕ) → Table ns' (s.nodes ++ (joined s.nodes z.variable l r ∷ [])) → (v : ℕ) → v ≡ z.variable + len (joined s.nodes z.variable l r)
      → (e : Result Totals Refusal) → e ≡ Ok (more z.leaves v) → Played h c (Command.Join l r) s z ns' store log e
  join_made l r asked room ns' table v next =
      let x : Node = joined s.nodes z.variable l r in
      let same : leaf_count (s.nodes ++ (joined s.nodes z.variable l r ∷ [])) ≡ leaf_count s.nodes =
      unfold joined in leaf_count-join s.nodes _ z.variable _ _ in
      let is : act (Command.Join l r) s ≡ make x (len x) s =
      unfold act in ap (λ (o : ℕ). make (joined s.nodes o l r) (len (joined s.nodes o l r)) s) (sym st.variable) in
      makes (Command.Join l r) asked x (len x) is room ns' table _ _ (omega (arith, st.leaves, same)) (omega (arith, next, st.variable))

  -- Two sides that pass their questions may be joined, and their join has 64 outputs at most.
  module _ (l r : Side) (asked : first_no (questions h s.nodes (Command.Join l r)) ≡ 0) where
    fit : JoinFits s.nodes (plain_form s.nodes l) (plain_form s.nodes r)
    fit = join_fits h s.nodes (sized_ok s.nodes st.table.bounded.sized) l r asked

    long : (o : ℕ) → len (joined s.nodes o l r) ≡ side_len s.nodes l + side_len s.nodes r
    unfolding len leaves joined
    long o =
        length-append (side_leaves s.nodes (plain_form s.nodes l)) (side_leaves s.nodes (plain_form s.nodes r))
        ∙ rw (side_leaves-length s.nodes (plain_form s.nodes l), side_leaves-length s.nodes (plain_form s.nodes r), plain_side_len s.nodes l, plain_side_len s.nodes r)

    short : side_len s.nodes l + side_len s.nodes r ≤ 64
    short =
        let t = limits_act h (Command.Join l r) s asked st.formed.sound st.formed.limits in
        let x : Node = joined s.nodes s.next_variable l r in
        let e : (act (Command.Join l r) s).nodes ≡ s.nodes ++ (joined s.nodes s.next_variable l r ∷ []) = unfold act make in refl in
        let k : len (node_at (s.nodes ++ (x ∷ [])) (length s.nodes)) ≤ 64 =
        subst (λ (y : List Node). (n : ℕ) → n < length y → len (node_at y n) ≤ 64) e t.short (length s.nodes) (omega (arith, length_snoc s.nodes x)) in
        let j : len x ≤ 64 = subst (λ (y : Node). len y ≤ 64) (at_last s.nodes x) k in
        omega (arith, long s.next_variable)

    pub joined_short : (o : ℕ) → len (joined s.nodes o l r) ≤ 64
    joined_short o = omega (arith, short, long o)

    pub low_variable : z.variable ≤ most_variable
    low_variable = omega (arith, st.variable, few_variables st.formed.limits, (head_low h st.formed.head).0)

    pub joinable : Joinable ns s.nodes z.nodes z.variable l r
    joinable = record {
      table = st.table;
      next = sym st.nodes;
      room = omega (arith, st.nodes, nodes_are s.nodes, st.formed.limits.few_leaves, fit.few);
      left = fit.left;
      right = fit.right;
      apart = fit.apart;
      left_some = fit.left_some;
      right_some = fit.right_some;
      left_in = rw (plain_side_len s.nodes l) at fit.left_in;
      right_in = rw (plain_side_len s.nodes r) at fit.right_in;
      short = short;
      low = low_variable;
    }
