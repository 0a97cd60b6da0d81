-- Accepted commands keep the variables of the table different: no leaf lies below both sides of a join.
use mathlib.Core.Path.{◌≡◌, sym, ◌∙◌, ap, refl, subst}
use mathlib.Core.Bool.{Bool, true, false}
use mathlib.Core.Logic.{◌≢◌, ◌⊎◌, inl, inr, ⊎_elim}
use mathlib.Core.List.{List, [], ◌∷◌, ◌++◌}
use Prim.Native.Nat.{ℕ, ◌≤◌, ◌<◌}
use native.Mathlib.Decide.{ℕ_discrete}
use native.Mathlib.Omega.{arith}
use lib.ListN.{length}
use Rattle.pb.specs.Sum.{variable, neg}
use Rattle.pb.proofs.Terms.{same_variable}
use Rattle.totdb.specs.Nodes.{Node, len, node_at, output, leaf, join, side_leaves, known, join_of, joined}
use Rattle.totdb.specs.declared.Side.{Side}
use Rattle.cert.specs.State.{State, requests, Head}
use Rattle.cert.proofs.Apart.{sized_ok}
use Rattle.cert.proofs.Distinct.{Distinct, OutputsApart, distinct, outputs_snoc, higher}
use Rattle.player.specs.Formed.{Sound}
use Rattle.player.specs.Player.{first_no, questions, act, make, delete}
use Rattle.player.specs.declared.Command.{Command}
use Rattle.player.proofs.Decoded.{output_low}
use Rattle.player.proofs.Sound.{leaf_new, serve_nodes, requests_asked, request_fits, sound_act}
use Rattle.player.proofs.Questions.{leaf_low, leaf_apart}

-- ---- a join

outputs_join : (h : Head) (s : State) → Sound h s → OutputsApart s.nodes → (l r : Side)
    → OutputsApart (s.nodes ++ (join_of s.nodes s.next_variable l r ∷ []))
outputs_join h s p d l r =
    let ls : List ℕ = side_leaves s.nodes l ++ side_leaves s.nodes r in
    outputs_snoc s.nodes (join ls s.next_variable l r) d
    (λ n i j hn x y z w e. higher (output (node_at s.nodes n) i) s.next_variable j ls l r (output_low h s p n i hn x y) z e)

-- ---- a leaf

join_high_variable : (ls : List ℕ) (o : ℕ) (a b : Side) (i l v : ℕ) → variable l < v → v ≤ o → 1 ≤ i
    → variable (output (join ls o a b) i) ≡ variable l → ⊥
unfolding output variable
join_high_variable ls o a b i l v h g x q = omega arith

same_literal : (l m : ℕ) → variable m ≡ variable l → (m ≡ l) ⊎ (m ≡ neg l)
same_literal l m e = by (ℕ_discrete m l)
  where
    by : Dec (m ≡ l) → (m ≡ l) ⊎ (m ≡ neg l)
    by (yes q) = inl q
    by (no q) = inr (same_variable l m (sym e) (λ z. q (sym z)))

module _ (h : Head) (s : State) (p : Sound h s) (l : ℕ) (below-first : variable l < h.variable)
    (new : known s.nodes l ≡ false) (new-not : known s.nodes (neg l) ≡ false) where
  leaf_variables : (n i : ℕ) → n < length s.nodes → 1 ≤ i → i ≤ len (node_at s.nodes n) → variable (output (node_at s.nodes n) i) ≢ variable l
  leaf_variables n i hn x y = by (node_at s.nodes n) refl
    where
      by : (b : Node) → node_at s.nodes n ≡ b → variable (output b i) ≢ variable l
      by (leaf m) e q = ⊎_elim (λ z. leaf_new s.nodes l new n hn (e ∙ ap leaf z)) (λ z. leaf_new s.nodes (neg l) new-not n hn (e ∙ ap leaf z))
          (same_literal l m (unfold output in q))
      by (join ls o a b) e q = join_high_variable ls o a b i l h.variable below-first (p.numbered.join_high n ls o a b hn e) x q

  outputs_leaf : OutputsApart s.nodes → OutputsApart (s.nodes ++ (leaf l ∷ []))
  unfolding output
  outputs_leaf d = outputs_snoc s.nodes (leaf l) d (λ n i j hn x y z w. leaf_variables n i hn x y)

-- ---- every command

outputs_act : (h : Head) (c : Command) (s : State) → first_no (questions h s.nodes c) ≡ 0 → Sound h s → OutputsApart s.nodes
    → OutputsApart (act c s).nodes
unfolding act
outputs_act h (Command.Leaf l) s q p d = by (known s.nodes l) refl
  where
    by : (b : Bool) → known s.nodes l ≡ b → OutputsApart (elim b as (λ _. State) [ true ↦ s | false ↦ make (leaf l) 0 s ]).nodes
    by true e = d
    by false e = unfold make in outputs_leaf h s p l (leaf_low h s.nodes l q) e (leaf_apart h s.nodes l q e) d
outputs_act h (Command.Join l r) s q p d = unfold make joined in outputs_join h s p d _ _
outputs_act h (Command.Request n v e) s q p d =
    let t = s.nodes in
    subst OutputsApart (sym (serve_nodes t (sized_ok t p.sized) (requests n v e) (requests_asked t n v e (request_fits h t n v e q)) s).0) d
outputs_act h Command.Close s q p d = unfold delete in d

pub distinct_act : (h : Head) (c : Command) (s : State) → first_no (questions h s.nodes c) ≡ 0 → Sound h s → Distinct s.nodes
    → Distinct (act c s).nodes
distinct_act h c s q p d = distinct (act c s).nodes (sound_act h c s q p).sized (outputs_act h c s q p d.outputs)
