-- Document 02, §4: the lookup of a leaf works from the last made to the first, and tells how many leaves it looked at.
use mathlib.Core.Path.{◌≡◌, refl, sym, ap, ◌∙◌}
use mathlib.Core.Bool.{true, false}
use mathlib.Core.Logic.{⊎_elim}
use mathlib.Core.List.Memᴰ
use mathlib.Core.List.{List, [], ◌∷◌, ◌++◌, flat_map, Memᴰ}
use mathlib.Core.Option.{none, some}
use Prim.Native.Nat.{ℕ, suc, ◌+◌, ◌<◌}
use native.Mathlib.Omega.{arith}
use borrow.Author.Tests.{eq-eqb, ne_eqb}
use lib.ListN.{length, take, drop, length-drop}
use lib.Seq.{get_or-drop, split_at, length-take-le}
use Rattle.std.specs.Prelude.{Option, Some, None, is_some}
use Rattle.totdb.specs.Nodes.{Node, leaf, join, node_at}
use Rattle.totdb.specs.Leaves.{leaves_from, leaf_table, found_at, not_found, node_found, looked_at, look_further, lookup_in, lookup_leaf}
use Rattle.totdb.proofs.Leaves.{entry, known_found}
use Rattle.cert.specs.State.{State, Head}
use Rattle.player.specs.Player.{act, make}
use Rattle.player.specs.Verdict.{own_literal, leaf_literals, Reached}
use Rattle.player.specs.declared.Command.{Command}
use Rattle.player.proofs.Judged.{reached_sound}
use Rattle.demands.specs.Leaves.{FromTheNewest}

-- ---- any table

-- The nodes are numbered from n up.
missing_from : (n : ℕ) (t : List Node) (l : ℕ) → (Memᴰ l (leaf_literals t) → ⊥) → lookup_in (leaves_from n t) l ≡ not_found (length (leaf_literals t))
unfolding leaves_from lookup_in look_further leaf_literals own_literal flat_map
missing_from n [] l absent = refl
missing_from n (leaf m ∷ t) l absent =
    ap (look_further l (entry m n)) (missing_from (suc n) t l (λ m. absent (Memᴰ.tail m))) ∙ rw (ne_eqb l m (λ e. absent (Memᴰ.head e)), look_further)
missing_from n (join ls o a b ∷ t) l absent = missing_from (suc n) t l absent

found_from : (n : ℕ) (before after : List Node) (l : ℕ) → (Memᴰ l (leaf_literals after) → ⊥)
    → lookup_in (leaves_from n (before ++ (leaf l ∷ after))) l ≡ found_at (n + length before) (1 + length (leaf_literals after))
unfolding leaves_from lookup_in look_further
found_from n [] after l absent =
    let e : n + 0 ≡ n = omega arith in
    let f : 1 + length (leaf_literals after) ≡ suc (length (leaf_literals after)) = omega arith in
    rw (e, f) (ap (look_further l (entry l n)) (missing_from (suc n) after l absent) ∙ rw (eq-eqb l l refl, look_further))
found_from n (leaf m ∷ before) after l absent =
    let e : n + suc (length before) ≡ suc n + length before = omega arith in
    rw e (ap (look_further l (entry m n)) (found_from (suc n) before after l absent))
found_from n (join ls o a b ∷ before) after l absent =
    let e : n + suc (length before) ≡ suc n + length before = omega arith in
    rw (e, found_from (suc n) before after l absent)

found_is : (before after : List Node) (l : ℕ) → (Memᴰ l (leaf_literals after) → ⊥)
    → lookup_leaf (before ++ (leaf l ∷ after)) l ≡ found_at (length before) (1 + length (leaf_literals after))
unfolding lookup_leaf leaf_table
found_is before after l absent = let e : 0 + length before ≡ length before = omega arith in rw e at (found_from 0 before after l absent)

missing_is : (t : List Node) (l : ℕ) → (Memᴰ l (leaf_literals t) → ⊥) → lookup_leaf t l ≡ not_found (length (leaf_literals t))
unfolding lookup_leaf leaf_table
missing_is t l absent = missing_from 0 t l absent

-- ---- the tables of a script

leaf_node : (t : List Node) (l : ℕ) → Memᴰ l (leaf_literals t) → (n : ℕ) × (n < length t) × (node_at t n ≡ leaf l)
unfolding leaf_literals own_literal flat_map node_at
leaf_node [] l m = absurd (Memᴰ.not-nil m)
leaf_node (leaf k ∷ t) l m =
    ⊎_elim (λ e. (0, omega arith, ap leaf (sym e))) (λ h. let r = leaf_node t l h in (suc r.0, omega (arith, r.1), r.2)) (Memᴰ.cases_cons m)
leaf_node (join ls o a b ∷ t) l m = let r = leaf_node t l m in (suc r.0, omega (arith, r.1), r.2)

module _ {bs : List ℕ} {capacity : ℕ} {h : Head} {cs : List Command} {s : State} {rest : List ℕ} (r : Reached bs capacity h cs s rest) where
  leaf_once : (l m n : ℕ) → m < length s.nodes → n < length s.nodes → node_at s.nodes m ≡ leaf l → node_at s.nodes n ≡ leaf l → m ≡ n
  leaf_once l m n i j p q = (reached_sound r).numbered.leaf_once m n l i j p q

  -- No leaf made after one has its literal.
  absent_after : (l n : ℕ) → n < length s.nodes → node_at s.nodes n ≡ leaf l → Memᴰ l (leaf_literals (drop (suc n) s.nodes)) → ⊥
  unfolding node_at
  absent_after l n i e m =
      let later = leaf_node (drop (suc n) s.nodes) l m in
      let within : suc n + later.0 < length s.nodes = omega (arith, later.1, length-drop (suc n) s.nodes) in
      let same : n ≡ suc n + later.0 = leaf_once l n (suc n + later.0) i within e (sym (get_or-drop (suc n) s.nodes later.0 (leaf 0)) ∙ later.2) in
      omega arith

  leaf_found : (l n : ℕ) → n < length s.nodes → node_at s.nodes n ≡ leaf l
      → lookup_leaf s.nodes l ≡ found_at n (1 + length (leaf_literals (drop (suc n) s.nodes)))
  unfolding node_at
  leaf_found l n i e =
      ap (λ (t : List Node). lookup_leaf t l)
      (split_at s.nodes n (leaf 0) i ∙ ap (λ (x : Node). take n s.nodes ++ (x ∷ drop (suc n) s.nodes)) e)
      ∙ found_is (take n s.nodes) (drop (suc n) s.nodes) l (absent_after l n i e)
      ∙ ap (λ (k : ℕ). found_at k (1 + length (leaf_literals (drop (suc n) s.nodes)))) (length-take-le n s.nodes (omega arith))

-- ---- the command

leaf_command : (l : ℕ) (s : State) → act (Command.Leaf l) s ≡ elim (node_found (lookup_leaf s.nodes l)) [ some n ↦ s | none ↦ make (leaf l) 0 s ]
unfolding act node_found
leaf_command l s = rw (known_found s.nodes l, act) (let r = lookup_leaf s.nodes l in by r.looked_at r.node)
  where
    by : (k : ℕ) (x : Option ℕ) → ◌≡◌ {A = State} (elim (is_some x) as (λ _. State) [ true ↦ s | false ↦ make (leaf l) 0 s ])
        (elim (node_found (record { node = x; looked_at = k })) as (λ _. State) [ some n ↦ s | none ↦ make (leaf l) 0 s ])
    by k (Some n) = refl
    by k None = refl

pub from_the_newest : FromTheNewest
unfolding node_found looked_at
from_the_newest = record {
  found = λ before after l absent. (ap node_found (found_is before after l absent), omega (arith, ap looked_at (found_is before after l absent)));
  missing = λ t l absent. (ap node_found (missing_is t l absent), omega (arith, ap looked_at (missing_is t l absent)));
  asked = known_found;
  command = leaf_command;
  once = λ bs capacity h cs s rest r. leaf_once r;
  any_leaf = λ bs capacity h cs s rest r l n i e. (ap node_found (leaf_found r l n i e), omega (arith, ap looked_at (leaf_found r l n i e)));
}
