-- The leaves of a table of nodes in the order of their making, and the lookup of one by its literal (document 02, §4).
use Rattle.std.specs.Prelude.{Bool, true, false, List, [], ◌∷◌, ℕ, suc, eqb, Some, None, is_some}
use Rattle.std.proofs.Math.Option.{Option, none, some}
use Rattle.totdb.specs.Nodes.{Node, leaf, join}
use Rattle.totdb.specs.declared.LeafLookup.{LeafLookup}

-- A leaf: its literal, and the number of its node.
pub record LeafEntry : Type 0 where
  pub literal : ℕ
  pub node : ℕ

-- The leaves among nodes that are numbered from n up.
unfoldable pub leaves_from : ℕ → List Node → List LeafEntry
leaves_from n [] = []
leaves_from n (leaf l ∷ t) = record { literal = l; node = n } ∷ leaves_from (suc n) t
leaves_from n (join ls o l r ∷ t) = leaves_from (suc n) t

unfoldable pub leaf_table : List Node → List LeafEntry
unfolding leaves_from
leaf_table t = leaves_from 0 t

-- ---- the lookup

-- A lookup that found node n at the k-th leaf that it looked at, and one that looked at k leaves and found none.
abbrev pub found_at : ℕ → ℕ → LeafLookup
found_at n k = record { node = Some n; looked_at = k }

abbrev pub not_found : ℕ → LeafLookup
not_found k = record { node = None; looked_at = k }

-- The node that a lookup found, and how many leaves it looked at.
unfoldable pub node_found : LeafLookup → Option ℕ
node_found r = elim r.node [ Some n ↦ some n | None ↦ none ]

unfoldable pub looked_at : LeafLookup → ℕ
looked_at r = r.looked_at

abbrev pub is_found : LeafLookup → Bool
is_found r = is_some r.node

-- One more leaf is looked at, unless the literal was found among those made after it.
unfoldable pub look_further : ℕ → LeafEntry → LeafLookup → LeafLookup
look_further l e r =
    elim r.node [
      | Some n ↦ r
      | None ↦ elim (eqb l e.literal) [ true ↦ found_at e.node (suc r.looked_at) | false ↦ not_found (suc r.looked_at) ]
    ]

-- From the last of the leaves to the first.
unfoldable pub lookup_in : List LeafEntry → ℕ → LeafLookup
unfolding look_further
lookup_in [] l = not_found 0
lookup_in (e ∷ es) l = look_further l e (lookup_in es l)

unfoldable pub lookup_leaf : List Node → ℕ → LeafLookup
unfolding leaf_table lookup_in
lookup_leaf t l = lookup_in (leaf_table t) l
