-- The leaves below the nodes of a table, worked out: a node under two joins, a diamond, windows on the way; and masks.
use mathlib.Core.Path.{◌≡◌, refl}
use mathlib.Core.Bool.{true, false}
use mathlib.Core.List.{List, [], ◌∷◌, map}
use Prim.Native.Nat.{ℕ}
use Rattle.totdb.specs.Below.{leaves_below, share_leaf, mask}
use Rattle.totdb.specs.Nodes.{Node, leaf, join, range}
use Rattle.totdb.specs.declared.Side.{Side}

side : ℕ → ℕ → ℕ → Side
side n f k = record { node = n; offset = f; limit = k }

-- Leaves 0 and 2 and their join, node 2; leaves 4 and 6; node 5 shows output 2 of node 2 beside leaf 4, node 6 the whole of node 2 beside leaf 6.
shared : List Node
shared =
    leaf 0 ∷ leaf 2 ∷ join (0 ∷ 2 ∷ []) 4 (side 0 0 0) (side 1 0 0) ∷ leaf 4 ∷ leaf 6
    ∷ join (10 ∷ 4 ∷ []) 6 (side 2 1 0) (side 3 0 0)
    ∷ join (0 ∷ 2 ∷ 6 ∷ []) 8 (side 2 0 0) (side 4 0 0)
    ∷ []

met_below : map (leaves_below shared) (range 0 7)
    ≡ (0 ∷ []) ∷ (1 ∷ []) ∷ (0 ∷ 1 ∷ []) ∷ (2 ∷ []) ∷ (3 ∷ []) ∷ (0 ∷ 1 ∷ 2 ∷ []) ∷ (0 ∷ 1 ∷ 3 ∷ []) ∷ []
unfolding shared side leaves_below range
met_below = refl

-- One node twice; a join and a node under it, also where a window hides it; two joins over one node; and three that share none.
met_share :
    share_leaf shared 0 0 ∷ share_leaf shared 2 2 ∷ share_leaf shared 2 0 ∷ share_leaf shared 0 5 ∷ share_leaf shared 5 6
    ∷ share_leaf shared 2 3 ∷ share_leaf shared 4 5 ∷ share_leaf shared 6 3 ∷ []
    ≡ true ∷ true ∷ true ∷ true ∷ true ∷ false ∷ false ∷ false ∷ []
unfolding shared side share_leaf
met_share = refl

-- The masks of these nodes; the bits of a list come in any order, and the highest of 64 is one of them.
met_masks : map {B = ℕ} (λ (n : ℕ). mask (leaves_below shared n)) (range 0 7) ≡ 1 ∷ 2 ∷ 3 ∷ 4 ∷ 8 ∷ 7 ∷ 11 ∷ []
unfolding shared side leaves_below range mask
met_masks = refl

met_high : mask (63 ∷ 0 ∷ []) ≡ 9223372036854775809
unfolding mask
met_high = refl
