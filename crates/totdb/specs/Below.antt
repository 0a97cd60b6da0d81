-- The leaves below a node, and whether a leaf lies below two nodes (document 02, §5). A leaf lies below itself, and below a join lies what lies
-- below the nodes of its sides, through windows or not.
use Rattle.std.specs.Prelude.{Bool, List, [], ◌∷◌, ◌++◌, ℕ, suc, ◌^◌, eqb, get_or}
use Rattle.std.specs.Int.Bits.{bit_or}
use Rattle.totdb.specs.Nodes.{Node, leaf, join, any}

-- The leaves below each node, by their numbers in the order of making, from 0. The lists bs are those of the nodes before the list t; k is the number
-- of leaves among these.
unfoldable pub below_from : ℕ → List (List ℕ) → List Node → List (List ℕ)
below_from k bs [] = bs
below_from k bs (leaf l ∷ t) = below_from (suc k) (bs ++ ((k ∷ []) ∷ [])) t
below_from k bs (join ls o l r ∷ t) = below_from k (bs ++ ((get_or bs l.node [] ++ get_or bs r.node []) ∷ [])) t

-- Those below node n.
unfoldable pub leaves_below : List Node → ℕ → List ℕ
unfolding below_from
leaves_below t n = get_or (below_from 0 [] t) n []

-- The lists have a number in common.
unfoldable pub overlap : List ℕ → List ℕ → Bool
unfolding any
overlap xs ys = any (λ (x : ℕ). any (eqb x) ys) xs

-- A leaf lies below both nodes.
unfoldable pub share_leaf : List Node → ℕ → ℕ → Bool
unfolding leaves_below overlap
share_leaf t n m = overlap (leaves_below t n) (leaves_below t m)

-- The number whose bit x is 1 for each x of the list.
unfoldable pub mask : List ℕ → ℕ
mask [] = 0
mask (x ∷ xs) = bit_or (2 ^ x) (mask xs)
