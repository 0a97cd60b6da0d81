-- Nodes and sides, as functions of a table of nodes: length, outputs, leaf lists, and what the table has.
use Rattle.std.specs.Prelude.{◌≡◌, Bool, true, false, ◌||◌, List, [], ◌∷◌, ◌++◌, map, ℕ, zero, suc, ◌+◌, ◌-◌, ◌*◌, eqb, length, get_or, take, drop, replicate}
use Rattle.sizes.specs.Sizes.{width}
use Rattle.totdb.specs.declared.Side.{Side}

-- A leaf with its literal. A join (an inner node of the totalizer's tree) with its leaf list, its first output variable and its two sides.
pub data Node : Type 0 where
  leaf : ℕ → Node
  join : List ℕ → ℕ → Side → Side → Node

-- The node of a number; the numbers count from 0.
unfoldable pub node_at : List Node → ℕ → Node
node_at t n = get_or t n (leaf 0)

-- The literals whose true ones a node counts.
unfoldable pub leaves : Node → List ℕ
leaves (leaf l) = l ∷ []
leaves (join ls o l r) = ls

unfoldable pub len : Node → ℕ
unfolding leaves
len a = length (leaves a)

-- The output of value i, from 1 to the length: it stands for at least i true literals of the leaf list.
unfoldable pub output : Node → ℕ → ℕ
output (leaf l) i = l
output (join ls o l r) i = 2 * (o + i - 1)

-- The same, where the output of value 1 is the literal l: the outputs of a join stand on variables that follow one another.
unfoldable pub from_first : ℕ → ℕ → ℕ
from_first l i = l + 2 * (i - 1)

-- n numbers from s up
unfoldable pub range : ℕ → ℕ → List ℕ
range s zero = []
range s (suc n) = s ∷ range (suc s) n

-- The outputs of the m values above f.
unfoldable pub outputs : Node → ℕ → ℕ → List ℕ
unfolding output range
outputs x f m = map (output x) (range (f + 1) m)

-- The outputs of n values from the first, in a row with zeros after them.
unfoldable pub output_row : ℕ → ℕ → List ℕ
unfolding from_first range
output_row l n = map (from_first l) (range 1 n) ++ replicate (width - n) 0

-- ---- sides

-- The n elements of a list from place i on.
unfoldable pub part : List ℕ → ℕ → ℕ → List ℕ
part l i n = take n (drop i l)

-- the limit if set, else n
unfoldable pub limited : ℕ → ℕ → ℕ
limited zero n = n
limited (suc k) n = suc k

-- A side of a node of n values: n less the offset, or the limit if set.
abbrev pub length_over : Side → ℕ → ℕ
length_over s n = limited s.limit (n - s.offset)

unfoldable pub side_len : List Node → Side → ℕ
unfolding node_at len limited
side_len t s = length_over s (len (node_at t s.node))

-- The limit k at offset f over n values; 0 for the whole length at offset 0, which hides nothing (document 02, §3).
unfoldable pub limit_over : ℕ → ℕ → ℕ → ℕ
limit_over zero k n = elim (eqb k n) [ true ↦ 0 | false ↦ k ]
limit_over (suc f) k n = k

-- A side of a node of n values in its plain form: limit 0 for offset 0 with the whole length, and any other side as it is.
abbrev pub plain_over : Side → ℕ → Side
plain_over s n = record { node = s.node; offset = s.offset; limit = limit_over s.offset s.limit n }

abbrev pub plain_form : List Node → Side → Side
plain_form t s = plain_over s (len (node_at t s.node))

-- The a-th literal is the node's output f + a.
unfoldable pub side_lit : List Node → Side → ℕ → ℕ
unfolding node_at output
side_lit t s a = output (node_at t s.node) (s.offset + a)

-- The value by which the definition of its a-th value is looked up: a value at or below the offset is keyed 0.
unfoldable pub keyed : Side → ℕ → ℕ
keyed s zero = 0
keyed s (suc a) = s.offset + suc a

unfoldable pub side_outputs : List Node → Side → List ℕ
unfolding node_at outputs side_len
side_outputs t s = outputs (node_at t s.node) s.offset (side_len t s)

-- By offset and limit: the first where the side is plain, the second where it is a window.
unfoldable pub plain_or : {A : Type 0} → ℕ → ℕ → A → A → A
plain_or zero zero a b = a
plain_or zero (suc k) a b = b
plain_or (suc f) k a b = b

-- A side with an offset or a limit.
abbrev pub IsWindow : Side → Type 0
IsWindow s = plain_or s.offset s.limit true false ≡ false

-- A plain side gives its node's leaf list, a window its own outputs.
unfoldable pub side_leaves : List Node → Side → List ℕ
unfolding node_at leaves side_outputs plain_or
side_leaves t s = plain_or s.offset s.limit (leaves (node_at t s.node)) (side_outputs t s)

-- The join of two sides as they are, its outputs on the variables from o up.
abbrev pub join_of : List Node → ℕ → Side → Side → Node
join_of t o l r = join (side_leaves t l ++ side_leaves t r) o l r

-- The join of two sides, each in its plain form.
unfoldable pub joined : List Node → ℕ → Side → Side → Node
unfolding node_at len limit_over side_leaves
joined t o l r = join_of t o (plain_form t l) (plain_form t r)

-- ---- what a table has

unfoldable pub any : {A : Type 0} → (A → Bool) → List A → Bool
any f [] = false
any f (x ∷ xs) = f x || any f xs

unfoldable pub leaf_of : ℕ → Node → Bool
leaf_of l (leaf m) = eqb l m
leaf_of l (join ls o a b) = false

-- a literal that is a leaf of the table
unfoldable pub known : List Node → ℕ → Bool
unfolding any leaf_of
known t l = any (leaf_of l) t

unfoldable pub leaf_count : List Node → ℕ
leaf_count [] = 0
leaf_count (leaf l ∷ t) = suc (leaf_count t)
leaf_count (join ls o l r ∷ t) = leaf_count t

unfoldable pub join_count : List Node → ℕ
join_count [] = 0
join_count (leaf l ∷ t) = join_count t
join_count (join ls o l r ∷ t) = suc (join_count t)
