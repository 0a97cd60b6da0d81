-- The places of the windows of a node under three joins, worked out.
use mathlib.Core.Path.{◌≡◌, refl}
use mathlib.Core.List.{List, [], ◌∷◌}
use Prim.Native.Nat.{ℕ}
use Rattle.sizes.specs.Sizes.{left_window, right_window}
use Rattle.totdb.specs.Nodes.{Node, leaf, join, side_len}
use Rattle.totdb.specs.declared.Side.{Side}
use Rattle.rows.specs.Windows.{window_at}

side : ℕ → ℕ → ℕ → Side
side n f k = record { node = n; offset = f; limit = k }

-- Node 4 has three outputs. Node 8 shows the second and the third with no limit, node 9 the same with a limit, node 10 the first and the second.
shared : List Node
shared =
    leaf 0 ∷ leaf 2 ∷ join (0 ∷ 2 ∷ []) 6 (side 0 0 0) (side 1 0 0) ∷ leaf 4
    ∷ join (0 ∷ 2 ∷ 4 ∷ []) 8 (side 2 0 0) (side 3 0 0)
    ∷ leaf 6 ∷ leaf 8 ∷ leaf 10
    ∷ join (6 ∷ 18 ∷ 20 ∷ []) 11 (side 5 0 0) (side 4 1 0)
    ∷ join (18 ∷ 20 ∷ 8 ∷ []) 14 (side 4 1 2) (side 6 0 0)
    ∷ join (16 ∷ 18 ∷ 10 ∷ []) 17 (side 4 0 2) (side 7 0 0)
    ∷ []

-- One place for the same outputs, one for others, and none for a window that no side shows.
met_places : window_at shared 4 1 2 ∷ window_at shared 4 0 2 ∷ window_at shared 4 2 1 ∷ [] ≡ right_window 8 ∷ left_window 10 ∷ 0 ∷ []
unfolding shared side side_len window_at
met_places = refl
