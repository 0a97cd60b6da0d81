-- The sides of a table of nodes, and the place in the store of a window's first steps: with the first side that shows the same outputs.
use Rattle.std.specs.Prelude.{◌≡◌, Bool, true, cond, ◌&&◌, List, [], ◌∷◌, ℕ, suc, ◌<◌, eqb, length}
use Rattle.sizes.specs.Sizes.{left_at, right_at, left_window, right_window}
use Rattle.totdb.specs.Nodes.{Node, leaf, join, node_at, side_len}
use Rattle.totdb.specs.declared.Side.{Side}

-- A side of a join of the table: the place of its row, and where the first steps of its window would stand.
pub data SideAt (t : List Node) : ℕ → ℕ → Side → Type 0 where
  at_left : (n : ℕ) (ls : List ℕ) (o : ℕ) (l r : Side) → n < length t → node_at t n ≡ join ls o l r → SideAt t (left_at n) (left_window n) l
  at_right : (n : ℕ) (ls : List ℕ) (o : ℕ) (l r : Side) → n < length t → node_at t n ≡ join ls o l r → SideAt t (right_at n) (right_window n) r

-- A side shows m outputs of the node n above the offset f.
unfoldable pub shows : List Node → ℕ → ℕ → ℕ → Side → Bool
shows t n f m s = eqb s.node n && eqb s.offset f && eqb (side_len t s) m

-- A side that shows them, with w as the place for its window.
pub record Showing (t : List Node) (n f m w : ℕ) : Type 0 where
  pub row : ℕ
  pub side : Side
  pub of : SideAt t row w side
  pub is : shows t n f m side ≡ true

-- Of the nodes of the second list, numbered from i up, the first side that shows these outputs: where its first steps would stand. 0 where none does.
unfoldable pub window_from : List Node → ℕ → ℕ → ℕ → List Node → ℕ → ℕ
unfolding shows
window_from t n f m [] i = 0
window_from t n f m (leaf l ∷ u) i = window_from t n f m u (suc i)
window_from t n f m (join ls o l r ∷ u) i =
    cond (shows t n f m l) (left_window i) (cond (shows t n f m r) (right_window i) (window_from t n f m u (suc i)))

unfoldable pub window_at : List Node → ℕ → ℕ → ℕ → ℕ
unfolding window_from
window_at t n f m = window_from t n f m t 0
