-- The first question answered no, of a leaf, a join and a request, in the order of the code.
use mathlib.Core.Path.{◌≡◌, refl, sym, ◌∙◌, ap}
use mathlib.Core.Bool.{Bool, true, false}
use mathlib.Core.List.{List}
use Prim.Native.Nat.{ℕ, ◌≤◌, ◌<◌}
use native.Mathlib.Decide.{dec_le}
use native.Mathlib.Omega.{arith}
use borrow.Author.Tests.{lt-ltb, le-ltb, le-leb, lt-leb}
use lib.ListN.{length}
use Rattle.pb.specs.Sum.{variable, neg}
use Rattle.totdb.specs.Nodes.{Node, node_at, len, known}
use Rattle.totdb.specs.declared.Side.{Side}
use Rattle.cert.specs.State.{Head}
use Rattle.player.specs.Player.{first_no, fits_over, questions, side_fits}
use Rattle.player.specs.declared.Command.{Command}
use Rattle.player.proofs.Lengths.{Free, asked_ten, value_zero}

module _ (h : Head) (t : List Node) (l : ℕ) where
  pub leaf_6 : h.variable ≤ variable l → first_no (questions h t (Command.Leaf l)) ≡ 6
  unfolding questions first_no
  leaf_6 p = rw (le-ltb (variable l) h.variable p)

  module _ (low : variable l < h.variable) where
    pub leaf_known : known t l ≡ true → first_no (questions h t (Command.Leaf l)) ≡ 0
    unfolding questions first_no
    leaf_known p = rw (lt-ltb (variable l) h.variable low, p)

    module _ (new : known t l ≡ false) where
      pub leaf_negated : known t (neg l) ≡ true → first_no (questions h t (Command.Leaf l)) ≡ 7
      unfolding questions first_no
      leaf_negated p = rw (lt-ltb (variable l) h.variable low, new, p)

module _ (h : Head) (t : List Node) (l r : Side) where
  pub join_left : length t ≤ l.node → first_no (questions h t (Command.Join l r)) ≡ 8
  unfolding questions first_no
  join_left p = rw (le-ltb l.node (length t) p)

  module _ (left : l.node < length t) where
    pub join_right : length t ≤ r.node → first_no (questions h t (Command.Join l r)) ≡ 8
    unfolding questions first_no
    join_right p = rw (lt-ltb l.node (length t) left, le-ltb r.node (length t) p)

module _ (h : Head) (t : List Node) (l r : Side) (free : Free t l r) where
  pub join_left_out : side_fits t l ≡ false → first_no (questions h t (Command.Join l r)) ≡ 10
  unfolding first_no
  join_left_out p = asked_ten h t l r free ∙ rw p

  module _ (left_in : side_fits t l ≡ true) where
    pub join_right_out : side_fits t r ≡ false → first_no (questions h t (Command.Join l r)) ≡ 10
    unfolding first_no
    join_right_out p = asked_ten h t l r free ∙ rw (left_in, p)

    pub join_fits_both : side_fits t r ≡ true → first_no (questions h t (Command.Join l r)) ≡ 0
    unfolding first_no
    join_fits_both p = asked_ten h t l r free ∙ rw (left_in, p)

module _ (h : Head) (t : List Node) (n v d : ℕ) where
  pub request_8 : length t ≤ n → first_no (questions h t (Command.Request n v d)) ≡ 8
  unfolding questions first_no
  request_8 p = rw (le-ltb n (length t) p)

  module _ (there : n < length t) where
    pub request_zero : v ≡ 0 → first_no (questions h t (Command.Request n v d)) ≡ 11
    request_zero p = rw p (value_zero h t n there d)

    module _ (above : 1 ≤ v) (within : v ≤ len (node_at t n)) where
      pub request_12 : (1 ≤ d → d ≤ 3 → ⊥) → first_no (questions h t (Command.Request n v d)) ≡ 12
      unfolding questions first_no
      request_12 p = by (dec_le 1 d) (dec_le d 3)
        where
          by : Dec (1 ≤ d) → Dec (d ≤ 3) → first_no (questions h t (Command.Request n v d)) ≡ 12
          by (no q) r = rw (lt-ltb n (length t) there, le-leb 1 v above, le-leb v (len (node_at t n)) within, lt-leb 1 d (omega arith))
          by (yes q) (no r) = rw (lt-ltb n (length t) there, le-leb 1 v above, le-leb v (len (node_at t n)) within, le-leb 1 d q, lt-leb d 3 (omega arith))
          by (yes q) (yes r) = absurd (p q r)

-- ---- a side of the nodes

pub side_fits_lem : (t : List Node) (s : Side) (n : ℕ) → n ≡ len (node_at t s.node) → (b : Bool) → fits_over s n ≡ b → side_fits t s ≡ b
side_fits_lem t s n p b e =
    let over : side_fits t s ≡ fits_over s (len (node_at t s.node)) = unfold side_fits in refl in
    over ∙ ap (fits_over s) (sym p) ∙ e
