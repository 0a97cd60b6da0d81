-- A clause with both parts, over plain sides of two values or more, whose definitions are stored.
use Rattle.std.specs.Prelude.{◌≡◌, Bool, true, false, cond, ◌&&◌, List, ℕ, ◌+◌, ◌≤◌, leb, ltb}
use Rattle.sizes.specs.Sizes.{store_at}
use Rattle.totdb.specs.Nodes.{plain_or}
use Rattle.derivation.specs.Operands.{clause_room}
use Rattle.rows.specs.declared.Join.{Join}
use Rattle.rows.specs.declared.Shown.{Shown}
use Rattle.clauses.specs.declared.Split.{Split}
use Rattle.clauses.specs.Firsts.{has_first}

-- A side is plain and has two values or more.
unfoldable pub is_long : Shown → Bool
unfolding plain_or
is_long s = ltb 1 s.len && plain_or s.side.offset s.side.limit true false

unfoldable pub are_long : Join → Bool
unfolding is_long
are_long x = is_long x.left && is_long x.right

-- The clause has both parts: in an only-if clause neither value is above its side's length, in an if clause neither is 0.
unfoldable pub has_both : Join → Split → Bool
has_both x k = cond k.only_if (leb k.left x.left.len && leb k.right x.right.len) (ltb 0 k.left && ltb 0 k.right)

pub record BothParts (x : Join) (k : Split) : Type 0 where
  pub long : are_long x ≡ true
  pub left_above : 1 ≤ k.left
  pub left_within : k.left ≤ x.left.len
  pub right_above : 1 ≤ k.right
  pub right_within : k.right ≤ x.right.len

-- The clause has both parts, its three definitions are stored, and there is room for it in a log of n bytes.
unfoldable pub is_ready : List ℕ → ℕ → ℕ → Join → Split → Bool → Bool
unfolding has_both
is_ready store n at x k long =
    long
    && (has_both x k
    && (leb (at + clause_room) n
    && (has_first store (store_at x.node + k.value)
    && (has_first store (store_at x.left.side.node + k.left) && has_first store (store_at x.right.side.node + k.right)))))
