-- A side's literals, as the lists of its node have them.
use mathlib.Core.Path.{◌≡◌, refl, sym, ap, ◌∙◌}
use mathlib.Core.Bool.{Bool, true, false, cond}
use mathlib.Core.List.{List, map}
use Prim.Native.Nat.{ℕ, zero, suc, ◌+◌, ◌-◌, ◌^◌, ◌≤◌, ◌<◌}
use native.Mathlib.Omega.{arith}
use lib.ListN.{length, get_or, take, drop, replicate, length-map, length-drop}
use lib.Seq.{take-take, take-append-le, drop-append-le}
use Rattle.sizes.specs.Sizes.{width, row_at, list_column, list_at}
use Rattle.memo.proofs.Lists.{map_agree}
use Rattle.totdb.specs.Nodes.{Node, node_at, len, leaves, output, outputs, from_first, range, output_row, part, limited, plain_or, side_len, side_leaves, side_outputs}
use Rattle.totdb.specs.declared.Side.{Side}
use Rattle.totdb.proofs.Listed.{length_range, part_range, listed_length}
use Rattle.cert.proofs.Apart.{range_mem}
use Rattle.rows.specs.declared.Shown.{Shown}
use Rattle.rows.proofs.Reading.{row_there, len_is, list_is, from_first_lem}
use Rattle.nodes.specs.Added.{Sided, Small}

-- ---- the outputs of a node

outputs_part : (x : Node) (f m : ℕ) → f + m ≤ len x → part (output_row (output x 1) (len x)) f m ≡ outputs x f m
unfolding part output_row outputs
outputs_part x f m h =
    let list : List ℕ = map (from_first (output x 1)) (range 1 (len x)) in
    let long : length list ≡ len x = listed_length (output x 1) (len x) in
    let e : 1 + f ≡ f + 1 = omega arith in
    ap (take m) (drop-append-le f list (replicate (width - len x) 0) (omega arith))
    ∙ take-append-le m (drop f list) (replicate (width - len x) 0) (omega (arith, length-drop f list))
    ∙ part_range (from_first (output x 1)) 1 (len x) f m h
    ∙ rw e (map_agree (range (f + 1) m) (λ v k. let r = range_mem (f + 1) m v k in sym (from_first_lem x v (omega (arith, r.0)) (omega (arith, r.1)))))

-- ---- a side

plain_cond : (f k : ℕ) (ls os : List ℕ) → cond (plain_or f k true false) ls os ≡ plain_or f k ls os
unfolding plain_or
plain_cond zero zero ls os = refl
plain_cond zero (suc k) ls os = refl
plain_cond (suc f) k ls os = refl

side_part : (ls : List ℕ) (f k : ℕ) (x : Node) → take (len x) ls ≡ leaves x → len x ≤ width → f + limited k (len x - f) ≤ len x
    → part (plain_or f k (take width ls) (output_row (output x 1) (len x))) f (limited k (len x - f))
    ≡ plain_or f k (leaves x) (outputs x f (limited k (len x - f)))
unfolding plain_or limited part
side_part ls zero zero x e w h =
    let a : len x - 0 ≡ len x = omega arith in
    rw a (take-take (len x) width ls w ∙ e)
side_part ls zero (suc k) x e w h = outputs_part x zero (suc k) h
side_part ls (suc f) k x e w h = outputs_part x (suc f) (limited k (len x - suc f)) h

side_long : (f k : ℕ) (x : Node) → length (plain_or f k (leaves x) (outputs x f (limited k (len x - f)))) ≡ limited k (len x - f)
unfolding plain_or limited outputs len
side_long zero zero x = omega arith
side_long zero (suc k) x = length-map (range 1 (suc k)) (output x) ∙ length_range 1 (suc k)
side_long (suc f) k x = length-map (range (suc f + 1) (limited k (len x - suc f))) (output x) ∙ length_range (suc f + 1) (limited k (len x - suc f))

limit_within : (k m : ℕ) → k ≤ limited k m
unfolding limited
limit_within zero m = omega arith
limit_within (suc k) m = omega arith

pub side_count : (t : List Node) (s : Side) → length (side_leaves t s) ≡ side_len t s
unfolding side_leaves side_len side_outputs
side_count t s = side_long s.offset s.limit (node_at t s.node)

module _ {ns : List ℕ} {t : List Node} {s : Shown} (d : Sided ns t s) where
  pub count_is : s.len ≡ length (side_leaves t s.side)
  count_is = d.length ∙ sym (side_count t s.side)

  pub within : s.side.offset + s.len ≤ width
  within = omega (arith, d.length, d.inside, (row_there d.table s.side.node d.there).2)

  pub small : s.window < 2 ^ 32 → Small s
  unfolding side_len
  small h =
      let w : len (node_at t s.side.node) ≤ width = (row_there d.table s.side.node d.there).2 in
      record {
        node = (row_there d.table s.side.node d.there).1;
        offset = omega (arith, d.inside);
        limit = omega (arith, d.inside, limit_within s.side.limit (len (node_at t s.side.node) - s.side.offset));
        len = omega (arith, within);
        window = h;
      }

  -- What the code reads: p is the place of the node's row, m its length.
  module _ {p m : ℕ} (e : p ≡ row_at s.side.node) (f : m ≡ get_or ns p 0) where
    m_is : m ≡ len (node_at t s.side.node)
    m_is = f ∙ rw e (len_is d.table s.side.node d.there)

    -- l is the part that the test b gives.
    pub literals_are : {os l : List ℕ} {b : Bool} → os ≡ output_row s.first m → b ≡ plain_or s.side.offset s.side.limit true false
        → l ≡ part (cond b (take (p + list_column + width - (p + list_column)) (drop (p + list_column) ns)) os) s.side.offset s.len → l ≡ side_leaves t s.side
    unfolding side_leaves side_len side_outputs
    literals_are {os = os} g q is =
        let all : p + list_column + width - (p + list_column) ≡ width = omega arith in
        is
        ∙ rw (q, plain_cond s.side.offset s.side.limit (take (p + list_column + width - (p + list_column)) (drop (p + list_column) ns)) os, all, g, d.first, m_is, d.length, e)
        (side_part (drop (list_at s.side.node) ns) s.side.offset s.side.limit (node_at t s.side.node) (list_is d.table s.side.node d.there)
        (row_there d.table s.side.node d.there).2 d.inside)
