-- The table of the leaves: written, and looked up.
use mathlib.Core.Path.{◌≡◌, sym, ap, ◌∙◌}
use mathlib.Core.List.{List, [], ◌∷◌, ◌++◌, map, map-append}
use Prim.Native.Nat.{ℕ, suc, ◌+◌, ◌-◌, ◌≤◌, ◌<◌}
use native.Mathlib.Omega.{arith}
use borrow.Author.Tests.{eq-eqb, ne_eqb}
use lib.ListN.{length, get_or, set, length-set}
use lib.Seq.{get_or-set_same, get_or-set_other}
use Rattle.sizes.specs.Sizes.{most_leaves, leaf_nodes, nodes_start}
use Rattle.memo.proofs.Lists.{map_agree}
use Rattle.totdb.specs.Nodes.{Node, range, leaf_count}
use Rattle.totdb.specs.Leaves.{LeafEntry, found_at, not_found, look_further, lookup_in, lookup_leaf}
use Rattle.totdb.specs.declared.LeafLookup.{LeafLookup}
use Rattle.totdb.proofs.Leaves.{entry, found_stays}
use Rattle.totdb.proofs.Listed.{range_snoc}
use Rattle.cert.proofs.Apart.{range_mem}
use Rattle.cert.proofs.WindowDerivations.{range_append}
use Rattle.rows.specs.Rows.{read_leaf, Table}

-- ---- written

-- Two tables that have the same numbers of the first k leaves.
pub leaves_agree : (ns ms : List ℕ) (k : ℕ)
    → ((i : ℕ) → i < k → (get_or ms i 0 ≡ get_or ns i 0) × (get_or ms (leaf_nodes + i) 0 ≡ get_or ns (leaf_nodes + i) 0))
    → map (read_leaf ms) (range 0 k) ≡ map (read_leaf ns) (range 0 k)
leaves_agree ns ms k same =
    map_agree {f = read_leaf ms} {g = read_leaf ns} (range 0 k)
    (λ i m. let h = same i (omega (arith, range_mem 0 k i m)) in rw (h.0, h.1))

-- The numbers of one leaf more.
pub leaves_more : (ns : List ℕ) (k l n : ℕ) → k < most_leaves → nodes_start ≤ length ns
    → map (read_leaf (set (set ns k l) (leaf_nodes + k) n)) (range 0 (k + 1)) ≡ map (read_leaf ns) (range 0 k) ++ (entry l n ∷ [])
leaves_more ns k l n few long =
    let one : List ℕ = set ns k l in
    let both : List ℕ = set one (leaf_nodes + k) n in
    let e : k + 1 ≡ suc k = omega arith in
    let f : 0 + k ≡ k = omega arith in
    let last : read_leaf both k ≡ entry l n =
    rw (
      get_or-set_other one (leaf_nodes + k) k n 0 (λ z. omega arith),
      get_or-set_same ns k l 0 (omega arith),
      get_or-set_same one (leaf_nodes + k) n 0 (omega (arith, length-set ns k l)),
    ) in
    rw (e, range_snoc 0 k, f, map-append (read_leaf both) (range 0 k) (k ∷ []), last)
    (ap (λ (es : List LeafEntry). es ++ (entry l n ∷ []))
    (leaves_agree ns both k (λ i h. (
      get_or-set_other one (leaf_nodes + k) i n 0 (λ z. omega arith) ∙ get_or-set_other ns k i l 0 (λ z. omega arith),
      get_or-set_other one (leaf_nodes + k) (leaf_nodes + i) n 0 (λ z. omega arith) ∙ get_or-set_other ns k (leaf_nodes + i) l 0 (λ z. omega arith),
    ))))

-- ---- looked up

module _ (ns : List ℕ) (count l : ℕ) where
  -- The lookup among the leaves from number i on.
  abbrev lookup_from : ℕ → LeafLookup
  lookup_from i = lookup_in (map (read_leaf ns) (range i (count - i))) l

  -- None of them has the literal.
  abbrev pub NoneFrom : ℕ → Type 0
  NoneFrom i = lookup_from i ≡ not_found (count - i)

  pub none_newer : NoneFrom count
  unfolding range lookup_in
  none_newer = let e : count - count ≡ 0 = omega arith in rw e

  -- The next one is looked at.
  module _ (i : ℕ) (some : 0 < i) (within : i ≤ count) (none : NoneFrom i) where
    next : lookup_from (i - 1) ≡ look_further l (read_leaf ns (i - 1)) (not_found (count - i))
    unfolding range lookup_in
    next =
        let e : count - (i - 1) ≡ suc (count - i) = omega arith in
        let f : suc (i - 1) ≡ i = omega arith in
        rw (e, f) (ap (look_further l (read_leaf ns (i - 1))) none)

    pub not_there : (get_or ns (i - 1) 0 ≡ l → ⊥) → NoneFrom (i - 1)
    unfolding look_further
    not_there ne =
        let e : count - (i - 1) ≡ suc (count - i) = omega arith in
        next ∙ rw (e, ne_eqb l (get_or ns (i - 1) 0) (λ z. ne (sym z)), look_further)

    there : get_or ns (i - 1) 0 ≡ l → lookup_from (i - 1) ≡ found_at (get_or ns (leaf_nodes + (i - 1)) 0) (count - (i - 1))
    unfolding look_further
    there is =
        let e : count - (i - 1) ≡ suc (count - i) = omega arith in
        next ∙ rw (e, eq-eqb l (get_or ns (i - 1) 0) (sym is), look_further)

  -- All of them are the leaves of the table.
  module _ (t : List Node) (tb : Table ns t) (counted : leaf_count t ≡ count) where
    whole : lookup_leaf t l ≡ lookup_in (map (read_leaf ns) (range 0 count)) l
    unfolding lookup_leaf
    whole = rw (sym tb.has.leaves, counted)

    pub found_is : (i n k : ℕ) → 0 < i → i ≤ count → NoneFrom i → get_or ns (i - 1) 0 ≡ l → n ≡ get_or ns (leaf_nodes + (i - 1)) 0 → k ≡ count - (i - 1)
        → found_at n k ≡ lookup_leaf t l
    found_is i n k some within none is number looked =
        let older : List LeafEntry = map (read_leaf ns) (range 0 (i - 1)) in
        let newer : List LeafEntry = map (read_leaf ns) (range (i - 1) (count - (i - 1))) in
        let e : count ≡ i - 1 + (count - (i - 1)) = omega arith in
        let f : 0 + (i - 1) ≡ i - 1 = omega arith in
        rw (number, looked)
        (sym (whole
        ∙ ap (λ (es : List LeafEntry). lookup_in es l) (ap (λ (k : ℕ). map (read_leaf ns) (range 0 k)) e ∙ ap (map (read_leaf ns)) (rw f at (range_append 0 (i - 1) (count - (i - 1))))
        ∙ map-append (read_leaf ns) (range 0 (i - 1)) (range (i - 1) (count - (i - 1))))
        ∙ found_stays older newer l (get_or ns (leaf_nodes + (i - 1)) 0) (count - (i - 1)) (there i some within none is)))

    pub missing_is : (i k : ℕ) → NoneFrom i → i ≡ 0 → k ≡ count → not_found k ≡ lookup_leaf t l
    missing_is i k none last all = let e : count - 0 ≡ count = omega arith in rw all (sym (whole ∙ rw (last, e) at none))
