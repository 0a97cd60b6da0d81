-- The leaves of a table with one node more, and the lookup of a leaf.
use mathlib.Core.Path.{◌≡◌, refl, sym, ap, ◌∙◌}
use mathlib.Core.Bool.{Bool, true, false, ◌||◌}
use mathlib.Core.List.{List, [], ◌∷◌, ◌++◌}
use Prim.Native.Nat.{ℕ, suc, ◌+◌}
use native.Mathlib.Omega.{arith}
use lib.Dec.{eqb}
use lib.ListN.{length}
use Rattle.std.specs.Prelude.{Option, Some, None, is_some}
use Rattle.totdb.specs.Nodes.{Node, leaf, join, any, leaf_of, known, leaf_count}
use Rattle.totdb.specs.Leaves.{LeafEntry, leaves_from, leaf_table, found_at, not_found, is_found, look_further, lookup_in, lookup_leaf}
use Rattle.totdb.specs.declared.LeafLookup.{LeafLookup}
use Rattle.totdb.specs.declared.Side.{Side}

-- ---- one node more

pub leaf_count-leaf : (t : List Node) (l : ℕ) → leaf_count (t ++ (leaf l ∷ [])) ≡ leaf_count t + 1
unfolding leaf_count
leaf_count-leaf [] l = refl
leaf_count-leaf (leaf m ∷ t) l = omega (arith, leaf_count-leaf t l)
leaf_count-leaf (join ls o a b ∷ t) l = leaf_count-leaf t l

pub leaf_count-join : (t : List Node) (ls : List ℕ) (o : ℕ) (l r : Side) → leaf_count (t ++ (join ls o l r ∷ [])) ≡ leaf_count t
unfolding leaf_count
leaf_count-join [] ls o l r = refl
leaf_count-join (leaf m ∷ t) ls o l r = ap suc (leaf_count-join t ls o l r)
leaf_count-join (join ms p a b ∷ t) ls o l r = leaf_count-join t ls o l r

abbrev pub entry : ℕ → ℕ → LeafEntry
entry l n = record { literal = l; node = n }

cons_same : (e : LeafEntry) {es fs : List LeafEntry} → es ≡ fs → e ∷ es ≡ e ∷ fs
cons_same e h = ap {B = List LeafEntry} (λ (es : List LeafEntry). e ∷ es) h

leaves_leaf : (n : ℕ) (t : List Node) (l : ℕ) → leaves_from n (t ++ (leaf l ∷ [])) ≡ leaves_from n t ++ (entry l (n + length t) ∷ [])
unfolding leaves_from
leaves_leaf n [] l = let e : n + 0 ≡ n = omega arith in rw e
leaves_leaf n (leaf m ∷ t) l = let e : n + suc (length t) ≡ suc n + length t = omega arith in rw e (cons_same (entry m n) (leaves_leaf (suc n) t l))
leaves_leaf n (join ls o a b ∷ t) l = let e : n + suc (length t) ≡ suc n + length t = omega arith in rw e (leaves_leaf (suc n) t l)

pub leaf_table-leaf : (t : List Node) (l : ℕ) → leaf_table (t ++ (leaf l ∷ [])) ≡ leaf_table t ++ (entry l (length t) ∷ [])
unfolding leaf_table
leaf_table-leaf t l = let e : 0 + length t ≡ length t = omega arith in rw e at (leaves_leaf 0 t l)

leaves_join : (n : ℕ) (t : List Node) (ls : List ℕ) (o : ℕ) (l r : Side) → leaves_from n (t ++ (join ls o l r ∷ [])) ≡ leaves_from n t
unfolding leaves_from
leaves_join n [] ls o l r = refl
leaves_join n (leaf m ∷ t) ls o l r = cons_same (entry m n) (leaves_join (suc n) t ls o l r)
leaves_join n (join ms p a b ∷ t) ls o l r = leaves_join (suc n) t ls o l r

pub leaf_table-join : (t : List Node) (ls : List ℕ) (o : ℕ) (l r : Side) → leaf_table (t ++ (join ls o l r ∷ [])) ≡ leaf_table t
unfolding leaf_table
leaf_table-join t ls o l r = leaves_join 0 t ls o l r

-- ---- the lookup

-- Older leaves are not looked at once the literal is found.
pub found_stays : (es fs : List LeafEntry) (l n k : ℕ) → lookup_in fs l ≡ found_at n k → lookup_in (es ++ fs) l ≡ found_at n k
unfolding lookup_in look_further
found_stays [] fs l n k h = h
found_stays (e ∷ es) fs l n k h = rw (found_stays es fs l n k h)

found_one_more : (l : ℕ) (e : LeafEntry) (r : LeafLookup) → is_found (look_further l e r) ≡ (eqb l e.literal || is_found r)
unfolding look_further
found_one_more l e r = by r.node (eqb l e.literal)
  where
    by : (x : Option ℕ) (b : Bool) → is_some (elim x as (λ _. LeafLookup) [
      | Some n ↦ record { node = x; looked_at = r.looked_at }
      | None ↦ elim b as (λ _. LeafLookup) [ true ↦ found_at e.node (suc r.looked_at) | false ↦ not_found (suc r.looked_at) ]
    ]).node ≡ (b || is_some x)
    by (Some n) true = refl
    by (Some n) false = refl
    by None true = refl
    by None false = refl

known_from : (n : ℕ) (t : List Node) (l : ℕ) → known t l ≡ is_found (lookup_in (leaves_from n t) l)
unfolding known any leaf_of leaves_from lookup_in
known_from n [] l = refl
known_from n (leaf m ∷ t) l =
    ap (λ (b : Bool). eqb l m || b) (known_from (suc n) t l) ∙ sym (found_one_more l (entry m n) (lookup_in (leaves_from (suc n) t) l))
known_from n (join ls o a b ∷ t) l = known_from (suc n) t l

-- It finds the literals that are leaves.
pub known_found : (t : List Node) (l : ℕ) → known t l ≡ is_found (lookup_leaf t l)
unfolding lookup_leaf leaf_table
known_found t l = known_from 0 t l
