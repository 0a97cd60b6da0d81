-- What requests depend on below and which definitions their clauses use, worked out, through a plain side, a leaf and a window.
use mathlib.Core.Path.{◌≡◌, refl}
use mathlib.Core.List.{List, [], ◌∷◌, map, flat_map, Memᴰ}
use Prim.Native.Nat.{zero, suc}
use native.Mathlib.Decide.{dec_le, ℕ_discrete}
use native.Mathlib.Omega.{arith}
use Rattle.totdb.specs.Nodes.{node_at, leaves, len, output, outputs, range, limited, side_len, side_leaves, side_outputs, plain_or}
use Rattle.totdb.specs.Below.{share_leaf}
use Rattle.cert.specs.Definitions.{Direction, if, only_if, Key, real, window_zero, window, window_def, long_def, side_def, pulls}
use Rattle.cert.specs.Lookups.{side_keys, lookup_keys, used_at, used_by, keys_of}
use Rattle.cert.specs.Requests.{Request, request, splits, Lookup, of_node, Clause, if_clause, clauses_at, clauses_of, definition, key_of, looked_up, looks_of, lookups, Right}
use Rattle.cert.specs.Totalizer.{literal_at, opposite, complement, simplify, C1, C2, pairs, schema, name_of, dependency, dependencies_at, dependencies}
use Rattle.cert.proofs.Answers.{table}
use Rattle.cert.proofs.Available.{Available, clause_available, pulled_available}
use Rattle.cert.specs.Sized.{Fit, Sized}
use Rattle.cert.proofs.LeavesBelow.{share_no}
use Rattle.cert.proofs.Lookups.{Covers, lookups_are}
use Rattle.cert.proofs.SchemaCases.{side}

pub record Case : Type 0 where
  pub of : Request
  pub below : List Request
  pub looked : List Key

unfoldable case : Request → List Request → List Key → Case
case x ys ks = record { of = x; below = ys; looked = ks }

unfoldable pub cases : List Case
unfolding case
cases =
    -- two leaves; a node of length 2 and a leaf, at the lowest value and at the highest
    case (request 4 1 if) (request 1 1 if ∷ request 0 1 if ∷ []) (real 4 1 ∷ real 4 1 ∷ [])
    ∷ case (request 5 1 if) (request 2 1 if ∷ request 4 1 if ∷ []) (real 4 0 ∷ real 5 1 ∷ real 4 1 ∷ real 5 1 ∷ [])
    ∷ case (request 5 3 only_if) (request 4 2 only_if ∷ request 2 1 only_if ∷ []) (real 4 2 ∷ real 5 3 ∷ real 4 3 ∷ real 5 3 ∷ [])
    -- the outputs of values 2 and 3 of node 5, and a leaf
    ∷ case (request 6 1 only_if) (request 5 2 only_if ∷ request 3 1 only_if ∷ [])
    (window_zero 5 1 2 ∷ real 5 2 ∷ real 5 3 ∷ window 5 1 2 ∷ real 6 1 ∷ [])
    -- a leaf
    ∷ case (request 3 1 if) [] []
    ∷ []

pub worked : (map (λ (c : Case). dependencies table c.of) cases ≡ map (λ (c : Case). c.below) cases)
    × (map (λ (c : Case). keys_of table c.of) cases ≡ map (λ (c : Case). c.looked) cases)
unfolding
    cases table node_at leaves len limited range side_len flat_map dec_le ℕ_discrete plain_or dependencies dependencies_at dependency name_of schema pairs
    simplify C1 C2 complement opposite literal_at keys_of used_by used_at lookup_keys side_keys
worked = (refl, refl)

-- a table and a request that overlap the hypotheses of `lookups_are`
table_sized : Sized table
unfolding Sized Fit table node_at leaves len limited side_len side_leaves side_outputs outputs output range plain_or share_leaf
table_sized zero h = tt
table_sized (suc zero) h = tt
table_sized (suc (suc zero)) h = tt
table_sized (suc (suc (suc zero))) h = tt
table_sized (suc (suc (suc (suc zero)))) h =
    (omega arith, omega arith, share_no table 0 1 refl, omega arith, omega arith, refl, refl, omega arith, omega arith)
table_sized (suc (suc (suc (suc (suc zero))))) h =
    (omega arith, omega arith, share_no table 4 2 refl, omega arith, omega arith, refl, refl, omega arith, omega arith)
table_sized (suc (suc (suc (suc (suc (suc zero)))))) h =
    (omega arith, omega arith, share_no table 5 3 refl, omega arith, omega arith, refl, refl, omega arith, omega arith)
table_sized (suc (suc (suc (suc (suc (suc (suc n))))))) h = absurd (omega arith)

pub met_lookups : Covers (lookups table (request 6 2 if)) (keys_of table (request 6 2 if))
unfolding Right table node_at leaves len
met_lookups = lookups_are table table_sized (request 6 2 if) (omega arith, omega arith, omega arith)

-- what meets the hypotheses of `clause_available` and `pulled_available`
pub met_available : (c : Clause) → Memᴰ c (clauses_of table (request 6 3 only_if)) → (l : Lookup) → Memᴰ l (looked_up c) → Available table l
unfolding Right table node_at leaves len
met_available c m = clause_available table (request 6 3 only_if) c (omega arith, omega arith, omega arith) m

pub met_pulled : (d : Direction) → Available table (of_node 5 3 d)
unfolding Right table node_at leaves len limited range side_len splits clauses_of clauses_at if_clause flat_map looks_of definition side_def long_def plain_or window_def key_of pulls dec_le
met_pulled d =
    pulled_available table table_sized (request 6 1 if) (if_clause table 6 (node_at table 6) (side 5 1) (side 3 0) 1 0) (window 5 1 2) 5 3 d
    (omega arith, omega arith, omega arith) (Memᴰ.head refl) (Memᴰ.head refl) (Memᴰ.tail (Memᴰ.tail (Memᴰ.head refl)))
