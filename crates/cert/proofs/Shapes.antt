-- The records of a key: one for each of its definitions, a sum as it is written or a derivation.
use mathlib.Core.Logic.{dite}
use mathlib.Core.List.{List, [], ◌∷◌, ◌++◌, map, flat_map}
use mathlib.Core.Option.{Option, some}
use Prim.Native.Nat.{ℕ, zero, suc, ◌+◌, ◌<◌}
use native.Mathlib.Decide.{dec_lt}
use Rattle.pb.specs.Rules.{Token}
use Rattle.pb.specs.Sum.{Sum, neg, Term}
use Rattle.record.specs.Record.{Record, sum, derivation}
use Rattle.record.specs.Steps.{Defined, written, derived}
use Rattle.totdb.specs.Nodes.{Node, len, leaves, node_at, range}
use Rattle.cert.specs.Definitions.{real_records, as_written, at_least_zero, real_if, real_only_if, Key, window_if, window_only_if, window_if_sum, window_only_if_sum, key_records, defined_by, real, window_zero, window}

pub data Shape : List Record → List Defined → Type 0 where
  shape_done : Shape [] []
  shape_sum : {w : ℕ} {ts : List Term} {b : ℕ} {rs : List Record} {ds : List Defined} → Shape rs ds → Shape (sum w ts b ∷ rs) (written w ts b ∷ ds)
  shape_derived : {ks : List Token} {s : Option Sum} {rs : List Record} {ds : List Defined} → Shape rs ds
      → Shape (derivation ks ∷ rs) (derived s ∷ ds)

shape_append : {rs qs : List Record} {ds es : List Defined} → Shape rs ds → Shape qs es → Shape (rs ++ qs) (ds ++ es)
shape_append shape_done q = q
shape_append (shape_sum p) q = shape_sum (shape_append p q)
shape_append (shape_derived p) q = shape_derived (shape_append p q)

real_shape : (x : Node) (v : ℕ) → Shape (real_records x v) (flat_map as_written (real_records x v))
unfolding real_records flat_map as_written at_least_zero real_if real_only_if
real_shape x zero = shape_sum shape_done
real_shape x (suc v) = by (dec_lt (len x) (suc v))
  where
    by : (d : Dec (len x < suc v))
        → Shape (dite {C = List Record} d (λ _. at_least_zero (map neg (leaves x)) ∷ []) (λ _. real_if x (suc v) ∷ real_only_if x (suc v) ∷ []))
        (flat_map as_written (dite {C = List Record} d (λ _. at_least_zero (map neg (leaves x)) ∷ [])
        (λ _. real_if x (suc v) ∷ real_only_if x (suc v) ∷ [])))
    by (yes p) = shape_sum shape_done
    by (no p) = shape_sum (shape_sum shape_done)

windows_shape : (f : Key → ℕ → ℕ) (n : ℕ) (x : Node) (o m : ℕ) (vs : List ℕ)
    → Shape (flat_map {B = Record} (λ (v : ℕ). window_if f n x o m v ∷ window_only_if f n x o m v ∷ []) vs)
    (flat_map {B = Defined} (λ (v : ℕ). derived (some (window_if_sum x o m v)) ∷ derived (some (window_only_if_sum x o m v)) ∷ []) vs)
unfolding flat_map window_if window_only_if
windows_shape f n x o m [] = shape_done
windows_shape f n x o m (v ∷ vs) = shape_derived (shape_derived (windows_shape f n x o m vs))

pub key_shape : (f : Key → ℕ → ℕ) (t : List Node) (k : Key) → Shape (key_records f t k) (defined_by t k)
unfolding key_records defined_by at_least_zero
key_shape f t (real n v) = real_shape (node_at t n) v
key_shape f t (window_zero n o m) = shape_sum shape_done
key_shape f t (window n o m) = shape_append (windows_shape f n (node_at t n) o m (range (o + 1) m)) (shape_sum shape_done)
