-- Definitions: which there are and how they are looked up, the sums and derivations that are written for each, and what these come to.
use Rattle.std.proofs.Math.Logic.{dite}
use mathlib.Core.List.{List, [], ◌∷◌, ◌++◌, map, flat_map}
use Rattle.std.proofs.Math.Option.{some}
use Rattle.std.specs.Prelude.{ℕ, zero, suc, ◌+◌, ◌-◌, ◌*◌, length}
use Rattle.std.proofs.Math.Decide.{dec_lt, dec_le}
use Rattle.pb.specs.Rules.{Token, step, literal, add, divide, saturate}
use Rattle.pb.specs.Sum.{neg, ◌·◌, Sum, ◌≥◌, units, keep, normal}
use Rattle.record.specs.Record.{Record, sum, derivation, clause, deletion}
use Rattle.record.specs.Steps.{Defined, written, derived}
use Rattle.totdb.specs.Nodes.{Node, node_at, leaves, len, output, range, side_len, side_lit, keyed, plain_or, outputs}
use Rattle.totdb.specs.declared.Side.{Side}

-- The direction of a definition or a request (rustsat's Semantics), for an output of value v. `if`: where at least v of the leaf list are true, the
-- output is true. `only_if`: the output is true only where at least v are.
pub data Direction : Type 0 where
  if only_if : Direction

-- ---- what is looked up

-- What is written at once, at its first lookup: a real definition (over the leaf list) of a node's value, from 0 to one above the length;
-- the sum of value 0 of a window, and the rest of a window. A window is a node, an offset and a number of outputs.
pub data Key : Type 0 where
  real : ℕ → ℕ → Key
  window_zero window : ℕ → ℕ → ℕ → Key

-- A definition in one direction (rustsat's SemDefinition): nothing to add, a literal axiom, or one of the steps of a key.
-- For a real definition the steps count from 0. For a window 0 is the sum of value 0, and the if and the only-if of its i-th value are 2i - 1 and 2i.
pub data Definition : Type 0 where
  nothing : Definition
  axiom_of : ℕ → Definition
  stored : Key → ℕ → Definition

-- The definitions of a value. Of an if at value 0 and of an only-if above the length, which there are not, they mean nothing.

-- A leaf, or a window of length 1: its one literal, at 0, at its own value and above.
unfoldable pub one_def : ℕ → ℕ → Definition
unfolding neg
one_def o zero = axiom_of o
one_def o (suc zero) = nothing
one_def o (suc (suc i)) = axiom_of (neg o)

-- A real definition of node n: if and then only-if. Value 0 is one sum, its only-if; so is the value above the length, its if.
unfoldable pub real_def : ℕ → ℕ → Direction → Definition
real_def n zero d = stored (real n 0) 0
real_def n (suc v) if = stored (real n (suc v)) 0
real_def n (suc v) only_if = stored (real n (suc v)) 1

-- A window of m outputs, by key: 0 for its value 0, else the node's value v, from f + 1 to f + m + 1.
unfoldable pub window_def : ℕ → ℕ → ℕ → ℕ → Direction → Definition
window_def n f m zero d = stored (window n f m) 0
window_def n f m (suc v) if = stored (window n f m) (2 * (v - f) + 1)
window_def n f m (suc v) only_if = stored (window n f m) (2 * (v - f) + 2)

-- By key. Plain, or a window: node n, offset and limit, m outputs.
unfoldable pub long_def : ℕ → ℕ → ℕ → ℕ → ℕ → Direction → Definition
unfolding plain_or real_def window_def
long_def m n f k v d = plain_or f k (real_def n v d) (window_def n f m v d)

-- The definition of a side's value i, from 0 to one above its length. A value at or below the offset is keyed 0.
unfoldable pub side_def : List Node → Side → ℕ → Direction → Definition
unfolding side_len side_lit one_def long_def keyed dec_le
side_def t s i d =
    dite (dec_le (side_len t s) 1) (λ _. one_def (side_lit t s 1) i) (λ _. long_def (side_len t s) s.node s.offset s.limit (keyed s i) d)

-- The real definitions of the outputs of a window, ascending.
abbrev pub window_reals : ℕ → ℕ → ℕ → List Key
window_reals n f m = map {B = Key} (λ (i : ℕ). real n (f + i)) (range 1 m)

-- A window is written after its sum of value 0 and the real definitions of its outputs, those that are missing.
unfoldable pub pulls : Key → List Key
unfolding range
pulls (real n v) = []
pulls (window_zero n f m) = []
pulls (window n f m) = window_zero n f m ∷ window_reals n f m

-- ---- real definitions: node x of length n, value v, leaf literals l

-- (all ¬l, then output with coefficient n - v + 1) ≥ n - v + 1, witness output true
unfoldable pub real_if : Node → ℕ → Record
unfolding units neg leaves len output
real_if x v = sum (output x v + 1) (units (map neg (leaves x)) ++ ((len x + 1 - v) · output x v ∷ [])) (len x + 1 - v)

-- (all l, then ¬output with coefficient v) ≥ v, witness output false
unfoldable pub real_only_if : Node → ℕ → Record
unfolding units neg leaves output
real_only_if x v = sum (neg (output x v) + 1) (units (leaves x) ++ (v · neg (output x v) ∷ [])) v

-- No witness, bound 0.
unfoldable pub at_least_zero : List ℕ → Record
unfolding units
at_least_zero ls = sum 0 (units ls) 0

unfoldable pub real_records : Node → ℕ → List Record
unfolding real_if real_only_if at_least_zero dec_lt
real_records x zero = at_least_zero (leaves x) ∷ []
real_records x (suc v) = dite (dec_lt (len x) (suc v)) (λ _. at_least_zero (map neg (leaves x)) ∷ []) (λ _. real_if x (suc v) ∷ real_only_if x (suc v) ∷ [])

-- ---- windows: node x of number n, offset f, m outputs. `at_step` gives the step of each place of a key.

-- A sequence added to one that is not empty: left operand, right operand, operation. Adding the empty sequence writes nothing.
unfoldable pub add_sequence : List Token → List Token → List Token
add_sequence ks [] = ks
add_sequence ks (j ∷ js) = ks ++ ((j ∷ js) ++ (add ∷ []))

-- The sequences added up.
unfoldable pub total : List Token → List (List Token) → List Token
unfolding add_sequence
total ks [] = ks
total [] (js ∷ jss) = total js jss
total (k ∷ ks) (js ∷ jss) = total (add_sequence (k ∷ ks) js) jss

-- if of v, at s: s < v adds ¬o(s); s = v nothing; s > v (real if of v plus real only-if of s), divided by s - v + 1, saturated
unfoldable pub if_part : (Key → ℕ → ℕ) → ℕ → Node → ℕ → ℕ → List Token
unfolding neg output dec_lt
if_part at_step n x v s =
    dite (dec_lt s v) (λ _. literal (neg (output x s)) ∷ [])
    (λ _. dite (dec_lt v s) (λ _. step (at_step (real n v) 0) ∷ step (at_step (real n s) 1) ∷ add ∷ divide (s - v + 1) ∷ saturate ∷ []) (λ _. []))

-- only-if of v, at s: s < v adds (real only-if of v plus real if of s), divided by v - s + 1, saturated; s > v adds o(s)
unfoldable pub only_if_part : (Key → ℕ → ℕ) → ℕ → Node → ℕ → ℕ → List Token
unfolding output dec_lt
only_if_part at_step n x v s =
    dite (dec_lt s v) (λ _. step (at_step (real n v) 1) ∷ step (at_step (real n s) 0) ∷ add ∷ divide (v - s + 1) ∷ saturate ∷ [])
    (λ _. dite (dec_lt v s) (λ _. literal (output x s) ∷ []) (λ _. []))

-- s over the window, ascending
unfoldable pub window_if : (Key → ℕ → ℕ) → ℕ → Node → ℕ → ℕ → ℕ → Record
unfolding total if_part range
window_if at_step n x f m v = derivation (total [] (map (if_part at_step n x v) (range (f + 1) m)))

unfoldable pub window_only_if : (Key → ℕ → ℕ) → ℕ → Node → ℕ → ℕ → ℕ → Record
unfolding total only_if_part range
window_only_if at_step n x f m v = derivation (total [] (map (only_if_part at_step n x v) (range (f + 1) m)))

-- Both of a value.
abbrev pub window_pair : (Key → ℕ → ℕ) → ℕ → Node → ℕ → ℕ → ℕ → List Record
window_pair at_step n x f m v = window_if at_step n x f m v ∷ window_only_if at_step n x f m v ∷ []

-- ---- the records of a key

unfoldable pub key_records : (Key → ℕ → ℕ) → List Node → Key → List Record
unfolding node_at real_records at_least_zero outputs window_if window_only_if flat_map neg
key_records at_step t (real n v) = real_records (node_at t n) v
key_records at_step t (window_zero n f m) = at_least_zero (outputs (node_at t n) f m) ∷ []
key_records at_step t (window n f m) =
    flat_map {B = Record} (window_pair at_step n (node_at t n) f m) (range (f + 1) m)
    ++ (at_least_zero (map neg (outputs (node_at t n) f m)) ∷ [])

-- ---- the sums that a key defines: what its records come to

-- The sum of ¬o(s), s ≠ v, plus k · o(v) ≥ k, k the count of s > v: the outputs before that of v, that one, and those after it.
unfoldable pub window_if_of : List ℕ → ℕ → List ℕ → Sum
unfolding units keep neg
window_if_of xs w ys = (units (map neg (xs ++ ys)) ++ keep (length ys) w []) ≥ length ys

-- The sum of o(s), s ≠ v, plus j · ¬o(v) ≥ j, j the count of s < v.
unfoldable pub window_only_if_of : List ℕ → ℕ → List ℕ → Sum
unfolding units keep neg
window_only_if_of xs w ys = (units (xs ++ ys) ++ keep (length xs) (neg w) []) ≥ length xs

-- The outputs of a window before value v, and after it.
unfoldable pub outputs_before : Node → ℕ → ℕ → List ℕ
unfolding outputs
outputs_before x f v = outputs x f (v - (f + 1))

unfoldable pub outputs_after : Node → ℕ → ℕ → ℕ → List ℕ
unfolding outputs
outputs_after x f m v = outputs x v (f + m - v)

unfoldable pub window_if_sum : Node → ℕ → ℕ → ℕ → Sum
unfolding normal window_if_of outputs_before outputs_after output
window_if_sum x f m v = normal (window_if_of (outputs_before x f v) (output x v) (outputs_after x f m v))

unfoldable pub window_only_if_sum : Node → ℕ → ℕ → ℕ → Sum
unfolding normal window_only_if_of outputs_before outputs_after output
window_only_if_sum x f m v = normal (window_only_if_of (outputs_before x f v) (output x v) (outputs_after x f m v))

unfoldable pub as_written : Record → List Defined
as_written (sum w ts b) = written w ts b ∷ []
as_written (derivation ks) = []
as_written (clause s ls) = []
as_written (deletion ss) = []

unfoldable pub defined_by : List Node → Key → List Defined
unfolding node_at real_records as_written at_least_zero outputs window_if_sum window_only_if_sum flat_map neg
defined_by t (real n v) = flat_map as_written (real_records (node_at t n) v)
defined_by t (window_zero n f m) = as_written (at_least_zero (outputs (node_at t n) f m))
defined_by t (window n f m) =
    flat_map {B = Defined} (λ (v : ℕ). derived (some (window_if_sum (node_at t n) f m v)) ∷ derived (some (window_only_if_sum (node_at t n) f m v)) ∷ [])
    (range (f + 1) m)
    ++ as_written (at_least_zero (map neg (outputs (node_at t n) f m)))
