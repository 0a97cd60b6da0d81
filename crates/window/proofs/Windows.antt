-- The records of a window's key, as the code writes them.
use mathlib.Core.Path.{◌≡◌, refl, sym, ◌∙◌}
use mathlib.Core.Bool.{Bool, true, false, cond}
use mathlib.Core.List.{List, [], ◌∷◌, ◌++◌, append-nil, flat_map, map}
use Prim.Native.Nat.{ℕ, zero, suc, ◌+◌, ◌-◌, ◌*◌, ◌≤◌, ◌<◌}
use native.Mathlib.Decide.{dec_lt}
use native.Mathlib.Omega.{arith}
use borrow.Author.Tests.{eqb-true, eqb-false}
use lib.Dec.{eqb}
use lib.ListN.{length, get_or, take, drop, length-append}
use lib.Seq.{drop-cons}
use Rattle.pb.specs.Rules.{Token}
use Rattle.pb.specs.Sum.{units, keep}
use Rattle.record.specs.Record.{derivation, numbers, sum, token_numbers}
use Rattle.record.specs.Writing.{signed}
use Rattle.record.proofs.Tokens.{tokens_append}
use Rattle.totdb.specs.Nodes.{Node, node_at, output, outputs, range}
use Rattle.memo.proofs.Lists.{flat_map_append}
use Rattle.totdb.proofs.Listed.{length_range}
use Rattle.cert.specs.Definitions.{Key, add_sequence, at_least_zero, key_records, window, window_pair}
use Rattle.cert.proofs.Apart.{range_mem}
use Rattle.cert.proofs.Summands.{if_low, if_high, only_if_low, only_if_high}
use Rattle.cert.proofs.WindowDerivations.{range_around}
use Rattle.derivation.specs.Summands.{summand}
use Rattle.derivation.proofs.Summands.{summand_own}
use Rattle.window.specs.Window.{added, first_other, Handed, tokens_of}
use Rattle.window.proofs.Totals.{added_length, range_first, range_skip, total_length}

-- ---- the two derivations of value v: its only-if where o is true, else its if

module _ (o : Bool) (at_step : Key → ℕ → ℕ) (n : ℕ) (x : Node) (v : ℕ) where
  abbrev summands : ℕ → List Token
  summands = summand o at_step n x v

  summand_low : (s : ℕ) → s < v → length (summands s) ≡ suc (cond o 4 0)
  unfolding summand
  summand_low s h = go o
    where
      go : (o : Bool) → length (summand o at_step n x v s) ≡ suc (cond o 4 0)
      go true = rw (only_if_low at_step n x v s h)
      go false = rw (if_low at_step n x v s h)

  summand_high : (s : ℕ) → v < s → length (summands s) ≡ suc (cond o 0 4)
  unfolding summand
  summand_high s h = go o
    where
      go : (o : Bool) → length (summand o at_step n x v s) ≡ suc (cond o 0 4)
      go true = rw (only_if_high at_step n x v s h)
      go false = rw (if_high at_step n x v s h)

  pub summand_other : (s : ℕ) → (s ≡ v → ⊥) → 0 < length (summands s)
  summand_other s h = go (dec_lt s v) (dec_lt v s)
    where
      go : Dec (s < v) → Dec (v < s) → 0 < length (summands s)
      go (yes l) d = omega (arith, summand_low s l)
      go (no l) (yes k) = omega (arith, summand_high s k)
      go (no l) (no k) = absurd (h (omega arith))

  module _ (f m : ℕ) (above : f < v) (below : v ≤ f + m) where
    pub tokens_length : length (tokens_of o at_step n x f m v) ≡ (v - (f + 1)) * (cond o 4 0 + 2) + (f + m - v) * (cond o 0 4 + 2) - 1
    unfolding tokens_of flat_map add_sequence
    tokens_length =
        let low = added_length summands (cond o 4 0) (range (f + 1) (v - (f + 1)))
        (λ s i. summand_low s (omega (arith, range_mem (f + 1) (v - (f + 1)) s i))) in
        let high = added_length summands (cond o 0 4) (range (v + 1) (f + m - v))
        (λ s i. summand_high s (omega (arith, range_mem (v + 1) (f + m - v) s i))) in
        rw (
          total_length summands (range (f + 1) m),
          range_around f m v above below,
          flat_map_append (added summands),
          summand_own at_step n x v v o refl,
          length-append,
          low,
          high,
          length_range (f + 1) (v - (f + 1)),
          length_range (v + 1) (f + m - v),
        )

    tokens_first : 1 < m → tokens_of o at_step n x f m v
        ≡ summands (first_other f v) ++ flat_map (added summands) (range (first_other f v + 1) (f + m - first_other f v))
    unfolding tokens_of first_other
    tokens_first more = go (eqb v (f + 1)) refl
      where
        go : (t : Bool) → eqb v (f + 1) ≡ t → tokens_of o at_step n x f m v
            ≡ summands (cond t (f + 2) (f + 1)) ++ flat_map (added summands) (range (cond t (f + 2) (f + 1) + 1) (f + m - cond t (f + 2) (f + 1)))
        go true e =
            let q = eqb-true v (f + 1) e in
            let i : f + 1 + 1 ≡ f + 2 = omega arith in
            let j : m - 1 - 1 ≡ f + m - (f + 2) = omega arith in
            range_skip summands (f + 1) m (omega arith) (summand_own at_step n x v (f + 1) o (sym q))
            ∙ range_first summands (f + 1 + 1) (m - 1) (omega arith) (summand_other (f + 1 + 1) (λ k. absurd (omega arith)))
            ∙ rw (i, j)
        go false e =
            let j : m - 1 ≡ f + m - (f + 1) = omega arith in
            range_first summands (f + 1) m (omega arith) (summand_other (f + 1) (λ k. eqb-false v (f + 1) e (sym k)))
            ∙ rw j

    -- What `push_derivation` writes, k the value of the first summand.
    pub derivation_is : 1 < m → (k : ℕ) → k ≡ first_other f v
        → 2 ∷ length (tokens_of o at_step n x f m v) ∷ (token_numbers (summands k) ++ token_numbers (flat_map (added summands) (range (k + 1) (f + m - k))))
        ≡ numbers (derivation (tokens_of o at_step n x f m v))
    unfolding numbers
    derivation_is more k e = rw (e, tokens_first more, tokens_append)

-- ---- the records of a window's key

-- The outputs of a window stand in a row.
read_range : (g : ℕ → ℕ) (l : List ℕ) (f m : ℕ) → f + m ≤ length l → ((s : ℕ) → f < s → s ≤ f + m → g s ≡ get_or l (s - 1) 0)
    → take m (drop f l) ≡ map g (range (f + 1) m)
unfolding range
read_range g l f zero h k = refl
read_range g l f (suc m) h k =
    let e : f + 1 - 1 ≡ f = omega arith in
    let first : g (f + 1) ≡ get_or l f 0 = rw e at (k (f + 1) (omega arith) (omega arith)) in
    let more : take m (drop (suc f) l) ≡ map g (range (suc f + 1) m) = read_range g l (suc f) m (omega arith) (λ s a b. k s (omega arith) (omega arith)) in
    let z : suc (f + 1) ≡ suc f + 1 = omega arith in
    rw (drop-cons l f 0 (omega arith), more, first, z)

-- What `put_window` writes.
pub window_is : (row outs : List ℕ) (at_step : Key → ℕ → ℕ) (t : List Node) (n f m : ℕ) → f + m ≤ length outs
    → Handed row outs at_step n (node_at t n) f m
    → flat_map numbers (flat_map (window_pair at_step n (node_at t n) f m) (range (f + 1) m))
    ++ numbers (sum 0 (units (signed true (take m (drop f outs))) ++ keep 0 0 []) 0)
    ≡ flat_map numbers (key_records at_step t (window n f m))
unfolding flat_map key_records at_least_zero outputs signed keep
window_is row outs at_step t n f m h handed =
    rw (
      flat_map_append numbers (flat_map (window_pair at_step n (node_at t n) f m) (range (f + 1) m)),
      append-nil,
      append-nil,
      read_range (output (node_at t n)) outs f m h handed.literal,
    )
