-- The tokens of a stored definition stand for the real definition over the literals that its side hands on.
use mathlib.Core.Path.{◌≡◌, refl, sym, ◌∙◌, ap, subst}
use mathlib.Core.Logic.{dite}
use mathlib.Core.List.{List, [], ◌∷◌, ◌++◌, map, flat_map, map-append, append-nil, Memᴰ}
use mathlib.Core.Option.{Option, none, some}
use Prim.Native.Nat.{ℕ, zero, suc, ◌+◌, ◌-◌, ◌*◌, ◌≤◌, ◌<◌}
use native.Mathlib.Decide.{dec_lt}
use native.Mathlib.Omega.{arith}
use lib.ListN.{length, get_or, length-map, get_or-map}
use Rattle.pb.specs.Rules.{step, literal_axiom, literal}
use Rattle.pb.specs.Sum.{Sum, normal, ◌·◌, neg, variable, units, ◌≥◌, keep}
use Rattle.pb.proofs.Normal.{Clean, SameSum, Apart-clean, Off, Apart}
use Rattle.pb.proofs.Rules.{same_refl}
use Rattle.record.specs.Steps.{Defined, derived, step_sum, written}
use Rattle.totdb.specs.Nodes.{Node, len, leaves, range, node_at, output, outputs}
use Rattle.totdb.proofs.Listed.{length_range}
use Rattle.cert.specs.Definitions.{Key, one_def, only_if, if, real_records, at_least_zero, real_if, real_only_if, defined_by, real, real_def, as_written, window, window_zero, outputs_before, outputs_after, window_if_sum, window_only_if_sum, window_def, window_only_if_of, window_if_of}
use Rattle.cert.specs.Requests.{def_tokens}
use Rattle.cert.specs.State.{State, keys, from_in, step_in, Head}
use Rattle.cert.proofs.ClauseDerivations.{Stands, stands_given, stands_nothing, apart_negs}
use Rattle.cert.proofs.Derivations.{gives_step, clean_room, gives_literal}
use Rattle.cert.proofs.Keyed.{KeyOf, only_if_zero, if_above, only_if_above}
use Rattle.cert.proofs.Distinct.{Different, different_apart, outputs_different}
use Rattle.cert.proofs.Known.{sum_of, KnownIn, known_of, from_in-found, Segment, segment_step, real_sums}
use Rattle.cert.proofs.Totalizer.{real_only_if_sum, leaf_zero, leaf_only_if, real_if_sum, leaf_if, leaf_two, window_only_if_real, window_if_real}
use Rattle.cert.proofs.WindowDerivations.{real_only_clean, real_if_clean, range_around}
use Rattle.cert.proofs.WindowSums.{window_only_if_clean, window_if_clean}

stands_step : {sums : ℕ → Option Sum} (n : ℕ) (x t : Sum) → sums n ≡ some (normal x) → Clean x.terms → SameSum x t → Stands sums (step n ∷ []) t
stands_step n x t e c h = stands_given (gives_step n x e) h (clean_room x c)

-- ---- one literal

lit_clean : (l : ℕ) → Clean (literal_axiom l).terms
unfolding literal_axiom
lit_clean l = Apart-clean (1 · l ∷ []) (tt, tt)

module _ {sums : ℕ → Option Sum} (at_step : Key → ℕ → ℕ) (o : ℕ) where
  pub one_only : (i : ℕ) → i ≤ 1 → Stands sums (def_tokens at_step (one_def o i)) (real_only_if_sum (o ∷ []) o i)
  unfolding def_tokens one_def
  one_only zero h = subst (Stands sums (literal o ∷ [])) (sym (leaf_zero o o))
      (stands_given (gives_literal o) (same_refl (literal_axiom o)) (clean_room (literal_axiom o) (lit_clean o)))
  one_only (suc zero) h = stands_nothing (leaf_only_if o)
  one_only (suc (suc i)) h = absurd (omega arith)

  pub one_if : (i : ℕ) → 1 ≤ i → i ≤ 2 → Stands sums (def_tokens at_step (one_def o i)) (real_if_sum (o ∷ []) o i)
  unfolding def_tokens one_def
  one_if zero h g = absurd (omega arith)
  one_if (suc zero) h g = stands_nothing (leaf_if o)
  one_if (suc (suc zero)) h g =
      subst (Stands sums (literal (neg o) ∷ [])) (sym (leaf_two o o))
      (stands_given (gives_literal (neg o)) (same_refl (literal_axiom (neg o))) (clean_room (literal_axiom (neg o)) (lit_clean (neg o))))
  one_if (suc (suc (suc i))) h g = absurd (omega arith)

-- ---- stored keys

beyond : (x : Node) (v : ℕ) → len x < suc v → real_records x (suc v) ≡ at_least_zero (map neg (leaves x)) ∷ []
unfolding real_records
beyond x v h = by (dec_lt (len x) (suc v))
  where
    by : (d : Dec (len x < suc v))
        → dite {C = List Rattle.record.specs.Record.Record} d (λ _. at_least_zero (map neg (leaves x)) ∷ [])
        (λ _. real_if x (suc v) ∷ real_only_if x (suc v) ∷ []) ≡ at_least_zero (map neg (leaves x)) ∷ []
    by (yes e) = refl
    by (no e) = absurd (e h)

sum_get : (l : List Defined) (i : ℕ) → get_or (map sum_of l) i none ≡ sum_of (get_or l i (derived none))
unfolding sum_of
sum_get l i = get_or-map sum_of l i (derived none)

-- The definitions of a window in their places: the if of its i-th value at 2 i, the only-if at 2 i + 1, counted from 0, and the last sum after them.
pairs_at : {A : Type 0} (f g : ℕ → A) (a k : ℕ) (rest : List A) (z : A) (i : ℕ) → i < k
    → (get_or (flat_map {B = A} (λ (v : ℕ). f v ∷ g v ∷ []) (range a k) ++ rest) (2 * i) z ≡ f (a + i))
    × (get_or (flat_map {B = A} (λ (v : ℕ). f v ∷ g v ∷ []) (range a k) ++ rest) (2 * i + 1) z ≡ g (a + i))
unfolding flat_map range
pairs_at f g a zero rest z i h = absurd (omega arith)
pairs_at f g a (suc k) rest z zero h = let e : a + 0 ≡ a = omega arith in rw e (refl, refl)
pairs_at f g a (suc k) rest z (suc i) h =
    let r = pairs_at f g (suc a) k rest z i (omega arith) in
    let e : 2 * suc i ≡ suc (suc (2 * i)) = omega arith in
    let e' : 2 * suc i + 1 ≡ suc (suc (2 * i + 1)) = omega arith in
    let b : a + suc i ≡ suc a + i = omega arith in
    rw (e', e, b) r

pairs_last : {A : Type 0} (f g : ℕ → A) (a k : ℕ) (x : A) (z : A)
    → get_or (flat_map {B = A} (λ (v : ℕ). f v ∷ g v ∷ []) (range a k) ++ (x ∷ [])) (2 * k) z ≡ x
unfolding flat_map range
pairs_last f g a zero x z = refl
pairs_last f g a (suc k) x z = let e : 2 * suc k ≡ suc (suc (2 * k)) = omega arith in rw e (pairs_last f g (suc a) k x z)

pairs_length : {A : Type 0} (f g : ℕ → A) (a k : ℕ) (x : A) → length (flat_map {B = A} (λ (v : ℕ). f v ∷ g v ∷ []) (range a k) ++ (x ∷ [])) ≡ 2 * k + 1
unfolding flat_map range
pairs_length f g a zero x = refl
pairs_length f g a (suc k) x = omega (arith, pairs_length f g (suc a) k x)

module _ (h : Head) (t : List Node) (s : State) (k : KnownIn h t s) where
  key_step : (j : Key) → Memᴰ j (keys s) → (i : ℕ) → i < length (defined_by t j)
      → step_sum h.step (known_of h s) (from_in s.stored j + i) ≡ get_or (map sum_of (defined_by t j)) i none
  unfolding keys
  key_step j m i l =
      let f = from_in-found s.stored j m in
      let g = k.sums f.0 f.1 in
      let seg = subst (λ (y : Key). Segment (known_of h s) g.0 (map sum_of (defined_by t y))) f.2 g.2 in
      let step_is : from_in s.stored j + i ≡ h.step + g.0 + i = omega (arith, f.3, g.1) in
      rw step_is (segment_step h.step (known_of h s) g.0 (map sum_of (defined_by t j)) seg i (rw length-map (omega arith)))

  module _ (n : ℕ) (apart : Different (leaves (node_at t n)))
      (off : (v : ℕ) → 1 ≤ v → v ≤ len (node_at t n) → Off (variable (output (node_at t n) v)) (units (leaves (node_at t n)))) where
    zero_only : (p : ℕ) → real_only_if_sum (leaves (node_at t n)) p 0 ≡ (units (leaves (node_at t n)) ≥ 0)
    unfolding real_only_if_sum keep
    zero_only p = rw append-nil

    top_if : (p : ℕ) → real_if_sum (leaves (node_at t n)) p (len (node_at t n) + 1) ≡ (units (map neg (leaves (node_at t n))) ≥ 0)
    unfolding real_if_sum len
    top_if p = let z : length (leaves (node_at t n)) + 1 - (length (leaves (node_at t n)) + 1) ≡ 0 = omega arith in rw z (unfold keep in rw append-nil)

    pub real_only_stands : (v : ℕ) → v ≤ len (node_at t n) → Memᴰ (real n v) (keys s)
        → Stands (step_sum h.step (known_of h s)) (def_tokens (step_in s.stored) (real_def n v only_if))
        (real_only_if_sum (leaves (node_at t n)) (output (node_at t n) v) v)
    unfolding def_tokens step_in real_def
    real_only_stands zero l m =
        rw (zero_only (output (node_at t n) 0))
        (stands_step (from_in s.stored (real n 0) + 0) (units (leaves (node_at t n)) ≥ 0) (units (leaves (node_at t n)) ≥ 0)
        (key_step (real n 0) m 0 (unfold defined_by real_records flat_map as_written at_least_zero in omega arith)
        ∙ (unfold defined_by real_records flat_map as_written at_least_zero sum_of in refl)) (Apart-clean _ (different_apart (leaves (node_at t n)) apart))
        (same_refl _))
    real_only_stands (suc v) l m =
        stands_step (from_in s.stored (real n (suc v)) + 1) (real_only_if_sum (leaves (node_at t n)) (output (node_at t n) (suc v)) (suc v))
        (real_only_if_sum (leaves (node_at t n)) (output (node_at t n) (suc v)) (suc v))
        (key_step (real n (suc v)) m 1 (omega (arith, ap length two, length-map (defined_by t (real n (suc v))) sum_of))
        ∙ ap (λ (l : List (Option Sum)). get_or l 1 none) two)
        (real_only_clean (leaves (node_at t n)) (output (node_at t n) (suc v)) (different_apart (leaves (node_at t n)) apart) (off (suc v) (omega arith) l) (suc v))
        (same_refl _)
      where
        two : map sum_of (defined_by t (real n (suc v))) ≡ some (normal (real_if_sum (leaves (node_at t n)) (output (node_at t n) (suc v)) (suc v))) ∷ some
            (normal (real_only_if_sum (leaves (node_at t n)) (output (node_at t n) (suc v)) (suc v))) ∷ []
        two = unfold defined_by in real_sums (node_at t n) (suc v) (omega arith) l

    pub real_if_stands : (v : ℕ) → 1 ≤ v → v ≤ len (node_at t n) + 1 → Memᴰ (real n v) (keys s)
        → Stands (step_sum h.step (known_of h s)) (def_tokens (step_in s.stored) (real_def n v if))
        (real_if_sum (leaves (node_at t n)) (output (node_at t n) v) v)
    unfolding def_tokens step_in real_def
    real_if_stands zero g l m = absurd (omega arith)
    real_if_stands (suc v) g l m = by (dec_lt (len (node_at t n)) (suc v))
      where
        top : len (node_at t n) < suc v → defined_by t (real n (suc v)) ≡ written 0 (units (map neg (leaves (node_at t n)))) 0 ∷ []
        top e = unfold defined_by in ap (flat_map as_written) (beyond (node_at t n) v e) ∙ (unfold flat_map as_written at_least_zero in refl)

        by : Dec (len (node_at t n) < suc v)
            → Stands (step_sum h.step (known_of h s)) (step (from_in s.stored (real n (suc v)) + 0) ∷ [])
            (real_if_sum (leaves (node_at t n)) (output (node_at t n) (suc v)) (suc v))
        by (yes e) =
            let z : suc v ≡ len (node_at t n) + 1 = omega arith in
            let q : real_if_sum (leaves (node_at t n)) (output (node_at t n) (suc v)) (suc v) ≡ (units (map neg (leaves (node_at t n))) ≥ 0) =
            ap (real_if_sum (leaves (node_at t n)) (output (node_at t n) (suc v))) z ∙ top_if (output (node_at t n) (suc v)) in
            rw q (stands_step (from_in s.stored (real n (suc v)) + 0) (units (map neg (leaves (node_at t n))) ≥ 0)
            (units (map neg (leaves (node_at t n))) ≥ 0)
            (key_step (real n (suc v)) m 0 (omega (arith, ap length (top e))) ∙ ap (λ (l : List Defined). get_or (map sum_of l) 0 none) (top e)
            ∙ (unfold sum_of in refl)) (Apart-clean _ (apart_negs (leaves (node_at t n)) (different_apart (leaves (node_at t n)) apart))) (same_refl _))
        by (no e) =
            let b : suc v ≤ len (node_at t n) = omega arith in
            let two : map sum_of (defined_by t (real n (suc v))) ≡ some (normal (real_if_sum (leaves (node_at t n)) (output (node_at t n) (suc v)) (suc v))) ∷ some
            (normal (real_only_if_sum (leaves (node_at t n)) (output (node_at t n) (suc v)) (suc v))) ∷ [] = unfold defined_by in
            real_sums (node_at t n) (suc v) (omega arith) b in
            stands_step (from_in s.stored (real n (suc v)) + 0) (real_if_sum (leaves (node_at t n)) (output (node_at t n) (suc v)) (suc v))
            (real_if_sum (leaves (node_at t n)) (output (node_at t n) (suc v)) (suc v))
            (key_step (real n (suc v)) m 0 (omega (arith, ap length two, length-map (defined_by t (real n (suc v))) sum_of))
            ∙ ap (λ (l : List (Option Sum)). get_or l 0 none) two)
            (real_if_clean (leaves (node_at t n)) (output (node_at t n) (suc v)) (different_apart (leaves (node_at t n)) apart) (off (suc v) (omega arith) b)
            (suc v)) (same_refl _)

  -- ---- windows

  module _ (n f m : ℕ) (fits : f + m ≤ len (node_at t n)) (stored-window : Memᴰ (window n f m) (keys s))
      (stored-zero : Memᴰ (window_zero n f m) (keys s)) where
    outs_different : Different (outputs (node_at t n) f m)
    unfolding outputs
    outs_different = outputs_different (node_at t n) (f + 1) m (omega arith) (omega arith)

    outs_length : length (outputs (node_at t n) f m) ≡ m
    unfolding outputs
    outs_length = length-map (range (f + 1) m) (output (node_at t n)) ∙ length_range (f + 1) m

    around : (i : ℕ) → i < m
        → (outputs (node_at t n) f m) ≡ outputs_before (node_at t n) f (f + 1 + i) ++ output (node_at t n) (f + 1 + i) ∷ outputs_after (node_at t n) f m (f + 1 + i)
    unfolding outputs outputs_before outputs_after
    around i l = ap (map (output (node_at t n))) (range_around f m (f + 1 + i) (omega arith) (omega arith))
        ∙ map-append (output (node_at t n)) (range (f + 1) (f + 1 + i - (f + 1))) ((f + 1 + i) ∷ range (f + 1 + i + 1) (f + m - (f + 1 + i)))

    before_length : (i : ℕ) → length (outputs_before (node_at t n) f (f + 1 + i)) ≡ i
    unfolding outputs_before
    before_length i = length-map (range (f + 1) (f + 1 + i - (f + 1))) (output (node_at t n)) ∙ length_range (f + 1) (f + 1 + i - (f + 1)) ∙ omega arith

    sum_at : (j : Key) (l : List Defined) (i : ℕ) (x : Defined) → defined_by t j ≡ l → get_or l i (derived none) ≡ x
        → get_or (map sum_of (defined_by t j)) i none ≡ sum_of x
    sum_at j l i x e g = ap (λ (y : List Defined). get_or (map sum_of y) i none) e ∙ sum_get l i ∙ ap sum_of g

    window_list : List Defined
    window_list = flat_map {B = Defined}
        (λ (v : ℕ). derived (some (window_if_sum (node_at t n) f m v)) ∷ derived (some (window_only_if_sum (node_at t n) f m v)) ∷ []) (range (f + 1) m) ++
        (written 0 (units (map neg (outputs (node_at t n) f m))) 0 ∷ [])

    list_is : defined_by t (window n f m) ≡ window_list
    unfolding defined_by window_list
    list_is = refl

    list_length : length (defined_by t (window n f m)) ≡ 2 * m + 1
    unfolding defined_by
    list_length = pairs_length (λ (v : ℕ). derived (some (window_if_sum (node_at t n) f m v))) (λ (v : ℕ). derived (some (window_only_if_sum (node_at t n) f m v)))
        (f + 1) m (written 0 (units (map neg (outputs (node_at t n) f m))) 0)

    only_at : (i : ℕ) → i < m
        → step_sum h.step (known_of h s) (from_in s.stored (window n f m) + (2 * i + 1)) ≡ some (window_only_if_sum (node_at t n) f m (f + 1 + i))
    only_at i l = key_step (window n f m) stored-window (2 * i + 1) (omega (arith, list_length))
        ∙ sum_at (window n f m) window_list (2 * i + 1) (derived (some (window_only_if_sum (node_at t n) f m (f + 1 + i)))) list_is
        (unfold window_list in
        (pairs_at (λ (v : ℕ). derived (some (window_if_sum (node_at t n) f m v))) (λ (v : ℕ). derived (some (window_only_if_sum (node_at t n) f m v))) (f + 1) m
        (written 0 (units (map neg (outputs (node_at t n) f m))) 0 ∷ []) (derived none) i l).1) ∙ (unfold sum_of in refl)

    if_at : (i : ℕ) → i < m
        → step_sum h.step (known_of h s) (from_in s.stored (window n f m) + 2 * i) ≡ some (window_if_sum (node_at t n) f m (f + 1 + i))
    if_at i l = key_step (window n f m) stored-window (2 * i) (omega (arith, list_length))
        ∙ sum_at (window n f m) window_list (2 * i) (derived (some (window_if_sum (node_at t n) f m (f + 1 + i)))) list_is
        (unfold window_list in
        (pairs_at (λ (v : ℕ). derived (some (window_if_sum (node_at t n) f m v))) (λ (v : ℕ). derived (some (window_only_if_sum (node_at t n) f m v))) (f + 1) m
        (written 0 (units (map neg (outputs (node_at t n) f m))) 0 ∷ []) (derived none) i l).0) ∙ (unfold sum_of in refl)

    last_at : step_sum h.step (known_of h s) (from_in s.stored (window n f m) + 2 * m) ≡ some
        (normal (units (map neg (outputs (node_at t n) f m)) ≥ 0))
    last_at = key_step (window n f m) stored-window (2 * m) (omega (arith, list_length))
        ∙ sum_at (window n f m) window_list (2 * m) (written 0 (units (map neg (outputs (node_at t n) f m))) 0) list_is
        (unfold window_list in
        pairs_last (λ (v : ℕ). derived (some (window_if_sum (node_at t n) f m v))) (λ (v : ℕ). derived (some (window_only_if_sum (node_at t n) f m v))) (f + 1) m
        (written 0 (units (map neg (outputs (node_at t n) f m))) 0) (derived none)) ∙ (unfold sum_of in refl)

    zero_at : step_sum h.step (known_of h s) (from_in s.stored (window_zero n f m)) ≡ some (normal (units (outputs (node_at t n) f m) ≥ 0))
    zero_at = let e : from_in s.stored (window_zero n f m) ≡ from_in s.stored (window_zero n f m) + 0 = omega arith in
        rw e (key_step (window_zero n f m) stored-zero 0 (unfold defined_by in omega arith) ∙ (unfold defined_by sum_of in refl))

    zero_sum : (p : ℕ) → real_only_if_sum (outputs (node_at t n) f m) p 0 ≡ (units (outputs (node_at t n) f m) ≥ 0)
    unfolding real_only_if_sum keep
    zero_sum p = rw append-nil

    top_sum : (p : ℕ) → real_if_sum (outputs (node_at t n) f m) p (m + 1) ≡ (units (map neg (outputs (node_at t n) f m)) ≥ 0)
    unfolding real_if_sum
    top_sum p = let z : length (outputs (node_at t n) f m) + 1 - (m + 1) ≡ 0 = omega (arith, outs_length) in rw z (unfold keep in rw append-nil)

    value_is : (i : ℕ) → f + suc i ≡ f + 1 + i
    value_is i = omega arith

    pub window_only_stands : (i v : ℕ) → KeyOf f i v → i ≤ m
        → Stands (step_sum h.step (known_of h s)) (def_tokens (step_in s.stored) (window_def n f m v only_if))
        (real_only_if_sum (outputs (node_at t n) f m) (output (node_at t n) (f + i)) i)
    unfolding def_tokens step_in
    window_only_stands zero v k l =
        rw (only_if_zero n f m v k, zero_sum (output (node_at t n) (f + 0)))
        (stands_step (from_in s.stored (window_zero n f m)) (units (outputs (node_at t n) f m) ≥ 0)
        (units (outputs (node_at t n) f m) ≥ 0) zero_at (Apart-clean _ (different_apart (outputs (node_at t n) f m) outs_different)) (same_refl _))
    window_only_stands (suc i) v k l =
        let z : 2 * i + 2 ≡ suc (2 * i + 1) = omega arith in
        let w = output (node_at t n) (f + 1 + i) in
        let xs = outputs_before (node_at t n) f (f + 1 + i) in
        let ys = outputs_after (node_at t n) f m (f + 1 + i) in
        let apart : Apart (units (xs ++ w ∷ ys)) =
        subst (λ (o : List ℕ). Apart (units o)) (around i l) (different_apart (outputs (node_at t n) f m) outs_different) in
        let same : SameSum (window_only_if_of xs w ys) (real_only_if_sum (outputs (node_at t n) f m) (output (node_at t n) (f + suc i)) (suc i)) =
        rw (around i l, value_is i)
        (subst (λ (v : ℕ). SameSum (window_only_if_of xs w ys) (real_only_if_sum (xs ++ w ∷ ys) w v)) (omega (arith, before_length i))
        (window_only_if_real xs w ys)) in
        rw (only_if_above n f m i v k, z) (stands_step (from_in s.stored (window n f m) + (2 * i + 1)) (window_only_if_of xs w ys)
        (real_only_if_sum (outputs (node_at t n) f m) (output (node_at t n) (f + suc i)) (suc i)) (only_at i l ∙ (unfold window_only_if_sum in refl))
        (window_only_if_clean xs w ys apart) same)

    pub window_if_stands : (i v : ℕ) → KeyOf f i v → 1 ≤ i → i ≤ m + 1
        → Stands (step_sum h.step (known_of h s)) (def_tokens (step_in s.stored) (window_def n f m v if))
        (real_if_sum (outputs (node_at t n) f m) (output (node_at t n) (f + i)) i)
    unfolding def_tokens step_in
    window_if_stands zero v k g l = absurd (omega arith)
    window_if_stands (suc i) v k g l = rw (if_above n f m i v k) (by (dec_lt i m))
      where
        z : 2 * i + 1 ≡ suc (2 * i)
        z = omega arith

        by : Dec (i < m) → Stands (step_sum h.step (known_of h s)) (step (step_in s.stored (window n f m) (2 * i + 1)) ∷ [])
            (real_if_sum (outputs (node_at t n) f m) (output (node_at t n) (f + suc i)) (suc i))
        by (yes e) =
            let w = output (node_at t n) (f + 1 + i) in
            let xs = outputs_before (node_at t n) f (f + 1 + i) in
            let ys = outputs_after (node_at t n) f m (f + 1 + i) in
            let apart : Apart (units (xs ++ w ∷ ys)) =
            subst (λ (o : List ℕ). Apart (units o)) (around i e) (different_apart (outputs (node_at t n) f m) outs_different) in
            let same : SameSum (window_if_of xs w ys) (real_if_sum (outputs (node_at t n) f m) (output (node_at t n) (f + suc i)) (suc i)) =
            rw (around i e, value_is i)
            (subst (λ (v : ℕ). SameSum (window_if_of xs w ys) (real_if_sum (xs ++ w ∷ ys) w v)) (omega (arith, before_length i))
            (window_if_real xs w ys)) in
            rw z (stands_step (from_in s.stored (window n f m) + 2 * i) (window_if_of xs w ys)
            (real_if_sum (outputs (node_at t n) f m) (output (node_at t n) (f + suc i)) (suc i)) (if_at i e ∙ (unfold window_if_sum in refl))
            (window_if_clean xs w ys apart) same)
        by (no e) =
            let q : i ≡ m = omega arith in
            let v : suc i ≡ m + 1 = omega arith in
            let r : real_if_sum (outputs (node_at t n) f m) (output (node_at t n) (f + suc i)) (suc i) ≡ (units (map neg (outputs (node_at t n) f m)) ≥ 0) =
            ap (real_if_sum (outputs (node_at t n) f m) (output (node_at t n) (f + suc i))) v ∙ top_sum (output (node_at t n) (f + suc i)) in
            rw (r, z) (stands_step (from_in s.stored (window n f m) + 2 * i) (units (map neg (outputs (node_at t n) f m)) ≥ 0)
            (units (map neg (outputs (node_at t n) f m)) ≥ 0)
            (ap (λ (j : ℕ). step_sum h.step (known_of h s) (from_in s.stored (window n f m) + 2 * j)) q ∙ last_at)
            (Apart-clean _ (apart_negs (outputs (node_at t n) f m) (different_apart (outputs (node_at t n) f m) outs_different))) (same_refl _))
