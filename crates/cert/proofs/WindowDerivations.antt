-- The derivations of a window come to its definitions.
use mathlib.Core.Path.{◌≡◌, refl, sym, ◌∙◌, ap, subst}
use mathlib.Core.Logic.{◌≢◌, ◌⊎◌, inl, inr}
use mathlib.Core.List.{List, [], ◌∷◌, ◌++◌, map, map-append, Memᴰ}
use mathlib.Core.Option.{Option, some}
use Prim.Native.Nat.{ℕ, zero, suc, ◌+◌, ◌-◌, min, ◌≤◌, ◌<◌}
use native.Mathlib.Omega.{arith}
use lib.ListN.{length, length-map, length-append}
use Rattle.pb.specs.Rules.{Token, literal, step, add, divide, saturate, literal_axiom, evaluate}
use Rattle.pb.specs.Sum.{units, variable, coef, neg, hit, Sum, normal, clause_sum}
use Rattle.pb.proofs.Normal.{Apart, Off, coef_off, Clean, Apart-clean, normal_same}
use Rattle.pb.proofs.Rules.{coef_append, coef_negs, coef_units, same_trans}
use Rattle.pb.proofs.Terms.{hit_cases, neg_self, neg_neg, variable_neg, coef_keep, coef_nil}
use Rattle.totdb.specs.Nodes.{range, Node, output}
use Rattle.totdb.proofs.Listed.{length_range}
use Rattle.cert.specs.Definitions.{Key, real, if_part, only_if_part, outputs_before, outputs_after, window_if_of, total, window_if_sum, window_only_if_of, window_only_if_sum}
use Rattle.cert.proofs.Apart.{range_mem}
use Rattle.cert.proofs.Derivations.{Gives, Parts, parts_done, parts_more, Room, clean_room, gives_as, gives_saturate, gives_divide, gives_add, gives_step, parts_append, gives_literal, parts_skip, coef_total, gives_parts, clean_less, evaluate_gives}
use Rattle.cert.proofs.Summands.{if_low, if_high, if_own, only_if_low, only_if_high, only_if_own}
use Rattle.cert.proofs.Totalizer.{real_if_sum, if_at, real_only_if_sum, only_if_at, piece, piece_back}
use Rattle.cert.proofs.WindowSums.{clause_swap, total as totalSum, axioms_at, pieces_at, negs_at, window_if_clean, total_append, if_total, window_only_if_clean, only_if_total}

-- ---- real definitions over different variables are clean

module _ (ls : List ℕ) (o : ℕ) (apart : Apart (units ls)) (off : Off (variable o) (units ls)) where
  own : (l : ℕ) → variable l ≡ variable o → coef (units ls) l ≡ 0
  own l e = coef_off l (units ls) (subst (λ (x : ℕ). Off x (units ls)) (sym e) off)

  others : (l : ℕ) → min (coef (units ls) l) (coef (units ls) (neg l)) ≡ 0
  unfolding Clean
  others l = Apart-clean (units ls) apart l

  pub real_if_clean : (v : ℕ) → Clean (real_if_sum ls o v).terms
  unfolding Clean
  real_if_clean v l = by (hit_cases (length ls + 1 - v) o l) (hit_cases (length ls + 1 - v) o (neg l))
    where
      by : ((o ≡ l) × (hit (length ls + 1 - v) o l ≡ length ls + 1 - v)) ⊎ ((o ≢ l) × (hit (length ls + 1 - v) o l ≡ 0))
          → ((o ≡ neg l) × (hit (length ls + 1 - v) o (neg l) ≡ length ls + 1 - v)) ⊎ ((o ≢ neg l) × (hit (length ls + 1 - v) o (neg l) ≡ 0)) →
          min (coef (real_if_sum ls o v).terms l) (coef (real_if_sum ls o v).terms (neg l)) ≡ 0
      by (inl e) (inl f) = absurd (neg_self l (sym f.0 ∙ e.0))
      by (inl e) (inr f) = rw (if_at ls o v l, if_at ls o v (neg l), neg_neg l) (omega (arith, own l (ap variable (sym e.0)), f.1))
      by (inr e) (inl f) = rw (if_at ls o v l, if_at ls o v (neg l), neg_neg l) (omega (arith, own (neg l) (ap variable (sym f.0)), e.1))
      by (inr e) (inr f) = rw (if_at ls o v l, if_at ls o v (neg l), neg_neg l) (omega (arith, others l, e.1, f.1))

  pub real_only_clean : (v : ℕ) → Clean (real_only_if_sum ls o v).terms
  unfolding Clean
  real_only_clean v l = by (hit_cases v (neg o) l) (hit_cases v (neg o) (neg l))
    where
      by : ((neg o ≡ l) × (hit v (neg o) l ≡ v)) ⊎ ((neg o ≢ l) × (hit v (neg o) l ≡ 0))
          → ((neg o ≡ neg l) × (hit v (neg o) (neg l) ≡ v)) ⊎ ((neg o ≢ neg l) × (hit v (neg o) (neg l) ≡ 0)) →
          min (coef (real_only_if_sum ls o v).terms l) (coef (real_only_if_sum ls o v).terms (neg l)) ≡ 0
      by (inl e) (inl f) = absurd (neg_self l (sym f.0 ∙ e.0))
      by (inl e) (inr f) =
          rw (only_if_at ls o v l, only_if_at ls o v (neg l))
          (omega (arith, own (neg l) (variable_neg l ∙ ap variable (sym e.0) ∙ variable_neg o), f.1))
      by (inr e) (inl f) =
          rw (only_if_at ls o v l, only_if_at ls o v (neg l))
          (omega (arith, own l (sym (variable_neg l) ∙ ap variable (sym f.0) ∙ variable_neg o), e.1))
      by (inr e) (inr f) = rw (only_if_at ls o v l, only_if_at ls o v (neg l)) (omega (arith, others l, e.1, f.1))

-- ---- the numbers of a window around v

pub range_append : (a i k : ℕ) → range a (i + k) ≡ range a i ++ range (a + i) k
unfolding range
range_append a zero k = let e : 0 + k ≡ k = omega arith in let f : a + 0 ≡ a = omega arith in rw (e, f)
range_append a (suc i) k = let e : suc i + k ≡ suc (i + k) = omega arith in let f : a + suc i ≡ suc a + i = omega arith in
    rw (e, f) (ap {B = List ℕ} (λ (l : List ℕ). a ∷ l) (range_append (suc a) i k))

pub range_around : (f m v : ℕ) → f < v → v ≤ f + m → range (f + 1) m ≡ range (f + 1) (v - (f + 1)) ++ v ∷ range (v + 1) (f + m - v)
range_around f m v h l =
    let e : m ≡ (v - (f + 1)) + suc (f + m - v) = omega arith in
    let g : f + 1 + (v - (f + 1)) ≡ v = omega arith in
    let z : v + 1 ≡ suc v = omega arith in
    ap (range (f + 1)) e ∙ range_append (f + 1) (v - (f + 1)) (suc (f + m - v))
    ∙ ap {B = List ℕ} (λ (l : List ℕ). range (f + 1) (v - (f + 1)) ++ l) (rw (g, z) (unfold range in refl))

parts_map : {sums : ℕ → Option Sum} (t : ℕ → List Token) (c : ℕ → Sum) (xs : List ℕ)
    → ((s : ℕ) → Memᴰ s xs → (k : Token) × (ks : List Token) × (t s ≡ k ∷ ks) × Gives sums (k ∷ ks) (c s)) → Parts sums (map t xs) (map c xs)
parts_map t c [] h = parts_done
parts_map {sums} t c (x ∷ xs) h = let g = h x (Memᴰ.head refl) in
    subst (λ (y : List Token). Parts sums (y ∷ map t xs) (c x ∷ map c xs)) (sym g.2)
    (parts_more g.3 (parts_map t c xs (λ s m. h s (Memᴰ.tail m))))

-- ---- a window over a node x with leaf literals ls, where the real definitions of its outputs are steps

module _ (sums : ℕ → Option Sum) (at_step : Key → ℕ → ℕ) (n : ℕ) (x : Node) (ls : List ℕ) (f m : ℕ) (inside : f + m ≤ length ls)
    (apart : Apart (units ls))
    (off : (s : ℕ) → f < s → s ≤ f + m → Off (variable (output x s)) (units ls))
    (differ : (s v : ℕ) → f < s → s ≤ f + m → f < v → v ≤ f + m → s ≢ v → variable (output x s) ≢ variable (output x v))
    (ifs : (s : ℕ) → f < s → s ≤ f + m → sums (at_step (real n s) 0) ≡ some (normal (real_if_sum ls (output x s) s)))
    (onlys : (s : ℕ) → f < s → s ≤ f + m → sums (at_step (real n s) 1) ≡ some (normal (real_only_if_sum ls (output x s) s))) where
  real_room : (s v : ℕ) → f < s → s ≤ f + m → Room (real_if_sum ls (output x s) v) × Room (real_only_if_sum ls (output x s) v)
  real_room s v h l = (
    clean_room _ (real_if_clean ls (output x s) apart (off s h l) v),
    clean_room _
        (real_only_clean ls (output x s) apart (off s h l) v),
  )

  if_piece : (v s : ℕ) → f < v → v < s → s ≤ f + m
      → Gives sums (step (at_step (real n v) 0) ∷ step (at_step (real n s) 1) ∷ add ∷ divide (s - v + 1) ∷ saturate ∷ [])
      (clause_sum (output x v ∷ neg (output x s) ∷ []))
  if_piece v s h i j =
      let hv : v ≤ f + m = omega arith in
      let hs : f < s = omega arith in
      gives_as (clause_sum (output x v ∷ neg (output x s) ∷ []))
      (piece ls (output x v) (output x s) v s (omega arith) i (omega arith) (differ v s h hv hs j (λ e. absurd (omega arith))))
      (gives_saturate (gives_divide (s - v + 1) (omega arith)
      (gives_add (gives_step (at_step (real n v) 0) (real_if_sum ls (output x v) v) (ifs v h hv))
      (gives_step (at_step (real n s) 1) (real_only_if_sum ls (output x s) s) (onlys s hs j)) (real_room v v h hv).0 (real_room s s hs j).1)))

  only_piece : (v s : ℕ) → f < s → s < v → v ≤ f + m
      → Gives sums (step (at_step (real n v) 1) ∷ step (at_step (real n s) 0) ∷ add ∷ divide (v - s + 1) ∷ saturate ∷ [])
      (clause_sum (neg (output x v) ∷ output x s ∷ []))
  only_piece v s h i j =
      let hs : s ≤ f + m = omega arith in
      let hv : f < v = omega arith in
      gives_as (clause_sum (neg (output x v) ∷ output x s ∷ []))
      (piece_back ls (output x s) (output x v) s v (omega arith) i (omega arith) (differ s v h hs hv j (λ e. absurd (omega arith)))
      ∙ normal_same _ _ (clause_swap (output x s) (neg (output x v))))
      (gives_saturate (gives_divide (v - s + 1) (omega arith)
      (gives_add (gives_step (at_step (real n v) 1) (real_only_if_sum ls (output x v) v) (onlys v hv j))
      (gives_step (at_step (real n s) 0) (real_if_sum ls (output x s) s) (ifs s h hs)) (real_room v v hv j).1 (real_room s s h hs).0)))

  module _ (v : ℕ) (low : f < v) (high : v ≤ f + m) (more : 1 < m)
      (apart-outs : Apart (units (outputs_before x f v ++ output x v ∷ outputs_after x f m v))) where
    xs : List ℕ
    xs = range (f + 1) (v - (f + 1))

    ys : List ℕ
    ys = range (v + 1) (f + m - v)

    if_parts : Parts sums (map (if_part at_step n x v) (range (f + 1) m))
        (map (λ s. literal_axiom (neg (output x s))) xs ++ map (λ s. clause_sum (output x v ∷ neg (output x s) ∷ [])) ys)
    unfolding xs ys
    if_parts =
        rw (
          range_around f m v low high,
          map-append (if_part at_step n x v) (range (f + 1) (v - (f + 1))) (v ∷ range (v + 1) (f + m - v)),
          if_own at_step n x v v (omega arith) (omega arith),
        )
        (parts_append
        (parts_map (if_part at_step n x v) (λ s. literal_axiom (neg (output x s))) (range (f + 1) (v - (f + 1)))
        (λ s i. (
          literal (neg (output x s)),
          [],
          if_low at_step n x v s (omega (arith, range_mem (f + 1) (v - (f + 1)) s i)),
          gives_literal
              (neg (output x s)),
        )))
        (parts_skip (parts_map (if_part at_step n x v) (λ s. clause_sum (output x v ∷ neg (output x s) ∷ [])) (range (v + 1) (f + m - v))
        (λ s i. let k = range_mem (v + 1) (f + m - v) s i in
        (step (at_step (real n v) 0), _, if_high at_step n x v s (omega (arith, k)), if_piece v s low (omega (arith, k)) (omega (arith, k)))))))

    if_coefs : (l : ℕ) → coef
        (totalSum (map (λ s. literal_axiom (neg (output x s))) xs ++ map (λ s. clause_sum (output x v ∷ neg (output x s) ∷ [])) ys)).terms l ≡ coef
        (window_if_of (map (output x) xs) (output x v) (map (output x) ys)).terms l
    unfolding window_if_of
    if_coefs l =
        coef_total (map (λ s. literal_axiom (neg (output x s))) xs) (map (λ s. clause_sum (output x v ∷ neg (output x s) ∷ [])) ys) l
        ∙ simp (
          axioms_at (λ s. neg (output x s)) (output x v),
          pieces_at (λ s. neg (output x s)) (output x v),
          negs_at (output x),
          coef_append,
          coef_keep,
          coef_nil,
          coef_negs,
          coef_units,
          length-map,
        ) (omega arith)

    some_parts : 0 < length (map (λ s. literal_axiom (neg (output x s))) xs ++ map (λ s. clause_sum (output x v ∷ neg (output x s) ∷ [])) ys)
    unfolding xs ys
    some_parts = simp (length-append, length-map, length_range) (omega arith)

    pub window_if_evaluates : evaluate sums (total [] (map (if_part at_step n x v) (range (f + 1) m))) ≡ some (window_if_sum x f m v)
    unfolding window_if_sum outputs_before outputs_after
    window_if_evaluates =
        let clean : Clean (window_if_of (map (output x) xs) (output x v) (map (output x) ys)).terms = unfold xs ys in
        window_if_clean (outputs_before x f v) (output x v) (outputs_after x f m v) apart-outs in
        let g = gives_parts if_parts some_parts (clean_less _ _ (λ l. omega (arith, if_coefs l)) clean) in
        evaluate_gives g ∙ ap some
        (normal_same _ _ (same_trans
        (total_append (map (λ s. literal_axiom (neg (output x s))) xs) (map (λ s. clause_sum (output x v ∷ neg (output x s) ∷ [])) ys))
        (if_total (output x) v xs ys)) ∙ (unfold xs ys in refl))

    only_parts : Parts sums (map (only_if_part at_step n x v) (range (f + 1) m))
        (map (λ s. clause_sum (neg (output x v) ∷ output x s ∷ [])) xs ++ map (λ s. literal_axiom (output x s)) ys)
    unfolding xs ys
    only_parts =
        rw (
          range_around f m v low high,
          map-append (only_if_part at_step n x v) (range (f + 1) (v - (f + 1))) (v ∷ range (v + 1) (f + m - v)),
          only_if_own at_step n x v v (omega arith) (omega arith),
        )
        (parts_append
        (parts_map (only_if_part at_step n x v) (λ s. clause_sum (neg (output x v) ∷ output x s ∷ [])) (range (f + 1) (v - (f + 1)))
        (λ s i. let k = range_mem (f + 1) (v - (f + 1)) s i in
        (step (at_step (real n v) 1), _, only_if_low at_step n x v s (omega (arith, k)), only_piece v s (omega (arith, k)) (omega (arith, k)) high)))
        (parts_skip (parts_map (only_if_part at_step n x v) (λ s. literal_axiom (output x s)) (range (v + 1) (f + m - v))
        (λ s i. (literal (output x s), [], only_if_high at_step n x v s (omega (arith, range_mem (v + 1) (f + m - v) s i)), gives_literal (output x s))))))

    only_coefs : (l : ℕ)
        → coef (totalSum (map (λ s. clause_sum (neg (output x v) ∷ output x s ∷ [])) xs ++ map (λ s. literal_axiom (output x s)) ys)).terms l ≡ coef
        (window_only_if_of (map (output x) xs) (output x v) (map (output x) ys)).terms l
    unfolding window_only_if_of
    only_coefs l =
        coef_total (map (λ s. clause_sum (neg (output x v) ∷ output x s ∷ [])) xs) (map (λ s. literal_axiom (output x s)) ys) l
        ∙ simp (
          axioms_at (output x) (neg (output x v)),
          pieces_at (output x) (neg (output x v)),
          coef_append,
          coef_keep,
          coef_nil,
          coef_units,
          length-map,
        ) (omega arith)

    some_only : 0 < length (map (λ s. clause_sum (neg (output x v) ∷ output x s ∷ [])) xs ++ map (λ s. literal_axiom (output x s)) ys)
    unfolding xs ys
    some_only = simp (length-append, length-map, length_range) (omega arith)

    pub window_only_if_evaluates : evaluate sums (total [] (map (only_if_part at_step n x v) (range (f + 1) m))) ≡ some (window_only_if_sum x f m v)
    unfolding window_only_if_sum outputs_before outputs_after
    window_only_if_evaluates =
        let clean : Clean (window_only_if_of (map (output x) xs) (output x v) (map (output x) ys)).terms = unfold xs ys in
        window_only_if_clean (outputs_before x f v) (output x v) (outputs_after x f m v) apart-outs in
        let g = gives_parts only_parts some_only (clean_less _ _ (λ l. omega (arith, only_coefs l)) clean) in
        evaluate_gives g ∙ ap some
        (normal_same _ _ (same_trans
        (total_append (map (λ s. clause_sum (neg (output x v) ∷ output x s ∷ [])) xs) (map (λ s. literal_axiom (output x s)) ys))
        (only_if_total (output x) v xs ys)) ∙ (unfold xs ys in refl))
