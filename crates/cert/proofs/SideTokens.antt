-- The tokens of a side's definition stand for the real definition over the literals that the side hands on.
use mathlib.Core.Path.{◌≡◌, refl, sym, ◌∙◌, ap, subst}
use mathlib.Core.List.{List, [], ◌∷◌, Memᴰ}
use Prim.Native.Nat.{ℕ, zero, suc, ◌+◌, ◌≤◌, ◌<◌}
use native.Mathlib.Decide.{dec_le}
use native.Mathlib.Omega.{arith}
use lib.ListN.{length}
use Rattle.pb.specs.Sum.{variable, units}
use Rattle.pb.proofs.Normal.{Off}
use Rattle.record.specs.Steps.{step_sum}
use Rattle.totdb.specs.Nodes.{Node, len, join, leaves, node_at, leaf, side_lit, range, output, side_len, side_leaves, plain_or, limited, side_outputs, outputs}
use Rattle.totdb.specs.declared.Side.{Side}
use Rattle.cert.specs.Definitions.{real, real_def, only_if, if, window, window_def, Key, pulls, window_zero, Definition, side_def, one_def}
use Rattle.cert.specs.Requests.{of_side, key_of, def_tokens}
use Rattle.cert.specs.Sized.{Fit, Sized}
use Rattle.cert.specs.State.{State, keys, step_in, Head}
use Rattle.cert.proofs.Available.{Available, side_if_from, side_only_if_to}
use Rattle.cert.proofs.ClauseDerivations.{Stands}
use Rattle.cert.proofs.Distinct.{Distinct, off_units}
use Rattle.cert.proofs.Keyed.{KeyOf, by_form, real_key, window_key}
use Rattle.cert.proofs.Known.{KnownIn, long_join, known_of}
use Rattle.cert.proofs.Pulls.{pulls_zero}
use Rattle.cert.proofs.Sides.{real_only_stands, real_if_stands, window_only_stands, window_if_stands, one_only, one_if}
use Rattle.cert.proofs.Totalizer.{real_only_if_sum, real_if_sum, leaf_zero, leaf_two}

short_join : (t : List Node) (n : ℕ) (ls : List ℕ) (o : ℕ) (a b : Side) → len (join ls o a b) ≤ 1 → Fit t n (join ls o a b) → ⊥
unfolding Fit len leaves
short_join t n ls o a b c f = omega (arith, f.5, f.7, f.8)

-- A node of length 1 is a leaf.
short_leaf : (t : List Node) → Sized t → (n : ℕ) → n < length t → len (node_at t n) ≤ 1 → (l : ℕ) × (node_at t n ≡ leaf l)
short_leaf t sz n h g = by (node_at t n) refl g (unfold Sized in sz n h)
  where
    by : (x : Node) → node_at t n ≡ x → len x ≤ 1 → Fit t n x → (l : ℕ) × (node_at t n ≡ leaf l)
    by (leaf l) e a f = (l, e)
    by (join ls o a b) e c f = absurd (short_join t n ls o a b c f)

one_output : (t : List Node) (c : Side) → outputs (node_at t c.node) c.offset 1 ≡ side_lit t c 1 ∷ []
unfolding outputs side_lit range
one_output t c = refl

-- The key of a definition.
own_key : (e : Definition) {k : Key} → key_of e ≡ k ∷ [] → Memᴰ k (key_of e)
own_key e i = rw i (Memᴰ.head refl)

module _ (h : Head) (t : List Node) (sz : Sized t) (d : Distinct t) (s : State) (k : KnownIn h t s)
    (closed : (i j : Key) → Memᴰ i (keys s) → Memᴰ j (pulls i) → Memᴰ j (keys s)) where
  pub node_off : (n : ℕ) → n < length t → 1 < len (node_at t n) → (v : ℕ) → 1 ≤ v → v ≤ len (node_at t n)
      → Off (variable (output (node_at t n) v)) (units (leaves (node_at t n)))
  node_off n hn more v a b =
      let j = long_join (node_at t n) more in
      off_units (variable (output (node_at t n) v)) (leaves (node_at t n)) (λ l i e. d.own n l v j.0 j.1 j.2 j.3 hn j.4 i a b (sym e))

  zero_stored : (n f m : ℕ) → Memᴰ (window n f m) (keys s) → Memᴰ (window_zero n f m) (keys s)
  zero_stored n f m i = closed (window n f m) (window_zero n f m) i (pulls_zero n f m)

  module _ (c : Side) (there : c.node < length t) (fits : c.offset + side_len t c ≤ len (node_at t c.node)) (some-side : 1 ≤ side_len t c) where
    -- the literals handed on, by the form of the side
    plain_leaves : c.offset ≡ 0 → c.limit ≡ 0 → (side_leaves t c ≡ leaves (node_at t c.node)) × (side_len t c ≡ len (node_at t c.node))
    plain_leaves e g = (
      unfold side_leaves in rw (e, g) (unfold plain_or in refl),
      unfold side_len in rw (e, g) (unfold limited in omega arith),
    )

    window_leaves : (0 < c.offset + c.limit) → side_leaves t c ≡ outputs (node_at t c.node) c.offset (side_len t c)
    unfolding side_leaves plain_or side_outputs
    window_leaves g = by c.offset c.limit g
      where
        by : (f j : ℕ) → 0 < f + j → plain_or f j (leaves (node_at t c.node)) (side_outputs t c) ≡ side_outputs t c
        by zero zero l = absurd (omega arith)
        by zero (suc j) l = refl
        by (suc f) j l = refl

    plain_long : (e : c.offset ≡ 0) (g : c.limit ≡ 0) (i : ℕ) → (side_lit t c i ≡ output (node_at t c.node) i)
    plain_long e g i = unfold side_lit in ap (output (node_at t c.node)) (omega arith)

    -- One literal handed on.
    single : side_len t c ≤ 1 → side_leaves t c ≡ side_lit t c 1 ∷ []
    single l = by (dec_le (c.offset + c.limit) 0)
      where
        by : Dec (c.offset + c.limit ≤ 0) → side_leaves t c ≡ side_lit t c 1 ∷ []
        by (yes e) =
            let p = plain_leaves (omega arith) (omega arith) in
            let q = short_leaf t sz c.node there (omega (arith, p.1)) in
            p.0 ∙ rw (plain_long (omega arith) (omega arith) 1) (rw q.1 (unfold leaves output in refl))
        by (no e) =
            let m : side_len t c ≡ 1 = omega arith in
            window_leaves (omega arith) ∙ ap (outputs (node_at t c.node) c.offset) m ∙ one_output t c

    module _ (more : 1 < side_len t c) where
      plain_only : c.offset ≡ 0 → c.limit ≡ 0 → (i : ℕ) → i ≤ side_len t c → Memᴰ (real c.node i) (keys s)
          → Stands (step_sum h.step (known_of h s)) (def_tokens (step_in s.stored) (real_def c.node i only_if))
          (real_only_if_sum (side_leaves t c) (side_lit t c i) i)
      plain_only e g i l m =
          let p = plain_leaves e g in
          rw (p.0, plain_long e g i)
          (real_only_stands h t s k c.node (d.within c.node there) (node_off c.node there (omega arith)) i (omega (arith, p.1)) m)

      plain_if : c.offset ≡ 0 → c.limit ≡ 0 → (i : ℕ) → 1 ≤ i → i ≤ side_len t c + 1 → Memᴰ (real c.node i) (keys s)
          → Stands (step_sum h.step (known_of h s)) (def_tokens (step_in s.stored) (real_def c.node i if))
          (real_if_sum (side_leaves t c) (side_lit t c i) i)
      plain_if e g i a l m =
          let p = plain_leaves e g in
          rw (p.0, plain_long e g i)
          (real_if_stands h t s k c.node (d.within c.node there) (node_off c.node there (omega arith)) i a (omega (arith, p.1)) m)

      window_only : 0 < c.offset + c.limit → (i v : ℕ) → KeyOf c.offset i v → i ≤ side_len t c
          → Memᴰ (window c.node c.offset (side_len t c)) (keys s)
          → Stands (step_sum h.step (known_of h s)) (def_tokens (step_in s.stored) (window_def c.node c.offset (side_len t c) v only_if))
          (real_only_if_sum (side_leaves t c) (side_lit t c i) i)
      window_only g i v q l m =
          subst (λ (ls : List ℕ). Stands (step_sum h.step (known_of h s))
          (def_tokens (step_in s.stored) (window_def c.node c.offset (side_len t c) v only_if)) (real_only_if_sum ls (side_lit t c i) i))
          (sym (window_leaves g))
          (unfold side_lit in window_only_stands h t s k c.node c.offset (side_len t c) fits m
          (zero_stored c.node c.offset (side_len t c) m) i v q l)

      window_if_lem : 0 < c.offset + c.limit → (i v : ℕ) → KeyOf c.offset i v → 1 ≤ i → i ≤ side_len t c + 1
          → Memᴰ (window c.node c.offset (side_len t c)) (keys s)
          → Stands (step_sum h.step (known_of h s)) (def_tokens (step_in s.stored) (window_def c.node c.offset (side_len t c) v if))
          (real_if_sum (side_leaves t c) (side_lit t c i) i)
      window_if_lem g i v q a l m =
          subst (λ (ls : List ℕ). Stands (step_sum h.step (known_of h s))
          (def_tokens (step_in s.stored) (window_def c.node c.offset (side_len t c) v if)) (real_if_sum ls (side_lit t c i) i))
          (sym (window_leaves g))
          (unfold side_lit in window_if_stands h t s k c.node c.offset (side_len t c) fits m
          (zero_stored c.node c.offset (side_len t c) m) i v q a l)

    pub side_only : (i : ℕ) → Available t (of_side c i only_if)
        → ((j : Key) → Memᴰ j (key_of (side_def t c i only_if)) → Memᴰ j (keys s))
        → Stands (step_sum h.step (known_of h s)) (def_tokens (step_in s.stored) (side_def t c i only_if))
        (real_only_if_sum (side_leaves t c) (side_lit t c i) i)
    side_only i av =
        let l = side_only_if_to i av in
        by_form (λ (e : Definition). ((j : Key) → Memᴰ j (key_of e) → Memᴰ j (keys s))
        → Stands (step_sum h.step (known_of h s)) (def_tokens (step_in s.stored) e) (real_only_if_sum (side_leaves t c) (side_lit t c i) i)) t c i only_if
        (λ p has. rw (single p)
        (subst (Stands (step_sum h.step (known_of h s)) (def_tokens (step_in s.stored) (one_def (side_lit t c 1) i)))
        (one i (omega arith)) (one_only (step_in s.stored) (side_lit t c 1) i (omega arith))))
        (λ p e g has. plain_only p e g i l (has (real c.node i) (own_key (real_def c.node i only_if) (real_key c.node i only_if))))
        (λ p g v q has. window_only p g i v q l
        (has (window c.node c.offset (side_len t c)) (own_key (window_def c.node c.offset (side_len t c) v only_if) (window_key c.node c.offset (side_len t c) v only_if))))
      where
        one : (i : ℕ) → i ≤ 1 → real_only_if_sum (side_lit t c 1 ∷ []) (side_lit t c 1) i ≡ real_only_if_sum (side_lit t c 1 ∷ []) (side_lit t c i) i
        one zero g = leaf_zero (side_lit t c 1) (side_lit t c 1) ∙ sym (leaf_zero (side_lit t c 1) (side_lit t c 0))
        one (suc zero) g = refl
        one (suc (suc i)) g = absurd (omega arith)

    pub side_if : (i : ℕ) → Available t (of_side c i if) → i ≤ side_len t c + 1 → ((j : Key) → Memᴰ j (key_of (side_def t c i if)) → Memᴰ j (keys s))
        → Stands (step_sum h.step (known_of h s)) (def_tokens (step_in s.stored) (side_def t c i if)) (real_if_sum (side_leaves t c) (side_lit t c i) i)
    side_if i av l =
        let a = side_if_from i av in
        by_form (λ (e : Definition). ((j : Key) → Memᴰ j (key_of e) → Memᴰ j (keys s))
        → Stands (step_sum h.step (known_of h s)) (def_tokens (step_in s.stored) e) (real_if_sum (side_leaves t c) (side_lit t c i) i)) t c i if
        (λ p has. rw (single p)
        (subst (Stands (step_sum h.step (known_of h s)) (def_tokens (step_in s.stored) (one_def (side_lit t c 1) i))) (one i a (omega arith))
        (one_if (step_in s.stored) (side_lit t c 1) i a (omega arith))))
        (λ p e g has. plain_if p e g i a l (has (real c.node i) (own_key (real_def c.node i if) (real_key c.node i if))))
        (λ p g v q has. window_if_lem p g i v q a l
        (has (window c.node c.offset (side_len t c)) (own_key (window_def c.node c.offset (side_len t c) v if) (window_key c.node c.offset (side_len t c) v if))))
      where
        one : (i : ℕ) → 1 ≤ i → i ≤ 2 → real_if_sum (side_lit t c 1 ∷ []) (side_lit t c 1) i ≡ real_if_sum (side_lit t c 1 ∷ []) (side_lit t c i) i
        one zero z g = absurd (omega arith)
        one (suc zero) z g = refl
        one (suc (suc zero)) z g = leaf_two (side_lit t c 1) (side_lit t c 1) ∙ sym (leaf_two (side_lit t c 1) (side_lit t c 2))
        one (suc (suc (suc i))) z g = absurd (omega arith)
