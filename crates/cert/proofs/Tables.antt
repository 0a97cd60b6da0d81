-- The tables that leaf and join commands make: each accepted one keeps the sides in place and the literals apart.
use Rattle.std.proofs.lemmas.List.Recursion.{or_push}
use mathlib.Core.Path.{◌≡◌, refl, sym, ◌∙◌}
use mathlib.Core.Bool.{Bool, ◌||◌}
use mathlib.Core.Logic.{◌⊎◌, inl, inr, ⊎_elim}
use mathlib.Core.List.{List, [], ◌∷◌, ◌++◌}
use Prim.Native.Nat.{ℕ, zero, suc, ◌+◌, ◌-◌, ◌*◌, ◌≤◌, ◌<◌}
use native.Mathlib.Decide.{dec_lt}
use native.Mathlib.Omega.{arith}
use lib.ListN.{length, length-append}
use lib.Seq.{get_or-append_seam}
use Rattle.totdb.specs.Nodes.{Node, node_at, leaf, join, len, limited, side_len, any}
use Rattle.totdb.specs.declared.Side.{Side}
use Rattle.cert.specs.Requests.{Request, request, Right}
use Rattle.cert.specs.Sized.{Fit, Sized, Numbered}
use Rattle.cert.proofs.LeavesBelow.{below_more, leaf_join}
use Rattle.cert.proofs.Rules.{at_more, side_len-more, side_leaves-more}

-- The last node of a table, or one before it.
pub at_last : (t : List Node) (a : Node) → node_at (t ++ (a ∷ [])) (length t) ≡ a
unfolding node_at
at_last t a = get_or-append_seam t a [] (leaf 0)

pub length_snoc : (t : List Node) (a : Node) → length (t ++ (a ∷ [])) ≡ length t + 1
length_snoc t a = length-append t (a ∷ [])

pub at_snoc {ℓ} : (t : List Node) (a : Node) (P : ℕ → Node → Type ℓ) → ((n : ℕ) → n < length t → P n (node_at t n)) → P (length t) a → (n : ℕ)
    → n < length (t ++ (a ∷ [])) → P n (node_at (t ++ (a ∷ [])) n)
at_snoc t a P below here n h = step (dec_lt n (length t))
  where
    step : Dec (n < length t) → P n (node_at (t ++ (a ∷ [])) n)
    step (yes k) = rw (← at_more t (a ∷ []) n k) (below n k)
    step (no k) = let e : n ≡ length t = omega (arith, length_snoc t a) in rw (e, at_last t a) here

fit_more : (t u : List Node) (n : ℕ) (a : Node) → n ≤ length t → Fit t n a → Fit (t ++ u) n a
unfolding Fit
fit_more t u n (leaf a) h f = tt
fit_more t u n (join m o l r) h f =
    let hl : l.node < length t = omega (arith, f.0) in
    let hr : r.node < length t = omega (arith, f.1) in
    rw (
      ← side_len-more t u l hl,
      ← side_len-more t u r hr,
      ← at_more t u l.node hl,
      ← at_more t u r.node hr,
      ← side_leaves-more t u l hl,
      ← side_leaves-more t u r hr,
      ← below_more t u l.node hl,
      ← below_more t u r.node hr,
    ) f

pub sized_nil : Sized []
unfolding Sized
sized_nil n h = absurd (omega arith)

pub sized_snoc : (t : List Node) (a : Node) → Sized t → Fit t (length t) a → Sized (t ++ (a ∷ []))
unfolding Sized
sized_snoc t a sz f =
    at_snoc t a (λ n b. Fit (t ++ (a ∷ [])) n b) (λ n h. fit_more t (a ∷ []) n (node_at t n) (omega arith) (sz n h))
    (fit_more t (a ∷ []) (length t) a (omega arith) f)

pub numbered_nil : (start : ℕ) → Numbered start []
numbered_nil start = record {
  leaf_low = λ n a h e. absurd (omega arith);
  leaf_once = λ n k a h g p q. absurd (omega arith);
  join_high = λ n m o l r h e. absurd (omega arith);
  join_next = λ n k m o m' o' l r l' r' h g p q. absurd (omega arith);
}

-- A node of the longer table is an old one or the new one.
pub old_or_new : (t : List Node) (a : Node) (n : ℕ) (b : Node) → n < length (t ++ (a ∷ [])) → node_at (t ++ (a ∷ [])) n ≡ b
    → ((n < length t) × (node_at t n ≡ b)) ⊎ ((n ≡ length t) × (a ≡ b))
old_or_new t a n b h e = step (dec_lt n (length t))
  where
    step : Dec (n < length t) → ((n < length t) × (node_at t n ≡ b)) ⊎ ((n ≡ length t) × (a ≡ b))
    step (yes k) = inl (k, at_more t (a ∷ []) n k ∙ e)
    step (no k) = let z : n ≡ length t = omega (arith, length_snoc t a) in inr (z, sym (at_last t a) ∙ (rw z at e))

module _ (start : ℕ) (t : List Node) (law : Numbered start t) where
  pub numbered_leaf : (c : ℕ) → c < 2 * start → ((n : ℕ) → n < length t → node_at t n ≡ leaf c → ⊥) → Numbered start (t ++ (leaf c ∷ []))
  numbered_leaf c low new = record {
    leaf_low = λ n a h e. ⊎_elim (λ i. law.leaf_low n a i.0 i.1) (λ i. let p = i.1 in let q : c ≡ a = cc in omega arith)
        (split n (leaf a) h e);
    leaf_once = λ n k a h g p q. ⊎_elim
        (λ i. ⊎_elim (λ j. law.leaf_once n k a i.0 j.0 i.1 j.1) (λ j. absurd (new n i.0 (i.1 ∙ sym j.1))) (split k (leaf a) g q))
        (λ i. ⊎_elim (λ j. absurd (new k j.0 (j.1 ∙ sym i.1))) (λ j. i.0 ∙ sym j.0) (split k (leaf a) g q)) (split n (leaf a) h p);
    join_high = λ n m o l r h e. ⊎_elim (λ i. law.join_high n m o l r i.0 i.1) (λ i. absurd (leaf_join i.1)) (split n (join m o l r) h e);
    join_next = λ n k m o m' o' l r l' r' h g p q. ⊎_elim
        (λ j. law.join_next n k m o m' o' l r l' r' h j.0
        (⊎_elim (λ i. i.1) (λ i. absurd (leaf_join i.1)) (split n (join m o l r) (omega arith) p)) j.1) (λ j. absurd (leaf_join j.1))
        (split k (join m' o' l' r') g q);
  }
    where
      split : (n : ℕ) (b : Node) → n < length (t ++ (leaf c ∷ [])) → node_at (t ++ (leaf c ∷ [])) n ≡ b
          → ((n < length t) × (node_at t n ≡ b)) ⊎ ((n ≡ length t) × (leaf c ≡ b))
      split n b h e = old_or_new t (leaf c) n b h e

  pub numbered_join : (c : List ℕ) (d : ℕ) (f g : Side) → start ≤ d
      → ((n : ℕ) (m : List ℕ) (o : ℕ) (l r : Side) → n < length t → node_at t n ≡ join m o l r → o + length m ≤ d)
      → Numbered start (t ++ (join c d f g ∷ []))
  numbered_join c d f g high after = record {
    leaf_low = λ n a h e. ⊎_elim (λ i. law.leaf_low n a i.0 i.1) (λ i. absurd (leaf_join (sym i.1))) (split n (leaf a) h e);
    leaf_once = λ n k a h j p q. ⊎_elim
        (λ x. ⊎_elim (λ y. law.leaf_once n k a x.0 y.0 x.1 y.1) (λ y. absurd (leaf_join (sym y.1))) (split k (leaf a) j q))
        (λ x. absurd (leaf_join (sym x.1))) (split n (leaf a) h p);
    join_high = λ n m o l r h e. ⊎_elim (λ i. law.join_high n m o l r i.0 i.1) (λ i. let p = i.1 in let q : d ≡ o = cc in omega arith)
        (split n (join m o l r) h e);
    join_next = λ n k m o m' o' l r l' r' h j p q.
        ⊎_elim
        (λ x. ⊎_elim (λ y. law.join_next n k m o m' o' l r l' r' h y.0 x.1 y.1)
        (λ y. let u = y.1 in let z : d ≡ o' = cc in omega (arith, after n m o l r x.0 x.1)) (split k (join m' o' l' r') j q))
        (λ x. absurd (omega (arith, x.0, length_snoc t (join c d f g))))
        (split n (join m o l r) (omega arith) p);
  }
    where
      split : (n : ℕ) (b : Node) → n < length (t ++ (join c d f g ∷ [])) → node_at (t ++ (join c d f g ∷ [])) n ≡ b
          → ((n < length t) × (node_at t n ≡ b)) ⊎ ((n ≡ length t) × (join c d f g ≡ b))
      split n b h e = old_or_new t (join c d f g) n b h e

-- A request that was right stays right.
pub right_more : (t u : List Node) (x : Request) → Right t x → Right (t ++ u) x
unfolding Right
right_more t u (request n v d) h = (omega (arith, h.0, length-append t u), h.1, rw (← at_more t u n h.0) h.2)

-- A side that begins inside its node has a literal.
pub side_some : (t : List Node) (s : Side) → s.offset < len (node_at t s.node) → 1 ≤ side_len t s
unfolding side_len
side_some t s h = by s.limit
  where
    by : (k : ℕ) → 1 ≤ limited k (len (node_at t s.node) - s.offset)
    by zero = unfold limited in omega arith
    by (suc k) = unfold limited in omega arith

-- A test of a table, with one node more.
pub any_snoc : (f : Node → Bool) (t : List Node) (a : Node) → any f (t ++ (a ∷ [])) ≡ (any f t || f a)
unfolding any
any_snoc f t a = or_push (any f) f refl (λ x xs. refl) t a
