-- What a request depends on, read off the totalizer's clauses, is what the player takes it to need.
use mathlib.Core.Path.{◌≡◌, refl, ◌∙◌, ap, subst}
use mathlib.Core.Logic.{dite, ⊎_elim}
use mathlib.Core.List.Memᴰ
use mathlib.Core.List.{List, [], ◌∷◌, ◌++◌, flat_map, append-nil, Memᴰ}
use Prim.Native.Nat.{ℕ, zero, suc, ◌+◌, ◌-◌, ◌≤◌}
use native.Mathlib.Decide.{dec_le}
use native.Mathlib.Omega.{arith}
use Rattle.memo.specs.Closure.{SameMembers}
use Rattle.memo.proofs.Lists.{flat_map_append, flat_map_map, flat_map_agree, mem_flat_map, of_flat_map}
use Rattle.totdb.specs.Nodes.{Node, leaf, join, node_at, leaves, len, side_len}
use Rattle.totdb.specs.declared.Side.{Side}
use Rattle.cert.specs.Definitions.{Direction, if, only_if}
use Rattle.cert.specs.Requests.{Request, request, splits, positive, within, named, below, needs_at, needs, Right}
use Rattle.cert.specs.Totalizer.{Name, L, R, out, Literal, plain, name_of, dependency, dependencies_at, dependencies}
use Rattle.cert.proofs.Apart.{splits_mem, splits_has, positive_mem, positive_has, within_mem, within_has, named_mem, named_has}
use Rattle.cert.proofs.Schema.{neg_names, pos_names, if_names, only_if_names, schema_if, schema_only_if}
use Rattle.cert.proofs.SchemaCases.{three}

-- ---- the requests of a clause, by its indices

module _ (l r : Side) (d : Direction) where
  called : List Literal → List Request
  called c = flat_map (λ (x : Literal). dependency l r d (name_of x)) c

  -- x is L or R, and s its side
  module _ (x : ℕ → Name) (s : Side) (of_side : (i : ℕ) → dependency l r d (x i) ≡ request s.node (s.offset + i) d ∷ []) where
    called_neg : (i : ℕ) → called (neg_names x i) ≡ below d s (positive (i ∷ []))
    unfolding called neg_names name_of below positive flat_map
    called_neg zero = refl
    called_neg (suc i) = rw (of_side (suc i))

    called_pos : (n i : ℕ) → called (pos_names x n i) ≡ below d s (within n (i ∷ []))
    unfolding called pos_names name_of below within flat_map
    called_pos n i = by (dec_le i n)
      where
        by : (c : Dec (i ≤ n)) → called (dite {C = List Literal} c (λ _. plain (x i) ∷ []) (λ _. [])) ≡
            below d s (dite {C = List ℕ} c (λ _. i ∷ []) (λ _. []))
        by (yes _) = rw (of_side i)
        by (no _) = refl

  left_is : (i : ℕ) → dependency l r d (L i) ≡ request l.node (l.offset + i) d ∷ []
  unfolding dependency
  left_is i = ap {B = List Request} (λ (v : ℕ). request l.node v d ∷ []) (omega arith)

  right_is : (i : ℕ) → dependency l r d (R i) ≡ request r.node (r.offset + i) d ∷ []
  unfolding dependency
  right_is i = ap {B = List Request} (λ (v : ℕ). request r.node v d ∷ []) (omega arith)

  called_append : (a b : List Literal) → called (a ++ b) ≡ called a ++ called b
  unfolding called
  called_append a b = flat_map_append (λ (x : Literal). dependency l r d (name_of x)) a b

  called_if : (α β v : ℕ) → called (if_names α β v) ≡ below d l (positive (α ∷ [])) ++ below d r (positive (β ∷ []))
  unfolding if_names
  called_if α β v =
      called_append (neg_names L α) (neg_names R β ++ (plain (out v) ∷ []))
      ∙ rw (called_append (neg_names R β) (plain (out v) ∷ []), called_neg L l left_is α, called_neg R r right_is β)
      (unfold called name_of dependency flat_map in rw (append-nil (below d r (positive (β ∷ [])))))

  called_only_if : (p q α β v : ℕ) → called (only_if_names p q α β v) ≡ below d l (within p (suc α ∷ [])) ++ below d r (within q (suc β ∷ []))
  unfolding only_if_names
  called_only_if p q α β v =
      called_append (pos_names L p (suc α)) (pos_names R q (suc β) ++ _)
      ∙ rw (called_append (pos_names R q (suc β)), called_pos L l left_is p (suc α), called_pos R r right_is q (suc β))
      (unfold called name_of dependency flat_map in rw (append-nil (below d r (within q (suc β ∷ [])))))

-- ---- gathered over all α: f and g give the indices named at α of the left and the right side, xs and ys are all of these

module _ (d : Direction) (l r : Side) (f g : ℕ → List ℕ) (S xs ys : List ℕ) where
  gathered : ((α i : ℕ) → Memᴰ α S → Memᴰ i (f α) → Memᴰ i xs) → ((α i : ℕ) → Memᴰ α S → Memᴰ i (g α) → Memᴰ i ys)
      → ((i : ℕ) → Memᴰ i xs → (α : ℕ) × Memᴰ α S × Memᴰ i (f α))
      → ((i : ℕ) → Memᴰ i ys → (α : ℕ) × Memᴰ α S × Memᴰ i (g α))
      → SameMembers (flat_map (λ (α : ℕ). below d l (f α) ++ below d r (g α)) S) (below d l xs ++ below d r ys)
  unfolding below
  gathered left right left-has right-has y = (into, out_of)
    where
      of_left : ℕ → Request
      of_left i = request l.node (l.offset + i) d

      of_right : ℕ → Request
      of_right i = request r.node (r.offset + i) d

      into : Memᴰ y (flat_map (λ (α : ℕ). below d l (f α) ++ below d r (g α)) S) → Memᴰ y (below d l xs ++ below d r ys)
      into m =
          let i = of_flat_map (λ (α : ℕ). below d l (f α) ++ below d r (g α)) S m in
          ⊎_elim
          (λ h. let j = Memᴰ.of_map of_left (f i.0) h in
          Memᴰ.append_left (below d r ys) (subst (λ (z : Request). Memᴰ z (below d l xs)) j.2 (Memᴰ.map of_left (left i.0 j.0 i.1 j.1))))
          (λ h. let j = Memᴰ.of_map of_right (g i.0) h in
          Memᴰ.append_right (below d l xs)
          (subst (λ (z : Request). Memᴰ z (below d r ys)) j.2 (Memᴰ.map of_right (right i.0 j.0 i.1 j.1))))
          (Memᴰ.append_cases (below d l (f i.0)) i.2)

      out_of : Memᴰ y (below d l xs ++ below d r ys) → Memᴰ y (flat_map (λ (α : ℕ). below d l (f α) ++ below d r (g α)) S)
      out_of m =
          ⊎_elim
          (λ h. let j = Memᴰ.of_map of_left xs h in
          let i = left-has j.0 j.1 in
          mem_flat_map (λ (α : ℕ). below d l (f α) ++ below d r (g α)) i.1
          (Memᴰ.append_left (below d r (g i.0)) (subst (λ (z : Request). Memᴰ z (below d l (f i.0))) j.2 (Memᴰ.map of_left i.2))))
          (λ h. let j = Memᴰ.of_map of_right ys h in
          let i = right-has j.0 j.1 in
          mem_flat_map (λ (α : ℕ). below d l (f α) ++ below d r (g α)) i.1
          (Memᴰ.append_right (below d l (f i.0)) (subst (λ (z : Request). Memᴰ z (below d r (g i.0))) j.2 (Memᴰ.map of_right i.2))))
          (Memᴰ.append_cases (below d l xs) m)

one_positive : (a i : ℕ) → Memᴰ i (positive (a ∷ [])) → (1 ≤ i) × (i ≡ a)
one_positive a i m = let k = positive_mem (a ∷ []) i m in (k.0, Memᴰ.eq_of_singleton k.1)

positive_one : (a i : ℕ) → 1 ≤ i → i ≡ a → Memᴰ i (positive (a ∷ []))
positive_one a i h e = positive_has (a ∷ []) i h (Memᴰ.head e)

one_within : (n a i : ℕ) → Memᴰ i (within n (a ∷ [])) → (i ≤ n) × (i ≡ a)
one_within n a i m = let k = within_mem n (a ∷ []) i m in (k.0, Memᴰ.eq_of_singleton k.1)

within_one : (n a i : ℕ) → i ≤ n → i ≡ a → Memᴰ i (within n (a ∷ []))
within_one n a i h e = within_has n (a ∷ []) i h (Memᴰ.head e)

module _ (t : List Node) (ls : List ℕ) (o : ℕ) (l r : Side) where
  p : ℕ
  p = side_len t l

  q : ℕ
  q = side_len t r

  if_same : (v : ℕ) → 1 ≤ v → v ≤ len (join ls o l r) → SameMembers (dependencies_at t (join ls o l r) if v) (needs_at t (join ls o l r) v if)
  unfolding dependencies_at needs_at p q called
  if_same v h k =
      rw (ap (flat_map (called l r if)) (schema_if p q (len (join ls o l r)) v h k)
      ∙ flat_map_map (λ (α : ℕ). if_names α (v - α) v) (called l r if) (splits v p q)
      ∙ flat_map_agree (splits v p q) (λ α m. called_if l r if α (v - α) v))
      (gathered if l r (λ (α : ℕ). positive (α ∷ [])) (λ (α : ℕ). positive ((v - α) ∷ [])) (splits v p q) (named if v p q) (named if v q p)
      (λ α i a b. let s = splits_mem v p q α a in let e = one_positive α i b in
      named_has if v p q i e.0 (omega arith) (omega arith) (omega arith))
      (λ α i a b. let s = splits_mem v p q α a in let e = one_positive (v - α) i b in
      named_has if v q p i e.0 (omega arith) (omega arith) (omega arith))
      (λ i b. let e = named_mem if v p q i h b in
      (i, splits_has v p q i e.2 e.1 e.3, positive_one i i e.0 refl))
      (λ i b. let e = named_mem if v q p i h b in
      (v - i, splits_has v p q (v - i) (omega arith) (omega arith) (omega arith), positive_one (v - (v - i)) i e.0 (omega arith))))

  only_if_same : (σ : ℕ) → suc σ ≤ len (join ls o l r)
      → SameMembers (dependencies_at t (join ls o l r) only_if (suc σ)) (needs_at t (join ls o l r) (suc σ) only_if)
  unfolding dependencies_at needs_at p q called
  only_if_same σ k =
      rw (ap (flat_map (called l r only_if)) (schema_only_if p q (len (join ls o l r)) σ k)
      ∙ flat_map_map (λ (α : ℕ). only_if_names p q α (σ - α) (suc σ)) (called l r only_if) (splits σ p q)
      ∙ flat_map_agree (splits σ p q) (λ α m. called_only_if l r only_if p q α (σ - α) (suc σ)))
      (gathered only_if l r (λ (α : ℕ). within p (suc α ∷ [])) (λ (α : ℕ). within q (suc (σ - α) ∷ [])) (splits σ p q) (named only_if (suc σ) p q)
      (named only_if (suc σ) q p)
      (λ α i a b. let s = splits_mem σ p q α a in let e = one_within p (suc α) i b in
      named_has only_if (suc σ) p q i (omega arith) e.0 (omega arith) (omega arith))
      (λ α i a b. let s = splits_mem σ p q α a in let e = one_within q (suc (σ - α)) i b in
      named_has only_if (suc σ) q p i (omega arith) e.0 (omega arith) (omega arith))
      (λ i b. let e = named_mem only_if (suc σ) p q i (omega arith) b in
      (i - 1, splits_has σ p q (i - 1) (omega arith) (omega arith) (omega arith), within_one p (suc (i - 1)) i e.1 (omega arith)))
      (λ i b. let e = named_mem only_if (suc σ) q p i (omega arith) b in
      (suc σ - i, splits_has σ p q (suc σ - i) (omega arith) (omega arith) (omega arith), within_one q (suc (σ - (suc σ - i))) i e.1 (omega arith))))

pub dependencies_needs : (t : List Node) (x : Request) → Right t x → SameMembers (dependencies t x) (needs t x)
unfolding dependencies dependencies_at needs needs_at Right
dependencies_needs t (request n v d) h = go (node_at t n) d v h.1 h.2
  where
    go : (a : Node) (d : Direction) (v : ℕ) → 1 ≤ v → v ≤ len a → SameMembers (dependencies_at t a d v) (needs_at t a v d)
    go (leaf a) d v low high = λ y. (λ m. m, λ m. m)
    go (join ls o l r) if v low high = if_same t ls o l r v low high
    go (join ls o l r) only_if zero low high = absurd (omega arith)
    go (join ls o l r) only_if (suc σ) low high = only_if_same t ls o l r σ high

-- a request that meets the hypothesis
pub met_dependencies : SameMembers (dependencies three (request 4 2 only_if)) (needs three (request 4 2 only_if))
unfolding three node_at leaves len Right
met_dependencies = dependencies_needs three (request 4 2 only_if) (omega arith, omega arith, omega arith)
