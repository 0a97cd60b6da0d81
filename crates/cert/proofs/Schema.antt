-- The clauses that a request writes are those of the totalizer of Bailleux and Boufkhad, in the same order.
use mathlib.Core.Path.{◌≡◌, refl, sym, ◌∙◌, ap}
use mathlib.Core.Logic.{◌≢◌, dite, ite}
use mathlib.Core.List.{List, [], ◌∷◌, ◌++◌, map, flat_map, append_assoc, append-nil, map-append, Memᴰ}
use Prim.Native.Nat.{ℕ, zero, suc, ◌+◌, ◌-◌, min, ◌≤◌, ◌<◌}
use native.Mathlib.Decide.{dec_le, ℕ_discrete}
use native.Mathlib.Omega.{arith}
use Rattle.pb.specs.Sum.{neg}
use Rattle.memo.proofs.Lists.{map_twice, map_agree, flat_map_append, flat_map_map}
use Rattle.totdb.specs.Nodes.{Node, leaf, join, node_at, leaves, len, output, range, side_len, side_lit}
use Rattle.totdb.specs.declared.Side.{Side}
use Rattle.cert.specs.Definitions.{Direction, if, only_if}
use Rattle.cert.specs.Requests.{request, splits, Clause, neg_part, pos_part, if_clause, only_if_clause, clauses_at, clauses_of, literals_of}
use Rattle.cert.specs.Totalizer.{Name, L, R, out, Literal, plain, negated, Extended, never, lit, literal_at, opposite, complement, simplify, C1, C2, pairs, schema, number_of, literal_of, totalizer_at, totalizer}
use Rattle.cert.proofs.Apart.{splits_mem}
use Rattle.cert.proofs.SchemaCases.{three}
use Rattle.cert.proofs.WindowDerivations.{range_append}

-- ---- the α and β with α + β = σ

module _ {B : Type 0} where
  flat_map_none : (f : ℕ → List B) (s n : ℕ) → ((i : ℕ) → s ≤ i → i < s + n → f i ≡ []) → flat_map f (range s n) ≡ []
  unfolding flat_map range
  flat_map_none f s zero h = refl
  flat_map_none f s (suc n) h = rw (h s (omega arith) (omega arith)) (flat_map_none f (suc s) n (λ i l k. h i (omega arith) (omega arith)))

  -- Where f gives nothing below k and from k + m on, the m numbers from k are enough.
  flat_map_within : (f : ℕ → List B) (n k m : ℕ) → k + m ≤ n → ((i : ℕ) → i < k → f i ≡ []) → ((i : ℕ) → k + m ≤ i → i < n → f i ≡ [])
      → flat_map f (range 0 n) ≡ flat_map f (range k m)
  flat_map_within f n k m h low high =
      let e : n ≡ k + (m + (n - (k + m))) = omega arith in
      let z : 0 + k ≡ k = omega arith in
      rw (e, range_append 0 k (m + (n - (k + m))), z, range_append k m (n - (k + m)), flat_map_append f (range 0 k), flat_map_append f (range k m))
      (rw (flat_map_none f 0 k (λ i l g. low i (omega arith)), flat_map_none f (k + m) (n - (k + m)) (λ i l g. high i l (omega arith)))
      (append-nil (flat_map f (range k m))))

  flat_map_ones : (f : ℕ → List B) (g : ℕ → B) (l : List ℕ) → ((a : ℕ) → Memᴰ a l → f a ≡ g a ∷ []) → flat_map f l ≡ map g l
  unfolding flat_map
  flat_map_ones f g [] h = refl
  flat_map_ones f g (x ∷ l) h = rw (h x (Memᴰ.head refl), flat_map_ones f g l (λ a m. h a (Memᴰ.tail m)))

module _ (p q σ : ℕ) where
  cell : ℕ → ℕ → List (ℕ × ℕ)
  cell α β = ite (ℕ_discrete (α + β) σ) ((α, β) ∷ []) []

  adds : (α β : ℕ) → α + β ≡ σ → cell α β ≡ (α, β) ∷ []
  unfolding cell
  adds α β e = by (ℕ_discrete (α + β) σ)
    where
      by : (d : Dec (α + β ≡ σ)) → ite {C = List (ℕ × ℕ)} d ((α, β) ∷ []) [] ≡ (α, β) ∷ []
      by (yes _) = refl
      by (no n) = absurd (n e)

  misses : (α β : ℕ) → α + β ≢ σ → cell α β ≡ []
  unfolding cell
  misses α β n = by (ℕ_discrete (α + β) σ)
    where
      by : (d : Dec (α + β ≡ σ)) → ite {C = List (ℕ × ℕ)} d ((α, β) ∷ []) [] ≡ []
      by (yes e) = absurd (n e)
      by (no _) = refl

  -- all β of one α
  row : ℕ → List (ℕ × ℕ)
  row α = flat_map (cell α) (range 0 (suc q))

  row_in : (α : ℕ) → α ≤ σ → σ ≤ α + q → row α ≡ (α, σ - α) ∷ []
  unfolding row flat_map range
  row_in α h k =
      flat_map_within (cell α) (suc q) (σ - α) 1 (omega arith) (λ i l. misses α i (λ z. omega arith)) (λ i l u. misses α i (λ z. omega arith))
      ∙ append-nil (cell α (σ - α)) ∙ adds α (σ - α) (omega arith)

  row_out : (α : ℕ) → (α ≤ σ → σ ≤ α + q → ⊥) → row α ≡ []
  unfolding row
  row_out α n = flat_map_none (cell α) 0 (suc q) (λ i l h. misses α i (λ z. n (omega arith) (omega arith)))

  -- The α that have their β are those of `splits`, in order.
  pub pairs_splits : pairs p q σ ≡ map {B = ℕ × ℕ} (λ (α : ℕ). (α, σ - α)) (splits σ p q)
  unfolding pairs row cell splits flat_map range
  pairs_splits =
      by (dec_le σ (p + q))
      ∙ flat_map_ones row (λ (α : ℕ). (α, σ - α)) (splits σ p q) (λ α m. let s = splits_mem σ p q α m in row_in α s.0 s.2)
    where
      by : Dec (σ ≤ p + q) → flat_map row (range 0 (suc p)) ≡ flat_map row (splits σ p q)
      by (yes h) =
          flat_map_within row (suc p) (σ - q) (suc (min σ p) - (σ - q)) (omega arith) (λ i l. row_out i (λ u w. omega arith))
          (λ i l k. row_out i (λ u w. omega arith))
      by (no h) =
          let e : suc (min σ p) - (σ - q) ≡ 0 = omega arith in
          flat_map_none row 0 (suc p) (λ i l k. row_out i (λ u w. omega arith))
          ∙ ap {B = List (ℕ × ℕ)} (λ (m : ℕ). flat_map row (range (σ - q) m)) (sym e)

  -- What is gathered over all of them.
  pub over_pairs : {B : Type 0} (f : ℕ × ℕ → List B) → flat_map f (pairs p q σ) ≡ flat_map (λ (α : ℕ). f (α, σ - α)) (splits σ p q)
  over_pairs f = ap (flat_map f) pairs_splits ∙ flat_map_map (λ (α : ℕ). (α, σ - α)) f (splits σ p q)

-- ---- a clause by its names

-- A part with index 0 is absent.
unfoldable pub neg_names : (ℕ → Name) → ℕ → List Literal
neg_names x zero = []
neg_names x (suc i) = negated (x (suc i)) ∷ []

-- A part above the length is absent.
unfoldable pub pos_names : (ℕ → Name) → ℕ → ℕ → List Literal
pos_names x n i = dite (dec_le i n) (λ _. plain (x i) ∷ []) (λ _. [])

module _ (x : ℕ → Name) (n : ℕ) (xs : List Extended) (c : List Literal) (rest : simplify xs ≡ c ∷ []) where
  neg_part_lem : (i : ℕ) → i ≤ n → simplify (complement (literal_at x n i) ∷ xs) ≡ (neg_names x i ++ c) ∷ []
  unfolding literal_at opposite complement simplify neg_names
  neg_part_lem zero h = rest
  neg_part_lem (suc i) h = by (dec_le (suc i) n)
    where
      by : (d : Dec (suc i ≤ n))
          → simplify (complement (dite d (λ _. lit (plain (x (suc i)))) (λ _. never)) ∷ xs) ≡ (negated (x (suc i)) ∷ c) ∷ []
      by (yes k) = rw rest
      by (no k) = absurd (k h)

  pos_part_lem : (i : ℕ) → simplify (literal_at x n (suc i) ∷ xs) ≡ (pos_names x n (suc i) ++ c) ∷ []
  unfolding literal_at simplify pos_names
  pos_part_lem i = by (dec_le (suc i) n)
    where
      by : (d : Dec (suc i ≤ n))
          → simplify (dite d (λ _. lit (plain (x (suc i)))) (λ _. never) ∷ xs) ≡
          (dite {C = List Literal} d (λ _. plain (x (suc i)) ∷ []) (λ _. []) ++ c) ∷ []
      by (yes k) = rw rest
      by (no k) = rest

place_in : (x : ℕ → Name) (n v : ℕ) → 1 ≤ v → v ≤ n → literal_at x n v ≡ lit (plain (x v))
unfolding literal_at
place_in x n zero h k = absurd (omega arith)
place_in x n (suc v) h k = by (dec_le (suc v) n)
  where
    by : (d : Dec (suc v ≤ n)) → dite d (λ _. lit (plain (x (suc v)))) (λ _. never) ≡ lit (plain (x (suc v)))
    by (yes _) = refl
    by (no n) = absurd (n k)

-- ¬L_α, ¬R_β, o_v, and L_(α+1), R_(β+1), ¬o_v.
unfoldable pub if_names : ℕ → ℕ → ℕ → List Literal
unfolding neg_names
if_names α β v = neg_names L α ++ (neg_names R β ++ (plain (out v) ∷ []))

unfoldable pub only_if_names : ℕ → ℕ → ℕ → ℕ → ℕ → List Literal
unfolding pos_names
only_if_names p q α β v = pos_names L p (suc α) ++ (pos_names R q (suc β) ++ (negated (out v) ∷ []))

module _ (p q m : ℕ) where
  C1-is : (v α β : ℕ) → 1 ≤ v → v ≤ m → α ≤ p → β ≤ q → simplify (C1 p q m α β v) ≡ if_names α β v ∷ []
  unfolding C1 simplify if_names
  C1-is v α β low high h k =
      let e : simplify (literal_at out m v ∷ []) ≡ (plain (out v) ∷ []) ∷ [] = rw (place_in out m v low high) in
      let f = neg_part_lem R q (literal_at out m v ∷ []) (plain (out v) ∷ []) e β k in
      neg_part_lem L p (complement (literal_at R q β) ∷ literal_at out m v ∷ []) (neg_names R β ++ (plain (out v) ∷ [])) f α h

  C2-is : (σ α β : ℕ) → suc σ ≤ m → simplify (C2 p q m α β σ) ≡ only_if_names p q α β (suc σ) ∷ []
  unfolding C2 complement opposite simplify only_if_names
  C2-is σ α β high =
      let e : simplify (complement (literal_at out m (suc σ)) ∷ []) ≡ (negated (out (suc σ)) ∷ []) ∷ [] = rw (place_in out m (suc σ) (omega arith) high) in
      let f = pos_part_lem R q (complement (literal_at out m (suc σ)) ∷ []) (negated (out (suc σ)) ∷ []) e β in
      pos_part_lem L p (literal_at R q (suc β) ∷ complement (literal_at out m (suc σ)) ∷ []) (pos_names R q (suc β) ++ (negated (out (suc σ)) ∷ [])) f α

  -- The schema's clauses, one for each α of `splits`.
  pub schema_if : (v : ℕ) → 1 ≤ v → v ≤ m → schema p q m if v ≡ map {B = List Literal} (λ (α : ℕ). if_names α (v - α) v) (splits v p q)
  unfolding schema
  schema_if v low high =
      over_pairs p q v (λ (x : ℕ × ℕ). simplify (C1 p q m x.0 x.1 v))
      ∙ flat_map_ones _ (λ (α : ℕ). if_names α (v - α) v) (splits v p q)
      (λ α h. let s = splits_mem v p q α h in C1-is v α (v - α) low high s.1 (omega arith))

  pub schema_only_if : (σ : ℕ) → suc σ ≤ m
      → schema p q m only_if (suc σ) ≡ map {B = List Literal} (λ (α : ℕ). only_if_names p q α (σ - α) (suc σ)) (splits σ p q)
  unfolding schema
  schema_only_if σ high =
      over_pairs p q σ (λ (x : ℕ × ℕ). simplify (C2 p q m x.0 x.1 σ))
      ∙ flat_map_ones _ (λ (α : ℕ). only_if_names p q α (σ - α) (suc σ)) (splits σ p q) (λ α h. C2-is σ α (σ - α) high)

-- ---- a clause as it is written

module _ (t : List Node) (x : Node) (l r : Side) where
  -- A side, whose outputs have the names n.
  module _ (n : ℕ → Name) (s : Side) (is : (i : ℕ) → number_of t x l r (n i) ≡ side_lit t s i) where
    neg_side : (i : ℕ) → map (literal_of t x l r) (neg_names n i) ≡ neg_part t s i
    unfolding literal_of neg_names neg_part
    neg_side zero = refl
    neg_side (suc i) = rw (is (suc i))

    pos_side : (i : ℕ) → map (literal_of t x l r) (pos_names n (side_len t s) i) ≡ pos_part t s i
    unfolding literal_of pos_names pos_part
    pos_side i = by (dec_le i (side_len t s))
      where
        by : (d : Dec (i ≤ side_len t s))
            → map (literal_of t x l r) (dite {C = List Literal} d (λ _. plain (n i) ∷ []) (λ _. [])) ≡ dite d (λ _. side_lit t s i ∷ []) (λ _. [])
        by (yes _) = rw (is i)
        by (no _) = refl

  left_is : (i : ℕ) → number_of t x l r (L i) ≡ side_lit t l i
  unfolding number_of
  left_is i = refl

  right_is : (i : ℕ) → number_of t x l r (R i) ≡ side_lit t r i
  unfolding number_of
  right_is i = refl

  if_numbers : (α β v : ℕ) → map (literal_of t x l r) (if_names α β v) ≡ neg_part t l α ++ neg_part t r β ++ (output x v ∷ [])
  unfolding if_names literal_of number_of
  if_numbers α β v =
      rw (map-append (literal_of t x l r) (neg_names L α), map-append (literal_of t x l r) (neg_names R β), neg_side L l left_is α, neg_side R r right_is β)
      (sym (append_assoc (neg_part t l α) (neg_part t r β) (output x v ∷ [])))

  only_if_numbers : (α β v : ℕ) → map (literal_of t x l r) (only_if_names (side_len t l) (side_len t r) α β v) ≡
      pos_part t l (suc α) ++ pos_part t r (suc β) ++ (neg (output x v) ∷ [])
  unfolding only_if_names literal_of number_of
  only_if_numbers α β v =
      rw (
        map-append (literal_of t x l r) (pos_names L (side_len t l) (suc α)),
        map-append (literal_of t x l r) (pos_names R (side_len t r) (suc β)),
        pos_side L l left_is (suc α),
        pos_side R r right_is (suc β),
      )
      (sym (append_assoc (pos_part t l (suc α)) (pos_part t r (suc β)) (neg (output x v) ∷ [])))

-- What a request of value 1 to the length writes is exactly the totalizer's clauses.
pub clauses_schema : (t : List Node) (n v : ℕ) (d : Direction) → 1 ≤ v → v ≤ len (node_at t n) → literals_of t (request n v d) ≡ totalizer t (request n v d)
unfolding literals_of clauses_of clauses_at if_clause only_if_clause totalizer totalizer_at
clauses_schema t n v d low high = go (node_at t n) d v low high
  where
    go : (x : Node) (d : Direction) (v : ℕ) → 1 ≤ v → v ≤ len x
        → map {B = List ℕ} (λ (c : Clause). c.literals) (clauses_at t n x v d) ≡ totalizer_at t x d v
    go (leaf a) d v h k = refl
    go (join ls o l r) if v h k =
        let x = join ls o l r in
        let p = side_len t l in
        let q = side_len t r in
        map_twice (if_clause t n x l r v) (λ (c : Clause). c.literals) (splits v p q)
        ∙ sym (ap (map (map (literal_of t x l r))) (schema_if p q (len x) v h k)
        ∙ map_twice (λ (α : ℕ). if_names α (v - α) v) (map (literal_of t x l r)) (splits v p q)
        ∙ map_agree (splits v p q) (λ α m. if_numbers t x l r α (v - α) v))
    go (join ls o l r) only_if zero h k = absurd (omega arith)
    go (join ls o l r) only_if (suc σ) h k =
        let x = join ls o l r in
        let p = side_len t l in
        let q = side_len t r in
        let e : suc σ - 1 ≡ σ = omega arith in
        map_twice (only_if_clause t n x l r (suc σ)) (λ (c : Clause). c.literals) (splits (suc σ - 1) p q)
        ∙ rw e (sym (ap (map (map (literal_of t x l r))) (schema_only_if p q (len x) σ k)
        ∙ map_twice (λ (α : ℕ). only_if_names p q α (σ - α) (suc σ)) (map (literal_of t x l r)) (splits σ p q)
        ∙ map_agree (splits σ p q) (λ α m. only_if_numbers t x l r α (σ - α) (suc σ))))

-- a request that meets the hypotheses
pub met_schema : literals_of three (request 4 2 only_if) ≡ totalizer three (request 4 2 only_if)
unfolding three node_at leaves len
met_schema = clauses_schema three 4 2 only_if (omega arith) (omega arith)

-- ---- the clauses left out by the values 1 to m, of r_0 and r_(m+1), are true

place_above : (x : ℕ → Name) (n : ℕ) → literal_at x n (suc n) ≡ never
unfolding literal_at
place_above x n = by (dec_le (suc n) n)
  where
    by : (d : Dec (suc n ≤ n)) → dite d (λ _. lit (plain (x (suc n)))) (λ _. never) ≡ never
    by (yes h) = absurd (omega arith)
    by (no _) = refl

module _ (p q m : ℕ) where
  pub C1-first : simplify (C1 p q m 0 0 0) ≡ []
  unfolding C1 literal_at complement simplify
  C1-first = refl

  pub C2-last : simplify (C2 p q m p q m) ≡ []
  unfolding C2 complement simplify
  C2-last = rw (place_above L p, place_above R q, place_above out m)
