-- Items that need other items of lower rank, served in order and each once: needs first, then the item itself.
-- What is served is the closure of the requests, without duplicates, whatever the order of the requests and however often one is repeated.
use mathlib.Core.Path.{◌≡◌, refl, sym, ap, subst}
use mathlib.Core.HLevel.{⊥_prop}
use mathlib.Core.Logic.{◌⊎◌, inl, inr, ⊎_elim, dite, ∥∥₁_elim}
use mathlib.Core.List.Memᴰ
use mathlib.Core.List.{List, [], ◌∷◌, ◌++◌, flat_map, append-nil, Memᴰ, Perm, Nodup, Nodup-nil, Nodup-cons, Nodup-append}
use Prim.Native.Nat.{ℕ, zero, suc, ◌≤◌, ◌<◌}
use native.Mathlib.Omega.{arith}
use Rattle.memo.specs.Closure.{From, Reach, reach_here, reach_down, SameMembers}
use Rattle.memo.specs.Visit.{each, dec_memᴰ}
use Rattle.memo.proofs.Lists.{perm_of_same, of_flat_map, mem_flat_map, not_mem}

module _ {Item : Type 0} (needs : Item → List Item) where
  abbrev pub Closed : List Item → Type 0
  Closed v = (a b : Item) → Memᴰ a v → Memᴰ b (needs a) → Memᴰ b v

  -- `w` is what is served after the requests `xs`, where `v` was served before.
  pub record Serves (xs v w : List Item) : Type 0 where
    pub keeps : (b : Item) → Memᴰ b v → Memᴰ b w
    pub only : (b : Item) → Memᴰ b w → Memᴰ b v ⊎ From needs xs b
    pub has : (b : Item) → Memᴰ b xs → Memᴰ b w
    pub closes : Closed v → Closed w
    pub once : Nodup v → Nodup w

  -- The laws of a rank: among the good items needs are good and of lower rank.
  pub record Falls (Good : Item → Type 0) (rank : Item → ℕ) : Type 0 where
    pub good : (a b : Item) → Good a → Memᴰ b (needs a) → Good b
    pub lower : (a b : Item) → Good a → Memᴰ b (needs a) → rank b < rank a

module _ {Item : Type 0} {needs : Item → List Item} where
  pub closed_reach : {v : List Item} → Closed needs v → {a b : Item} → Memᴰ a v → Reach needs a b → Memᴰ b v
  closed_reach c m (reach_here e) = Memᴰ.cast (sym e) m
  closed_reach c {a} m (reach_down {c = k} h r) = closed_reach c (c a k m h) r

  pub serves_nil : {v : List Item} → Serves needs [] v v
  serves_nil = record {
    keeps = λ b m. m;
    only = λ b m. inl m;
    has = λ b m. absurd (Memᴰ.not-nil m);
    closes = λ c. c;
    once = λ d. d;
  }

  pub serves_then : {xs ys u v w : List Item} → Serves needs xs u v → Serves needs ys v w → Serves needs (xs ++ ys) u w
  serves_then {xs} {ys} {u} {v} {w} p q = record {
    keeps = λ b m. q.keeps b (p.keeps b m);
    only = λ b m. ⊎_elim (λ h. ⊎_elim inl (λ f. inr (f.0, Memᴰ.append_left ys f.1, f.2)) (p.only b h))
        (λ f. inr (f.0, Memᴰ.append_right xs f.1, f.2)) (q.only b m);
    has = λ b m. ⊎_elim (λ h. q.keeps b (p.has b h)) (q.has b) (Memᴰ.append_cases xs m);
    closes = λ c. q.closes (p.closes c);
    once = λ d. q.once (p.once d);
  }

  -- An item already served is skipped.
  pub serves_held : {x : Item} {ys v w : List Item} → Memᴰ x v → Serves needs ys v w → Serves needs (x ∷ ys) v w
  serves_held {x} h p = record {
    keeps = p.keeps;
    only = λ b m. ⊎_elim inl (λ f. inr (f.0, Memᴰ.tail f.1, f.2)) (p.only b m);
    has = λ b m. ⊎_elim (λ e. Memᴰ.cast e (p.keeps x h)) (p.has b) (Memᴰ.cases_cons m);
    closes = p.closes;
    once = p.once;
  }

  -- Some of the requests were served before: the others are enough.
  pub serves_rest : {xs ys v w : List Item} → ((x : Item) → Memᴰ x xs → Memᴰ x v ⊎ Memᴰ x ys)
      → ((x : Item) → Memᴰ x ys → Memᴰ x xs) → Serves needs ys v w → Serves needs xs v w
  serves_rest or sub p = record {
    keeps = p.keeps;
    only = λ b m. ⊎_elim inl (λ f. inr (f.0, sub f.0 f.1, f.2)) (p.only b m);
    has = λ b m. ⊎_elim (p.keeps b) (p.has b) (or b m);
    closes = p.closes;
    once = p.once;
  }

  -- From nothing served: the members are the closure, and there are no duplicates.
  pub served_from : {xs w : List Item} → Serves needs xs [] w → (b : Item) → Memᴰ b w → From needs xs b
  served_from p b m = ⊎_elim (λ h. absurd (Memᴰ.not-nil h)) (λ f. f) (p.only b m)

  pub served_has : {xs w : List Item} → Serves needs xs [] w → (b : Item) → From needs xs b → Memᴰ b w
  served_has p b f = closed_reach (p.closes (λ a b m k. absurd (Memᴰ.not-nil m))) (p.has f.0 f.1) f.2

  pub served_once : {xs w : List Item} → Serves needs xs [] w → Nodup w
  served_once p = p.once Nodup-nil

  -- Two request lists with the same members: what is served is the same, in some order.
  pub served_same : {xs ys v w : List Item} → SameMembers xs ys → Serves needs xs [] v → Serves needs ys [] w → SameMembers v w
  served_same s p q b = (
    λ m. let f = served_from p b m in served_has q b (f.0, (s f.0).0 f.1, f.2),
    λ m. let f = served_from q b m in served_has p b (f.0, (s f.0).1 f.1, f.2),
  )

  pub served_perm : {xs ys v w : List Item} → SameMembers xs ys → Serves needs xs [] v → Serves needs ys [] w → Perm v w
  served_perm s p q = perm_of_same (served_once p) (served_once q) (served_same s p q)

  module _ {Good : Item → Type 0} {rank : Item → ℕ} (law : Falls needs Good rank) where
    pub reach_rank : {a b : Item} → Good a → Reach needs a b → rank b ≤ rank a
    reach_rank g (reach_here {a} {b} e) = let k : rank a ≡ rank b = ap rank e in omega arith
    reach_rank g (reach_down {a} {b} {c} h r) = omega (arith, reach_rank (law.good a c g h) r, law.lower a c g h)

    -- An item is not among what its needs call for.
    pub still_fresh : {x : Item} {v w : List Item} → Good x → ¬ Memᴰ x v → Serves needs (needs x) v w → ¬ Memᴰ x w
    still_fresh {x} g n p m =
        ⊎_elim n (λ f. omega (arith, law.lower x f.0 g f.1, reach_rank (law.good x f.0 g f.1) f.2)) (p.only x m)

    -- Nor is an item of a batch, all of one rank, among what the needs of the batch call for.
    pub batch_fresh : {xs v w : List Item} (k : ℕ) → ((x : Item) → Memᴰ x xs → Good x) → ((x : Item) → Memᴰ x xs → rank x ≡ k)
        → ((x : Item) → Memᴰ x xs → ¬ Memᴰ x v)
        → Serves needs (flat_map needs xs) v w
        → (a : Item) → Memᴰ a xs → ¬ Memᴰ a w
    batch_fresh {xs} k good at fresh p a h m =
        ⊎_elim (fresh a h) (λ f. let i = of_flat_map needs xs f.1 in
        omega (
          arith,
          at a h,
          at i.0 i.1,
          law.lower i.0 f.0 (good i.0 i.1) i.2,
          reach_rank
              (law.good i.0 f.0 (good i.0 i.1) i.2) f.2,
        )) (p.only a m)

    -- A batch of fresh items of one rank: their needs are served, then the batch is appended.
    pub serves_batch : {xs v w : List Item} (k : ℕ) → Nodup xs → ((x : Item) → Memᴰ x xs → Good x)
        → ((x : Item) → Memᴰ x xs → rank x ≡ k) → ((x : Item) → Memᴰ x xs → ¬ Memᴰ x v)
        → Serves needs (flat_map needs xs) v w
        → Serves needs xs v (w ++ xs)
    serves_batch {xs} {v} {w} k d good at fresh p = record {
      keeps = λ b m. Memᴰ.append_left xs (p.keeps b m);
      only = λ b m. ⊎_elim (λ h. ⊎_elim inl (λ f. inr (up b f)) (p.only b h)) (λ h. inr (b, h, reach_here refl)) (Memᴰ.append_cases w m);
      has = λ b m. Memᴰ.append_right w m;
      closes = λ c a b m h. ⊎_elim (λ i. Memᴰ.append_left xs (p.closes c a b i h)) (λ i. Memᴰ.append_left xs (p.has b (mem_flat_map needs i h)))
          (Memᴰ.append_cases w m);
      once = λ n. (Nodup-append {l₁ = w} {l₂ = xs}).1
          (p.once n, d, λ a m₁ m₂. ∥∥₁_elim m₁ ⊥_prop (λ h₁. ∥∥₁_elim m₂ ⊥_prop (λ h₂. batch_fresh k good at fresh p a h₂ h₁)));
    }
      where
        up : (b : Item) → From needs (flat_map needs xs) b → From needs xs b
        up b f = let i = of_flat_map needs xs f.1 in (i.0, i.1, reach_down i.2 f.2)

    pub serves_own : {x : Item} {v w : List Item} → Good x → ¬ Memᴰ x v → Serves needs (needs x) v w → Serves needs (x ∷ []) v (w ++ (x ∷ []))
    unfolding flat_map
    serves_own {x} {v} {w} g n p =
        serves_batch {w = w} (rank x) (Nodup-cons.1 (not_mem Memᴰ.not-nil, Nodup-nil)) (λ y m. subst Good (sym (Memᴰ.eq_of_singleton m)) g)
        (λ y m. ap rank (Memᴰ.eq_of_singleton m)) (λ y m h. n (Memᴰ.cast (sym (Memᴰ.eq_of_singleton m)) h))
        (rw append-nil p)

module _ {Item : Type 0} (dec : (x y : Item) → Dec (x ≡ y)) (needs : Item → List Item) where
  -- Serve one item: skip it if it is there, else serve its needs in order and append it. The first argument bounds the depth.
  unfoldable pub serve : ℕ → Item → List Item → List Item
  serve zero x v = v
  serve (suc n) x v = dite (dec_memᴰ dec x v) (λ _. v) (λ _. each (serve n) (needs x) v ++ (x ∷ []))

module _ {Item : Type 0} {needs : Item → List Item} where
  pub each_serves : {f : Item → List Item → List Item} (xs v : List Item)
      → ((x : Item) → Memᴰ x xs → (u : List Item) → Serves needs (x ∷ []) u (f x u)) → Serves needs xs v (each f xs v)
  unfolding each
  each_serves [] v h = serves_nil
  each_serves {f} (x ∷ xs) v h = serves_then (h x (Memᴰ.head refl) v) (each_serves {f = f} xs (f x v) (λ y m. h y (Memᴰ.tail m)))

module _ {Item : Type 0} (dec : (x y : Item) → Dec (x ≡ y)) {needs : Item → List Item} {Good : Item → Type 0} {rank : Item → ℕ}
    (law : Falls needs Good rank) where
  pub serve_serves : (n : ℕ) (x : Item) → Good x → rank x < n → (v : List Item) → Serves needs (x ∷ []) v (serve dec needs n x v)
  unfolding serve
  serve_serves zero x g l v = absurd (omega arith)
  serve_serves (suc n) x g l v =
      step (dec_memᴰ dec x v) (each_serves (needs x) v (λ y m u. serve_serves n y (law.good x y g m) (omega (arith, law.lower x y g m)) u))
    where
      step : (d : Dec (Memᴰ x v)) → Serves needs (needs x) v (each (serve dec needs n) (needs x) v)
          → Serves needs (x ∷ []) v (dite d (λ _. v) (λ _. each (serve dec needs n) (needs x) v ++ (x ∷ [])))
      step (yes m) p = serves_held m serves_nil
      step (no k) p = serves_own law g k p

-- Two functions of needs that agree on the good items serve the same.
module _ {Item : Type 0} {needs : Item → List Item} {Good : Item → Type 0} (good : (a b : Item) → Good a → Memᴰ b (needs a) → Good b) where
  pub reach_good : {a b : Item} → Good a → Reach needs a b → Good b
  reach_good g (reach_here e) = subst Good e g
  reach_good g (reach_down {a} {b} {c} h r) = reach_good (good a c g h) r

  pub served_good : {xs v w : List Item} → ((x : Item) → Memᴰ x v → Good x) → ((x : Item) → Memᴰ x xs → Good x) → Serves needs xs v w
      → (x : Item) → Memᴰ x w → Good x
  served_good gv gx p x m = ⊎_elim (gv x) (λ f. reach_good (gx f.0 f.1) f.2) (p.only x m)

-- Where the needs of the good items are among others, so is what is reached.
module _ {Item : Type 0} {needs needs' : Item → List Item} {Good : Item → Type 0} (good : (a b : Item) → Good a → Memᴰ b (needs a) → Good b)
    (among : (a b : Item) → Good a → Memᴰ b (needs a) → Memᴰ b (needs' a)) where
  pub reach_among : {a b : Item} → Good a → Reach needs a b → Reach needs' a b
  reach_among g (reach_here e) = reach_here e
  reach_among g (reach_down {a} {b} {c} h r) = reach_down (among a c g h) (reach_among (good a c g h) r)

module _ {Item : Type 0} {needs needs' : Item → List Item} {Good : Item → Type 0} (good : (a b : Item) → Good a → Memᴰ b (needs a) → Good b)
    (agree : (a : Item) → Good a → needs a ≡ needs' a) where
  reach_agree : {a b : Item} → Good a → Reach needs a b → Reach needs' a b
  reach_agree g r = reach_among good (λ a b g h. rw (agree a g) at h) g r

  pub serves_agree : {xs v w : List Item} → ((x : Item) → Memᴰ x v → Good x) → ((x : Item) → Memᴰ x xs → Good x) → Serves needs xs v w
      → Serves needs' xs v w
  serves_agree {xs} {v} {w} gv gx p = record {
    keeps = p.keeps;
    only = λ b m. ⊎_elim inl (λ f. inr (f.0, f.1, reach_agree (gx f.0 f.1) f.2)) (p.only b m);
    has = p.has;
    closes = λ c a b m h. p.closes (λ i j n k. c i j n (rw (agree i (gv i n)) at k)) a b m (rw (agree a (served_good good gv gx p a m)) h);
    once = p.once;
  }
