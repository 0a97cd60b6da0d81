-- A machine whose state is more than the list of what is served: `view` reads that list from the state, and `emit` does an item's own work.
-- Its list is the list of `serve`, and what each `emit` keeps, the whole run keeps.
use mathlib.Core.Path.{◌≡◌, refl, sym, ◌∙◌, ap}
use mathlib.Core.Logic.{⊎_elim, dite}
use mathlib.Core.List.Memᴰ
use mathlib.Core.List.{List, [], ◌∷◌, ◌++◌, flat_map, append-nil, Memᴰ, Nodup, Nodup-cons}
use Prim.Native.Nat.{ℕ, zero, suc, ◌<◌}
use native.Mathlib.Omega.{arith}
use lib.Seq.{append_snoc}
use Rattle.memo.specs.Visit.{each, visit, dec_memᴰ, ask, batch, fresh}
use Rattle.memo.proofs.Lists.{of_flat_map, fresh_sub, fresh_or, fresh_nodup, fresh_not, mem_flat_map}
use Rattle.memo.proofs.Serve.{Falls, serve, Serves, serve_serves, serves_nil, serves_then, serves_rest, serves_batch, each_serves, still_fresh, batch_fresh}

module _ {A S W : Type 0} (view : S → W) where
  pub each_view : {f : A → S → S} (g : A → W → W) (xs : List A) → ((x : A) → Memᴰ x xs → (s : S) → view (f x s) ≡ g x (view s)) → (s : S)
      → view (each f xs s) ≡ each g xs (view s)
  unfolding each
  each_view g [] h s = refl
  each_view {f} g (x ∷ xs) h s = each_view g xs (λ y m. h y (Memᴰ.tail m)) (f x s) ∙ ap (λ (v : W). each g xs v) (h x (Memᴰ.head refl) s)

module _ {A S : Type 0} (R : S → Type 0) where
  pub each_keeps : {f : A → S → S} (xs : List A) → ((x : A) → Memᴰ x xs → (s : S) → R s → R (f x s)) → (s : S) → R s → R (each f xs s)
  unfolding each
  each_keeps [] h s r = r
  each_keeps {f} (x ∷ xs) h s r = each_keeps xs (λ y m. h y (Memᴰ.tail m)) (f x s) (h x (Memᴰ.head refl) s r)

-- What no `emit` changes, no run changes.
module _ {A S Y : Type 0} (f : S → Y) where
  pub each_still : {g : A → S → S} (xs : List A) → ((x : A) (s : S) → f (g x s) ≡ f s) → (s : S) → f (each g xs s) ≡ f s
  unfolding each
  each_still [] h s = refl
  each_still {g} (x ∷ xs) h s = each_still xs h (g x s) ∙ h x s

module _ {Item S Y : Type 0} (dec : (x y : Item) → Dec (x ≡ y)) (needs : Item → List Item) (rank : Item → ℕ) (view : S → List Item)
    (emit : Item → S → S) (f : S → Y) (still : (x : Item) (s : S) → f (emit x s) ≡ f s) where
  pub visit_still : (n : ℕ) (x : Item) (s : S) → f (visit dec needs view emit n x s) ≡ f s
  unfolding visit
  visit_still zero x s = refl
  visit_still (suc n) x s = step (dec_memᴰ dec x (view s)) (each_still f (needs x) (λ y u. visit_still n y u) s)
    where
      step : (d : Dec (Memᴰ x (view s))) → f (each (visit dec needs view emit n) (needs x) s) ≡ f s
          → f (dite d (λ _. s) (λ _. emit x (each (visit dec needs view emit n) (needs x) s))) ≡ f s
      step (yes m) e = refl
      step (no k) e = still x (each (visit dec needs view emit n) (needs x) s) ∙ e

  pub ask_still : (x : Item) (s : S) → f (ask dec needs rank view emit x s) ≡ f s
  unfolding ask
  ask_still x s = visit_still (suc (rank x)) x s

module _ {Item S : Type 0} (dec : (x y : Item) → Dec (x ≡ y)) {needs : Item → List Item} {Good : Item → Type 0} {rank : Item → ℕ}
    (law : Falls needs Good rank) (view : S → List Item) (emit : Item → S → S)
    (view-emit : (x : Item) (s : S) → view (emit x s) ≡ view s ++ (x ∷ [])) where
  pub view_visit : (n : ℕ) (x : Item) (s : S) → view (visit dec needs view emit n x s) ≡ serve dec needs n x (view s)
  unfolding visit serve
  view_visit zero x s = refl
  view_visit (suc n) x s = step (dec_memᴰ dec x (view s)) (each_view view (serve dec needs n) (needs x) (λ y m u. view_visit n y u) s)
    where
      step : (d : Dec (Memᴰ x (view s))) → view (each (visit dec needs view emit n) (needs x) s) ≡ each (serve dec needs n) (needs x) (view s)
          → view (dite d (λ _. s) (λ _. emit x (each (visit dec needs view emit n) (needs x) s))) ≡ dite d (λ _. view s)
          (λ _. each (serve dec needs n) (needs x) (view s) ++ (x ∷ []))
      step (yes m) e = refl
      step (no k) e = view-emit x (each (visit dec needs view emit n) (needs x) s) ∙ ap {B = List Item} (λ (l : List Item). l ++ (x ∷ [])) e

  pub visit_serves : (n : ℕ) (x : Item) → Good x → rank x < n → (s : S) → Serves needs (x ∷ []) (view s) (view (visit dec needs view emit n x s))
  visit_serves n x g l s = rw (view_visit n x s) (serve_serves dec law n x g l (view s))

  pub ask_serves : (x : Item) → Good x → (s : S) → Serves needs (x ∷ []) (view s) (view (ask dec needs rank view emit x s))
  unfolding ask
  ask_serves x g s = visit_serves (suc (rank x)) x g (omega arith) s

  pub asks_serve : (xs : List Item) → ((x : Item) → Memᴰ x xs → Good x) → (s : S)
      → Serves needs xs (view s) (view (each (ask dec needs rank view emit) xs s))
  unfolding each
  asks_serve [] g s = serves_nil
  asks_serve (x ∷ xs) g s =
      serves_then (ask_serves x (g x (Memᴰ.head refl)) s) (asks_serve xs (λ y m. g y (Memᴰ.tail m)) (ask dec needs rank view emit x s))

  pub view_emits : (ys : List Item) (s : S) → view (each emit ys s) ≡ view s ++ ys
  unfolding each
  view_emits [] s = sym (append-nil (view s))
  view_emits (y ∷ ys) s = view_emits ys (emit y s) ∙ ap {B = List Item} (λ (l : List Item). l ++ ys) (view-emit y s) ∙ append_snoc (view s) y ys

  module _ (xs : List Item) (k : ℕ) (d : Nodup xs) (good : (x : Item) → Memᴰ x xs → Good x) (at : (x : Item) → Memᴰ x xs → rank x ≡ k)
      (s : S) where
    below_good : (y : Item) → Memᴰ y (flat_map needs (fresh dec (view s) xs)) → Good y
    below_good y m = let i = of_flat_map needs (fresh dec (view s) xs) m in
        law.good i.0 y (good i.0 (fresh_sub dec (view s) xs i.0 i.1)) i.2

    below_serves : Serves needs (flat_map needs (fresh dec (view s) xs)) (view s)
        (view (each (ask dec needs rank view emit) (flat_map needs (fresh dec (view s) xs)) s))
    below_serves = asks_serve (flat_map needs (fresh dec (view s) xs)) below_good s

    pub batch_serves : Serves needs xs (view s) (view (batch dec needs rank view emit xs s))
    unfolding batch
    batch_serves =
        rw (view_emits (fresh dec (view s) xs) (each (ask dec needs rank view emit) (flat_map needs (fresh dec (view s) xs)) s))
        (serves_rest (fresh_or dec (view s) xs) (fresh_sub dec (view s) xs)
        (serves_batch law k (fresh_nodup dec (view s) xs d) (λ x m. good x (fresh_sub dec (view s) xs x m))
        (λ x m. at x (fresh_sub dec (view s) xs x m)) (fresh_not dec (view s) xs) below_serves))

  -- What `emit` keeps, for a good item that is not yet there and whose needs are.
  module _ (R : S → Type 0)
      (keep : (x : Item) (s : S) → Good x → ¬ Memᴰ x (view s) → ((y : Item) → Memᴰ y (needs x) → Memᴰ y (view s)) → R s
      → R (emit x s)) where
    pub visit_keeps : (n : ℕ) (x : Item) → Good x → rank x < n → (s : S) → R s → R (visit dec needs view emit n x s)
    unfolding visit
    visit_keeps zero x g l s r = r
    visit_keeps (suc n) x g l s r =
        step (dec_memᴰ dec x (view s))
        (each_keeps R (needs x) (λ y m u q. visit_keeps n y (law.good x y g m) (omega (arith, law.lower x y g m)) u q) s r)
      where
        below : Serves needs (needs x) (view s) (view (each (visit dec needs view emit n) (needs x) s))
        below = rw (each_view view (serve dec needs n) (needs x) (λ y m u. view_visit n y u) s)
            (each_serves (needs x) (view s) (λ y m u. serve_serves dec law n y (law.good x y g m) (omega (arith, law.lower x y g m)) u))

        step : (d : Dec (Memᴰ x (view s))) → R (each (visit dec needs view emit n) (needs x) s)
            → R (dite d (λ _. s) (λ _. emit x (each (visit dec needs view emit n) (needs x) s)))
        step (yes m) q = r
        step (no k) q = keep x (each (visit dec needs view emit n) (needs x) s) g (still_fresh law g k below) below.has q

    pub ask_keeps : (x : Item) → Good x → (s : S) → R s → R (ask dec needs rank view emit x s)
    unfolding ask
    ask_keeps x g s r = visit_keeps (suc (rank x)) x g (omega arith) s r

    pub emits_keep : (ys : List Item) → Nodup ys → ((y : Item) → Memᴰ y ys → Good y) → (s : S)
        → ((y : Item) → Memᴰ y ys → ¬ Memᴰ y (view s))
        → ((y z : Item) → Memᴰ y ys → Memᴰ z (needs y) → Memᴰ z (view s)) → R s → R (each emit ys s)
    unfolding each
    emits_keep [] d g s n b r = r
    emits_keep (y ∷ ys) d g s n b r =
        emits_keep ys (Nodup-cons.0 d).1 (λ z m. g z (Memᴰ.tail m)) (emit y s)
        (λ z m h. ⊎_elim (n z (Memᴰ.tail m)) (λ i. (Nodup-cons.0 d).0 ∣ Memᴰ.cast (sym (Memᴰ.eq_of_singleton i)) m ∣₁)
        (Memᴰ.append_cases (view s) (rw (view-emit y s) at h)))
        (λ z u m h. rw (view-emit y s) (Memᴰ.append_left (y ∷ []) (b z u (Memᴰ.tail m) h)))
        (keep y s (g y (Memᴰ.head refl)) (n y (Memᴰ.head refl)) (λ z h. b y z (Memᴰ.head refl) h) r)

    pub batch_keeps : (xs : List Item) (k : ℕ) → Nodup xs → ((x : Item) → Memᴰ x xs → Good x) → ((x : Item) → Memᴰ x xs → rank x ≡ k)
        → (s : S) → R s → R (batch dec needs rank view emit xs s)
    unfolding batch
    batch_keeps xs k d good at s r =
        let ys = fresh dec (view s) xs in
        let g : (y : Item) → Memᴰ y ys → Good y = λ y m. good y (fresh_sub dec (view s) xs y m) in
        let b = below_serves xs k d good at s in
        emits_keep ys (fresh_nodup dec (view s) xs d) g (each (ask dec needs rank view emit) (flat_map needs ys) s)
        (λ y m. batch_fresh law k g (λ x i. at x (fresh_sub dec (view s) xs x i)) (fresh_not dec (view s) xs) b y m)
        (λ y z m h. b.has z (mem_flat_map needs m h))
        (each_keeps R (flat_map needs ys) (λ y m u q. ask_keeps y (below_good xs k d good at s y m) u q) s r)
