-- A request, by what is held, and the request command by single requests.
use mathlib.Core.Path.{◌≡◌, refl, sym, ◌∙◌, ap}
use mathlib.Core.Logic.{dite, ⊎_elim}
use mathlib.Core.List.Memᴰ
use mathlib.Core.List.{List, [], ◌∷◌, flat_map, append-nil, Memᴰ}
use Prim.Native.Nat.{ℕ}
use native.Mathlib.Omega.{arith}
use Rattle.memo.specs.Visit.{each, batch, fresh, dec_memᴰ}
use Rattle.memo.proofs.Unrolled.{ask_there, ask_new}
use Rattle.totdb.specs.Nodes.{Node, leaf, node_at}
use Rattle.cert.specs.Definitions.{Direction, if, only_if}
use Rattle.cert.specs.Equal.{request_dec}
use Rattle.cert.specs.Requests.{Request, request, needs, needs_at, clauses_of, clauses_at, Right}
use Rattle.cert.specs.Sized.{Sized}
use Rattle.cert.specs.State.{State, hold, write_request, serve}
use Rattle.cert.proofs.Fits.{request_falls}
use Rattle.request.specs.Asked.{ask_for}
use Rattle.request.proofs.Grow.{ask_holds}

-- What is done of requests that are all new.
abbrev pub together : List Node → List Request → State → State
together t ys s = each (write_request t) ys (each (ask_for t) (flat_map (needs t) ys) s)

module _ (t : List Node) (sized : Sized t) where
  pub asked_held : (x : Request) → Right t x → (s : State) → Memᴰ x s.held → ask_for t x s ≡ s
  asked_held x g s m = ask_there request_dec (request_falls t sized) (λ (u : State). u.held) (write_request t) x g s m

  pub asked_new : (x : Request) → Right t x → (s : State) → ¬ Memᴰ x s.held → ask_for t x s ≡ write_request t x (each (ask_for t) (needs t x) s)
  asked_new x g s n = ask_new request_dec (request_falls t sized) (λ (u : State). u.held) (write_request t) x g s n

  -- ---- a leaf

  module _ (n v : ℕ) (d : Direction) (a : ℕ) (is : node_at t n ≡ leaf a) where
    no_needs : needs t (request n v d) ≡ []
    unfolding needs needs_at
    no_needs = rw is

    no_clauses : clauses_of t (request n v d) ≡ []
    unfolding clauses_of clauses_at
    no_clauses = rw is

    pub leaf_write : (s : State) → write_request t (request n v d) s ≡ hold (request n v d) s
    unfolding write_request each
    leaf_write s = rw no_clauses

    pub leaf_asked : Right t (request n v d) → (s : State) → ¬ Memᴰ (request n v d) s.held
        → ask_for t (request n v d) s ≡ hold (request n v d) s
    unfolding each
    leaf_asked g s k = asked_new (request n v d) g s k ∙ rw no_needs (leaf_write s)

  -- ---- the request command

  fresh_held : (x : Request) (xs v : List Request) → Memᴰ x v → fresh request_dec v (x ∷ xs) ≡ fresh request_dec v xs
  unfolding fresh
  fresh_held x xs v m = by (dec_memᴰ request_dec x v)
    where
      by : (d : Dec (Memᴰ x v))
          → dite {C = List Request} d (λ _. fresh request_dec v xs) (λ _. x ∷ fresh request_dec v xs) ≡ fresh request_dec v xs
      by (yes i) = refl
      by (no k) = absurd (k m)

  fresh_new : (x : Request) (xs v : List Request) → ¬ Memᴰ x v → fresh request_dec v (x ∷ xs) ≡ x ∷ fresh request_dec v xs
  unfolding fresh
  fresh_new x xs v n = by (dec_memᴰ request_dec x v)
    where
      by : (d : Dec (Memᴰ x v))
          → dite {C = List Request} d (λ _. fresh request_dec v xs) (λ _. x ∷ fresh request_dec v xs) ≡ x ∷ fresh request_dec v xs
      by (yes i) = absurd (n i)
      by (no k) = refl

  serve_fresh : (xs ys : List Request) (s : State) → fresh request_dec s.held xs ≡ ys → serve t xs s ≡ together t ys s
  unfolding serve batch
  serve_fresh xs ys s e = rw e

  alone : (x : Request) → Right t x → (s : State) → ¬ Memᴰ x s.held → together t (x ∷ []) s ≡ ask_for t x s
  unfolding each flat_map
  alone x g s n = rw (append-nil (needs t x)) (sym (asked_new x g s n))

  module _ (s : State) where
    none : fresh request_dec s.held [] ≡ []
    unfolding fresh
    none = refl

    pub serve_one : (x : Request) → Right t x → serve t (x ∷ []) s ≡ ask_for t x s
    serve_one x g = by (dec_memᴰ request_dec x s.held)
      where
        by : Dec (Memᴰ x s.held) → serve t (x ∷ []) s ≡ ask_for t x s
        by (yes i) = serve_fresh (x ∷ []) [] s (fresh_held x [] s.held i ∙ none) ∙ (unfold each flat_map in sym (asked_held x g s i))
        by (no k) = serve_fresh (x ∷ []) (x ∷ []) s (fresh_new x [] s.held k ∙ ap {B = List Request} (λ (l : List Request). x ∷ l) none)
            ∙ alone x g s k

    module _ (x y : Request) (gx : Right t x) (gy : Right t y) where
      pub serve_first_held : Memᴰ x s.held → serve t (x ∷ y ∷ []) s ≡ ask_for t y (ask_for t x s)
      serve_first_held i =
          serve_fresh (x ∷ y ∷ []) (fresh request_dec s.held (y ∷ [])) s (fresh_held x (y ∷ []) s.held i)
          ∙ sym (serve_fresh (y ∷ []) (fresh request_dec s.held (y ∷ [])) s refl) ∙ serve_one y gy ∙ rw (asked_held x gx s i)

      pub serve_second_held : Memᴰ y s.held → serve t (x ∷ y ∷ []) s ≡ ask_for t y (ask_for t x s)
      serve_second_held j =
          by (dec_memᴰ request_dec x s.held) ∙ sym (asked_held y gy (ask_for t x s) (ask_holds t x y s j))
        where
          by : Dec (Memᴰ x s.held) → serve t (x ∷ y ∷ []) s ≡ ask_for t x s
          by (yes i) = serve_first_held i ∙ rw (asked_held x gx s i) (asked_held y gy s j)
          by (no k) =
              serve_fresh (x ∷ y ∷ []) (x ∷ []) s
              (fresh_new x (y ∷ []) s.held k
              ∙ ap {B = List Request} (λ (l : List Request). x ∷ l) (fresh_held y [] s.held j ∙ none))
              ∙ alone x gx s k

      pub serve_new : ¬ Memᴰ x s.held → ¬ Memᴰ y s.held → serve t (x ∷ y ∷ []) s ≡ together t (x ∷ y ∷ []) s
      serve_new k j = serve_fresh (x ∷ y ∷ []) (x ∷ y ∷ []) s
          (fresh_new x (y ∷ []) s.held k
          ∙ ap {B = List Request} (λ (l : List Request). x ∷ l)
          (fresh_new y [] s.held j ∙ ap {B = List Request} (λ (l : List Request). y ∷ l) none))

-- Both directions of a leaf, each alone.
pub serve_leaf : (t : List Node) → Sized t → (n v a : ℕ) → node_at t n ≡ leaf a → ((d : Direction) → Right t (request n v d)) → (s : State)
    → serve t (request n v if ∷ request n v only_if ∷ []) s ≡ ask_for t (request n v only_if) (ask_for t (request n v if) s)
serve_leaf t sized n v a is g s = by (dec_memᴰ request_dec (request n v if) s.held) (dec_memᴰ request_dec (request n v only_if) s.held)
  where
    x : Request
    x = request n v if

    y : Request
    y = request n v only_if

    apart : y ≡ x → ⊥
    apart e = let z : ◌≡◌ {A = ℕ} 0 1 = cc in omega arith

    both_new : ¬ Memᴰ x s.held → ¬ Memᴰ y s.held → together t (x ∷ y ∷ []) s ≡ ask_for t y (ask_for t x s)
    both_new i j = unfold each flat_map in
        rw (
          no_needs t sized n v if a is,
          no_needs t sized n v only_if a is,
          leaf_write t sized n v if a is s,
          leaf_asked t sized n v if a is (g if) s i,
        )
        (leaf_write t sized n v only_if a is (hold x s) ∙ sym (leaf_asked t sized n v only_if a is (g only_if) (hold x s) still))
      where
        still : ¬ Memᴰ y (hold x s).held
        still m = ⊎_elim j (λ k. apart (Memᴰ.eq_of_singleton k)) (Memᴰ.append_cases s.held (unfold hold in m))

    by : Dec (Memᴰ x s.held) → Dec (Memᴰ y s.held) → serve t (x ∷ y ∷ []) s ≡ ask_for t y (ask_for t x s)
    by (yes i) e = serve_first_held t sized s x y (g if) (g only_if) i
    by (no k) (yes j) = serve_second_held t sized s x y (g if) (g only_if) j
    by (no k) (no j) = serve_new t sized s x y (g if) (g only_if) k j ∙ both_new k j
