-- The steps of the stored definitions are those of the log that define a sum, and every clause follows its derivation.
use mathlib.Core.Path.{◌≡◌, sym, ◌∙◌, ap, subst}
use mathlib.Core.List.Memᴰ
use mathlib.Core.List.{List, [], ◌∷◌, ◌++◌, flat_map, append-nil, Memᴰ}
use Prim.Native.Nat.{ℕ, suc, ◌+◌}
use lib.ListN.{length}
use Rattle.cert.specs.Counted.{CountedIn, KeyIn}
use Rattle.memo.proofs.Lists.{flat_map_append, flat_map_agree}
use Rattle.record.specs.Record.{Record, derivation, clause, steps}
use Rattle.record.specs.Steps.{Defined}
use Rattle.record.proofs.Groups.{Grouped, grouped_done, grouped_sum, grouped_derivation, grouped_clause, grouped_append}
use Rattle.totdb.specs.Nodes.{Node, range}
use Rattle.cert.specs.Definitions.{Key, key_records, defined_by}
use Rattle.cert.specs.Requests.{Clause, clause_tokens, Request}
use Rattle.cert.specs.State.{Stored, State, keys, step_in, stored_steps, define, write, hold, serve, start, Head}
use Rattle.cert.proofs.Counts.{key_count, defined_more, counted_start, counted_define, counted_write, counted_hold}
use Rattle.cert.proofs.Rules.{Ok}
use Rattle.cert.proofs.Serving.{Asked, serve_in}
use Rattle.cert.proofs.Shapes.{Shape, shape_done, shape_sum, shape_derived, key_shape}

-- ---- what is stored

-- The steps of one stored key.
unfoldable steps_of : List Node → Stored → List ℕ
steps_of t e = range e.from (length (defined_by t e.key))

stored_of : (t : List Node) (es : List Stored) → stored_steps t es ≡ flat_map (steps_of t) es
unfolding stored_steps steps_of
stored_of t es = flat_map_agree es (λ e m. ap (range e.from) (key_count (λ k i. 0) t e.key))

stored_snoc : (t : List Node) (es : List Stored) (e : Stored)
    → stored_steps t (es ++ (e ∷ [])) ≡ stored_steps t es ++ range e.from (length (defined_by t e.key))
stored_snoc t es e =
    stored_of t (es ++ (e ∷ [])) ∙ flat_map_append (steps_of t) es (e ∷ [])
    ∙ rw (stored_of t es) (ap (λ (l : List ℕ). flat_map (steps_of t) es ++ l) (unfold flat_map steps_of in append-nil (steps_of t e)))

-- Later nodes change no step.
pub stored_more : (t u : List Node) (s : State) → ((k : Key) → Memᴰ k (keys s) → KeyIn t k)
    → stored_steps t s.stored ≡ stored_steps (t ++ u) s.stored
unfolding keys steps_of
stored_more t u s i =
    stored_of t s.stored
    ∙ flat_map_agree s.stored
    (λ e m. ap (λ (l : List Defined). range e.from (length l)) (defined_more t u e.key (i e.key (Memᴰ.map (λ (e : Stored). e.key) m))))
    ∙ sym (stored_of (t ++ u) s.stored)

-- ---- the records of a key

shape_grouped : {rs : List Record} {xs : List Defined} → Shape rs xs → (n : ℕ) → Grouped n rs (range n (length xs)) []
unfolding range
shape_grouped shape_done n = grouped_done
shape_grouped (shape_sum p) n = grouped_sum (shape_grouped p (suc n))
shape_grouped (shape_derived p) n = grouped_derivation (shape_grouped p (suc n))

-- ---- the invariant, over a table; ds are the deletions so far

pub record LaidIn (h : Head) (t : List Node) (ds : List (List ℕ)) (s : State) : Type 0 where
  pub counted : CountedIn h t s
  pub grouped : Grouped h.step s.log (stored_steps t s.stored) ds

abbrev pub Laid : Head → List (List ℕ) → State → Type 0
Laid h ds s = LaidIn h s.nodes ds s

pub laid_start : (h : Head) → Laid h [] (start h)
laid_start h = record { counted = counted_start h; grouped = unfold start stored_steps flat_map in grouped_done }

module _ (h : Head) (t : List Node) (ds : List (List ℕ)) where
  -- More records, and the steps that they define.
  grouped_more : (s : State) (rs : List Record) (us : List ℕ) → LaidIn h t ds s → ((n : ℕ) → n ≡ s.next_step → Grouped n rs us [])
      → Grouped h.step (s.log ++ rs) (stored_steps t s.stored ++ us) ds
  grouped_more s rs us k g =
      subst (Grouped h.step (s.log ++ rs) (stored_steps t s.stored ++ us)) (append-nil ds)
      (grouped_append k.grouped (g (h.step + steps s.log) (sym k.counted.next)))

  laid_define : (j : Key) (s : State) → KeyIn t j → LaidIn h t ds s → LaidIn h t ds (define t j s)
  laid_define j s i k = record {
    counted = counted_define h t j s i k.counted;
    grouped =
        let rs = key_records (step_in s.stored) t j in
        subst (λ (l : List ℕ). Grouped h.step (define t j s).log l ds) (sym (stored_is s))
        (unfold define in grouped_more s rs (range s.next_step (length (defined_by t j))) k
        (λ n e. rw (← e) (shape_grouped (key_shape (step_in s.stored) t j) n)));
  }
    where
      stored_is : (s : State)
          → stored_steps t (define t j s).stored ≡ stored_steps t s.stored ++ range s.next_step (length (defined_by t j))
      stored_is s = unfold define in stored_snoc t s.stored (record { key = j; from = s.next_step })

  laid_write : (c : Clause) (s : State) → LaidIn h t ds s → LaidIn h t ds (write t c s)
  laid_write c s k = record {
    counted = counted_write h t c s k.counted;
    grouped =
        unfold write in
        subst (λ (l : List ℕ). Grouped h.step (s.log ++ clause_records) l ds) (append-nil (stored_steps t s.stored))
        (grouped_more s clause_records [] k (λ n e. rw (← e) (grouped_clause grouped_done)));
  }
    where
      clause_records : List Record
      clause_records = derivation (clause_tokens (step_in s.stored) t c) ∷ clause s.next_step c.literals ∷ []

  laid_hold : (x : Request) (s : State) → LaidIn h t ds s → LaidIn h t ds (hold x s)
  laid_hold x s k = record { counted = counted_hold h t x s k.counted; grouped = unfold hold in k.grouped }

  pub laid_serve : Ok t → (xs : List Request) → Asked t xs → (s : State) → LaidIn h t ds s → LaidIn h t ds (serve t xs s)
  laid_serve ok xs a s k = serve_in t ok (LaidIn h t ds) laid_define laid_write laid_hold xs a s k
