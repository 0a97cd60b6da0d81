-- The sums that an accepted log defines, its derivations worked out, are those of the keys stored, in the order of the log.
use Rattle.std.proofs.Math.Bool.{or-false}
use Rattle.std.proofs.lemmas.Bool.{ne_eqb, eq-eqb, or_right}
use mathlib.Core.Path.{◌≡◌, refl, sym, ◌∙◌, ap, subst}
use mathlib.Core.Bool.{Bool, true, false, ◌||◌}
use mathlib.Core.List.Memᴰ
use mathlib.Core.List.{List, [], ◌∷◌, ◌++◌, map, flat_map, append-nil, Memᴰ}
use mathlib.Core.Option.{Option, none}
use Prim.Native.Nat.{ℕ, suc, ◌+◌, ◌≤◌, ◌<◌}
use native.Mathlib.Omega.{arith}
use lib.Dec.{eqb}
use lib.ListN.{length, get_or, length-append, length-map, get_or-append}
use lib.Seq.{get_or-append-add}
use Rattle.pb.specs.Rules.{Token}
use Rattle.pb.specs.Sum.{Sum}
use Rattle.memo.proofs.Lists.{flat_map_append, flat_map_agree}
use Rattle.record.specs.Record.{Record, sum, derivation, clause, deletion, steps}
use Rattle.record.specs.Steps.{names, defined_from, Defined, written, derived, sums_after, step_of, defined}
use Rattle.record.proofs.Steps.{sums_append, sums_grow, sums_length, step_known}
use Rattle.totdb.specs.Nodes.{Node, len, known, leaf, joined}
use Rattle.cert.specs.Counted.{Counted}
use Rattle.cert.specs.Definitions.{Key, key_records, defined_by, pulls}
use Rattle.cert.specs.Requests.{Clause, clause_tokens, Request, Right}
use Rattle.cert.specs.Sized.{Sized}
use Rattle.cert.specs.State.{State, keys, define, step_in, write, hold, serve, start, Stored, requests, Head, stored_steps}
use Rattle.cert.proofs.Apart.{sized_ok}
use Rattle.cert.proofs.Counts.{key_count, counted_start, defined_more}
use Rattle.cert.proofs.Distinct.{Distinct, distinct_nil}
use Rattle.cert.proofs.Fits.{KeyFits, request_falls, key_falls, looked_fit}
use Rattle.cert.proofs.Known.{sum_of, known_of, KnownIn, known_define, key_sums, known_more, Segment}
use Rattle.cert.proofs.Serving.{define_keys, Asked, serve_keeps}
use Rattle.cert.proofs.Shapes.{Shape, shape_done, shape_sum, shape_derived, key_shape}
use Rattle.player.specs.Formed.{Sound}
use Rattle.player.specs.Passes.{AllPassed}
use Rattle.player.specs.Player.{make, first_no, questions, act, delete}
use Rattle.player.specs.declared.Command.{Command}
use Rattle.player.proofs.Counts.{counted_act, all_keep}
use Rattle.player.proofs.Different.{distinct_act}
use Rattle.player.proofs.Sound.{request_fits, requests_asked, serve_nodes, requests_right, sound_start}

-- ---- names and definitions over more records

names_append : (n : ℕ) (rs qs : List Record) → names n (rs ++ qs) ≡ (names n rs || names n qs)
unfolding names
names_append n [] qs = refl
names_append n (sum w ts b ∷ rs) qs = names_append n rs qs
names_append n (derivation ks ∷ rs) qs = names_append n rs qs
names_append n (clause s ls ∷ rs) qs = by (eqb s n) (names_append n rs qs)
  where
    by : (b : Bool) → names n (rs ++ qs) ≡ (names n rs || names n qs) → (b || names n (rs ++ qs)) ≡ (b || names n rs || names n qs)
    by true e = refl
    by false e = e
names_append n (deletion ss ∷ rs) qs = names_append n rs qs

from_append : (sums : ℕ → Option Sum) (all : List Record) (n : ℕ) (rs qs : List Record)
    → defined_from sums all n (rs ++ qs) ≡ defined_from sums all n rs ++ defined_from sums all (n + steps rs) qs
unfolding defined_from steps
from_append sums all n [] qs = ap (λ (k : ℕ). defined_from sums all k qs) (omega arith)
from_append sums all n (sum w ts b ∷ rs) qs =
    ap {B = List Defined} (λ (l : List Defined). written w ts b ∷ l)
    (from_append sums all (suc n) rs qs ∙ ap (λ (k : ℕ). defined_from sums all (suc n) rs ++ defined_from sums all k qs) (omega arith))
from_append sums all n (derivation ks ∷ rs) qs =
    by (names n all) (from_append sums all (suc n) rs qs ∙ ap (λ (k : ℕ). defined_from sums all (suc n) rs ++ defined_from sums all k qs) (omega arith))
  where
    by : (b : Bool) → defined_from sums all (suc n) (rs ++ qs) ≡ defined_from sums all (suc n) rs ++ defined_from sums all (n + suc (steps rs)) qs
        → elim b as (λ _. List Defined) [
          | true ↦ defined_from sums all (suc n) (rs ++ qs)
          | false ↦ derived (sums n) ∷ defined_from sums all (suc n)
              (rs ++ qs)
        ] ≡ elim b as
        (λ _. List Defined) [
          | true ↦ defined_from sums all (suc n) rs
          | false ↦ derived (sums n) ∷ defined_from sums all
              (suc n) rs
        ] ++ defined_from sums all (n + suc (steps rs)) qs
    by true e = e
    by false e = ap {B = List Defined} (λ (l : List Defined). derived (sums n) ∷ l) e
from_append sums all n (clause s ls ∷ rs) qs = from_append sums all n rs qs
from_append sums all n (deletion ss ∷ rs) qs = from_append sums all n rs qs

-- ---- the records of a key

shape_names : {rs : List Record} {ds : List Defined} → Shape rs ds → (n : ℕ) → names n rs ≡ false
unfolding names
shape_names shape_done n = refl
shape_names (shape_sum p) n = shape_names p n
shape_names (shape_derived p) n = shape_names p n

-- Where no step is named and the sums are those of the definitions, the records define these.
shape_from : (sums : ℕ → Option Sum) (all : List Record) (n : ℕ) {rs : List Record} {ds : List Defined} → Shape rs ds
    → ((i : ℕ) → i < length ds → names (n + i) all ≡ false) → ((i : ℕ) → i < length ds → sums (n + i) ≡ get_or (map sum_of ds) i none)
    → defined_from sums all n rs ≡ ds
unfolding defined_from sum_of
shape_from sums all n shape_done no_names right = refl
shape_from sums all n (shape_sum {w} {ts} {b} {rs} {ds} p) no_names right =
    ap {B = List Defined} (λ (l : List Defined). written w ts b ∷ l)
    (shape_from sums all (suc n) p (λ i h. subst (λ (k : ℕ). names k all ≡ false) (omega arith) (no_names (suc i) (omega arith)))
    (λ i h. subst (λ (k : ℕ). sums k ≡ get_or (map sum_of ds) i none) (omega arith) (right (suc i) (omega arith))))
shape_from sums all n (shape_derived {ks} {s} {rs} {ds} p) no_names right =
    let z : n + 0 ≡ n = omega arith in
    let e : names n all ≡ false = subst (λ (k : ℕ). names k all ≡ false) z (no_names 0 (omega arith)) in
    let g : sums n ≡ s = subst (λ (k : ℕ). sums k ≡ s) z (right 0 (omega arith)) in
    rw (e, defined_from) (rw g
    (ap {B = List Defined} (λ (l : List Defined). derived s ∷ l)
    (shape_from sums all (suc n) p (λ i h. subst (λ (k : ℕ). names k all ≡ false) (omega arith) (no_names (suc i) (omega arith)))
    (λ i h. subst (λ (k : ℕ). sums k ≡ get_or (map sum_of ds) i none) (omega arith) (right (suc i) (omega arith))))))

-- ---- the invariant

-- What comes later: the sums known stay, and no earlier step gets a name.
pub record Future (h : Head) (s : State) (sums : ℕ → Option Sum) (all : List Record) : Type 0 where
  pub agree : (j : ℕ) → j < length (known_of h s) → sums (h.step + j) ≡ get_or (known_of h s) j none
  pub named : (n : ℕ) → n < s.next_step → names n all ≡ names n s.log

pub record Meant (h : Head) (t : List Node) (s : State) : Type 0 where
  pub known_sums : KnownIn h t s
  pub fresh : (n : ℕ) → s.next_step ≤ n → names n s.log ≡ false
  pub means : (sums : ℕ → Option Sum) (all : List Record) → Future h s sums all
      → defined_from sums all h.step s.log ≡ flat_map (defined_by t) (keys s)

pub known_length : (h : Head) (s : State) → length (known_of h s) ≡ steps s.log
known_length h s = sums_length h.step [] s.log ∙ omega arith

pub known_after : (h : Head) (s u : State) (rs : List Record) → u.log ≡ s.log ++ rs → (ext : List (Option Sum)) × (known_of h u ≡ known_of h s ++ ext)
known_after h s u rs e = let w = sums_grow h.step (known_of h s) rs in
    (w.0, ap (sums_after h.step []) e ∙ sums_append h.step [] s.log rs ∙ w.1)

future_less : (h : Head) (s u : State) (rs : List Record) (sums : ℕ → Option Sum) (all : List Record) → u.log ≡ s.log ++ rs
    → u.next_step ≡ s.next_step + steps rs → ((n : ℕ) → n < s.next_step → names n rs ≡ false) → Future h u sums all → Future h s sums all
future_less h s u rs sums all e f g k =
    let w = known_after h s u rs e in
    record {
      agree = λ j l. k.agree j (rw (w.1, length-append (known_of h s) w.0) (omega arith))
          ∙ rw w.1 (get_or-append (known_of h s) w.0 none j l);
      named = λ n l. k.named n (omega arith) ∙ rw e (names_append n s.log rs ∙ rw (g n l) (or-false (names n s.log)));
    }

module _ (h : Head) (t : List Node) (d : Distinct t) (s : State) (k : Meant h t s) where
  meant_define : (j : Key) → KeyFits t j → ((i : Key) → Memᴰ i (pulls j) → Memᴰ i (keys s)) → Meant h t (define t j s)
  meant_define j g b = record {
    known_sums = known_define h t d s k.known_sums j g b;
    fresh = λ n l. rw log_is
        (names_append n s.log rs ∙ rw (shape_names shape n) (or-false (names n s.log)) ∙ k.fresh n (omega (arith, next_is)));
    means = means';
  }
    where
      rs : List Record
      rs = key_records (step_in s.stored) t j

      shape : Shape (key_records (step_in s.stored) t j) (defined_by t j)
      shape = key_shape (step_in s.stored) t j

      log_is : (define t j s).log ≡ s.log ++ key_records (step_in s.stored) t j
      log_is = unfold define in refl

      next_is : (define t j s).next_step ≡ s.next_step + steps (key_records (step_in s.stored) t j)
      next_is = unfold define in refl

      known_is : known_of h (define t j s) ≡ known_of h s ++ map sum_of (defined_by t j)
      known_is = ap (sums_after h.step []) log_is ∙ sums_append h.step [] s.log (key_records (step_in s.stored) t j)
          ∙ key_sums h t d s k.known_sums j g b

      means' : (sums : ℕ → Option Sum) (all : List Record) → Future h (define t j s) sums all
          → defined_from sums all h.step (define t j s).log ≡ flat_map (defined_by t) (keys (define t j s))
      means' sums all f =
          let next = k.known_sums.next in
          let count = key_count (step_in s.stored) t j in
          let old = k.means sums all
          (future_less h s (define t j s) (key_records (step_in s.stored) t j) sums all log_is next_is (λ n l. shape_names shape n) f) in
          let new : defined_from sums all (h.step + steps s.log) (key_records (step_in s.stored) t j) ≡ defined_by t j =
          shape_from sums all (h.step + steps s.log) shape
          (λ i l. f.named (h.step + steps s.log + i) (omega (arith, next_is))
          ∙ rw log_is (names_append (h.step + steps s.log + i) s.log (key_records (step_in s.stored) t j)
          ∙ rw (shape_names shape (h.step + steps s.log + i)) (or-false (names (h.step + steps s.log + i) s.log))
          ∙ k.fresh (h.step + steps s.log + i) (omega arith)))
          (λ i l. right sums f i l) in
          ap (defined_from sums all h.step) log_is
          ∙ from_append sums all h.step s.log (key_records (step_in s.stored) t j)
          ∙ rw (old, new) (sym
          (ap (flat_map (defined_by t)) (define_keys t j s) ∙ flat_map_append (defined_by t) (keys s) (j ∷ [])
          ∙ ap (λ (l : List Defined). flat_map (defined_by t) (keys s) ++ l) (unfold flat_map in append-nil (defined_by t j))))
        where
          right : (sums : ℕ → Option Sum) → Future h (define t j s) sums all → (i : ℕ) → i < length (defined_by t j)
              → sums (h.step + steps s.log + i) ≡ get_or (map sum_of (defined_by t j)) i none
          right sums f i l =
              let e : h.step + steps s.log + i ≡ h.step + (length (known_of h s) + i) = omega (arith, known_length h s) in
              rw e (f.agree (length (known_of h s) + i)
              (rw (known_is, length-append (known_of h s) (map sum_of (defined_by t j)), length-map (defined_by t j) sum_of) (omega arith))
              ∙ rw known_is (get_or-append-add (known_of h s) (map sum_of (defined_by t j)) i none))

  -- Records that define nothing: none is a sum, and each derivation is named.
  meant_more : (u : State) (rs : List Record) → u.log ≡ s.log ++ rs → u.stored ≡ s.stored → u.next_step ≡ s.next_step + steps rs
      → ((n : ℕ) → n < s.next_step → names n rs ≡ false) → ((n : ℕ) → u.next_step ≤ n → names n rs ≡ false)
      → ((sums : ℕ → Option Sum) (all : List Record) → Future h u sums all → defined_from sums all (h.step + steps s.log) rs ≡ []) → Meant h t u
  meant_more u rs e f g low high silent = record {
    known_sums = known_more h t d s k.known_sums u rs e f g;
    fresh = λ n l. rw e (names_append n s.log rs ∙ rw (high n l) (or-false (names n s.log)) ∙ k.fresh n (omega arith));
    means = λ sums all F.
        ap (defined_from sums all h.step) e
        ∙ from_append sums all h.step s.log rs
        ∙ rw (k.means sums all (future_less h s u rs sums all e g low F), silent sums all F)
        (append-nil (flat_map (defined_by t) (keys s)) ∙ (unfold keys in rw f));
  }

  clause_names : (n m : ℕ) (ks : List Token) (ls : List ℕ) → names n (derivation ks ∷ clause m ls ∷ []) ≡ (eqb m n || false)
  unfolding names
  clause_names n m ks ls = refl

  clause_silent : (sums : ℕ → Option Sum) (all : List Record) (n m : ℕ) (ks : List Token) (ls : List ℕ) → names n all ≡ true
      → defined_from sums all n (derivation ks ∷ clause m ls ∷ []) ≡ []
  unfolding defined_from
  clause_silent sums all n m ks ls e = rw (e, defined_from)

  meant_write : (c : Clause) → Meant h t (write t c s)
  meant_write c =
      let ks = clause_tokens (step_in s.stored) t c in
      let rs : List Record = derivation ks ∷ clause s.next_step c.literals ∷ [] in
      let next = k.known_sums.next in
      meant_more (write t c s) rs (unfold write in refl) (unfold write in refl) (unfold write steps in refl)
      (λ n l. clause_names n s.next_step ks c.literals ∙ or-false (eqb s.next_step n) ∙ ne_eqb s.next_step n (λ e. absurd (omega arith)))
      (λ n l. clause_names n s.next_step ks c.literals ∙ or-false (eqb s.next_step n)
      ∙ ne_eqb s.next_step n (λ e. absurd (omega (arith, after c))))
      (λ sums all F. clause_silent sums all (h.step + steps s.log) s.next_step ks c.literals (named_here c sums all F))
    where
      after : (c : Clause) → (write t c s).next_step ≡ s.next_step + 1
      after c = unfold write in refl

      log_is : (c : Clause) → (write t c s).log ≡ s.log ++ (derivation (clause_tokens (step_in s.stored) t c) ∷ clause s.next_step c.literals ∷ [])
      log_is c = unfold write in refl

      named_here : (c : Clause) (sums : ℕ → Option Sum) (all : List Record) → Future h (write t c s) sums all
          → names (h.step + steps s.log) all ≡ true
      named_here c sums all F =
          let e : h.step + steps s.log ≡ s.next_step = sym k.known_sums.next in
          rw e (F.named s.next_step (omega (arith, after c))
          ∙ rw (log_is c) (names_append s.next_step s.log _
          ∙ or_right (names s.next_step s.log) _
          (clause_names s.next_step s.next_step (clause_tokens (step_in s.stored) t c) c.literals
          ∙ or-false (eqb s.next_step s.next_step) ∙ eq-eqb s.next_step s.next_step refl)))

  meant_hold : (x : Request) → Meant h t (hold x s)
  meant_hold x = meant_more (hold x s) [] (unfold hold in sym (append-nil s.log)) (unfold hold in refl) (unfold hold steps in omega arith)
      (λ n l. unfold names in refl) (λ n l. unfold names in refl) (λ sums all F. unfold defined_from in refl)

meant_serve : (h : Head) (t : List Node) → Sized t → Distinct t → (xs : List Request) → ((x : Request) → Memᴰ x xs → Right t x) → Asked t xs
    → (s : State) → Meant h t s → Meant h t (serve t xs s)
meant_serve h t sz d xs r a s k =
    serve_keeps t (Right t) (KeyFits t) (request_falls t sz) (key_falls t) (looked_fit t sz) (Meant h t) (λ j u g n b q. meant_define h t d u q j g b)
    (λ x c u g m b q. meant_write h t d u q c) (λ x u g q. meant_hold h t d u q x) xs r a s k

-- ---- every command

pub record Told (h : Head) (s : State) : Type 0 where
  pub distinct : Distinct s.nodes
  pub counted : Counted h s
  pub meant : Meant h s.nodes s

pub told_start : (h : Head) → Told h (start h)
told_start h = record {
  distinct = unfold start in distinct_nil;
  counted = counted_start h;
  meant = record {
    known_sums = record { next = unfold start steps in omega arith; sums = λ e m. absurd (none e m) };
    fresh = λ n l. unfold start names in refl;
    means = λ sums all F. unfold start defined_from keys flat_map in refl;
  };
}
  where
    empty : (start h).stored ≡ []
    empty = unfold start in refl

    none : (e : Stored) → Memᴰ e (start h).stored → ⊥
    none e m = Memᴰ.not-nil (rw empty at m)

-- A new node changes no definition of what is stored.
meant_make : (h : Head) (a : Node) (n : ℕ) (s : State) → Counted h s → Meant h s.nodes s → Meant h (make a n s).nodes (make a n s)
unfolding make
meant_make h a n s c k = record {
  known_sums = record {
    next = k.known_sums.next;
    sums = λ e m. let q = k.known_sums.sums e m in (
      q.0,
      q.1,
      subst (λ (l : List Defined). Segment (known_of h s) q.0 (map sum_of l))
          (defined_more s.nodes (a ∷ []) e.key (c.keys_in e.key (unfold keys in Memᴰ.map (λ (e : Stored). e.key) m))) q.2,
    );
  };
  fresh = k.fresh;
  means = λ sums all F. k.means sums all (record { agree = F.agree; named = F.named })
      ∙ flat_map_agree {f = defined_by s.nodes} {g = defined_by (s.nodes ++ (a ∷ []))} (keys s)
      (λ j m. defined_more s.nodes (a ∷ []) j (c.keys_in j m)) ∙ (unfold keys in refl);
}

meant_act : (h : Head) (c : Command) (s : State) → first_no (questions h s.nodes c) ≡ 0 → Sound h s → Told h s → Meant h (act c s).nodes (act c s)
unfolding act
meant_act h (Command.Leaf l) s q p k = by (known s.nodes l)
  where
    by : (b : Bool) → Meant h (elim b as (λ _. State) [ true ↦ s | false ↦ make (leaf l) 0 s ]).nodes
        (elim b as (λ _. State) [ true ↦ s | false ↦ make (leaf l) 0 s ])
    by true = k.meant
    by false = meant_make h (leaf l) 0 s k.counted k.meant
meant_act h (Command.Join x y) s q p k =
    meant_make h (joined s.nodes s.next_variable x y) (len (joined s.nodes s.next_variable x y)) s k.counted k.meant
meant_act h (Command.Request n v d) s q p k =
    let t = s.nodes in
    let f = request_fits h t n v d q in
    let a = requests_asked t n v d f in
    subst (λ (x : List Node). Meant h x (serve t (requests n v d) s)) (sym (serve_nodes t (sized_ok t p.sized) (requests n v d) a s).0)
    (meant_serve h t p.sized k.distinct (requests n v d) (requests_right t n v d f) a s k.meant)
meant_act h Command.Close s q p k =
    subst (λ (x : List Node). Meant h x (delete s)) (unfold delete in refl)
    (meant_more h s.nodes k.distinct s k.meant (delete s) (deletion (stored_steps s.nodes s.stored) ∷ []) (unfold delete in refl)
    (unfold delete in refl) (unfold delete steps in omega arith) (λ n l. unfold names in refl) (λ n l. unfold names in refl)
    (λ sums all F. unfold defined_from in refl))

pub told_act : (h : Head) (c : Command) (s : State) → first_no (questions h s.nodes c) ≡ 0 → Sound h s → Told h s → Told h (act c s)
told_act h c s q p k =
    record { distinct = distinct_act h c s q p k.distinct; counted = counted_act h c s q p k.counted; meant = meant_act h c s q p k }

pub all_told : {h : Head} {capacity : ℕ} {cs : List Command} {u : State} → AllPassed h capacity cs (start h) u → Told h u
all_told {h} a = all_keep (Told h) (told_act h) a (sound_start h) (told_start h)

-- The log itself is a future of its last state.
future_now : (h : Head) (s : State) → Future h s (step_of h.step s.log) s.log
unfolding step_of
future_now h s = record { agree = λ j l. step_known h.step (known_of h s) j; named = λ n l. refl }

-- Demand 2, the definitions: in an accepted log every derivation that no clause names comes to the window definition it is written for.
pub defines_exactly : (h : Head) (capacity : ℕ) (cs : List Command) (u : State) → AllPassed h capacity cs (start h) u
    → defined h.step u.log ≡ flat_map (defined_by u.nodes) (keys u)
defines_exactly h capacity cs u a = unfold defined in (all_told a).meant.means (step_of h.step u.log) u.log (future_now h u)
