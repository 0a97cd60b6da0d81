-- A log in groups: records that define, each clause after its derivation, which it names, and deletions. What follows of each record's place.
use mathlib.Core.Path.{◌≡◌, refl, sym, ◌∙◌, ap, subst}
use mathlib.Core.Bool.{Bool, true, false, ◌||◌}
use mathlib.Core.Logic.{◌⊎◌, inl, inr, ⊎_elim}
use mathlib.Core.List.Memᴰ
use mathlib.Core.List.{List, [], ◌∷◌, ◌++◌, Memᴰ}
use Prim.Native.Nat.{ℕ, suc, ◌+◌, ◌≤◌, ◌<◌}
use native.Mathlib.Omega.{arith}
use borrow.Author.Tests.{eq-eqb, ne_eqb}
use lib.Dec.{eqb}
use Rattle.pb.specs.Rules.{Token}
use Rattle.pb.specs.Sum.{Term}
use Rattle.record.specs.Record.{Record, sum, derivation, clause, deletion, steps}
use Rattle.record.specs.Steps.{names}
use Rattle.record.specs.Written.{StepIs, Defines, by_sum, by_derivation, Follows, ClauseNext, EachFor, deletions, Ascending}

-- From step n on: the steps that define a sum are ss, and the deletions ds.
pub data Grouped : ℕ → List Record → List ℕ → List (List ℕ) → Type 0 where
  grouped_done : {n : ℕ} → Grouped n [] [] []
  grouped_sum : {n w : ℕ} {ts : List Term} {b : ℕ} {rs : List Record} {ss : List ℕ} {ds : List (List ℕ)} → Grouped (suc n) rs ss ds
      → Grouped n (sum w ts b ∷ rs) (n ∷ ss) ds
  grouped_derivation : {n : ℕ} {ks : List Token} {rs : List Record} {ss : List ℕ} {ds : List (List ℕ)} → Grouped (suc n) rs ss ds
      → Grouped n (derivation ks ∷ rs) (n ∷ ss) ds
  grouped_clause : {n : ℕ} {ks : List Token} {ls : List ℕ} {rs : List Record} {ss : List ℕ} {ds : List (List ℕ)} → Grouped (suc n) rs ss ds
      → Grouped n (derivation ks ∷ clause n ls ∷ rs) ss ds
  grouped_deletion : {n : ℕ} {d : List ℕ} {rs : List Record} {ss : List ℕ} {ds : List (List ℕ)} → Grouped n rs ss ds
      → Grouped n (deletion d ∷ rs) ss (d ∷ ds)

pub grouped_append : {n : ℕ} {rs qs : List Record} {ss us : List ℕ} {ds es : List (List ℕ)} → Grouped n rs ss ds → Grouped (n + steps rs) qs us es
    → Grouped n (rs ++ qs) (ss ++ us) (ds ++ es)
unfolding steps
grouped_append {n} {qs = qs} {us = us} {es = es} grouped_done q = subst (λ (k : ℕ). Grouped k qs us es) (omega arith) q
grouped_append {n} {qs = qs} {us = us} {es = es} (grouped_sum {rs = rs} g) q =
    grouped_sum (grouped_append g (subst (λ (k : ℕ). Grouped k qs us es) (omega arith) q))
grouped_append {n} {qs = qs} {us = us} {es = es} (grouped_derivation {rs = rs} g) q =
    grouped_derivation (grouped_append g (subst (λ (k : ℕ). Grouped k qs us es) (omega arith) q))
grouped_append {n} {qs = qs} {us = us} {es = es} (grouped_clause {rs = rs} g) q =
    grouped_clause (grouped_append g (subst (λ (k : ℕ). Grouped k qs us es) (omega arith) q))
grouped_append (grouped_deletion g) q = grouped_deletion (grouped_append g q)

pub grouped_deletions : {n : ℕ} {rs : List Record} {ss : List ℕ} {ds : List (List ℕ)} → Grouped n rs ss ds → deletions rs ≡ ds
unfolding deletions
grouped_deletions grouped_done = refl
grouped_deletions (grouped_sum g) = grouped_deletions g
grouped_deletions (grouped_derivation g) = grouped_deletions g
grouped_deletions (grouped_clause g) = grouped_deletions g
grouped_deletions (grouped_deletion {d = d} g) = ap {B = List (List ℕ)} (λ (l : List (List ℕ)). d ∷ l) (grouped_deletions g)

-- ---- the steps ascend

grouped_low : {n : ℕ} {rs : List Record} {ss : List ℕ} {ds : List (List ℕ)} → Grouped n rs ss ds → (m : ℕ) → Memᴰ m ss → n ≤ m
grouped_low grouped_done m i = absurd (Memᴰ.not-nil i)
grouped_low (grouped_sum g) m i = ⊎_elim (λ e. omega arith) (λ j. omega (arith, grouped_low g m j)) (Memᴰ.cases_cons i)
grouped_low (grouped_derivation g) m i = ⊎_elim (λ e. omega arith) (λ j. omega (arith, grouped_low g m j)) (Memᴰ.cases_cons i)
grouped_low (grouped_clause g) m i = omega (arith, grouped_low g m i)
grouped_low (grouped_deletion g) m i = grouped_low g m i

ascending_cons : (n : ℕ) (ss : List ℕ) → ((m : ℕ) → Memᴰ m ss → n < m) → Ascending ss → Ascending (n ∷ ss)
unfolding Ascending
ascending_cons n [] h a = tt
ascending_cons n (m ∷ ss) h a = (h m (Memᴰ.head refl), a)

pub grouped_ascending : {n : ℕ} {rs : List Record} {ss : List ℕ} {ds : List (List ℕ)} → Grouped n rs ss ds → Ascending ss
unfolding Ascending
grouped_ascending grouped_done = tt
grouped_ascending {n} (grouped_sum {ss = ss} g) = ascending_cons n ss (λ m i. omega (arith, grouped_low g m i)) (grouped_ascending g)
grouped_ascending {n} (grouped_derivation {ss = ss} g) = ascending_cons n ss (λ m i. omega (arith, grouped_low g m i)) (grouped_ascending g)
grouped_ascending (grouped_clause g) = grouped_ascending g
grouped_ascending (grouped_deletion g) = grouped_ascending g

-- ---- one record before the others

steps_cons : (r : Record) (rs : List Record) → steps (r ∷ rs) ≡ steps (r ∷ []) + steps rs
unfolding steps
steps_cons (sum w ts b) rs = omega arith
steps_cons (derivation ks) rs = omega arith
steps_cons (clause s ls) rs = omega arith
steps_cons (deletion ss) rs = omega arith

names_tail : (m : ℕ) (r : Record) (rs : List Record) → names m (r ∷ rs) ≡ false → names m rs ≡ false
unfolding names
names_tail m (sum w ts b) rs e = e
names_tail m (derivation ks) rs e = e
names_tail m (clause s ls) rs e = by (eqb s m) e
  where
    by : (b : Bool) → (b || names m rs) ≡ false → names m rs ≡ false
    by true e = absurd (let z : ◌≡◌ {A = ℕ} 0 1 = cc in omega arith)
    by false e = e
names_tail m (deletion ss) rs e = e

-- A clause that names another step names no more.
names_other : (n m : ℕ) (ls : List ℕ) (rs : List Record) → n < m → names m (clause n ls ∷ rs) ≡ names m rs
unfolding names
names_other n m ls rs h = rw (ne_eqb n m (λ e. absurd (omega arith)))

names_own : (n : ℕ) (ls : List ℕ) (rs : List Record) → names n (clause n ls ∷ rs) ≡ true
unfolding names
names_own n ls rs = rw (eq-eqb n n refl)

module _ {n : ℕ} {r : Record} {rs : List Record} {m : ℕ} {x : Record} where
  -- A step of the records after r.
  unfoldable step_after_lem : StepIs (n + steps (r ∷ [])) rs m x → StepIs n (r ∷ rs) m x
  step_after_lem s = record {
    pre = r ∷ s.pre;
    post = s.post;
    place = ap {B = List Record} (λ (l : List Record). r ∷ l) s.place;
    number = omega (arith, s.number, steps_cons r s.pre);
  }

  -- The step is r, or one after it, with the same records behind it.
  step_split : (s : StepIs n (r ∷ rs) m x) → ((r ≡ x) × (m ≡ n) × (rs ≡ s.post)) ⊎ ((q : StepIs (n + steps (r ∷ [])) rs m x) × (q.post ≡ s.post))
  step_split s = go s.pre s.place s.number
    where
      go : (pre : List Record) → r ∷ rs ≡ pre ++ (x ∷ s.post) → m ≡ n + steps pre
          → ((r ≡ x) × (m ≡ n) × (rs ≡ s.post)) ⊎ ((q : StepIs (n + steps (r ∷ [])) rs m x) × (q.post ≡ s.post))
      go [] e k = inl (cc, (unfold steps in omega arith), cc)
      go (y ∷ pre) e k =
          let y_is : r ≡ y = cc in
          let rest : rs ≡ pre ++ (x ∷ s.post) = cc in
          let count : m ≡ n + steps (r ∷ pre) = rw y_is k in
          inr (record { pre = pre; post = s.post; place = rest; number = omega (arith, steps_cons r pre) }, refl)

no_step : {n m : ℕ} {x : Record} → StepIs n [] m x → ⊥
no_step {n} {m} {x} s = go s.pre s.place
  where
    go : (pre : List Record) → [] ≡ pre ++ (x ∷ s.post) → ⊥
    go [] e = let z : ◌≡◌ {A = ℕ} 0 1 = cc in omega arith
    go (y ∷ pre) e = let z : ◌≡◌ {A = ℕ} 0 1 = cc in omega arith

-- ---- the steps that define a sum

names_low : {n : ℕ} {rs : List Record} {ss : List ℕ} {ds : List (List ℕ)} → Grouped n rs ss ds → (m : ℕ) → m < n → names m rs ≡ false
unfolding names
names_low grouped_done m h = refl
names_low (grouped_sum g) m h = names_low g m (omega arith)
names_low (grouped_derivation g) m h = names_low g m (omega arith)
names_low {n} (grouped_clause g) m h = rw (ne_eqb n m (λ e. absurd (omega arith))) (names_low g m (omega arith))
names_low (grouped_deletion g) m h = names_low g m h

module _ {n : ℕ} {r : Record} {rs : List Record} {m : ℕ} where
  defines_after : names m (r ∷ rs) ≡ names m rs → Defines (n + steps (r ∷ [])) rs m → Defines n (r ∷ rs) m
  defines_after e (by_sum s) = by_sum (step_after_lem s)
  defines_after e (by_derivation s f) = by_derivation (step_after_lem s) (e ∙ f)

  defines_split : Defines n (r ∷ rs) m
      → ((m ≡ n) × (steps (r ∷ []) ≡ 1) × ((ks : List Token) → r ≡ derivation ks → names m (r ∷ rs) ≡ false)) ⊎ Defines (n + steps (r ∷ [])) rs m
  defines_split (by_sum {w} {ts} {b} s) =
      ⊎_elim (λ k. inl (k.1, rw k.0 (unfold steps in refl), λ ks e. absurd (let f = k.0 in let z : ◌≡◌ {A = ℕ} 0 1 = cc in omega arith)))
      (λ k. inr (by_sum k.0)) (step_split s)
  defines_split (by_derivation {ks} s f) =
      ⊎_elim (λ k. inl (k.1, rw k.0 (unfold steps in refl), λ js e. f)) (λ k. inr (by_derivation k.0 (names_tail m r rs f))) (step_split s)

next_step : {n m : ℕ} {rs : List Record} (k : ℕ) → n ≡ k → Defines n rs m → Defines k rs m
next_step {n} {m} {rs} k e d = subst (λ (i : ℕ). Defines i rs m) e d

pub grouped_from : {n : ℕ} {rs : List Record} {ss : List ℕ} {ds : List (List ℕ)} → Grouped n rs ss ds → (m : ℕ) → Memᴰ m ss → Defines n rs m
unfolding names steps
grouped_from grouped_done m i = absurd (Memᴰ.not-nil i)
grouped_from {n} (grouped_sum {rs = rs} g) m i =
    ⊎_elim (λ e. by_sum (record { pre = []; post = rs; place = refl; number = omega arith }))
    (λ j. defines_after refl (next_step (n + 1) (omega arith) (grouped_from g m j))) (Memᴰ.cases_cons i)
grouped_from {n} (grouped_derivation {rs = rs} g) m i =
    ⊎_elim (λ e. by_derivation (record { pre = []; post = rs; place = refl; number = omega arith }) (names_low g m (omega arith)))
    (λ j. defines_after refl (next_step (n + 1) (omega arith) (grouped_from g m j))) (Memᴰ.cases_cons i)
grouped_from {n} (grouped_clause {ls = ls} {rs = rs} g) m i =
    defines_after refl (defines_after (names_other n m ls rs (omega (arith, grouped_low g m i))) (next_step (n + 1 + 0) (omega arith) (grouped_from g m i)))
grouped_from {n} (grouped_deletion g) m i = defines_after refl (next_step (n + 0) (omega arith) (grouped_from g m i))

pub grouped_has : {n : ℕ} {rs : List Record} {ss : List ℕ} {ds : List (List ℕ)} → Grouped n rs ss ds → (m : ℕ) → Defines n rs m → Memᴰ m ss
unfolding steps
grouped_has grouped_done m (by_sum s) = absurd (no_step s)
grouped_has grouped_done m (by_derivation s f) = absurd (no_step s)
grouped_has {n} (grouped_sum g) m d =
    ⊎_elim (λ k. Memᴰ.head k.0) (λ q. Memᴰ.tail (grouped_has g m (next_step (suc n) (omega arith) q))) (defines_split d)
grouped_has {n} (grouped_derivation g) m d =
    ⊎_elim (λ k. Memᴰ.head k.0) (λ q. Memᴰ.tail (grouped_has g m (next_step (suc n) (omega arith) q))) (defines_split d)
grouped_has {n} (grouped_clause {ks} {ls} {rs} g) m d =
    ⊎_elim (λ k. absurd (own k.0 (k.2 ks refl)))
    (λ q. ⊎_elim (λ k. absurd (omega (arith, k.1))) (λ p. grouped_has g m (next_step (suc n) (omega arith) p)) (defines_split q)) (defines_split d)
  where
    own : m ≡ n → names m (derivation ks ∷ clause n ls ∷ rs) ≡ false → ⊥
    own e f =
        let y : names n (clause n ls ∷ rs) ≡ false = subst (λ (i : ℕ). names i (clause n ls ∷ rs) ≡ false) e (unfold names in f) in
        let w : true ≡ false = sym (names_own n ls rs) ∙ y in
        let z : ◌≡◌ {A = ℕ} 0 1 = cc in
        omega arith
grouped_has {n} (grouped_deletion g) m d =
    ⊎_elim (λ k. absurd (omega (arith, k.1))) (λ q. grouped_has g m (next_step n (omega arith) q)) (defines_split d)

-- ---- derivations and clauses

-- A record after others: the clause next to it, and the names that the first of them gives.
each_after : {n m : ℕ} {r : Record} {rs : List Record} {ks : List Token} (s : StepIs n (r ∷ rs) m (derivation ks))
    (q : StepIs (n + steps (r ∷ [])) rs m (derivation ks)) → q.post ≡ s.post → names m (r ∷ rs) ≡ names m rs
    → ClauseNext m q.post ⊎ (names m rs ≡ false) → ClauseNext m s.post ⊎ (names m (r ∷ rs) ≡ false)
each_after s q e f = ⊎_elim (λ k. inl (k.0, k.1, sym e ∙ k.2)) (λ k. inr (f ∙ k))

each_from : {n : ℕ} {rs : List Record} (k : ℕ) → n ≡ k → EachFor n rs → EachFor k rs
each_from {n} {rs} k e d = subst (λ (i : ℕ). EachFor i rs) e d

pub grouped_each : {n : ℕ} {rs : List Record} {ss : List ℕ} {ds : List (List ℕ)} → Grouped n rs ss ds → EachFor n rs
unfolding steps names
grouped_each grouped_done m ks s = absurd (no_step s)
grouped_each {n} (grouped_sum g) m ks s =
    ⊎_elim (λ k. absurd (let e = k.0 in let z : ◌≡◌ {A = ℕ} 0 1 = cc in omega arith))
    (λ q. each_after s q.0 q.1 refl (each_from (n + 1) (omega arith) (grouped_each g) m ks q.0)) (step_split s)
grouped_each {n} (grouped_derivation g) m ks s =
    ⊎_elim (λ k. inr (names_low g m (omega (arith, k.1))))
    (λ q. each_after s q.0 q.1 refl (each_from (n + 1) (omega arith) (grouped_each g) m ks q.0)) (step_split s)
grouped_each {n} (grouped_clause {ks = js} {ls = ls} {rs = rs} g) m ks s =
    ⊎_elim (λ k. inl (ls, rs, sym k.2 ∙ ap {B = List Record} (λ (i : ℕ). clause i ls ∷ rs) (sym k.1)))
    (λ q. each_after s q.0 q.1 refl
    (⊎_elim (λ k. absurd (let e = k.0 in let z : ◌≡◌ {A = ℕ} 0 1 = cc in omega arith))
    (λ p. each_after q.0 p.0 p.1 (names_other n m ls rs (omega (arith, p.0.number)))
    (each_from (n + 1 + 0) (omega arith) (grouped_each g) m ks p.0)) (step_split q.0))) (step_split s)
grouped_each {n} (grouped_deletion g) m ks s =
    ⊎_elim (λ k. absurd (let e = k.0 in let z : ◌≡◌ {A = ℕ} 0 1 = cc in omega arith))
    (λ q. each_after s q.0 q.1 refl (each_from (n + 0) (omega arith) (grouped_each g) m ks q.0)) (step_split s)

-- ---- a clause and the derivation of the step that it names

follows_more : {n m : ℕ} {r : Record} {rs : List Record} {ls : List ℕ} → Follows (n + steps (r ∷ [])) rs m ls → Follows n (r ∷ rs) m ls
unfolding step_after_lem
follows_more f = record { tokens = f.tokens; step = step_after_lem f.step; rest = f.rest; next = f.next }

follows_from : {n m : ℕ} {rs : List Record} {ls : List ℕ} (k : ℕ) → n ≡ k → Follows n rs m ls → Follows k rs m ls
follows_from {m = m} {rs = rs} {ls = ls} k e f = subst (λ (i : ℕ). Follows i rs m ls) e f

pub grouped_follows : {n : ℕ} {rs : List Record} {ss : List ℕ} {ds : List (List ℕ)} → Grouped n rs ss ds → (m : ℕ) (ls : List ℕ)
    → Memᴰ (clause m ls) rs → Follows n rs m ls
unfolding steps
grouped_follows grouped_done m ls i = absurd (Memᴰ.not-nil i)
grouped_follows {n} (grouped_sum g) m ls i =
    ⊎_elim (λ e. absurd (let z : ◌≡◌ {A = ℕ} 0 1 = cc in omega arith))
    (λ j. follows_more (follows_from (n + 1) (omega arith) (grouped_follows g m ls j))) (Memᴰ.cases_cons i)
grouped_follows {n} (grouped_derivation g) m ls i =
    ⊎_elim (λ e. absurd (let z : ◌≡◌ {A = ℕ} 0 1 = cc in omega arith))
    (λ j. follows_more (follows_from (n + 1) (omega arith) (grouped_follows g m ls j))) (Memᴰ.cases_cons i)
grouped_follows {n} (grouped_clause {ks = ks} {ls = js} {rs = rs} g) m ls i =
    ⊎_elim (λ e. absurd (let z : ◌≡◌ {A = ℕ} 0 1 = cc in omega arith))
    (λ j. ⊎_elim here (λ k. follows_more (follows_more (follows_from (n + 1 + 0) (omega arith) (grouped_follows g m ls k)))) (Memᴰ.cases_cons j))
    (Memᴰ.cases_cons i)
  where
    here : clause m ls ≡ clause n js → Follows n (derivation ks ∷ clause n js ∷ rs) m ls
    here e =
        let p : m ≡ n = cc in
        let f : clause n js ≡ clause m ls = sym e in
        record {
          tokens = ks;
          step = record { pre = []; post = clause n js ∷ rs; place = refl; number = omega arith };
          rest = rs;
          next = ap {B = List Record} (λ (r : Record). r ∷ rs) f;
        }
grouped_follows {n} (grouped_deletion g) m ls i =
    ⊎_elim (λ e. absurd (let z : ◌≡◌ {A = ℕ} 0 1 = cc in omega arith))
    (λ j. follows_more (follows_from (n + 0) (omega arith) (grouped_follows g m ls j))) (Memᴰ.cases_cons i)
