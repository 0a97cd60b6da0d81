-- The definitions that the items look up, each stored at its first lookup after what it pulls in, and the clauses, a group for each item.
-- Two runs with the same set of requests write the same clauses, each once, and the same definitions, each once, with the same sums.
use mathlib.Core.Path.{◌≡◌, subst}
use mathlib.Core.List.{List, [], ◌∷◌, ◌++◌, flat_map, append-nil, Memᴰ, Perm, Nodup}
use Prim.Native.Nat.{ℕ}
use Rattle.memo.specs.Closure.{From, SameMembers}
use Rattle.memo.specs.Visit.{batch}
use Rattle.memo.proofs.Lists.{flat_map_append, of_flat_map, mem_flat_map, nodup_flat_map, flat_map_perm, same_flat_map}
use Rattle.memo.proofs.Machine.{batch_keeps}
use Rattle.memo.proofs.Serve.{Serves, serves_then, served_from, served_has, served_once, served_perm, served_same, Falls}

-- What an item needs, looks up in order, and writes; what a key pulls in first; the sums that a key's definition writes.
pub record Rules (Item Key Clause Sum : Type 0) : Type 0 where
  pub needs : Item → List Item
  pub lookups : Item → List Key
  pub group : Item → List Clause
  pub pulls : Key → List Key
  pub sums : Key → List Sum

-- What is written so far.
pub record Log (Item Key Clause Sum : Type 0) : Type 0 where
  pub items : List Item
  pub keys : List Key
  pub clauses : List Clause
  pub summed : List Sum

module _ {Item Key Clause Sum : Type 0} (R : Rules Item Key Clause Sum) where
  -- Keys, clauses and sums are those of the items.
  pub record Body (l : Log Item Key Clause Sum) : Type 0 where
    pub defines : Serves R.pulls (flat_map R.lookups l.items) [] l.keys
    pub writes : l.clauses ≡ flat_map R.group l.items
    pub adds : l.summed ≡ flat_map R.sums l.keys

  -- And the items are those of the requests `xs`.
  pub record Written (xs : List Item) (l : Log Item Key Clause Sum) : Type 0 where
    pub serves : Serves R.needs xs [] l.items
    pub body : Body l

module _ {A B : Type 0} (f : A → List B) where
  pub flat_map_more : (v : List A) (x : A) (c : List B) → c ≡ flat_map f v → c ++ f x ≡ flat_map f (v ++ (x ∷ []))
  unfolding flat_map
  flat_map_more v x c e = rw (flat_map_append f v (x ∷ []), append-nil (f x), e)

module _ {Item Key : Type 0} {pulls : Key → List Key} (lookups : Item → List Key) where
  -- One item more: its lookups are served by the memo.
  pub defines_more : (v : List Item) (x : Item) {k k' : List Key} → Serves pulls (flat_map lookups v) [] k → Serves pulls (lookups x) k k'
      → Serves pulls (flat_map lookups (v ++ (x ∷ []))) [] k'
  unfolding flat_map
  defines_more v x p q = rw (flat_map_append lookups v (x ∷ []), append-nil (lookups x)) (serves_then p q)

module _ {Item Key Clause Sum : Type 0} {R : Rules Item Key Clause Sum} {xs : List Item} {l : Log Item Key Clause Sum} (w : Written R xs l) where
  -- A key is defined where an item of the closure looks it up, or one that pulls it in, and nowhere else; and once.
  pub defined_from : (k : Key) → Memᴰ k l.keys → (x : Item) × From R.needs xs x × From R.pulls (R.lookups x) k
  defined_from k m =
      let f = served_from w.body.defines k m in
      let i = of_flat_map R.lookups l.items f.1 in
      (i.0, served_from w.serves i.0 i.1, (f.0, i.2, f.2))

  pub defined_has : (k : Key) (x : Item) → From R.needs xs x → From R.pulls (R.lookups x) k → Memᴰ k l.keys
  defined_has k x f g = served_has w.body.defines k (g.0, mem_flat_map R.lookups (served_has w.serves x f) g.1, g.2)

  pub defined_once : Nodup l.keys
  defined_once = served_once w.body.defines

  -- A clause is written where it is in the group of an item of the closure, and nowhere else.
  pub wrote_from : (c : Clause) → Memᴰ c l.clauses → (x : Item) × From R.needs xs x × Memᴰ c (R.group x)
  wrote_from c m =
      let i = of_flat_map R.group l.items (subst (λ (cs : List Clause). Memᴰ c cs) w.body.writes m) in
      (i.0, served_from w.serves i.0 i.1, i.2)

  pub wrote_has : (c : Clause) (x : Item) → From R.needs xs x → Memᴰ c (R.group x) → Memᴰ c l.clauses
  wrote_has c x f m = rw w.body.writes (mem_flat_map R.group (served_has w.serves x f) m)

  -- No clause twice, where a group has none twice and two groups share none.
  pub wrote_once : ((x : Item) → From R.needs xs x → Nodup (R.group x))
      → ((x y : Item) (c : Clause) → From R.needs xs x → From R.needs xs y → Memᴰ c (R.group x) → Memᴰ c (R.group y) → x ≡ y)
      → Nodup l.clauses
  wrote_once inner apart =
      rw w.body.writes
      (nodup_flat_map R.group l.items (served_once w.serves) (λ x m. inner x (served_from w.serves x m))
      (λ x y c i j. apart x y c (served_from w.serves x i) (served_from w.serves y j)))

-- Two runs with the same set of requests.
module _ {Item Key Clause Sum : Type 0} {R : Rules Item Key Clause Sum} {xs ys : List Item} {l m : Log Item Key Clause Sum} (s : SameMembers xs ys)
    (p : Written R xs l) (q : Written R ys m) where
  pub items_perm : Perm l.items m.items
  items_perm = served_perm s p.serves q.serves

  pub clauses_perm : Perm l.clauses m.clauses
  clauses_perm = rw (p.body.writes, q.body.writes) (flat_map_perm R.group items_perm)

  pub keys_perm : Perm l.keys m.keys
  keys_perm = served_perm (same_flat_map R.lookups (served_same s p.serves q.serves)) p.body.defines q.body.defines

  pub sums_perm : Perm l.summed m.summed
  sums_perm = rw (p.body.adds, q.body.adds) (flat_map_perm R.sums keys_perm)

-- A player: any state from which the log is read and in which an item's own work moves it so.
module _ {Item Key Clause Sum S : Type 0} (R : Rules Item Key Clause Sum) (Good : Item → Type 0) (log : S → Log Item Key Clause Sum)
    (emit : Item → S → S) where
  pub record Works : Type 0 where
    pub item_added : (x : Item) (s : S) → (log (emit x s)).items ≡ (log s).items ++ (x ∷ [])
    pub keys_served : (x : Item) (s : S) → Good x → Serves R.pulls (R.lookups x) (log s).keys (log (emit x s)).keys
    pub clauses_added : (x : Item) (s : S) → (log (emit x s)).clauses ≡ (log s).clauses ++ R.group x
    pub sums_kept : (x : Item) (s : S) → Good x → (log s).summed ≡ flat_map R.sums (log s).keys
        → (log (emit x s)).summed ≡ flat_map R.sums (log (emit x s)).keys

module _ {Item Key Clause Sum S : Type 0} (dec : (x y : Item) → Dec (x ≡ y)) {R : Rules Item Key Clause Sum} {Good : Item → Type 0} {rank : Item → ℕ}
    (falls : Falls R.needs Good rank) {log : S → Log Item Key Clause Sum} {emit : Item → S → S} (law : Works R Good log emit) where
  emit_kept : (x : Item) (s : S) → Good x → Body R (log s) → Body R (log (emit x s))
  emit_kept x s g b = record {
    defines = rw (law.item_added x s) (defines_more R.lookups (log s).items x b.defines (law.keys_served x s g));
    writes = rw (law.item_added x s, law.clauses_added x s) (flat_map_more R.group (log s).items x (log s).clauses b.writes);
    adds = law.sums_kept x s g b.adds;
  }

  pub batch_kept : (xs : List Item) (k : ℕ) → Nodup xs → ((x : Item) → Memᴰ x xs → Good x) → ((x : Item) → Memᴰ x xs → rank x ≡ k)
      → (s : S) → Body R (log s) → Body R (log (batch dec R.needs rank (λ u. (log u).items) emit xs s))
  batch_kept xs k d g at s b =
      batch_keeps dec falls (λ u. (log u).items) emit law.item_added (λ (u : S). Body R (log u)) (λ y t h n e. emit_kept y t h) xs k d g at s b
