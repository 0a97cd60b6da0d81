-- Nodes are made between the requests. The rules of an item or a key depend on the nodes there are, and later nodes do not change them.
-- So a script in which both alternate is one over the final nodes, and two scripts that make the same nodes and want the same items match.
use mathlib.Core.Path.{◌≡◌, refl, ◌∙◌}
use mathlib.Core.List.Memᴰ
use mathlib.Core.List.{List, [], ◌∷◌, ◌++◌, flat_map, Memᴰ, Perm}
use lib.Seq.{append_snoc}
use Rattle.memo.specs.Closure.{SameMembers}
use Rattle.memo.proofs.Lists.{flat_map_agree, of_flat_map}
use Rattle.memo.proofs.Memo.{Rules, Log, Body, Written, items_perm, clauses_perm, keys_perm, sums_perm}
use Rattle.memo.proofs.Serve.{Serves, serves_agree, served_good, serves_nil, serves_then}

pub record World (Node Item Key Clause Sum : Type 0) : Type 1 where
  pub rules : List Node → Rules Item Key Clause Sum
  -- Which lists of nodes are well made, which items these nodes have, and which keys.
  pub Ok : List Node → Type 0
  pub In : List Node → Item → Type 0
  pub KeyIn : List Node → Key → Type 0

module _ {Node Item Key Clause Sum : Type 0} (W : World Node Item Key Clause Sum) where
  pub record Grows : Type 0 where
    pub ok_less : (t u : List Node) → W.Ok (t ++ u) → W.Ok t
    pub in_more : (t u : List Node) (x : Item) → W.In t x → W.In (t ++ u) x
    pub needs_in : (t : List Node) → W.Ok t → (x y : Item) → W.In t x → Memᴰ y ((W.rules t).needs x) → W.In t y
    pub lookups_in : (t : List Node) → W.Ok t → (x : Item) (k : Key) → W.In t x → Memᴰ k ((W.rules t).lookups x) → W.KeyIn t k
    pub pulls_in : (t : List Node) → W.Ok t → (k j : Key) → W.KeyIn t k → Memᴰ j ((W.rules t).pulls k) → W.KeyIn t j
    pub needs_more : (t u : List Node) → W.Ok t → (x : Item) → W.In t x → (W.rules t).needs x ≡ (W.rules (t ++ u)).needs x
    pub lookups_more : (t u : List Node) → W.Ok t → (x : Item) → W.In t x → (W.rules t).lookups x ≡ (W.rules (t ++ u)).lookups x
    pub group_more : (t u : List Node) → W.Ok t → (x : Item) → W.In t x → (W.rules t).group x ≡ (W.rules (t ++ u)).group x
    pub pulls_more : (t u : List Node) → W.Ok t → (k : Key) → W.KeyIn t k → (W.rules t).pulls k ≡ (W.rules (t ++ u)).pulls k
    pub sums_more : (t u : List Node) → W.Ok t → (k : Key) → W.KeyIn t k → (W.rules t).sums k ≡ (W.rules (t ++ u)).sums k

abbrev pub empty : {Item Key Clause Sum : Type 0} → Log Item Key Clause Sum
empty = record { items = []; keys = []; clauses = []; summed = [] }

-- A command makes a node or wants items. A request in both directions wants two items at once.
pub data Cmd (Node Item : Type 0) : Type 0 where
  make : Node → Cmd Node Item
  want : List Item → Cmd Node Item

unfoldable pub made : {Node Item : Type 0} → List (Cmd Node Item) → List Node
made [] = []
made (make n ∷ cs) = n ∷ made cs
made (want xs ∷ cs) = made cs

unfoldable pub wanted : {Node Item : Type 0} → List (Cmd Node Item) → List Item
wanted [] = []
wanted (make n ∷ cs) = wanted cs
wanted (want xs ∷ cs) = xs ++ wanted cs

module _ {Node Item Key Clause Sum : Type 0} (W : World Node Item Key Clause Sum) where
  -- The log speaks of items that there are, and has their definitions and clauses.
  pub record Kept (t : List Node) (l : Log Item Key Clause Sum) : Type 0 where
    pub there : (x : Item) → Memᴰ x l.items → W.In t x
    pub body : Body (W.rules t) l

  -- A request among the nodes `t`.
  pub record Step (t : List Node) (xs : List Item) (l m : Log Item Key Clause Sum) : Type 0 where
    pub asked : (x : Item) → Memᴰ x xs → W.In t x
    pub served : Serves (W.rules t).needs xs l.items m.items
    pub filled : Body (W.rules t) l → Body (W.rules t) m

  -- A script from the nodes `t` and the log `l` to the log `m`.
  pub data Run : List (Cmd Node Item) → List Node → Log Item Key Clause Sum → Log Item Key Clause Sum → Type 0 where
    run_done : {t : List Node} {l : Log Item Key Clause Sum} → Run [] t l l
    run_make : {cs : List (Cmd Node Item)} {t : List Node} {l m : Log Item Key Clause Sum} {n : Node} → Run cs (t ++ (n ∷ [])) l m
        → Run (make n ∷ cs) t l m
    run_want : {cs : List (Cmd Node Item)} {t : List Node} {l k m : Log Item Key Clause Sum} {xs : List Item} → Step t xs l k → Run cs t k m
        → Run (want xs ∷ cs) t l m

-- What two logs share.
pub record Matched {Item Key Clause Sum : Type 0} (l m : Log Item Key Clause Sum) : Type 0 where
  pub same_items : Perm l.items m.items
  pub same_clauses : Perm l.clauses m.clauses
  pub same_keys : Perm l.keys m.keys
  pub same_sums : Perm l.summed m.summed

module _ {Node Item Key Clause Sum : Type 0} {W : World Node Item Key Clause Sum} (law : Grows W) where
  pub kept_more : (t u : List Node) (l : Log Item Key Clause Sum) → W.Ok t → Kept W t l → Kept W (t ++ u) l
  kept_more t u l ok k = record {
    there = λ x m. law.in_more t u x (k.there x m);
    body = record {
      defines =
          rw (← flat_map_agree {f = (W.rules t).lookups} {g = (W.rules (t ++ u)).lookups} l.items
          (λ x m. law.lookups_more t u ok x (k.there x m)))
          (serves_agree {Good = W.KeyIn t} (law.pulls_in t ok) (law.pulls_more t u ok) (λ x m. absurd (Memᴰ.not-nil m)) looked
          k.body.defines);
      writes = k.body.writes ∙ flat_map_agree l.items (λ x m. law.group_more t u ok x (k.there x m));
      adds = k.body.adds
          ∙ flat_map_agree l.keys
          (λ j m. law.sums_more t u ok j
          (served_good {Good = W.KeyIn t} (law.pulls_in t ok) (λ x i. absurd (Memᴰ.not-nil i)) looked k.body.defines j m));
    };
  }
    where
      looked : (j : Key) → Memᴰ j (flat_map (W.rules t).lookups l.items) → W.KeyIn t j
      looked j m = let i = of_flat_map (W.rules t).lookups l.items m in law.lookups_in t ok i.0 j (k.there i.0 i.1) i.2

  pub step_kept : (t : List Node) (xs : List Item) (l m : Log Item Key Clause Sum) → W.Ok t → Step W t xs l m → Kept W t l → Kept W t m
  step_kept t xs l m ok s k = record {
    there = served_good {Good = W.In t} (law.needs_in t ok) k.there s.asked s.served;
    body = s.filled k.body;
  }

  -- A script is a run over the final nodes.
  pub run_final : {cs : List (Cmd Node Item)} {t : List Node} {l m : Log Item Key Clause Sum} → Run W cs t l m → W.Ok (t ++ made cs) → Kept W t l
      → Serves (W.rules (t ++ made cs)).needs (wanted cs) l.items m.items × Kept W (t ++ made cs) m
  unfolding made wanted
  run_final (run_done {t} {l}) ok k = (serves_nil, kept_more t [] l (law.ok_less t [] ok) k)
  run_final (run_make {cs} {t} {l} {m} {n} r) ok k =
      rw (← append_snoc t n (made cs))
      (run_final r (rw append_snoc ok) (kept_more t (n ∷ []) l (law.ok_less t (n ∷ made cs) ok) k))
  run_final (run_want {cs} {t} {l} {k = j} {m} {xs} s r) ok k =
      let okt : W.Ok t = law.ok_less t (made cs) ok in
      let i = run_final r ok (step_kept t xs l j okt s k) in (
        serves_then (serves_agree {Good = W.In t} (law.needs_in t okt) (law.needs_more t (made cs) okt) k.there s.asked s.served) i.0,
        i.1,
      )

  pub run_written : {cs : List (Cmd Node Item)} {m : Log Item Key Clause Sum} → Run W cs [] empty m → W.Ok (made cs)
      → Written (W.rules (made cs)) (wanted cs) m
  unfolding flat_map
  run_written r ok =
      let i = run_final r ok
      (record { there = λ x m. absurd (Memᴰ.not-nil m); body = record { defines = serves_nil; writes = refl; adds = refl } }) in
      record { serves = i.0; body = i.1.body }

  -- Two scripts that make the same nodes and want the same items, in any order and place and however often.
  pub runs_match : {cs ds : List (Cmd Node Item)} {l m : Log Item Key Clause Sum} → made ds ≡ made cs → SameMembers (wanted cs) (wanted ds) → W.Ok (made cs)
      → Run W cs [] empty l → Run W ds [] empty m → Matched l m
  runs_match {cs} {ds} {l} {m} nodes same ok p q =
      let a = run_written p ok in
      let b : Written (W.rules (made cs)) (wanted ds) m = rw nodes at (run_written q (rw nodes ok)) in
      record {
        same_items = items_perm same a b;
        same_clauses = clauses_perm same a b;
        same_keys = keys_perm same a b;
        same_sums = sums_perm same a b;
      }
