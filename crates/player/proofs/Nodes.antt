-- The nodes of an accepted script: which commands make them, and on which variables their outputs stand.
use mathlib.Core.Path.{◌≡◌, refl, sym, ◌∙◌, ap, subst}
use mathlib.Core.Bool.{Bool, true, false, ◌||◌}
use mathlib.Core.List.{List, [], ◌∷◌, ◌++◌, map, map-append, append-nil, append_assoc}
use Prim.Native.Nat.{ℕ, zero, suc, ◌+◌, ◌-◌, ◌*◌, ◌<◌}
use native.Mathlib.Decide.{ℕ_discrete}
use native.Mathlib.Omega.{arith}
use borrow.Author.Tests.{eqb-true}
use lib.Dec.{eqb}
use lib.ListN.{length, length-append}
use lib.Seq.{append_snoc}
use Rattle.pb.specs.Sum.{variable}
use Rattle.totdb.specs.Nodes.{Node, leaf, join, node_at, leaves, len, output, outputs, range, limited, plain_or, known, leaf_of, plain_over, plain_form, joined, side_len, side_outputs, side_leaves}
use Rattle.totdb.specs.declared.Side.{Side}
use Rattle.totdb.proofs.Sides.{whole_form, other_form}
use Rattle.cert.specs.State.{State, start, Head}
use Rattle.cert.specs.Sized.{Fit, Sized, Numbered}
use Rattle.player.specs.Formed.{Sound}
use Rattle.cert.proofs.Lookups.{window_or}
use Rattle.cert.proofs.Rules.{at_more}
use Rattle.cert.proofs.Tables.{any_snoc, length_snoc, at_last}
use Rattle.cert.proofs.WindowDerivations.{range_append}
use Rattle.player.specs.Accepted.{without, makers, join_outputs, join_lengths, SideIs, plain_side, to_the_end, to_the_limit, JoinsAs, as_plain, as_it_is, MakesNode, makes_leaf, makes_join, Pointwise, pointwise_nil, pointwise_cons, NodesOf}
use Rattle.player.specs.Called.{build, table}
use Rattle.player.specs.Passes.{AllPassed}
use Rattle.player.specs.declared.Command.{Command}
use Rattle.player.proofs.Matching.{nodes_table}
use Rattle.player.proofs.Runs.{build_known, build_new, all_ran}
use Rattle.player.proofs.Sound.{sound_start}

-- ---- the commands that make nodes

-- Of these commands, those that make a node after the table t.
unseen : List Node → List Command → List Command
unseen t [] = []
unseen t (Command.Leaf m ∷ cs) = elim (known t m) [ true ↦ unseen t cs | false ↦ Command.Leaf m ∷ unseen t cs ]
unseen t (Command.Join a b ∷ cs) = Command.Join a b ∷ unseen t cs
unseen t (Command.Request n v d ∷ cs) = Command.Request n v d ∷ unseen t cs
unseen t (Command.Close ∷ cs) = Command.Close ∷ unseen t cs

-- One command before two lists alike.
cons_same : (c : Command) {xs ys : List Command} → xs ≡ ys → c ∷ xs ≡ c ∷ ys
cons_same c e = ap {B = List Command} (λ (l : List Command). c ∷ l) e

abbrev pick_one : Bool → ℕ → List Command → List Command
pick_one b m cs = elim b as (λ _. List Command) [ true ↦ cs | false ↦ Command.Leaf m ∷ cs ]

unseen_pick : (t : List Node) (b : Bool) (m : ℕ) (cs : List Command) → unseen t (pick_one b m cs) ≡ pick_one (b || known t m) m (unseen t cs)
unfolding unseen
unseen_pick t true m cs = refl
unseen_pick t false m cs = refl

-- A literal is left out of the commands, and those known to t are left out then: all that u knows are.
unseen_without : (l : ℕ) (t u : List Node) → ((m : ℕ) → (eqb m l || known t m) ≡ known u m) → (cs : List Command)
    → unseen t (without l cs) ≡ unseen u cs
unfolding unseen without
unseen_without l t u h [] = refl
unseen_without l t u h (Command.Leaf m ∷ cs) =
    unseen_pick t (eqb m l) m (without l cs) ∙ ap (λ (b : Bool). pick_one b m (unseen t (without l cs))) (h m)
    ∙ ap (pick_one (known u m) m) (unseen_without l t u h cs)
unseen_without l t u h (Command.Join a b ∷ cs) = cons_same (Command.Join a b) (unseen_without l t u h cs)
unseen_without l t u h (Command.Request n v d ∷ cs) = cons_same (Command.Request n v d) (unseen_without l t u h cs)
unseen_without l t u h (Command.Close ∷ cs) = cons_same Command.Close (unseen_without l t u h cs)

unseen_same : (t u : List Node) → ((m : ℕ) → known t m ≡ known u m) → (cs : List Command) → unseen t cs ≡ unseen u cs
unfolding unseen
unseen_same t u h [] = refl
unseen_same t u h (Command.Leaf m ∷ cs) =
    ap (λ (b : Bool). pick_one b m (unseen t cs)) (h m) ∙ ap (pick_one (known u m) m) (unseen_same t u h cs)
unseen_same t u h (Command.Join a b ∷ cs) = cons_same (Command.Join a b) (unseen_same t u h cs)
unseen_same t u h (Command.Request n v d ∷ cs) = cons_same (Command.Request n v d) (unseen_same t u h cs)
unseen_same t u h (Command.Close ∷ cs) = cons_same Command.Close (unseen_same t u h cs)

unseen_nil : (cs : List Command) → unseen [] cs ≡ cs
unfolding unseen known
unseen_nil [] = refl
unseen_nil (Command.Leaf m ∷ cs) = cons_same (Command.Leaf m) (unseen_nil cs)
unseen_nil (Command.Join a b ∷ cs) = cons_same (Command.Join a b) (unseen_nil cs)
unseen_nil (Command.Request n v d ∷ cs) = cons_same (Command.Request n v d) (unseen_nil cs)
unseen_nil (Command.Close ∷ cs) = cons_same Command.Close (unseen_nil cs)

-- What a table knows with a literal that it knows, with a new leaf, with a join.
known_again : (t : List Node) (l : ℕ) → known t l ≡ true → (m : ℕ) → (eqb m l || known t m) ≡ known t m
known_again t l e m = by (eqb m l) refl
  where
    by : (b : Bool) → eqb m l ≡ b → (b || known t m) ≡ known t m
    by false f = refl
    by true f = let z : m ≡ l = eqb-true m l f in rw z (sym e)

or_swap : (a b : Bool) → (a || b) ≡ (b || a)
or_swap true true = refl
or_swap true false = refl
or_swap false true = refl
or_swap false false = refl

known_leaf : (t : List Node) (l m : ℕ) → (eqb m l || known t m) ≡ known (t ++ (leaf l ∷ [])) m
unfolding known leaf_of
known_leaf t l m = or_swap (eqb m l) (known t m) ∙ sym (any_snoc (leaf_of m) t (leaf l))

known_join : (t : List Node) (ls : List ℕ) (o : ℕ) (l r : Side) (m : ℕ) → known (t ++ (join ls o l r ∷ [])) m ≡ known t m
unfolding known leaf_of
known_join t ls o l r m = any_snoc (leaf_of m) t (join ls o l r) ∙ or_swap (known t m) false

-- Nodes are added at the end.
build_grown : (cs : List Command) (t : List Node) (o : ℕ) → (u : List Node) × (build cs t o ≡ t ++ u)
unfolding build
build_grown [] t o = ([], sym (append-nil t))
build_grown (Command.Leaf l ∷ cs) t o = by (known t l) refl (build_grown cs t o) (build_grown cs (t ++ (leaf l ∷ [])) o)
  where
    by : (b : Bool) → known t l ≡ b → (u : List Node) × (build cs t o ≡ t ++ u) → (u : List Node) × (build cs (t ++ (leaf l ∷ [])) o ≡ (t ++ (leaf l ∷ [])) ++ u)
        → (u : List Node) × (build (Command.Leaf l ∷ cs) t o ≡ t ++ u)
    by true e f g = (f.0, build_known l cs t o e ∙ f.1)
    by false e f g = (leaf l ∷ g.0, build_new l cs t o e ∙ g.1 ∙ append_snoc t (leaf l) g.0)
build_grown (Command.Join l r ∷ cs) t o =
    let j = joined t o l r in
    let g = build_grown cs (t ++ (j ∷ [])) (o + len j) in
    (j ∷ g.0, g.1 ∙ append_snoc t j g.0)
build_grown (Command.Request n v d ∷ cs) t o = build_grown cs t o
build_grown (Command.Close ∷ cs) t o = build_grown cs t o

-- A node of a table is the same in a longer one.
pub node_kept : (cs : List Command) (t : List Node) (o : ℕ) {u : List Node} → u ≡ build cs t o → (n : ℕ) → n < length t → node_at u n ≡ node_at t n
node_kept cs t o {u} e n h =
    let g = build_grown cs t o in
    ap (λ (x : List Node). node_at x n) (e ∙ g.1) ∙ sym (at_more t g.0 n h)

-- So is the plain form of a side over it.
plain_kept : (cs : List Command) (t : List Node) (o : ℕ) {u : List Node} → u ≡ build cs t o → (s : Side) → s.node < length t
    → plain_form u s ≡ plain_form t s
plain_kept cs t o e s h = ap (λ (x : Node). plain_over s (len x)) (node_kept cs t o e s.node h)

-- What a side joins as.
joins_as : (t : List Node) (s : Side) → JoinsAs t s (plain_form t s)
joins_as t s = by (ℕ_discrete s.offset 0) (ℕ_discrete s.limit (len (node_at t s.node)))
  where
    by : Dec (s.offset ≡ 0) → Dec (s.limit ≡ len (node_at t s.node)) → JoinsAs t s (plain_form t s)
    by (yes p) (yes q) = rw (whole_form s (len (node_at t s.node)) p q) (as_plain (omega (arith, p)) (omega (arith, q)))
    by (yes p) (no q) = rw (other_form s (len (node_at t s.node)) (λ z. q z.1)) (as_it_is (λ z. q z.1))
    by (no p) d = rw (other_form s (len (node_at t s.node)) (λ z. p z.0)) (as_it_is (λ z. p z.0))

-- The node of a join, in the table u that it and the commands after it make.
module _ (u : List Node) (ok : Sized u) (cs : List Command) (t : List Node) (o : ℕ) (l r : Side) (b : u ≡ build (Command.Join l r ∷ cs) t o) where
  below : (l.node < length t) × (r.node < length t)
  unfolding build Sized Fit joined
  below =
      let j : Node = joined t o l r in
      let with_join : List Node = t ++ (joined t o l r ∷ []) in
      let long : length t < length with_join = omega (arith, length_snoc t j) in
      let is : node_at u (length t) ≡ joined t o l r = node_kept cs with_join (o + len j) b (length t) long ∙ at_last t j in
      let g = build_grown cs with_join (o + len j) in
      let there : length t < length u = rw (b ∙ g.1) (omega (arith, long, length-append with_join g.0)) in
      let f : Fit u (length t) (joined t o l r) = subst (Fit u (length t)) is (ok (length t) there) in
      (f.0, f.1)

  join_made : MakesNode u (Command.Join l r) (joined t o l r)
  unfolding joined
  join_made =
      makes_join (subst (JoinsAs u l) (plain_kept (Command.Join l r ∷ cs) t o b l below.0) (joins_as u l))
      (subst (JoinsAs u r) (plain_kept (Command.Join l r ∷ cs) t o b r below.1) (joins_as u r))

-- Each of the commands that makes a node after the table t makes the next; u is the table that all of them make.
abbrev MadeAfter : List Node → List Node → List Command → Type 0
MadeAfter u t cs = (new : List Node) × (u ≡ t ++ new) × Pointwise (MakesNode u) (unseen t (makers cs)) new

build_made : (u : List Node) → Sized u → (cs : List Command) (t : List Node) (o : ℕ) → u ≡ build cs t o → MadeAfter u t cs
unfolding makers unseen build
build_made u ok [] t o b = ([], b ∙ sym (append-nil t), pointwise_nil)
build_made u ok (Command.Leaf l ∷ cs) t o b = by (known t l) refl (build_made u ok cs t o) (build_made u ok cs (t ++ (leaf l ∷ [])) o)
  where
    by : (k : Bool) → known t l ≡ k → (u ≡ build cs t o → MadeAfter u t cs)
        → (u ≡ build cs (t ++ (leaf l ∷ [])) o → MadeAfter u (t ++ (leaf l ∷ [])) cs)
        → (new : List Node) × (u ≡ t ++ new) × Pointwise (MakesNode u) (pick_one (known t l) l (unseen t (without l (makers cs)))) new
    by true e f g =
        let m = f (b ∙ build_known l cs t o e) in
        (m.0, m.1, rw (e, unseen_without l t t (known_again t l e) (makers cs)) m.2)
    by false e f g =
        let m = g (b ∙ build_new l cs t o e) in (
          leaf l ∷ m.0,
          m.1 ∙ append_snoc t (leaf l) m.0,
          rw (e, unseen_without l t (t ++ (leaf l ∷ [])) (known_leaf t l) (makers cs)) (pointwise_cons makes_leaf m.2),
        )
build_made u ok (Command.Join l r ∷ cs) t o b =
    let j : Node = joined t o l r in
    let with_join : List Node = t ++ (joined t o l r ∷ []) in
    let m = build_made u ok cs with_join (o + len j) b in (
      j ∷ m.0,
      m.1 ∙ append_snoc t j m.0,
      pointwise_cons (join_made u ok cs t o l r b) (subst (λ (x : List Command). Pointwise (MakesNode u) x m.0) (unseen_same with_join t (unfold joined in known_join t _ o _ _) (makers cs)) m.2),
    )
build_made u ok (Command.Request n v d ∷ cs) t o b = build_made u ok cs t o b
build_made u ok (Command.Close ∷ cs) t o b = build_made u ok cs t o b

-- ---- outputs

-- The joins of t stand on the variables from v up, one after the other.
abbrev Stands : ℕ → List Node → Type 0
Stands v t = join_outputs t ≡ map (λ (v : ℕ). 2 * v) (range v (join_lengths t))

outputs_leaf : (t : List Node) (l : ℕ) → join_outputs (t ++ (leaf l ∷ [])) ≡ join_outputs t
unfolding join_outputs
outputs_leaf [] l = refl
outputs_leaf (leaf m ∷ t) l = outputs_leaf t l
outputs_leaf (join ls o a b ∷ t) l = ap (λ (x : List ℕ). map (output (join ls o a b)) (range 1 (length ls)) ++ x) (outputs_leaf t l)

outputs_join : (t : List Node) (ls : List ℕ) (o : ℕ) (l r : Side)
    → join_outputs (t ++ (join ls o l r ∷ [])) ≡ join_outputs t ++ map (output (join ls o l r)) (range 1 (length ls))
unfolding join_outputs
outputs_join [] ls o l r = append-nil (map (output (join ls o l r)) (range 1 (length ls)))
outputs_join (leaf m ∷ t) ls o l r = outputs_join t ls o l r
outputs_join (join ms p a b ∷ t) ls o l r =
    ap (λ (x : List ℕ). map (output (join ms p a b)) (range 1 (length ms)) ++ x) (outputs_join t ls o l r)
    ∙ sym (append_assoc (map (output (join ms p a b)) (range 1 (length ms))) (join_outputs t) (map (output (join ls o l r)) (range 1 (length ls))))

lengths_leaf : (t : List Node) (l : ℕ) → join_lengths (t ++ (leaf l ∷ [])) ≡ join_lengths t
unfolding join_lengths
lengths_leaf [] l = refl
lengths_leaf (leaf m ∷ t) l = lengths_leaf t l
lengths_leaf (join ls o a b ∷ t) l = ap (λ (n : ℕ). length ls + n) (lengths_leaf t l)

lengths_join : (t : List Node) (ls : List ℕ) (o : ℕ) (l r : Side) → join_lengths (t ++ (join ls o l r ∷ [])) ≡ join_lengths t + length ls
unfolding join_lengths
lengths_join [] ls o l r = omega arith
lengths_join (leaf m ∷ t) ls o l r = lengths_join t ls o l r
lengths_join (join ms p a b ∷ t) ls o l r = omega (arith, lengths_join t ls o l r)

outputs_from : (ls : List ℕ) (o : ℕ) (l r : Side) (i n : ℕ)
    → map (output (join ls o l r)) (range (i + 1) n) ≡ map (λ (v : ℕ). 2 * v) (range (o + i) n)
unfolding range output
outputs_from ls o l r i zero = refl
outputs_from ls o l r i (suc n) =
    let e : o + (i + 1) - 1 ≡ o + i = omega arith in
    let f : suc (i + 1) ≡ suc i + 1 = omega arith in
    let g : o + suc i ≡ suc (o + i) = omega arith in
    rw (e, f) (ap {B = List ℕ} (λ (x : List ℕ). 2 * (o + i) ∷ x) (outputs_from ls o l r (suc i) n ∙ rw g))

-- They do, and o is the next.
record Stand (v : ℕ) (t : List Node) (o : ℕ) : Type 0 where
  on : Stands v t
  next : o ≡ v + join_lengths t

stand_leaf : (v : ℕ) (t : List Node) (o l : ℕ) → Stand v t o → Stand v (t ++ (leaf l ∷ [])) o
stand_leaf v t o l k = record { on = outputs_leaf t l ∙ k.on ∙ rw (lengths_leaf t l); next = rw (lengths_leaf t l) k.next }

stand_join : (v : ℕ) (t : List Node) (o : ℕ) (ls : List ℕ) (l r : Side) → Stand v t o → Stand v (t ++ (join ls o l r ∷ [])) (o + length ls)
stand_join v t o ls l r k = record {
  on = outputs_join t ls o l r ∙ rw (k.on, lengths_join t ls o l r, range_append v (join_lengths t) (length ls))
      (rw (map-append (λ (v : ℕ). 2 * v) (range v (join_lengths t)) (range (v + join_lengths t) (length ls)))
      (ap (λ (x : List ℕ). map (λ (v : ℕ). 2 * v) (range v (join_lengths t)) ++ x) here));
  next = omega (arith, k.next, lengths_join t ls o l r);
}
  where
    here : map (output (join ls o l r)) (range 1 (length ls)) ≡ map (λ (v : ℕ). 2 * v) (range (v + join_lengths t) (length ls))
    here = outputs_from ls o l r 0 (length ls) ∙ ap (λ (n : ℕ). map (λ (v : ℕ). 2 * v) (range n (length ls))) (omega (arith, k.next))

build_stand : (v : ℕ) (cs : List Command) (t : List Node) (o : ℕ) → Stand v t o → Stands v (build cs t o)
unfolding build
build_stand v [] t o k = k.on
build_stand v (Command.Leaf l ∷ cs) t o k = by (known t l) refl (build_stand v cs t o k) (build_stand v cs (t ++ (leaf l ∷ [])) o (stand_leaf v t o l k))
  where
    by : (b : Bool) → known t l ≡ b → Stands v (build cs t o) → Stands v (build cs (t ++ (leaf l ∷ [])) o) → Stands v (build (Command.Leaf l ∷ cs) t o)
    by true e f g = subst (Stands v) (sym (build_known l cs t o e)) f
    by false e f g = subst (Stands v) (sym (build_new l cs t o e)) g
build_stand v (Command.Join l r ∷ cs) t o k =
    build_stand v cs (t ++ (joined t o l r ∷ [])) (o + len (joined t o l r))
    (unfold joined len leaves in stand_join v t o _ _ _ k)
build_stand v (Command.Request n w d ∷ cs) t o k = build_stand v cs t o k
build_stand v (Command.Close ∷ cs) t o k = build_stand v cs t o k

-- ---- sides

side_outputs_lem : (t : List Node) (s : Side) (n : ℕ) → side_len t s ≡ n → side_outputs t s ≡ map (output (node_at t s.node)) (range (s.offset + 1) n)
unfolding side_outputs outputs
side_outputs_lem t s n a = ap {B = List ℕ} (λ (m : ℕ). map {B = ℕ} (output (node_at t s.node)) (range (s.offset + 1) m)) a

side_of_lem : (t : List Node) (s : Side) → SideIs t s (side_len t s) (side_leaves t s)
side_of_lem t s = by s.offset s.limit refl refl
  where
    by : (f k : ℕ) → s.offset ≡ f → s.limit ≡ k → SideIs t s (side_len t s) (side_leaves t s)
    by zero zero e g =
        let a : side_len t s ≡ len (node_at t s.node) = unfold side_len in rw (e, g) (unfold limited in omega arith) in
        let b : side_leaves t s ≡ leaves (node_at t s.node) = unfold side_leaves in rw (e, g) (unfold plain_or in refl) in
        rw (a, b) (plain_side e g)
    by (suc f) zero e g =
        let a : side_len t s ≡ len (node_at t s.node) - s.offset = unfold side_len in rw g (unfold limited in refl) in
        let b : side_leaves t s ≡ side_outputs t s = unfold side_leaves in rw (e, g) (unfold plain_or in refl) in
        let c = side_outputs_lem t s (len (node_at t s.node) - s.offset) a in
        rw (a, b, c) (to_the_end (omega arith) g)
    by f (suc k) e g =
        let a : side_len t s ≡ s.limit = unfold side_len in rw g (unfold limited in refl) in
        let b : side_leaves t s ≡ side_outputs t s = unfold side_leaves in window_or s.offset s.limit (leaves (node_at t s.node)) (side_outputs t s) (omega arith) in
        let c = side_outputs_lem t s s.limit a in
        rw (a, b, c) (to_the_limit (omega arith))

-- ---- all of it

pub nodes_of_lem : (h : Head) (capacity : ℕ) (cs : List Command) (u : State) → AllPassed h capacity cs (start h) u → NodesOf h cs (table h cs)
nodes_of_lem h capacity cs u a = record {
  made_by = made_all;
  leaves_low = λ n l i e. low l (numbered.leaf_low n l i e);
  leaves_own = λ l. unfold leaves output in (refl, refl);
  sides = side_of_lem (table h cs);
  lengths = λ n ls o l r i e. unfold Fit in (subst (Fit (table h cs) n) e (sized n i)).5;
  leaf_lists = λ n ls o l r i e. unfold Fit in (subst (Fit (table h cs) n) e (sized n i)).6;
  outputs_next = unfold table in build_stand h.variable cs [] h.variable
      (unfold join_outputs join_lengths range in record { on = refl; next = omega arith });
}
  where
    sound : Sound h u
    sound = (all_ran a (sound_start h)).1

    numbered : Numbered h.variable (table h cs)
    numbered = rw (nodes_table h capacity cs u a) at sound.numbered

    sized : (n : ℕ) → n < length (table h cs) → Fit (table h cs) n (node_at (table h cs) n)
    sized = unfold Sized in rw (nodes_table h capacity cs u a) at sound.sized

    made_all : Pointwise (MakesNode (table h cs)) (makers cs) (table h cs)
    made_all =
        let m = build_made (table h cs) (unfold Sized in sized) cs [] h.variable (unfold table in refl) in
        subst (λ (x : List Command). Pointwise (MakesNode (table h cs)) x (table h cs)) (unseen_nil (makers cs))
        (subst (Pointwise (MakesNode (table h cs)) (unseen [] (makers cs))) (sym m.1) m.2)

    low : (l : ℕ) → l < 2 * h.variable → variable l < h.variable
    low l k = unfold variable in omega arith
