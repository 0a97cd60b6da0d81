-- Demand 3 over the records of two accepted scripts, and the set of clauses that each writes.
use mathlib.Core.Path.{◌≡◌, refl, sym, ◌∙◌, ap, subst}
use mathlib.Core.List.{List, [], flat_map, Memᴰ, Nodup, Perm}
use Prim.Native.Nat.{ℕ, ◌+◌}
use native.Mathlib.Omega.{arith}
use lib.ListN.{length}
use Rattle.memo.specs.Closure.{From, SameMembers}
use Rattle.memo.proofs.Grow.{empty, made, Run, run_written, Matched, runs_match}
use Rattle.memo.proofs.Lists.{flat_map_agree, flat_map_perm, length_perm}
use Rattle.memo.proofs.Memo.{Log, Written, wrote_from, wrote_has, wrote_once, defined_from, defined_has, defined_once}
use Rattle.memo.proofs.Serve.{reach_among, reach_good, served_from, served_has, served_once}
use Rattle.record.specs.Record.{clauses, steps}
use Rattle.totdb.specs.Nodes.{Node}
use Rattle.cert.specs.Definitions.{Key, defined_by}
use Rattle.cert.specs.Requests.{Request, request, needs, literals_of, Right}
use Rattle.cert.specs.Sized.{Sized}
use Rattle.cert.specs.State.{start, keys, State, Head}
use Rattle.cert.specs.Totalizer.{totalizer}
use Rattle.cert.proofs.Apart.{sized_ok, right_needs, numbered_apart, group_once, group_apart}
use Rattle.cert.proofs.Dependencies.{dependencies_needs}
use Rattle.cert.proofs.Lookups.{lookups_are}
use Rattle.cert.proofs.Rules.{counters, counters_grow}
use Rattle.cert.proofs.Schema.{clauses_schema}
use Rattle.cert.proofs.Serving.{view}
use Rattle.player.specs.Called.{Asked, Closure, Called, KeyCalled, table, build, makes}
use Rattle.player.specs.Formed.{Sound}
use Rattle.player.specs.Passes.{AllPassed}
use Rattle.player.specs.declared.Command.{Command}
use Rattle.player.proofs.Counts.{all_counted}
use Rattle.player.proofs.Runs.{asked, asked_from, asked_has, Ran, all_built, all_ran, build_makes}
use Rattle.player.proofs.Sound.{sound_start}

start_nodes : (h : Head) → (start h).nodes ≡ []
unfolding start
start_nodes h = refl

start_view : (h : Head) → view (start h) ≡ empty
unfolding start view keys clauses
start_view h = refl

start_built : (h : Head) (cs : List Command) → build cs (start h).nodes (start h).next_variable ≡ table h cs
unfolding start table
start_built h cs = refl

module _ (h : Head) (capacity : ℕ) (cs : List Command) (u : State) (all : AllPassed h capacity cs (start h) u) where
  ran : Ran cs (start h) u
  ran = (all_ran all (sound_start h)).0

  sound : Sound h u
  sound = (all_ran all (sound_start h)).1

  pub nodes_table : u.nodes ≡ table h cs
  nodes_table = all_built all (sound_start h) ∙ start_built h cs

  nodes_made : made ran.commands ≡ table h cs
  nodes_made = sym (ran.nodes ∙ rw (start_nodes h)) ∙ nodes_table

  run : Run counters ran.commands [] empty (view u)
  run = subst (λ (l : Log Request Key (List ℕ) ℕ). Run counters ran.commands [] l (view u)) (start_view h)
      (subst (λ (t : List Node). Run counters ran.commands t (view (start h)) (view u)) (start_nodes h) ran.run)

  ok : counters.Ok (made ran.commands)
  ok = rw nodes_made (rw nodes_table at (sized_ok u.nodes sound.sized))

  writes : Written (counters.rules (table h cs)) (asked cs) (view u)
  writes = rw (nodes_made, ran.wants) at (run_written counters_grow run ok)

  sized : Sized (table h cs)
  sized = rw nodes_table at sound.sized

  good : (a b : Request) → Right (table h cs) a → Memᴰ b (needs (table h cs) a) → Right (table h cs) b
  good = right_needs (table h cs) sized

  asked_right : (x : Request) → Memᴰ x (asked cs) → Right (table h cs) x
  asked_right x m = rw nodes_table at (ran.rights x m)

  -- The closure that the player serves is the document's.
  served_closure : (x : Request) → From (needs (table h cs)) (asked cs) x → Closure h cs x
  served_closure x f = (
    f.0,
    asked_from cs f.0 f.1,
    reach_among {Good = Right (table h cs)} good (λ a b g m. (dependencies_needs (table h cs) a g b).1 m) (asked_right f.0 f.1) f.2,
  )

  closure_served : (x : Request) → Closure h cs x → From (needs (table h cs)) (asked cs) x
  closure_served x f =
      let m = asked_has cs f.0 f.1 in (
        f.0,
        m,
        reach_among {Good = Right (table h cs)} (λ a b g k. good a b g ((dependencies_needs (table h cs) a g b).0 k))
            (λ a b g k. (dependencies_needs (table h cs) a g b).0 k) (asked_right f.0 m) f.2,
      )

  from_right : (x : Request) → From (needs (table h cs)) (asked cs) x → Right (table h cs) x
  from_right x f = reach_good {Good = Right (table h cs)} good (asked_right f.0 f.1) f.2

  -- The requests held are exactly those of the closure, each once, and the clauses are theirs, in that order.
  pub held_from : (x : Request) → Memᴰ x u.held → Closure h cs x
  unfolding view
  held_from x m = served_closure x (served_from writes.serves x m)

  pub held_has : (x : Request) → Closure h cs x → Memᴰ x u.held
  unfolding view
  held_has x f = served_has writes.serves x (closure_served x f)

  pub held_once : Nodup u.held
  unfolding view
  held_once = served_once writes.serves

  pub held_right : (x : Request) → Memᴰ x u.held → Right (table h cs) x
  unfolding view
  held_right x m = from_right x (served_from writes.serves x m)

  as_schema : (x : Request) → Right (table h cs) x → literals_of (table h cs) x ≡ totalizer (table h cs) x
  unfolding Right
  as_schema (request n v d) r = clauses_schema (table h cs) n v d r.1 r.2

  pub held_clauses : clauses u.log ≡ flat_map (totalizer (table h cs)) u.held
  unfolding view
  held_clauses = writes.body.writes ∙ flat_map_agree u.held (λ x m. as_schema x (held_right x m))

  -- The clauses are exactly those called for, each written once.
  pub clauses_from : (c : List ℕ) → Memᴰ c (clauses u.log) → Called h cs c
  unfolding view
  clauses_from c m =
      let f = wrote_from writes c m in
      (f.0, served_closure f.0 f.1, subst (Memᴰ c) (as_schema f.0 (from_right f.0 f.1)) f.2)

  pub clauses_has : (c : List ℕ) → Called h cs c → Memᴰ c (clauses u.log)
  unfolding view
  clauses_has c f =
      let g = closure_served f.0 f.1 in
      wrote_has writes c f.0 g (subst (Memᴰ c) (sym (as_schema f.0 (from_right f.0 g))) f.2)

  pub clauses_once : Nodup (clauses u.log)
  unfolding view
  clauses_once =
      let apart = numbered_apart h.variable (table h cs) (rw nodes_table at sound.numbered) in
      wrote_once writes (λ x f. group_once (table h cs) sized apart x (from_right x f))
      (λ x y c f g. group_apart (table h cs) apart x y c (from_right x f) (from_right y g))

  -- The keys stored are exactly those that the clauses' lookups need, each once.
  pub keys_from : (k : Key) → Memᴰ k (keys u) → KeyCalled h cs k
  unfolding view
  keys_from k m =
      let f = defined_from writes k m in
      (f.0, served_closure f.0 f.1, (lookups_are (table h cs) sized f.0 (from_right f.0 f.1) k).0 f.2)

  pub keys_has : (k : Key) → KeyCalled h cs k → Memᴰ k (keys u)
  unfolding view
  keys_has k f =
      let g = closure_served f.0 f.1 in
      defined_has writes k f.0 g ((lookups_are (table h cs) sized f.0 (from_right f.0 g) k).1 f.2)

  pub keys_once : Nodup (keys u)
  unfolding view
  keys_once = defined_once writes

  -- A step for each sum defined and for each clause.
  pub steps_count : steps u.log ≡ length (flat_map (defined_by (table h cs)) (keys u)) + length (clauses u.log)
  steps_count = subst (λ (t : List Node). steps u.log ≡ length (flat_map (defined_by t) (keys u)) + length (clauses u.log)) nodes_table
      (all_counted all).count

-- Two scripts with one head, the same leaf and join commands in the same order, and the same set of requests.
module _ (h : Head) (c d : ℕ) (cs es : List Command) (u w : State) (p : AllPassed h c cs (start h) u) (q : AllPassed h d es (start h) w)
    (same_makes : makes cs ≡ makes es) (same_asked : (x : Request) → (Asked cs x → Asked es x) × (Asked es x → Asked cs x)) where
  pub same_table : table h es ≡ table h cs
  unfolding table
  same_table = build_makes es [] h.variable ∙ ap (λ (l : List Command). build l [] h.variable) (sym same_makes)
      ∙ sym (build_makes cs [] h.variable)

  same_list : SameMembers (asked cs) (asked es)
  same_list x = (λ m. asked_has es x ((same_asked x).0 (asked_from cs x m)), λ m. asked_has cs x ((same_asked x).1 (asked_from es x m)))

  matched : Matched (view u) (view w)
  matched =
      runs_match counters_grow
      (nodes_made h d es w q ∙ same_table ∙ sym (nodes_made h c cs u p))
      (rw ((ran h c cs u p).wants, (ran h d es w q).wants) same_list)
      (ok h c cs u p) (run h c cs u p) (run h d es w q)

  pub same_clauses : Perm (clauses u.log) (clauses w.log)
  unfolding view
  same_clauses = matched.same_clauses

  pub same_keys : Perm (keys u) (keys w)
  unfolding view
  same_keys = matched.same_keys

  -- The same sums defined, each as often.
  pub same_sums : Perm (flat_map (defined_by (table h cs)) (keys u)) (flat_map (defined_by (table h es)) (keys w))
  same_sums = rw same_table (flat_map_perm (defined_by (table h cs)) same_keys)

  pub same_steps : steps u.log ≡ steps w.log
  same_steps = omega (arith, steps_count h c cs u p, steps_count h d es w q, length_perm same_clauses, length_perm same_sums)
