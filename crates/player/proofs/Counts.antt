-- Every command keeps the count: a step for each sum defined and for each clause.
use mathlib.Core.Path.{◌≡◌, refl, sym, ◌∙◌, ap, subst}
use mathlib.Core.Bool.{Bool, true, false}
use mathlib.Core.List.{List, [], ◌∷◌, ◌++◌}
use Prim.Native.Nat.{ℕ}
use native.Mathlib.Omega.{arith}
use lib.ListN.{length, length-append}
use Rattle.memo.proofs.Lists.{flat_map_agree}
use Rattle.record.specs.Record.{steps, deletion, clauses}
use Rattle.totdb.specs.Nodes.{Node, len, known, leaf, joined}
use Rattle.cert.specs.Counted.{KeyIn, CountedIn, Counted}
use Rattle.cert.specs.Definitions.{Key, defined_by}
use Rattle.cert.specs.State.{State, keys, start, serve, requests, Head, stored_steps}
use Rattle.cert.proofs.Apart.{sized_ok}
use Rattle.cert.proofs.Counts.{steps_append, defined_more, counted_start, counted_serve}
use Rattle.cert.proofs.Serving.{clauses_append}
use Rattle.player.specs.Formed.{Sound}
use Rattle.player.specs.Passes.{AllPassed, all_done, all_more}
use Rattle.player.specs.Player.{make, delete, first_no, questions, act}
use Rattle.player.specs.declared.Command.{Command}
use Rattle.player.proofs.Sound.{requests_asked, request_fits, serve_nodes, sound_act, sound_start}

key_more : (t u : List Node) (k : Key) → KeyIn t k → KeyIn (t ++ u) k
unfolding KeyIn
key_more t u k i = omega (arith, length-append t u)

pub counted_make : (h : Head) (a : Node) (n : ℕ) (s : State) → Counted h s → Counted h (make a n s)
unfolding make keys
counted_make h a n s c = record {
  next = c.next;
  keys_in = λ k m. key_more s.nodes (a ∷ []) k (c.keys_in k m);
  count = c.count ∙ rw
      (flat_map_agree {f = defined_by s.nodes} {g = defined_by (s.nodes ++ (a ∷ []))} (keys s)
      (λ k m. defined_more s.nodes (a ∷ []) k (c.keys_in k m)));
}

pub counted_delete : (h : Head) (s : State) → Counted h s → Counted h (delete s)
unfolding delete keys
counted_delete h s c =
    let ss = stored_steps s.nodes s.stored in
    record {
      next = omega (arith, c.next, steps_append s.log (deletion ss ∷ []), closing ss);
      keys_in = c.keys_in;
      count = omega (
        arith,
        c.count,
        steps_append s.log (deletion ss ∷ []),
        closing ss,
        ap length (clauses_append s.log (deletion ss ∷ [])),
        length-append (clauses s.log) (clauses (deletion ss ∷ [])),
        silent ss,
      );
    }
  where
    closing : (ss : List ℕ) → steps (deletion ss ∷ []) ≡ 0
    closing ss = unfold steps in refl

    silent : (ss : List ℕ) → length (clauses (deletion ss ∷ [])) ≡ 0
    silent ss = unfold clauses in refl

pub counted_act : (h : Head) (c : Command) (s : State) → first_no (questions h s.nodes c) ≡ 0 → Sound h s → Counted h s → Counted h (act c s)
unfolding act
counted_act h (Command.Leaf l) s q p k = by (known s.nodes l)
  where
    by : (b : Bool) → Counted h (elim b as (λ _. State) [ true ↦ s | false ↦ make (leaf l) 0 s ])
    by true = k
    by false = counted_make h (leaf l) 0 s k
counted_act h (Command.Join l r) s q p k =
    counted_make h (joined s.nodes s.next_variable l r) (len (joined s.nodes s.next_variable l r)) s k
counted_act h (Command.Request n v d) s q p k =
    let t = s.nodes in
    let ok = sized_ok t p.sized in
    let a = requests_asked t n v d (request_fits h t n v d q) in
    subst (λ (x : List Node). CountedIn h x (serve t (requests n v d) s)) (sym (serve_nodes t ok (requests n v d) a s).0)
    (counted_serve h t ok (requests n v d) a s k)
counted_act h Command.Close s q p k = counted_delete h s k

-- An invariant that each accepted command keeps holds after all.
pub all_keep : {h : Head} {capacity : ℕ} {cs : List Command} {s u : State} (R : State → Type 0)
    → ((c : Command) (s : State) → first_no (questions h s.nodes c) ≡ 0 → Sound h s → R s → R (act c s)) → AllPassed h capacity cs s u → Sound h s
    → R s → R u
all_keep R keep all_done p r = r
all_keep {h} R keep (all_more {c} {cs} {s} {u} {w} q a) p r =
    all_keep R keep a (subst (Sound h) q.after (sound_act h c s q.asked p)) (subst R q.after (keep c s q.asked p r))

pub all_counted : {h : Head} {capacity : ℕ} {cs : List Command} {u : State} → AllPassed h capacity cs (start h) u → Counted h u
all_counted {h} a = all_keep (Counted h) (counted_act h) a (sound_start h) (counted_start h)
