-- An accepted script is a run, as crate `memo` has it, over its table: the leaf and join commands make the nodes, the requests want theirs.
use mathlib.Core.Path.{◌≡◌, refl, sym, ◌∙◌, ap, subst}
use mathlib.Core.Bool.{Bool, true, false}
use mathlib.Core.Logic.{⊎_elim}
use mathlib.Core.List.Memᴰ
use mathlib.Core.List.{List, [], ◌∷◌, ◌++◌, append-nil, Memᴰ}
use Prim.Native.Nat.{ℕ, zero, suc, ◌+◌}
use native.Mathlib.Omega.{arith}
use lib.ListN.{length}
use lib.Seq.{append_snoc}
use Rattle.memo.proofs.Grow.{Cmd, Run, made, wanted, run_make, want, run_want, run_done}
use Rattle.memo.proofs.Memo.{Log}
use Rattle.record.specs.Record.{clauses, deletion}
use Rattle.totdb.specs.Nodes.{Node, known, joined, len, leaf}
use Rattle.totdb.specs.declared.Side.{Side}
use Rattle.cert.specs.Definitions.{Key}
use Rattle.cert.specs.Requests.{Request, Names, Right}
use Rattle.cert.specs.State.{requests, State, keys, serve, Head, stored_steps}
use Rattle.cert.proofs.Apart.{sized_ok}
use Rattle.cert.proofs.Names.{requests_from, requests_has}
use Rattle.cert.proofs.Rules.{counters}
use Rattle.cert.proofs.Serving.{view, clauses_append, serve_step}
use Rattle.cert.proofs.Tables.{right_more}
use Rattle.player.specs.Called.{makes, Asked, build}
use Rattle.player.specs.Formed.{Sound}
use Rattle.player.specs.Passes.{Passed, AllPassed, all_done, all_more}
use Rattle.player.specs.Player.{plays, outcome, play, Result, refused, accepted, make, delete, first_no, questions, act}
use Rattle.player.specs.declared.Command.{Command}
use Rattle.player.proofs.Plays.{play_fits, plays_done, outcome_number, plays_ended, play_refused, plays_refused, plays_accepted, play_passed}
use Rattle.player.proofs.Sound.{RequestFits, requests_asked, serve_nodes, requests_right, request_fits, sound_act}

pub build_makes : (cs : List Command) (t : List Node) (o : ℕ) → build cs t o ≡ build (makes cs) t o
unfolding build makes
build_makes [] t o = refl
build_makes (Command.Leaf l ∷ cs) t o = by (known t l) refl (build_makes cs t o) (build_makes cs (t ++ (leaf l ∷ [])) o)
  where
    by : (b : Bool) → known t l ≡ b → build cs t o ≡ build (makes cs) t o → build cs (t ++ (leaf l ∷ [])) o ≡ build (makes cs) (t ++ (leaf l ∷ [])) o
        → build (Command.Leaf l ∷ cs) t o ≡ build (Command.Leaf l ∷ makes cs) t o
    by true e f g = rw (e, build) f
    by false e f g = rw (e, build) g
build_makes (Command.Join l r ∷ cs) t o = build_makes cs _ _
build_makes (Command.Request n v d ∷ cs) t o = build_makes cs t o
build_makes (Command.Close ∷ cs) t o = build_makes cs t o

-- ---- the requests named, as a list

unfoldable pub asked : List Command → List Request
unfolding requests
asked [] = []
asked (Command.Leaf l ∷ cs) = asked cs
asked (Command.Join l r ∷ cs) = asked cs
asked (Command.Request n v d ∷ cs) = requests n v d ++ asked cs
asked (Command.Close ∷ cs) = asked cs

later : {c : Command} {cs : List Command} {x : Request} → Asked cs x → Asked (c ∷ cs) x
later (n, v, d, m, k) = (n, v, d, Memᴰ.tail m, k)

pub asked_from : (cs : List Command) (x : Request) → Memᴰ x (asked cs) → Asked cs x
unfolding asked
asked_from [] x m = absurd (Memᴰ.not-nil m)
asked_from (Command.Leaf l ∷ cs) x m = later (asked_from cs x m)
asked_from (Command.Join l r ∷ cs) x m = later (asked_from cs x m)
asked_from (Command.Request n v d ∷ cs) x m =
    ⊎_elim (λ i. (n, v, d, Memᴰ.head refl, requests_from n v d x i)) (λ i. later (asked_from cs x i)) (Memᴰ.append_cases (requests n v d) m)
asked_from (Command.Close ∷ cs) x m = later (asked_from cs x m)

asked_here : (c : Command) (cs : List Command) (n v d : ℕ) (x : Request) → Command.Request n v d ≡ c → Names n v d x → Memᴰ x (asked (c ∷ cs))
unfolding asked
asked_here c cs n v d x e k =
    subst (λ (c : Command). Memᴰ x (asked (c ∷ cs))) e (Memᴰ.append_left (asked cs) (requests_has n v d x k))

asked_more : (c : Command) (cs : List Command) (x : Request) → Memᴰ x (asked cs) → Memᴰ x (asked (c ∷ cs))
unfolding asked
asked_more (Command.Leaf l) cs x m = m
asked_more (Command.Join l r) cs x m = m
asked_more (Command.Request n v d) cs x m = Memᴰ.append_right (requests n v d) m
asked_more Command.Close cs x m = m

pub asked_has : (cs : List Command) (x : Request) → Asked cs x → Memᴰ x (asked cs)
asked_has [] x a = absurd (Memᴰ.not-nil a.3)
asked_has (c ∷ cs) x a =
    ⊎_elim (λ e. asked_here c cs a.0 a.1 a.2 x e a.4) (λ m. asked_more c cs x (asked_has cs x (a.0, a.1, a.2, m, a.4)))
    (Memᴰ.cases_cons a.3)

-- ---- all commands accepted

pub plays_passed : {h : Head} {capacity : ℕ} {cs : List Command} {s u : State} (p : ℕ) → AllPassed h capacity cs s u
    → plays h capacity 0 cs p s ≡ outcome capacity 0 (p + length cs) u
plays_passed {h} {capacity} p (all_done {s}) = plays_done h capacity 0 p s ∙ ap (λ (n : ℕ). outcome capacity 0 n s) (omega arith)
plays_passed {h} {capacity} p (all_more {c} {cs} {s} {u} {w} q r) =
    plays_accepted h capacity 0 c cs p s u (play_fits h capacity capacity c s u q q.fits) ∙ plays_passed (suc p) r
    ∙ ap (λ (n : ℕ). outcome capacity 0 n w) (omega arith)

pub all_last : {h : Head} {capacity : ℕ} {c : Command} {cs : List Command} {s u w : State} → AllPassed h capacity cs s u → Passed h capacity c u w
    → AllPassed h capacity (cs ++ (c ∷ [])) s w
all_last all_done q = all_more q all_done
all_last (all_more p a) q = all_more p (all_last a q)

-- Where nothing is refused, all commands passed.
pub record Finished (h : Head) (capacity ending : ℕ) (cs : List Command) (s : State) : Type 0 where
  pub state : State
  pub all : AllPassed h capacity cs s state
  pub no_ending : ending ≡ 0

pub plays_finished : (h : Head) (capacity ending : ℕ) (cs : List Command) (p : ℕ) (s : State) → (plays h capacity ending cs p s).number ≡ 0
    → Finished h capacity ending cs s
plays_finished h capacity zero [] p s e = record { state = s; all = all_done; no_ending = refl }
plays_finished h capacity (suc n) [] p s e =
    absurd (omega (arith, outcome_number capacity (suc n) (suc p) s, rw (plays_ended h capacity 0 n p s) at e))
plays_finished h capacity ending (c ∷ cs) p s e = by (play h capacity c s) refl (λ u. plays_finished h capacity ending cs (suc p) u)
  where
    by : (r : Result) → play h capacity c s ≡ r
        → ((u : State) → (plays h capacity ending cs (suc p) u).number ≡ 0 → Finished h capacity ending cs u)
        → Finished h capacity ending (c ∷ cs) s
    by (refused n) k ih =
        let z = rw (plays_refused h capacity ending c cs p s n k) at e in
        absurd (omega (arith, play_refused h capacity c s n k, outcome_number capacity n (suc p) s, z))
    by (accepted u) k ih =
        let f = ih u (rw (plays_accepted h capacity ending c cs p s u k) at e) in
        record { state = f.state; all = all_more (play_passed h capacity c s u k) f.all; no_ending = f.no_ending }

-- ---- the table

pub build_known : (l : ℕ) (cs : List Command) (t : List Node) (o : ℕ) → known t l ≡ true → build (Command.Leaf l ∷ cs) t o ≡ build cs t o
unfolding build
build_known l cs t o e = rw (e, build)

pub build_new : (l : ℕ) (cs : List Command) (t : List Node) (o : ℕ) → known t l ≡ false
    → build (Command.Leaf l ∷ cs) t o ≡ build cs (t ++ (leaf l ∷ [])) o
unfolding build
build_new l cs t o e = rw (e, build)

-- What a command does to the table and the next variable, `build` does.
pub build_act : (h : Head) (c : Command) (cs : List Command) (s : State) → first_no (questions h s.nodes c) ≡ 0 → Sound h s
    → build cs (act c s).nodes (act c s).next_variable ≡ build (c ∷ cs) s.nodes s.next_variable
unfolding act
build_act h (Command.Leaf l) cs s q p = by (known s.nodes l) refl
  where
    after : Bool → State
    after b = elim b as (λ _. State) [ true ↦ s | false ↦ make (leaf l) 0 s ]

    by : (b : Bool) → known s.nodes l ≡ b → build cs (after b).nodes (after b).next_variable ≡ build (Command.Leaf l ∷ cs) s.nodes s.next_variable
    by true e = sym (build_known l cs s.nodes s.next_variable e)
    by false e =
        unfold make in ap (build cs (s.nodes ++ (leaf l ∷ []))) (omega arith) ∙ sym (build_new l cs s.nodes s.next_variable e)
build_act h (Command.Join l r) cs s q p = unfold make build in refl
build_act h (Command.Request n v d) cs s q p =
    let t = s.nodes in
    let e = serve_nodes t (sized_ok t p.sized) (requests n v d) (requests_asked t n v d (request_fits h t n v d q)) s in
    unfold build in rw (e.0, e.1)
build_act h Command.Close cs s q p = unfold delete build in refl

pub all_built : {h : Head} {capacity : ℕ} {cs : List Command} {s u : State} → AllPassed h capacity cs s u → Sound h s
    → u.nodes ≡ build cs s.nodes s.next_variable
all_built all_done p = unfold build in refl
all_built {h} (all_more {c} {cs} {s} {u} q r) p =
    all_built r (subst (Sound h) q.after (sound_act h c s q.asked p))
    ∙ ap (λ (x : State). build cs x.nodes x.next_variable) (sym q.after) ∙ build_act h c cs s q.asked p

-- ---- the run

pub record Ran (cs : List Command) (s u : State) : Type 0 where
  pub commands : List (Cmd Node Request)
  pub run : Run counters commands s.nodes (view s) (view u)
  pub nodes : u.nodes ≡ s.nodes ++ made commands
  pub wants : wanted commands ≡ asked cs
  pub rights : (x : Request) → Memᴰ x (asked cs) → Right u.nodes x

no_clause : (l ss : List ℕ) → clauses (deletion ss ∷ []) ≡ []
unfolding clauses
no_clause l ss = refl

delete_clauses : (s : State) → clauses (delete s).log ≡ clauses s.log
unfolding delete
delete_clauses s = clauses_append s.log (deletion (stored_steps s.nodes s.stored) ∷ [])
    ∙ rw (no_clause [] (stored_steps s.nodes s.stored)) (append-nil (clauses s.log))

view_delete : (s : State) → view (delete s) ≡ view s
unfolding view delete keys
view_delete s = ap {B = Log Request Key (List ℕ) ℕ} (λ (l : List (List ℕ)). record { items = s.held; keys = keys s; clauses = l; summed = [] })
    (delete_clauses s)

module _ (h : Head) (cs : List Command) (w : State) where
  ran_known : (l : ℕ) (s : State) → known s.nodes l ≡ true → Ran cs s w → Ran (Command.Leaf l ∷ cs) s w
  unfolding asked
  ran_known l s e r = record {
    commands = r.commands;
    run = r.run;
    nodes = r.nodes;
    wants = r.wants;
    rights = r.rights;
  }

  ran_new : (l : ℕ) (s : State) → known s.nodes l ≡ false → Ran cs (make (leaf l) 0 s) w → Ran (Command.Leaf l ∷ cs) s w
  unfolding asked make view keys made wanted
  ran_new l s e r = record {
    commands = Cmd.make (leaf l) ∷ r.commands;
    run = run_make r.run;
    nodes = r.nodes ∙ append_snoc s.nodes (leaf l) (made r.commands);
    wants = r.wants;
    rights = r.rights;
  }

  ran_join : (l r : Side) (s : State) → Ran cs (make (joined s.nodes s.next_variable l r) (len (joined s.nodes s.next_variable l r)) s) w
      → Ran (Command.Join l r ∷ cs) s w
  unfolding asked make view keys made wanted
  ran_join l r s k = record {
    commands = Cmd.make (joined s.nodes s.next_variable l r) ∷ k.commands;
    run = run_make k.run;
    nodes = k.nodes ∙ append_snoc s.nodes (joined s.nodes s.next_variable l r) (made k.commands);
    wants = k.wants;
    rights = k.rights;
  }

  ran_request : (n v d : ℕ) (s : State) → Sound h s → RequestFits s.nodes n v d → Ran cs (serve s.nodes (requests n v d) s) w
      → Ran (Command.Request n v d ∷ cs) s w
  unfolding asked made wanted
  ran_request n v d s p f r =
      let t = s.nodes in
      let ok = sized_ok t p.sized in
      let a = requests_asked t n v d f in
      let e = serve_nodes t ok (requests n v d) a s in
      let nodes : w.nodes ≡ t ++ made r.commands = r.nodes ∙ rw e.0 in
      record {
        commands = want (requests n v d) ∷ r.commands;
        run = run_want (serve_step t ok (requests n v d) a s)
            (subst (λ (x : List Node). Run counters r.commands x (view (serve t (requests n v d) s)) (view w)) e.0 r.run);
        nodes = nodes;
        wants = ap {B = List Request} (λ (l : List Request). requests n v d ++ l) r.wants;
        rights = λ x m. ⊎_elim (λ i. rw nodes (right_more t (made r.commands) x (requests_right t n v d f x i))) (r.rights x)
            (Memᴰ.append_cases (requests n v d) m);
      }

  ran_close : (s : State) → Ran cs (delete s) w → Ran (Command.Close ∷ cs) s w
  unfolding asked
  ran_close s r = record {
    commands = r.commands;
    run = subst (λ (x : Log Request Key (List ℕ) ℕ). Run counters r.commands s.nodes x (view w)) (view_delete s) (unfold delete in r.run);
    nodes = unfold delete in r.nodes;
    wants = r.wants;
    rights = r.rights;
  }

  ran_one : (c : Command) (s : State) → first_no (questions h s.nodes c) ≡ 0 → Sound h s → Ran cs (act c s) w → Ran (c ∷ cs) s w
  unfolding act
  ran_one (Command.Leaf l) s q p r = by (known s.nodes l) refl r
    where
      by : (b : Bool) → known s.nodes l ≡ b → Ran cs (elim b as (λ _. State) [ true ↦ s | false ↦ make (leaf l) 0 s ]) w
          → Ran (Command.Leaf l ∷ cs) s w
      by true e k = ran_known l s e k
      by false e k = ran_new l s e k
  ran_one (Command.Join l r) s q p k = ran_join l r s k
  ran_one (Command.Request n v d) s q p k = ran_request n v d s p (request_fits h s.nodes n v d q) k
  ran_one Command.Close s q p k = ran_close s k

pub all_ran : {h : Head} {capacity : ℕ} {cs : List Command} {s u : State} → AllPassed h capacity cs s u → Sound h s → Ran cs s u × Sound h u
unfolding made wanted asked
all_ran (all_done {s}) p = (
  record {
    commands = [];
    run = run_done;
    nodes = sym (append-nil s.nodes);
    wants = refl;
    rights = λ x m. absurd (Memᴰ.not-nil m);
  },
  p,
)
all_ran {h} (all_more {c} {cs} {s} {u} {w} q r) p =
    let k = all_ran r (subst (Sound h) q.after (sound_act h c s q.asked p)) in
    (ran_one h cs w c s q.asked p (subst (λ (x : State). Ran cs x w) (sym q.after) k.0), k.1)
