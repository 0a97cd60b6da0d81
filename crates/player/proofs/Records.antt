-- The records of an accepted script by their places: each clause after its derivation, and the close.
use Rattle.std.specs.Prelude.{None}
use mathlib.Core.Path.{◌≡◌, refl, sym, ◌∙◌, ap, subst}
use mathlib.Core.Bool.{Bool, true, false, ◌||◌}
use mathlib.Core.List.{List, [], ◌∷◌, ◌++◌, append-nil, Memᴰ}
use Prim.Native.Nat.{ℕ, zero, suc}
use native.Mathlib.Omega.{arith}
use lib.ListN.{length}
use Rattle.number.specs.Number.{Front, number, bad, read, read_refusal}
use Rattle.record.specs.Record.{Record, derivation, clause, deletion}
use Rattle.record.specs.Steps.{step_of}
use Rattle.record.specs.Written.{WrittenFor, EachFor, Closed, Ended}
use Rattle.player.specs.Formed.{Sound}
use Rattle.record.proofs.Groups.{Grouped, grouped_done, grouped_deletion, grouped_append, grouped_deletions, grouped_each, grouped_follows}
use Rattle.record.proofs.Closes.{grouped_closed}
use Rattle.record.proofs.Steps.{step_derivation}
use Rattle.totdb.specs.Nodes.{Node, any, known, leaf, joined, len}
use Rattle.cert.specs.State.{State, start, stored_steps, serve, requests, Head}
use Rattle.cert.proofs.Apart.{sized_ok}
use Rattle.cert.proofs.StoredSteps.{LaidIn, Laid, laid_start, laid_serve, stored_more}
use Rattle.player.specs.Accepted.{RecordsOf}
use Rattle.player.specs.Passes.{AllPassed, all_done, all_more, Passes}
use Rattle.player.specs.Player.{make, delete, first_no, questions, act}
use Rattle.player.specs.Script.{Next, command, refuse, end, get, read_command, closes, Commands, stop, before, read_commands, script, read_script}
use Rattle.player.specs.declared.Command.{Command}
use Rattle.player.proofs.ClauseSteps.{clause_steps}
use Rattle.player.proofs.Coding.{CloseLast}
use Rattle.player.proofs.Counts.{counted_make, counted_delete, all_keep}
use Rattle.player.proofs.Plays.{head_read}
use Rattle.player.proofs.Sound.{requests_asked, request_fits, serve_nodes, sound_act, sound_start}

-- ---- every command

laid_make : (h : Head) (ds : List (List ℕ)) (a : Node) (n : ℕ) (s : State) → Laid h ds s → Laid h ds (make a n s)
laid_make h ds a n s k = record {
  counted = counted_make h a n s k.counted;
  grouped = unfold make in subst (λ (l : List ℕ). Grouped h.step s.log l ds) (stored_more s.nodes (a ∷ []) s k.counted.keys_in) k.grouped;
}

laid_delete : (h : Head) (ds : List (List ℕ)) (s : State) → Laid h ds s → Laid h (ds ++ (stored_steps s.nodes s.stored ∷ [])) (delete s)
laid_delete h ds s k = record {
  counted = counted_delete h s k.counted;
  grouped =
      let ss = stored_steps s.nodes s.stored in
      unfold delete in
      subst (λ (l : List ℕ). Grouped h.step (s.log ++ (deletion ss ∷ [])) l (ds ++ (ss ∷ []))) (append-nil ss)
      (grouped_append k.grouped (grouped_deletion grouped_done));
}

-- All but a close delete nothing.
laid_act : (h : Head) (ds : List (List ℕ)) (c : Command) (s : State) → first_no (questions h s.nodes c) ≡ 0 → Sound h s → closes c ≡ false
    → Laid h ds s → Laid h ds (act c s)
unfolding act closes
laid_act h ds (Command.Leaf l) s q p e k = by (known s.nodes l)
  where
    by : (b : Bool) → Laid h ds (elim b as (λ _. State) [ true ↦ s | false ↦ make (leaf l) 0 s ])
    by true = k
    by false = laid_make h ds (leaf l) 0 s k
laid_act h ds (Command.Join l r) s q p e k =
    laid_make h ds (joined s.nodes s.next_variable l r) (len (joined s.nodes s.next_variable l r)) s k
laid_act h ds (Command.Request n v d) s q p e k =
    let t = s.nodes in
    let ok = sized_ok t p.sized in
    let a = requests_asked t n v d (request_fits h t n v d q) in
    subst (λ (x : List Node). LaidIn h x ds (serve t (requests n v d) s)) (sym (serve_nodes t ok (requests n v d) a s).0)
    (laid_serve h t ds ok (requests n v d) a s k)
laid_act h ds Command.Close s q p e k = absurd (let z : ◌≡◌ {A = ℕ} 0 1 = cc in omega arith)

close_is : (c : Command) → closes c ≡ true → c ≡ Command.Close
unfolding closes
close_is (Command.Leaf l) e = absurd (let z : ◌≡◌ {A = ℕ} 0 1 = cc in omega arith)
close_is (Command.Join l r) e = absurd (let z : ◌≡◌ {A = ℕ} 0 1 = cc in omega arith)
close_is (Command.Request n v d) e = absurd (let z : ◌≡◌ {A = ℕ} 0 1 = cc in omega arith)
close_is Command.Close e = refl

some_laid : (h : Head) (c : Command) (s : State) → first_no (questions h s.nodes c) ≡ 0 → Sound h s → (ds : List (List ℕ)) × Laid h ds s
    → (ds : List (List ℕ)) × Laid h ds (act c s)
some_laid h c s q p k = by (closes c) refl
  where
    by : (b : Bool) → closes c ≡ b → (ds : List (List ℕ)) × Laid h ds (act c s)
    by false e = (k.0, laid_act h k.0 c s q p e k.1)
    by true e =
        let d : act c s ≡ delete s = ap (λ (x : Command). act x s) (close_is c e) ∙ (unfold act in refl) in
        (k.0 ++ (stored_steps s.nodes s.stored ∷ []), rw d (laid_delete h k.0 s k.1))

pub all_laid : {h : Head} {capacity : ℕ} {cs : List Command} {u : State} → AllPassed h capacity cs (start h) u → (ds : List (List ℕ)) × Laid h ds u
all_laid {h} a = all_keep (λ (s : State). (ds : List (List ℕ)) × Laid h ds s) (some_laid h) a (sound_start h) ([], laid_start h)

-- ---- the close

closed_here : (h : Head) (s : State) → Laid h [] s → Closed h.step (delete s).log
closed_here h s k = unfold delete in grouped_closed h.step s.log (stored_steps s.nodes s.stored) k.grouped

pub all_ended : {h : Head} {capacity : ℕ} {cs : List Command} {s u : State} → AllPassed h capacity cs s u → CloseLast cs → Sound h s → Laid h [] s
    → Ended h.step u.log (any closes cs)
unfolding any Ended
all_ended all_done l p k = grouped_deletions k.grouped
all_ended {h} (all_more {c} {s = s} {u = u} q all_done) l p k = by (closes c) refl
  where
    by : (b : Bool) → closes c ≡ b → Ended h.step u.log (closes c || false)
    by true e =
        let d : delete s ≡ u = sym (ap (λ (x : Command). act x s) (close_is c e) ∙ (unfold act in refl)) ∙ q.after in
        rw e (subst (λ (x : State). Closed h.step x.log) d (closed_here h s k))
    by false e = rw e (grouped_deletions (subst (Laid h []) q.after (laid_act h [] c s q.asked p e k)).grouped)
all_ended {h} (all_more {c} {s = s} q (all_more {c = d} {cs = cs} r a)) l p k =
    let f : (closes c ≡ false) × CloseLast (d ∷ cs) = unfold CloseLast in l in
    rw f.0 (all_ended (all_more r a) f.1 (subst (Sound h) q.after (sound_act h c s q.asked p))
    (subst (Laid h []) q.after (laid_act h [] c s q.asked p f.0 k)))

-- ---- question 4: what is read has a close at its end alone

nothing_after : (bs : List ℕ) (c : Command) (rest : List ℕ) → read_command true bs ≡ command c rest → ⊥
unfolding read_command get
nothing_after [] c rest e = let z : ◌≡◌ {A = ℕ} 0 1 = cc in omega arith
nothing_after (b ∷ bs) c rest e = by (read (b ∷ bs)) e
  where
    by : (x : Front) → elim x as (λ _. Next) [ number n r ↦ refuse 4 | bad ↦ refuse (read_refusal None) ] ≡ command c rest → ⊥
    by (number n r) e = let z : ◌≡◌ {A = ℕ} 0 1 = cc in omega arith
    by bad e = let z : ◌≡◌ {A = ℕ} 0 1 = cc in omega arith

none_after : (k : ℕ) (bs : List ℕ) → (read_commands k true bs).list ≡ []
unfolding read_commands stop
none_after zero bs = refl
none_after (suc k) bs = by (read_command true bs) refl
  where
    by : (t : Next) → read_command true bs ≡ t → (read_commands (suc k) true bs).list ≡ []
    by (command c rest) e = absurd (nothing_after bs c rest e)
    by (refuse n) e = rw (e, read_commands)
    by end e = rw (e, read_commands)

close_cons : (c : Command) (cs : List Command) → closes c ≡ false → CloseLast cs → CloseLast (c ∷ cs)
unfolding CloseLast
close_cons c [] e l = tt
close_cons c (d ∷ cs) e l = (e, l)

commands_last : (k : ℕ) (bs : List ℕ) → CloseLast (read_commands k false bs).list
unfolding read_commands stop before CloseLast
commands_last zero bs = tt
commands_last (suc k) bs = by (read_command false bs) refl (commands_last k)
  where
    by : (t : Next) → read_command false bs ≡ t → ((r : List ℕ) → CloseLast (read_commands k false r).list)
        → CloseLast (read_commands (suc k) false bs).list
    by (refuse n) e ih = rw (e, read_commands) tt
    by end e ih = rw (e, read_commands) tt
    by (command c rest) e ih = rw (e, read_commands) (go (closes c) refl)
      where
        go : (b : Bool) → closes c ≡ b → CloseLast (c ∷ (read_commands k (closes c) rest).list)
        go true f = rw (f, none_after k rest) tt
        go false f = rw f (close_cons c (read_commands k false rest).list f (ih rest))

pub script_last : (bs : List ℕ) (h : Head) (cs : Commands) → read_script bs ≡ script h cs → CloseLast cs.list
script_last bs h cs e = let r = head_read bs h cs e in rw r.rest at (commands_last (length r.after_two) r.after_two)

-- ---- all of it

module _ (h : Head) (capacity : ℕ) (cs : List Command) (u : State) (a : AllPassed h capacity cs (start h) u) where
  pub clauses_for : (n : ℕ) (ls : List ℕ) → Memᴰ (clause n ls) u.log → WrittenFor h.step u.log n ls
  clauses_for n ls m =
      let k = grouped_follows (all_laid a).1.grouped n ls m in
      let s = k.step in
      record {
        follows = k;
        worked_out = ap (λ (rs : List Record). step_of h.step rs n) s.place
            ∙ ap (step_of h.step (s.pre ++ (derivation k.tokens ∷ s.post))) s.number ∙ step_derivation h.step s.pre s.post k.tokens;
        comes_to = clause_steps h capacity cs u a n ls m;
      }

  pub derivations_for : EachFor h.step u.log
  derivations_for = grouped_each (all_laid a).1.grouped

  pub records_of : CloseLast cs → RecordsOf h cs u.log
  records_of l = record {
    clauses_for = clauses_for;
    derivations_for = derivations_for;
    ended = all_ended a l (sound_start h) (laid_start h);
  }

pub passes_records : {bs : List ℕ} {capacity : ℕ} {h : Head} {cs : Commands} (a : Passes bs capacity h cs) → RecordsOf h cs.list a.state.log
passes_records {bs} {capacity} {h} {cs} a = records_of h capacity cs.list a.state a.all (script_last bs h cs a.reads)
