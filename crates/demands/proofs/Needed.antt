-- Document 02, §7: no command of any script needs an if at value 0 or an only-if above a length, and no outcome has the number 13.
use mathlib.Core.Path.{◌≡◌, refl, sym, subst}
use mathlib.Core.Logic.{◌≢◌}
use mathlib.Core.List.Memᴰ
use mathlib.Core.List.{List, [], Memᴰ}
use Prim.Native.Nat.{ℕ, zero, suc}
use native.Mathlib.Decide.{ℕ_discrete}
use native.Mathlib.Omega.{arith}
use Rattle.cert.specs.Requests.{clauses_of, looked_up}
use Rattle.cert.specs.State.{State, Head}
use Rattle.cert.proofs.Rules.{Ok}
use Rattle.cert.proofs.Available.{clause_available, pulled_available}
use Rattle.cert.proofs.Lookups.{used_are}
use Rattle.player.specs.Formed.{Formed}
use Rattle.player.specs.Player.{first_no, questions, act}
use Rattle.player.specs.Verdict.{No, order, First, Reached, at_head, one_more, Verdict, no_1, no_2_head, no_3, no_2_code, no_4, no_5, no_2, no_more, passed}
use Rattle.player.specs.declared.Command.{Command}
use Rattle.player.proofs.Formed.{formed_start, formed_act, all_formed}
use Rattle.player.proofs.Judged.{reached_all, reached_ok, verdict_of, verdict_used}
use Rattle.player.proofs.Questions.{asked_none, none_asked, questions_asked, refused_exactly}
use Rattle.player.proofs.Plays.{play_stops}
use Rattle.demands.specs.Needed.{Acts, DeskCard}

-- What holds of every state of a script.
pub reached_formed : {bs : List ℕ} {capacity : ℕ} {h : Head} {cs : List Command} {s : State} {rest : List ℕ} → Reached bs capacity h cs s rest
    → Formed h s
reached_formed {h = h} r = let a = reached_all r in all_formed a.3 (formed_start h a.2)

pub desk_card : DeskCard
desk_card = record {
  needed = λ bs capacity c s a.
      let g = reached_formed a.reached in
      let asked = none_asked a.head capacity s (reached_ok a.reached) c (λ n l p. l (omega (arith, a.asked n p))) in
      let f = formed_act a.head c s asked g in
      let t = (act c s).nodes in
      record {
        listed = λ x i. used_are t x (f.held x i);
        clauses = λ x ls l i m j.
            let k = Memᴰ.of_map looked_up (clauses_of t x) (subst (Memᴰ ls) (sym (used_are t x (f.held x i))) m) in
            clause_available t x k.0 (f.held x i) k.1 l (subst (Memᴰ l) (sym k.2) j);
        windows = λ x c k n v d i m g p. pulled_available t f.sound.sized x c k n v d (f.held x i) m g p;
      };
  unused = λ bs capacity w e. (verdict_used (verdict_of bs capacity w).1).1 (omega (arith, e));
}

-- ---- which commands act

-- The last of those that pass every question.
pub last_acts : {bs : List ℕ} {capacity : ℕ} {h : Head} {cs : List Command} {s : State} {rest : List ℕ} → Reached bs capacity h cs s rest → cs ≢ []
    → (c : Command) × (u : State) × Acts bs capacity c u
last_acts (at_head short small k v one n) some-command = absurd (some-command refl)
last_acts {h = h} (one_more {cs = cs} {s = u} {at-command = here} {rest = rest} {c = c} r unclosed k none) some-command = (
  c,
  u,
  record { head = h; before = cs; here = here; rest = rest; reached = r; unclosed = unclosed; reads = k; asked = λ n p. absurd (none n p) },
)

-- One that question 14 refuses.
pub full_acts : {bs : List ℕ} {capacity m p : ℕ} {s : State} → m ≡ 14 → Verdict bs capacity m p s → (c : Command) × Acts bs capacity c s
full_acts e (no_1 o) = absurd (omega arith)
full_acts e (no_2_head short small none) = absurd (omega arith)
full_acts e (no_3 short small k o) = absurd (omega arith)
full_acts e (no_2_code r some none) = absurd (omega arith)
full_acts e (no_4 r k m) = absurd (omega arith)
full_acts e (no_5 r k unclosed o) = absurd (omega arith)
full_acts e (no_2 r k unclosed i j none) = absurd (omega arith)
full_acts {capacity = capacity} {s = s} e (no_more {h = h} {cs = cs} {rest = rest} {more = more} {c = c} r unclosed k f) = (
  c,
  record {
    head = h;
    before = cs;
    here = rest;
    rest = more;
    reached = r;
    unclosed = unclosed;
    reads = k;
    asked = λ n p. by n (ℕ_discrete n 14) p;
  },
)
  where
    ok : Ok s.nodes
    ok = reached_ok r

    none : {m : ℕ} → m ≡ 14 → First (No h capacity s c) order m → (j : ℕ) → first_no (questions h s.nodes c) ≡ j
        → (n : ℕ) → n ≢ 14 → No h capacity s c n → ⊥
    none g q zero a n l p = asked_none h capacity s ok c a n l p
    none {m} g q (suc j) a n l p =
        let k = (refused_exactly h capacity s ok c m).1 q in
        let i = play_stops h capacity c s (suc j) (omega arith) a in
        let z : m ≡ suc j = cc in
        omega (arith, g, questions_asked h s.nodes c, a)

    by : (n : ℕ) → Dec (n ≡ 14) → No h capacity s c n → n ≡ 14
    by n (yes q) p = q
    by n (no l) p = absurd (none e f (first_no (questions h s.nodes c)) refl n l p)
full_acts e (passed r) = absurd (omega arith)
