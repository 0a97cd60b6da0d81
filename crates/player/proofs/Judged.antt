-- A whole script: number and place of its outcome are those of the documents' questions, and of no other.
use mathlib.Core.Path.{◌≡◌, refl, sym, ◌∙◌, ap, subst}
use mathlib.Core.Bool.{Bool, true, false}
use mathlib.Core.Logic.{◌⊎◌, inl, inr, ⊎_elim, ◌≢◌}
use mathlib.Core.List.Memᴰ
use mathlib.Core.List.{List, [], ◌∷◌, ◌++◌, append_assoc, Memᴰ}
use Prim.Native.Nat.{ℕ, zero, suc, ◌≤◌, ◌<◌}
use native.Mathlib.Omega.{arith}
use lib.ListN.{length, length-append}
use Rattle.sizes.specs.Sizes.{most_head, most_bytes}
use Rattle.number.specs.Number.{Bytes}
use Rattle.cert.specs.State.{State, start, Head}
use Rattle.cert.proofs.Apart.{sized_ok}
use Rattle.cert.proofs.Rules.{Ok}
use Rattle.player.specs.Formed.{Sound}
use Rattle.player.specs.Passes.{AllPassed, all_done}
use Rattle.player.specs.Player.{act, play, plays, accepted, refused, outcome, head_fits, refused_at_head, play_script, played}
use Rattle.player.specs.Script.{Next, command, refuse, Commands, before, stop, closes, command_numbers, read_command, read_commands, Script, script, headless, read_script}
use Rattle.player.specs.Verdict.{Reads, No, no_6, no_7, no_8_join, no_8_request, no_9, no_15, no_10, no_11, no_12, no_14, Reached, at_head, one_more, Verdict, untouched, no_1, no_2_head, no_3, no_2_code, no_4, no_5, no_2, no_more, passed}
use Rattle.player.specs.declared.Command.{Command}
use Rattle.player.specs.declared.Command.TheVariants.{Leaf, Join, Request, Close}
use Rattle.player.proofs.Coding.{CloseLast, nothing_left}
use Rattle.player.proofs.Endings.{Led, nowhere, on}
use Rattle.player.proofs.Fronts.{reads_cons, cons_reads, reads_one, one_reads, rest_bytes, reads_command, command_reads, command_shorter, Stands, at_end, code_unread, after_close, not_a_code, other_unread, stands, next_stands, unread_code, closed_code, other_code, unread_others}
use Rattle.player.proofs.Questions.{Answer, answer_yes, answer_no, answered_no, answered_yes, first_holds, Judged, stopped, allowed, judged, refused_exactly, accepted_exactly, none_asked, sizes, sized, OutOfRange, head_range}
use Rattle.player.proofs.Plays.{play_passed, plays_done, plays_ended, plays_accepted, plays_refused, script_true, script_false, script_headless, played_true, played_false, script_is, head_read}
use Rattle.player.proofs.Runs.{all_last}
use Rattle.player.proofs.Sound.{sound_start, sound_act}

-- ---- the player's outcome

-- The number n, the place p and the state s.
record Gives (bs : List ℕ) (capacity n p : ℕ) (s : State) : Type 0 where
  is : played bs capacity ≡ outcome capacity n p s

gives_head : (bs : List ℕ) (capacity n : ℕ) → played bs capacity ≡ refused_at_head capacity n → Gives bs capacity n 0 untouched
gives_head bs capacity n e = record { is = unfold refused_at_head in e }

-- ---- where the player stands after the commands cs

record At (bs : List ℕ) (capacity : ℕ) (h : Head) (cs : List Command) (s : State) (rest : List ℕ) : Type 0 where
  bytes : Bytes rest
  fuel : ℕ
  enough : length rest ≤ fuel
  closed : Bool
  closed_yes : closed ≡ true → Memᴰ Close cs
  closed_no : closed ≡ false → Memᴰ Close cs → ⊥
  reads : read_script bs ≡ script h (record { list = cs ++ (read_commands fuel closed rest).list; ending = (read_commands fuel closed rest).ending })
  plays_on : played bs capacity ≡ plays h capacity (read_commands fuel closed rest).ending (read_commands fuel closed rest).list (length cs) s

-- The head reads.
pub head_script : {bs rest : List ℕ} (h : Head) → Reads bs (h.variable ∷ h.step ∷ []) rest → read_script bs ≡ script h (read_commands (length rest) false rest)
head_script {bs} {rest} h k =
    let a = reads_cons k in
    script_is bs h.variable a.0 h.step rest a.1 (reads_one a.2)

head_reads : {bs : List ℕ} {h : Head} {cs : Commands} → Bytes bs → read_script bs ≡ script h cs
    → (rest : List ℕ) × Reads bs (h.variable ∷ h.step ∷ []) rest
head_reads {bs} {h} {cs} w e =
    let r = head_read bs h cs e in
    (r.after_two, cons_reads w r.one (one_reads (rest_bytes bs w r.one) r.two))

at_start : (bs : List ℕ) (capacity : ℕ) (h : Head) (rest : List ℕ) → Bytes bs → length bs ≤ most_bytes → capacity ≤ most_bytes
    → Reads bs (h.variable ∷ h.step ∷ []) rest → head_fits h ≡ true → At bs capacity h [] (start h) rest
at_start bs capacity h rest w short small k fits =
    let a = reads_cons k in
    let r : read_script bs ≡ script h (read_commands (length rest) false rest) = head_script h k in
    record {
      bytes = rest_bytes a.0 (rest_bytes bs w a.1) (reads_one a.2);
      fuel = length rest;
      enough = omega arith;
      closed = false;
      closed_yes = λ q. absurd (let z : ◌≡◌ {A = ℕ} 0 1 = cc in omega arith);
      closed_no = λ q m. Memᴰ.not-nil m;
      reads = r;
      plays_on = played_true capacity bs (sized bs capacity short small) ∙ ap (play_script capacity) r ∙ script_true capacity h (read_commands (length rest) false rest) fits;
    }

-- Nothing was closed, so the test says so.
unclosed_false : {bs : List ℕ} {capacity : ℕ} {h : Head} {cs : List Command} {s : State} {rest : List ℕ} (a : At bs capacity h cs s rest)
    → (Memᴰ Close cs → ⊥) → a.closed ≡ false
unclosed_false a unclosed = by a.closed refl
  where
    by : (b : Bool) → a.closed ≡ b → b ≡ false
    by false e = refl
    by true e = absurd (unclosed (a.closed_yes e))

closes_close : (c : Command) → closes c ≡ true → c ≡ Close
unfolding closes
closes_close (Leaf l) e = absurd (let z : ◌≡◌ {A = ℕ} 0 1 = cc in omega arith)
closes_close (Join l r) e = absurd (let z : ◌≡◌ {A = ℕ} 0 1 = cc in omega arith)
closes_close (Request n v d) e = absurd (let z : ◌≡◌ {A = ℕ} 0 1 = cc in omega arith)
closes_close Close e = refl

close_closes : (c : Command) → Close ≡ c → closes c ≡ false → ⊥
unfolding closes
close_closes c e f = let z : closes Close ≡ false = subst (λ (x : Command). closes x ≡ false) (sym e) f in let y : ◌≡◌ {A = ℕ} 0 1 = cc in omega arith

-- The next command is read.
pub read_on : (fuel : ℕ) (closed : Bool) (rest : List ℕ) (c : Command) (more : List ℕ) → length rest ≤ fuel → length more < length rest
    → read_command closed rest ≡ command c more
    → (k : ℕ) × (length more ≤ k) × (read_commands fuel closed rest ≡ before c (read_commands k (closes c) more))
unfolding read_commands
read_on zero closed rest c more l m e = absurd (omega arith)
read_on (suc k) closed rest c more l m e = (k, omega arith, rw (e, read_commands))

pub read_refused : (fuel : ℕ) (closed : Bool) (rest : List ℕ) (n : ℕ) → length rest ≤ fuel → read_command closed rest ≡ refuse n
    → read_commands fuel closed rest ≡ record { list = []; ending = n }
unfolding read_commands read_command stop
read_refused zero closed [] n l e = absurd (let z : ◌≡◌ {A = ℕ} 0 1 = cc in omega arith)
read_refused zero closed (b ∷ bs) n l e = absurd (omega arith)
read_refused (suc k) closed rest n l e = rw (e, read_commands)

at_more : {bs : List ℕ} {capacity : ℕ} {h : Head} {cs : List Command} {s : State} {rest : List ℕ} → At bs capacity h cs s rest
    → (Memᴰ Close cs → ⊥) → (c : Command) (more : List ℕ) → Reads rest (command_numbers c) more → (u : State) → play h capacity c s ≡ accepted u
    → At bs capacity h (cs ++ (c ∷ [])) u more
unfolding before
at_more {bs} {capacity} {h} {cs} {s} {rest} a unclosed c more k u go =
    let off : a.closed ≡ false = unclosed_false a unclosed in
    let one : read_command a.closed rest ≡ command c more = rw off (reads_command {c = c} k) in
    let j = read_on a.fuel a.closed rest c more a.enough (command_shorter c k) one in
    let places : length (cs ++ (c ∷ [])) ≡ suc (length cs) = omega (arith, length-append cs (c ∷ [])) in
    let after : Commands = read_commands j.0 (closes c) more in
    let list : (cs ++ (c ∷ [])) ++ after.list ≡ cs ++ (c ∷ after.list) = append_assoc cs (c ∷ []) after.list in
    record {
      bytes = (command_reads a.closed a.bytes one).1;
      fuel = j.0;
      enough = j.1;
      closed = closes c;
      closed_yes = λ q. Memᴰ.append_right cs (Memᴰ.head (sym (closes_close c q)));
      closed_no = λ q m. ⊎_elim unclosed (λ i. close_closes c (Memᴰ.eq_of_singleton i) q) (Memᴰ.append_cases cs m);
      reads = rw list (rw j.2 at a.reads);
      plays_on = rw places ((rw j.2 at a.plays_on) ∙ plays_accepted h capacity after.ending c after.list (length cs) s u go);
    }

-- The table of the state is well made, so that question 9 sees all that lies below a node.
pub reached_sound : {bs : List ℕ} {capacity : ℕ} {h : Head} {cs : List Command} {s : State} {rest : List ℕ} → Reached bs capacity h cs s rest → Sound h s
reached_sound {h = h} (at_head short small k v one n) = sound_start h
reached_sound {capacity = capacity} {h = h} (one_more {s = s} {c = c} r unclosed k none) =
    let p = reached_sound r in sound_act h c s (none_asked h capacity s (sized_ok s.nodes p.sized) c (λ n l. none n)) p

pub reached_ok : {bs : List ℕ} {capacity : ℕ} {h : Head} {cs : List Command} {s : State} {rest : List ℕ} → Reached bs capacity h cs s rest → Ok s.nodes
reached_ok {s = s} r = sized_ok s.nodes (reached_sound r).sized

at_reached : {bs : List ℕ} {capacity : ℕ} {h : Head} {cs : List Command} {s : State} {rest : List ℕ} → Bytes bs → Reached bs capacity h cs s rest
    → At bs capacity h cs s rest
at_reached {bs} {capacity} {h} w (at_head {rest = rest} short small k v one n) =
    at_start bs capacity h rest w short small k
    (answered_yes (head_range h) (⊎_elim (λ l. omega arith) (⊎_elim (λ l. omega arith) (λ l. omega arith))))
at_reached {bs} {capacity} {h} w (one_more {s = s} {rest = rest} {c = c} r unclosed k none) =
    at_more (at_reached w r) unclosed c rest k (act c s) ((accepted_exactly h capacity s (reached_ok r) c).1 none)

-- ---- how it goes on from there

module _ {bs : List ℕ} {capacity : ℕ} {h : Head} {cs : List Command} {s : State} {rest : List ℕ} (a : At bs capacity h cs s rest) where
  ends : rest ≡ [] → Gives bs capacity 0 (length cs) s
  ends e =
      let z : read_commands a.fuel a.closed rest ≡ record { list = []; ending = 0 } = rw e (nothing_left a.fuel a.closed) in
      record { is = (rw z at a.plays_on) ∙ plays_done h capacity 0 (length cs) s }

  stops_reading : (n : ℕ) → read_command a.closed rest ≡ refuse (suc n) → Gives bs capacity (suc n) (suc (length cs)) s
  stops_reading n e =
      let z : read_commands a.fuel a.closed rest ≡ record { list = []; ending = suc n } =
      read_refused a.fuel a.closed rest (suc n) a.enough e in
      record { is = (rw z at a.plays_on) ∙ plays_ended h capacity 0 n (length cs) s }

  stops_playing : (Memᴰ Close cs → ⊥) → (c : Command) (more : List ℕ) → Reads rest (command_numbers c) more → (n : ℕ)
      → play h capacity c s ≡ refused n → Gives bs capacity n (suc (length cs)) s
  unfolding before
  stops_playing unclosed c more k n e =
      let off : a.closed ≡ false = unclosed_false a unclosed in
      let one : read_command a.closed rest ≡ command c more = rw off (reads_command {c = c} k) in
      let j = read_on a.fuel a.closed rest c more a.enough (command_shorter c k) one in
      let after : Commands = read_commands j.0 (closes c) more in
      record { is = (rw j.2 at a.plays_on) ∙ plays_refused h capacity after.ending c after.list (length cs) s n e }

closed_true : {bs : List ℕ} {capacity : ℕ} {h : Head} {cs : List Command} {s : State} {rest : List ℕ} (a : At bs capacity h cs s rest)
    → Memᴰ Close cs → a.closed ≡ true
closed_true a m = by a.closed refl
  where
    by : (b : Bool) → a.closed ≡ b → b ≡ true
    by true e = refl
    by false e = absurd (a.closed_no e m)

-- ---- a verdict is what the player gives

no_head : {bs : List ℕ} → Bytes bs → ((v n : ℕ) (rest : List ℕ) → Reads bs (v ∷ n ∷ []) rest → ⊥) → read_script bs ≡ headless
no_head {bs} w none = by (read_script bs) refl
  where
    by : (r : Script) → read_script bs ≡ r → r ≡ headless
    by headless e = refl
    by (script h cs) e = let k = head_reads w e in absurd (none h.variable h.step k.0 k.1)

verdict_gives : {bs : List ℕ} {capacity n p : ℕ} {s : State} → Bytes bs → Verdict bs capacity n p s → Gives bs capacity n p s
verdict_gives {bs} {capacity} w (no_1 o) = gives_head bs capacity 1 (played_false capacity bs (answered_no (sizes bs capacity) o))
verdict_gives {bs} {capacity} w (no_2_head short small none) =
    gives_head bs capacity 2 (played_true capacity bs (sized bs capacity short small) ∙ ap (play_script capacity) (no_head w none) ∙ script_headless capacity)
verdict_gives {bs} {capacity} w (no_3 {v = v} {n = n} {rest = rest} short small k o) =
    let h : Head = record { variable = v; step = n } in
    gives_head bs capacity 3
    (played_true capacity bs (sized bs capacity short small) ∙ ap (play_script capacity) (head_script h k)
    ∙ script_false capacity h (read_commands (length rest) false rest) (answered_no (head_range h) o))
verdict_gives w (no_2_code {rest = rest} r some none) =
    let a = at_reached w r in
    stops_reading a 1 (unread_code a.closed rest a.bytes some none)
verdict_gives w (no_4 r k m) =
    let a = at_reached w r in
    stops_reading a 3 (rw (closed_true a m) (closed_code k))
verdict_gives w (no_5 r k unclosed o) =
    let a = at_reached w r in
    stops_reading a 4 (rw (unclosed_false a unclosed) (other_code k o))
verdict_gives w (no_2 r k unclosed i j none) =
    let a = at_reached w r in
    stops_reading a 1 (rw (unclosed_false a unclosed) (unread_others a.bytes k i j none))
verdict_gives {bs} {capacity} w (no_more {h = h} {s = s} {more = more} {c = c} {n = n} r unclosed k f) =
    stops_playing (at_reached w r) unclosed c more k n ((refused_exactly h capacity s (reached_ok r) c n).1 f)
verdict_gives w (passed r) = ends (at_reached w r) refl

-- ---- every script has one

abbrev Some : List ℕ → ℕ → Type 0
Some bs capacity = (n : ℕ) × (p : ℕ) × (s : State) × Verdict bs capacity n p s

one_step : {bs : List ℕ} {capacity : ℕ} {h : Head} {cs : List Command} {s : State} {rest : List ℕ} → Bytes bs → Reached bs capacity h cs s rest
    → ((c : Command) (more : List ℕ) → length more < length rest → Reached bs capacity h (cs ++ (c ∷ [])) (act c s) more → Some bs capacity)
    → Some bs capacity
one_step {bs} {capacity} {h} {cs} {s} {rest} w r go = by (read_command a.closed rest) (next_stands a.closed rest a.bytes)
  where
    a : At bs capacity h cs s rest
    a = at_reached w r

    by : (t : Next) → Stands a.closed rest t → Some bs capacity
    by t (at_end e) = (0, length cs, s, passed (rw e at r))
    by t (code_unread some none) = (2, suc (length cs), s, no_2_code r some none)
    by t (after_close k e) = (4, suc (length cs), s, no_4 r k (a.closed_yes e))
    by t (not_a_code k e o) = (5, suc (length cs), s, no_5 r k (a.closed_no e) o)
    by t (other_unread k e i j none) = (2, suc (length cs), s, no_2 r k (a.closed_no e) i j none)
    by t (stands c more k e) = put (judged h capacity s (reached_ok r) c)
      where
        put : Judged h capacity s c → Some bs capacity
        put (stopped n f q) = (n, suc (length cs), s, no_more {c = c} r (a.closed_no e) k f)
        put (allowed none q) = go c more (command_shorter c k) (one_more {c = c} r (a.closed_no e) k none)

walk : {bs : List ℕ} {capacity : ℕ} {h : Head} {cs : List Command} {s : State} {rest : List ℕ} (k : ℕ) → length rest ≤ k → Bytes bs
    → Reached bs capacity h cs s rest → Some bs capacity
walk zero l w r = one_step w r (λ c more m q. absurd (omega arith))
walk {cs = cs} (suc k) l w r = one_step w r (λ c more m q. walk {cs = cs ++ c ∷ []} k (omega arith) w q)

some_verdict : (bs : List ℕ) (capacity : ℕ) → Bytes bs → Some bs capacity
some_verdict bs capacity w = by (sizes bs capacity)
  where
    by : {b : Bool} → Answer ((most_bytes < length bs) ⊎ (most_bytes < capacity)) b → Some bs capacity
    by (answer_no o) = (1, 0, untouched, no_1 o)
    by (answer_yes q) = at_script (read_script bs) refl
      where
        short : length bs ≤ most_bytes
        short = let k : ¬ (most_bytes < length bs) = λ l. q (inl l) in omega (arith, k)

        small : capacity ≤ most_bytes
        small = let k : ¬ (most_bytes < capacity) = λ l. q (inr l) in omega (arith, k)

        at_script : (r : Script) → read_script bs ≡ r → Some bs capacity
        at_script headless e = (2, 0, untouched, no_2_head short small none)
          where
            none : (v n : ℕ) (rest : List ℕ) → Reads bs (v ∷ n ∷ []) rest → ⊥
            none v n rest k =
                let j = head_script (record { variable = v; step = n }) k in
                let z : ◌≡◌ {A = ℕ} 0 1 = cc in
                omega arith
        at_script (script h cs) e = in_range (head_range h)
          where
            k : (rest : List ℕ) × Reads bs (h.variable ∷ h.step ∷ []) rest
            k = head_reads w e

            in_range : {b : Bool} → Answer (OutOfRange h.variable h.step) b → Some bs capacity
            in_range (answer_no o) = (3, 0, untouched, no_3 short small k.1 o)
            in_range (answer_yes n) =
                let i : ¬ (most_head < h.variable) = λ l. n (inl l) in
                let j : ¬ (h.step < 1) = λ l. n (inr (inl l)) in
                let m : ¬ (most_head < h.step) = λ l. n (inr (inr l)) in
                walk (length k.0) (omega arith) w (at_head short small k.1 (omega (arith, i)) (omega (arith, j)) (omega (arith, m)))

-- ---- the theorems

-- Every script of bytes has a verdict, and its outcome is by it.
pub verdict_of : (bs : List ℕ) (capacity : ℕ) → Bytes bs
    → (s : State) × Verdict bs capacity (played bs capacity).number (played bs capacity).place s
    × (played bs capacity ≡ outcome capacity (played bs capacity).number (played bs capacity).place s)
unfolding outcome
verdict_of bs capacity w =
    let v = some_verdict bs capacity w in
    let e = (verdict_gives w v.3).is in
    (v.2, rw e v.3, rw e)

-- It has no other.
pub verdict_is : {bs : List ℕ} {capacity n p : ℕ} {s : State} → Bytes bs → Verdict bs capacity n p s → played bs capacity ≡ outcome capacity n p s
verdict_is w v = (verdict_gives w v).is

-- ---- the numbers in use

pub number_used : {h : Head} {capacity : ℕ} {s : State} {c : Command} {n : ℕ} → No h capacity s c n → (6 ≤ n) × (n ≤ 15) × (n ≢ 13)
number_used (no_6 p) = (omega arith, omega arith, λ e. omega arith)
number_used (no_7 p q) = (omega arith, omega arith, λ e. omega arith)
number_used (no_8_join p) = (omega arith, omega arith, λ e. omega arith)
number_used (no_8_request p) = (omega arith, omega arith, λ e. omega arith)
number_used (no_9 p q) = (omega arith, omega arith, λ e. omega arith)
number_used (no_15 p) = (omega arith, omega arith, λ e. omega arith)
number_used (no_10 p) = (omega arith, omega arith, λ e. omega arith)
number_used (no_11 p) = (omega arith, omega arith, λ e. omega arith)
number_used (no_12 p) = (omega arith, omega arith, λ e. omega arith)
number_used (no_14 p) = (omega arith, omega arith, λ e. omega arith)

pub verdict_used : {bs : List ℕ} {capacity n p : ℕ} {s : State} → Verdict bs capacity n p s → (n ≤ 15) × (n ≢ 13)
verdict_used (no_1 o) = (omega arith, λ e. omega arith)
verdict_used (no_2_head short small none) = (omega arith, λ e. omega arith)
verdict_used (no_3 short small k o) = (omega arith, λ e. omega arith)
verdict_used (no_2_code r some none) = (omega arith, λ e. omega arith)
verdict_used (no_4 r k m) = (omega arith, λ e. omega arith)
verdict_used (no_5 r k unclosed o) = (omega arith, λ e. omega arith)
verdict_used (no_2 r k unclosed i j none) = (omega arith, λ e. omega arith)
verdict_used (no_more r unclosed k f) = let k = number_used (first_holds f) in (k.1, k.2)
verdict_used (passed r) = (omega arith, λ e. omega arith)

-- ---- a script that passes

abbrev pub Whole : List ℕ → ℕ → Type 0
Whole bs capacity = (h : Head) × (cs : List Command) × (s : State) × Reached bs capacity h cs s []

pub accepted_whole : {bs : List ℕ} {capacity n p : ℕ} {s : State} → n ≡ 0 → Verdict bs capacity n p s → Whole bs capacity
accepted_whole e (no_1 o) = absurd (omega arith)
accepted_whole e (no_2_head short small none) = absurd (omega arith)
accepted_whole e (no_3 short small k o) = absurd (omega arith)
accepted_whole e (no_2_code r some none) = absurd (omega arith)
accepted_whole e (no_4 r k m) = absurd (omega arith)
accepted_whole e (no_5 r k unclosed o) = absurd (omega arith)
accepted_whole e (no_2 r k unclosed i j none) = absurd (omega arith)
accepted_whole e (no_more r unclosed k f) = absurd (omega (arith, number_used (first_holds f), e))
accepted_whole e (passed {h = h} {cs = cs} {s = s} r) = (h, cs, s, r)

-- The commands passed.
pub reached_all : {bs : List ℕ} {capacity : ℕ} {h : Head} {cs : List Command} {s : State} {rest : List ℕ} → Reached bs capacity h cs s rest
    → (length bs ≤ most_bytes) × (capacity ≤ most_bytes) × (head_fits h ≡ true) × AllPassed h capacity cs (start h) s
reached_all {h = h} (at_head short small k v one n) =
    (short, small, answered_yes (head_range h) (⊎_elim (λ l. omega arith) (⊎_elim (λ l. omega arith) (λ l. omega arith))), all_done)
reached_all {capacity = capacity} {h = h} (one_more {s = s} {c = c} r unclosed k none) =
    let a = reached_all r in
    (a.0, a.1, a.2, all_last a.3 (play_passed h capacity c s (act c s) ((accepted_exactly h capacity s (reached_ok r) c).1 none)))

-- A close is the last of them.
open_command : (c : Command) → (Close ≡ c → ⊥) → closes c ≡ false
unfolding closes
open_command (Leaf l) n = refl
open_command (Join l r) n = refl
open_command (Request m v d) n = refl
open_command Close n = absurd (n refl)

last_close : (cs : List Command) (c : Command) → (Memᴰ Close cs → ⊥) → CloseLast (cs ++ (c ∷ []))
unfolding CloseLast
last_close [] c n = tt
last_close (d ∷ []) c n = (open_command d (λ e. n (Memᴰ.head e)), tt)
last_close (d ∷ e ∷ cs) c n = (open_command d (λ q. n (Memᴰ.head q)), last_close (e ∷ cs) c (λ m. n (Memᴰ.tail m)))

pub reached_last : {bs : List ℕ} {capacity : ℕ} {h : Head} {cs : List Command} {s : State} {rest : List ℕ} → Reached bs capacity h cs s rest → CloseLast cs
reached_last (at_head short small k v one n) = unfold CloseLast in tt
reached_last (one_more {cs = cs} {c = c} r unclosed k none) = last_close cs c unclosed

-- The state of a verdict is one that passed commands led to, or that before any.
reached_led : {bs : List ℕ} {capacity : ℕ} {h : Head} {cs : List Command} {s : State} {rest : List ℕ} → Reached bs capacity h cs s rest → Led capacity s
reached_led {h = h} {cs = cs} r = let a = reached_all r in on h cs a.2 a.1 a.3

pub verdict_led : {bs : List ℕ} {capacity n p : ℕ} {s : State} → Verdict bs capacity n p s → Led capacity s
verdict_led (no_1 o) = nowhere refl
verdict_led (no_2_head short small none) = nowhere refl
verdict_led (no_3 short small k o) = nowhere refl
verdict_led (no_2_code r some none) = reached_led r
verdict_led (no_4 r k m) = reached_led r
verdict_led (no_5 r k unclosed o) = reached_led r
verdict_led (no_2 r k unclosed i j none) = reached_led r
verdict_led (no_more r unclosed k f) = reached_led r
verdict_led (passed r) = reached_led r
