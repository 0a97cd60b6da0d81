-- What a play comes to, by cases: one command, a list of commands, a whole script; the log is as long as the capacity and has zeros from its length on.
use mathlib.Core.Path.{◌≡◌, refl, sym, ◌∙◌, subst}
use mathlib.Core.Bool.{Bool, true, false, ◌&&◌}
use mathlib.Core.List.{List, [], ◌∷◌, map}
use Prim.Native.Nat.{ℕ, zero, suc, ◌-◌, ◌≤◌, ◌<◌}
use native.Mathlib.Decide.{dec_le}
use native.Mathlib.Omega.{arith}
use borrow.Author.Tests.{le-leb, lt-leb}
use lib.Dec.{leb}
use lib.ListN.{length, replicate, length-append, length-replicate}
use lib.Seq.{drop-append_seam}
use Rattle.sizes.specs.Sizes.{most_bytes}
use Rattle.number.specs.Number.{number, read, Front, bad}
use Rattle.record.specs.Record.{bytes}
use Rattle.totdb.specs.Nodes.{Node, leaf, join}
use Rattle.totdb.specs.declared.Side.{Side}
use Rattle.cert.specs.State.{State, start, Head}
use Rattle.player.specs.Passes.{Passed}
use Rattle.player.specs.Player.{accepted, refused, first_no, questions, delete, act, fitted, play, Result, plays, outcome, ended, refused_at_head, head_fits, play_script, played, Padded}
use Rattle.player.specs.Script.{Commands, script, headless, read_script, Script, read_commands}
use Rattle.player.specs.Verdict.{untouched}
use Rattle.player.specs.declared.Command.{Command}

-- ---- one command

-- Question 14 at its edge: a close writes two bytes, which two bytes hold and one does not.
two_bytes : let s = delete untouched in (fitted 2 s ≡ accepted s) × (fitted 1 s ≡ refused 14)
unfolding delete start fitted
two_bytes = (refl, refl)

abbrev pub side : ℕ → ℕ → ℕ → Side
side n f k = record { node = n; offset = f; limit = k }

abbrev pub ten : Head
ten = record { variable = 10; step = 1 }

-- Three leaves, and n joins of the first two.
unfoldable pub often : ℕ → List Node
often n = leaf 0 ∷ leaf 2 ∷ leaf 4 ∷ replicate n (join (0 ∷ 2 ∷ []) 10 (side 0 0 0) (side 1 0 0))

-- Questions 9 and 15 at their edges: the 255th join, whose sides stand under others; the 256th, also with an offset past the length; then a leaf with a
-- join over it, one node twice, two joins of the same leaves, and a node that is not there.
met_asked : map {B = ℕ} (λ (q : List Node × Command). first_no (questions ten q.0 q.1)) (
    (often 254, Command.Join (side 0 0 0) (side 1 0 0))
    ∷ (often 254, Command.Join (side 5 1 0) (side 2 0 0))
    ∷ (often 255, Command.Join (side 0 0 0) (side 1 0 0))
    ∷ (often 255, Command.Join (side 0 1 0) (side 1 0 0))
    ∷ (often 255, Command.Join (side 0 0 0) (side 3 1 1))
    ∷ (often 255, Command.Join (side 2 9 0) (side 2 0 0))
    ∷ (often 3, Command.Join (side 3 0 1) (side 4 1 1))
    ∷ (often 255, Command.Join (side 258 0 0) (side 258 0 0))
    ∷ []) ≡ 0 ∷ 0 ∷ 15 ∷ 15 ∷ 9 ∷ 9 ∷ 9 ∷ 8 ∷ []
unfolding questions often first_no
met_asked = refl

module _ (h : Head) (capacity : ℕ) (c : Command) (s : State) where
  -- One of questions 6 to 12, or 15.
  pub play_stops : (n : ℕ) → 0 < n → first_no (questions h s.nodes c) ≡ n → play h capacity c s ≡ refused n
  unfolding play
  play_stops zero p e = absurd (omega arith)
  play_stops (suc n) p e = rw (e, play)

  module _ (asked : first_no (questions h s.nodes c) ≡ 0) where
    pub play_goes : length (bytes (act c s).log) ≤ capacity → play h capacity c s ≡ accepted (act c s)
    unfolding play fitted
    play_goes l = rw (asked, play) (rw (le-leb _ _ l, fitted))

    -- Question 14.
    pub play_over : capacity < length (bytes (act c s).log) → play h capacity c s ≡ refused 14
    unfolding play fitted
    play_over l = rw (asked, play) (rw (lt-leb _ _ l, fitted))

  -- What a command comes to.
  pub data PlayCase : Type 0 where
    stops : (n : ℕ) → first_no (questions h s.nodes c) ≡ suc n → play h capacity c s ≡ refused (suc n) → PlayCase
    overflows : play h capacity c s ≡ refused 14 → PlayCase
    goes : first_no (questions h s.nodes c) ≡ 0 → length (bytes (act c s).log) ≤ capacity → play h capacity c s ≡ accepted (act c s) → PlayCase

  pub play_cases : PlayCase
  play_cases = by (first_no (questions h s.nodes c)) refl (dec_le (length (bytes (act c s).log)) capacity)
    where
      by : (n : ℕ) → first_no (questions h s.nodes c) ≡ n → Dec (length (bytes (act c s).log) ≤ capacity) → PlayCase
      by (suc n) q d = stops n q (play_stops (suc n) (omega arith) q)
      by zero q (yes l) = goes q l (play_goes q l)
      by zero q (no l) = overflows (play_over q (omega arith))

pub play_passed : (h : Head) (capacity : ℕ) (c : Command) (s u : State) → play h capacity c s ≡ accepted u → Passed h capacity c s u
play_passed h capacity c s u e = by (play_cases h capacity c s)
  where
    by : PlayCase h capacity c s → Passed h capacity c s u
    by (stops n q k) = absurd (let z : ◌≡◌ {A = ℕ} 0 1 = cc in omega arith)
    by (overflows k) = absurd (let z : ◌≡◌ {A = ℕ} 0 1 = cc in omega arith)
    by (goes q l k) = let a : act c s ≡ u = cc in record { asked = q; after = a; fits = rw a at l }

-- A command that passes, with the same or another capacity.
module _ (h : Head) (capacity other : ℕ) (c : Command) (s u : State) (p : Passed h capacity c s u) where
  pub play_fits : length (bytes u.log) ≤ other → play h other c s ≡ accepted u
  play_fits l = subst (λ (u : State). length (bytes u.log) ≤ other → play h other c s ≡ accepted u) p.after (play_goes h other c s p.asked) l

  pub play_full : other < length (bytes u.log) → play h other c s ≡ refused 14
  play_full l = play_over h other c s p.asked (rw p.after l)

pub play_refused : (h : Head) (capacity : ℕ) (c : Command) (s : State) (m : ℕ) → play h capacity c s ≡ refused m → 0 < m
play_refused h capacity c s m e = by (play_cases h capacity c s)
  where
    by : PlayCase h capacity c s → 0 < m
    by (stops n q k) = let z : suc n ≡ m = cc in omega arith
    by (overflows k) = let z : 14 ≡ m = cc in omega arith
    by (goes q l k) = absurd (let z : ◌≡◌ {A = ℕ} 0 1 = cc in omega arith)

-- ---- the law for a list of commands

module _ (h : Head) (capacity ending : ℕ) where
  pub plays_done : (p : ℕ) (s : State) → plays h capacity 0 [] p s ≡ outcome capacity 0 p s
  unfolding plays ended
  plays_done p s = refl

  pub plays_ended : (n p : ℕ) (s : State) → plays h capacity (suc n) [] p s ≡ outcome capacity (suc n) (suc p) s
  unfolding plays ended
  plays_ended n p s = refl

  pub plays_accepted : (c : Command) (cs : List Command) (p : ℕ) (s u : State) → play h capacity c s ≡ accepted u
      → plays h capacity ending (c ∷ cs) p s ≡ plays h capacity ending cs (suc p) u
  unfolding plays
  plays_accepted c cs p s u e = rw (e, plays)

  pub plays_refused : (c : Command) (cs : List Command) (p : ℕ) (s : State) (n : ℕ) → play h capacity c s ≡ refused n
      → plays h capacity ending (c ∷ cs) p s ≡ outcome capacity n (suc p) s
  unfolding plays
  plays_refused c cs p s n e = rw (e, plays)

pub outcome_number : (capacity n p : ℕ) (s : State) → (outcome capacity n p s).number ≡ n
unfolding outcome
outcome_number capacity n p s = refl

pub outcome_place : (capacity n p : ℕ) (s : State) → (outcome capacity n p s).place ≡ p
unfolding outcome
outcome_place capacity n p s = refl

-- ---- the log: as long as the capacity, zeros from the length on

outcome_padded : (capacity n p : ℕ) (s : State) → length (bytes s.log) ≤ capacity → Padded capacity (outcome capacity n p s)
unfolding outcome
outcome_padded capacity n p s l = record {
  within = l;
  whole = length-append (bytes s.log) (replicate (capacity - length (bytes s.log)) 0) ∙ rw length-replicate (omega arith);
  zeros = drop-append_seam (bytes s.log) (replicate (capacity - length (bytes s.log)) 0);
}

plays_padded : (h : Head) (capacity ending : ℕ) (cs : List Command) (p : ℕ) (s : State) → length (bytes s.log) ≤ capacity
    → Padded capacity (plays h capacity ending cs p s)
plays_padded h capacity zero [] p s l = rw plays_done (outcome_padded capacity 0 p s l)
plays_padded h capacity (suc n) [] p s l = rw plays_ended (outcome_padded capacity (suc n) (suc p) s l)
plays_padded h capacity ending (c ∷ cs) p s l = by (play h capacity c s) refl (λ u. plays_padded h capacity ending cs (suc p) u)
  where
    by : (r : Result) → play h capacity c s ≡ r
        → ((u : State) → length (bytes u.log) ≤ capacity → Padded capacity (plays h capacity ending cs (suc p) u))
        → Padded capacity (plays h capacity ending (c ∷ cs) p s)
    by (refused m) k ih = rw (plays_refused h capacity ending c cs p s m k) (outcome_padded capacity m (suc p) s l)
    by (accepted u) k ih = rw (plays_accepted h capacity ending c cs p s u k) (ih u (play_passed h capacity c s u k).fits)

pub start_empty : (h : Head) (capacity : ℕ) → length (bytes (start h).log) ≤ capacity
unfolding start bytes
start_empty h capacity = omega arith

head_padded : (capacity n : ℕ) → Padded capacity (refused_at_head capacity n)
unfolding refused_at_head
head_padded capacity n =
    outcome_padded capacity n 0 (start (record { variable = 0; step = 0 })) (start_empty (record { variable = 0; step = 0 }) capacity)

-- ---- the whole script

module _ (capacity : ℕ) where
  pub script_true : (h : Head) (cs : Commands) → head_fits h ≡ true
      → play_script capacity (script h cs) ≡ plays h capacity cs.ending cs.list 0 (start h)
  unfolding play_script
  script_true h cs e = rw (e, play_script)

  pub script_false : (h : Head) (cs : Commands) → head_fits h ≡ false → play_script capacity (script h cs) ≡ refused_at_head capacity 3
  unfolding play_script
  script_false h cs e = rw (e, play_script)

  pub script_headless : play_script capacity headless ≡ refused_at_head capacity 2
  unfolding play_script
  script_headless = refl

  pub played_true : (bs : List ℕ) → (leb (length bs) most_bytes && leb capacity most_bytes) ≡ true
      → played bs capacity ≡ play_script capacity (read_script bs)
  unfolding played
  played_true bs e = rw (e, played)

  pub played_false : (bs : List ℕ) → (leb (length bs) most_bytes && leb capacity most_bytes) ≡ false → played bs capacity ≡ refused_at_head capacity 1
  unfolding played
  played_false bs e = rw (e, played)

  script_padded : (r : Script) → Padded capacity (play_script capacity r)
  script_padded headless = rw script_headless (head_padded capacity 2)
  script_padded (script h cs) = by (head_fits h) refl
    where
      by : (b : Bool) → head_fits h ≡ b → Padded capacity (play_script capacity (script h cs))
      by true e = rw (script_true h cs e) (plays_padded h capacity cs.ending cs.list 0 (start h) (start_empty h capacity))
      by false e = rw (script_false h cs e) (head_padded capacity 3)

  -- Demand 1, the log: for every script and every capacity.
  pub padded : (bs : List ℕ) → Padded capacity (played bs capacity)
  padded bs = by (leb (length bs) most_bytes && leb capacity most_bytes) refl
    where
      by : (b : Bool) → (leb (length bs) most_bytes && leb capacity most_bytes) ≡ b → Padded capacity (played bs capacity)
      by true e = rw (played_true bs e) (script_padded (read_script bs))
      by false e = rw (played_false bs e) (head_padded capacity 1)

-- ---- reading

pub script_is : (bs : List ℕ) (v : ℕ) (r : List ℕ) (s : ℕ) (t : List ℕ) → read bs ≡ number v r → read r ≡ number s t
    → read_script bs ≡ script (record { variable = v; step = s }) (read_commands (length t) false t)
unfolding read_script
script_is bs v r s t e f = rw (e, read_script) (rw f)

-- The two numbers of a head that reads.
pub record HeadRead (bs : List ℕ) (h : Head) (cs : Commands) : Type 0 where
  pub after_one : List ℕ
  pub after_two : List ℕ
  pub one : read bs ≡ number h.variable after_one
  pub two : read after_one ≡ number h.step after_two
  pub rest : read_commands (length after_two) false after_two ≡ cs

script_head : (h k : Head) (cs ds : Commands) → script h cs ≡ script k ds → (h ≡ k) × (cs ≡ ds)
script_head h k cs ds e = (cc, cc)

pub head_read : (bs : List ℕ) (h : Head) (cs : Commands) → read_script bs ≡ script h cs → HeadRead bs h cs
head_read bs h cs e = by (read bs) refl
  where
    by : (x : Front) → read bs ≡ x → HeadRead bs h cs
    by bad p = absurd (let k : headless ≡ script h cs = unfold read_script in rw (p, read_script) at e in let z : ◌≡◌ {A = ℕ} 0 1 = cc in omega arith)
    by (number v r) p = go (read r) refl
      where
        go : (y : Front) → read r ≡ y → HeadRead bs h cs
        go bad q = absurd (let k : headless ≡ script h cs = unfold read_script in rw (p, q, read_script) at e in let z : ◌≡◌ {A = ℕ} 0 1 = cc in
            omega arith)
        go (number s t) q =
            let k = script_head _ h _ cs (sym (script_is bs v r s t p q) ∙ e) in
            record {
              after_one = r;
              after_two = t;
              one = rw (← k.0) p;
              two = rw (← k.0) q;
              rest = k.1;
            }
