-- The number of a refusal is at most 15.
use mathlib.Core.Path.{◌≡◌, refl}
use mathlib.Core.Bool.{Bool, false}
use mathlib.Core.List.{List, [], ◌∷◌}
use Prim.Native.Nat.{ℕ, zero, suc, ◌≤◌}
use native.Mathlib.Omega.{arith}
use lib.ListN.{length}
use Rattle.cert.specs.State.{Head, State}
use Rattle.player.specs.Player.{Result, accepted, refused, play, plays}
use Rattle.player.specs.Script.{Next, command, refuse, end, read_command, closes, stop, before, read_commands, Commands, script, read_script}
use Rattle.player.specs.declared.Command.{Command}
use Rattle.player.proofs.Coding.{refused_number}
use Rattle.player.proofs.Questions.{questions_asked}
use Rattle.player.proofs.Plays.{head_read, outcome_number, PlayCase, stops, overflows, goes, play_cases, plays_done, plays_ended, plays_accepted, plays_refused}

play_most : (h : Head) (capacity : ℕ) (c : Command) (s : State) (m : ℕ) → play h capacity c s ≡ refused m → m ≤ 15
play_most h capacity c s m e = by (play_cases h capacity c s)
  where
    by : PlayCase h capacity c s → m ≤ 15
    by (stops n q k) = let z : suc n ≡ m = cc in omega (arith, questions_asked h s.nodes c)
    by (overflows k) = let z : 14 ≡ m = cc in omega arith
    by (goes q l k) = absurd (let z : ◌≡◌ {A = ℕ} 0 1 = cc in omega arith)

ending_most : (k : ℕ) (closed : Bool) (bs : List ℕ) → (read_commands k closed bs).ending ≤ 5
unfolding read_commands stop before
ending_most zero closed bs = omega arith
ending_most (suc k) closed bs = by (read_command closed bs) refl (ending_most k)
  where
    by : (t : Next) → read_command closed bs ≡ t → ((d : Bool) (r : List ℕ) → (read_commands k d r).ending ≤ 5) → (read_commands (suc k) closed bs).ending ≤ 5
    by (command c rest) e ih = rw (e, read_commands) (ih (closes c) rest)
    by (refuse n) e ih = rw (e, read_commands) (omega (arith, (refused_number closed bs n e).1))
    by end e ih = rw (e, read_commands) (omega arith)

-- The questions of reading are 2, 4 and 5.
script_ending : (bs : List ℕ) (h : Head) (cs : Commands) → read_script bs ≡ script h cs → cs.ending ≤ 5
script_ending bs h cs e = let r = head_read bs h cs e in rw r.rest at (ending_most (length r.after_two) false r.after_two)

pub script_most : (bs : List ℕ) (h : Head) (cs : Commands) → read_script bs ≡ script h cs → cs.ending ≤ 15
script_most bs h cs e = omega (arith, script_ending bs h cs e)

pub plays_most : (h : Head) (capacity ending : ℕ) (cs : List Command) (p : ℕ) (s : State) → ending ≤ 15 → (plays h capacity ending cs p s).number ≤ 15
plays_most h capacity zero [] p s l = rw (plays_done h capacity 0 p s, outcome_number capacity 0 p s) (omega arith)
plays_most h capacity (suc n) [] p s l = rw (plays_ended h capacity 0 n p s, outcome_number capacity (suc n) (suc p) s) l
plays_most h capacity ending (c ∷ cs) p s l = by (play h capacity c s) refl (λ u. plays_most h capacity ending cs (suc p) u l)
  where
    by : (r : Result) → play h capacity c s ≡ r → ((u : State) → (plays h capacity ending cs (suc p) u).number ≤ 15) → (plays h capacity ending (c ∷ cs) p s).number ≤ 15
    by (accepted u) e ih = rw (plays_accepted h capacity ending c cs p s u e) (ih u)
    by (refused m) e ih = rw (plays_refused h capacity ending c cs p s m e, outcome_number capacity m (suc p) s) (play_most h capacity c s m e)
