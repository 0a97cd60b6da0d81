-- An accepted script: it reads as a head and commands, and all of these passed every question.
use mathlib.Core.Path.{◌≡◌, refl, sym, ◌∙◌, ap}
use mathlib.Core.Bool.{Bool, true, false, ◌&&◌}
use mathlib.Core.List.{List}
use Prim.Native.Nat.{ℕ, ◌≤◌}
use native.Mathlib.Omega.{arith}
use borrow.Author.Tests.{leb-true, le-leb}
use lib.Dec.{leb}
use lib.ListN.{length}
use Rattle.sizes.specs.Sizes.{most_bytes}
use Rattle.memo.proofs.Booleans.{and_true}
use Rattle.cert.specs.State.{start, Head}
use Rattle.player.specs.Passes.{Passes}
use Rattle.player.specs.Player.{outcome, plays, refused_at_head, head_fits, play_script, played}
use Rattle.player.specs.Script.{Commands, Script, script, headless, read_script}
use Rattle.player.proofs.Plays.{script_true, script_false, script_headless, played_true, played_false}
use Rattle.player.proofs.Runs.{plays_finished, plays_passed}

pub head_number : (capacity n : ℕ) → (refused_at_head capacity n).number ≡ n
unfolding refused_at_head outcome
head_number capacity n = refl

-- Which of the four ways a script goes: past question 1 or not, with a head that reads or not, and that fits or not.
pub data Way (bs : List ℕ) (capacity : ℕ) : Type 0 where
  too_long : played bs capacity ≡ refused_at_head capacity 1 → Way bs capacity
  no_head : played bs capacity ≡ refused_at_head capacity 2 → Way bs capacity
  bad_head : played bs capacity ≡ refused_at_head capacity 3 → Way bs capacity
  commands : (h : Head) (cs : Commands) → read_script bs ≡ script h cs → head_fits h ≡ true → length bs ≤ most_bytes → capacity ≤ most_bytes
      → played bs capacity ≡ plays h capacity cs.ending cs.list 0 (start h) → Way bs capacity

pub way : (bs : List ℕ) (capacity : ℕ) → Way bs capacity
way bs capacity = by (leb (length bs) most_bytes && leb capacity most_bytes) refl (read_script bs) refl
  where
    by : (b : Bool) → (leb (length bs) most_bytes && leb capacity most_bytes) ≡ b → (r : Script) → read_script bs ≡ r → Way bs capacity
    by false s r k = too_long (played_false capacity bs s)
    by true s headless k = no_head (played_true capacity bs s ∙ ap (play_script capacity) k ∙ script_headless capacity)
    by true s (script h cs) k = fit (head_fits h) refl
      where
        fit : (b : Bool) → head_fits h ≡ b → Way bs capacity
        fit false f = bad_head (played_true capacity bs s ∙ ap (play_script capacity) k ∙ script_false capacity h cs f)
        fit true f =
            let l = and_true (leb (length bs) most_bytes) (leb capacity most_bytes) s in
            commands h cs k f (leb-true (length bs) most_bytes l.0) (leb-true capacity most_bytes l.1)
            (played_true capacity bs s ∙ ap (play_script capacity) k ∙ script_true capacity h cs f)

-- A script without refusal reads as a head and commands, all of which passed.
pub accepted_reads : (bs : List ℕ) (capacity : ℕ) → (played bs capacity).number ≡ 0 → (h : Head) × (cs : Commands) × Passes bs capacity h cs
accepted_reads bs capacity e = by (way bs capacity)
  where
    by : Way bs capacity → (h : Head) × (cs : Commands) × Passes bs capacity h cs
    by (too_long z) = absurd (omega (arith, rw z at e, head_number capacity 1))
    by (no_head z) = absurd (omega (arith, rw z at e, head_number capacity 2))
    by (bad_head z) = absurd (omega (arith, rw z at e, head_number capacity 3))
    by (commands h cs r f short small z) =
        let k = plays_finished h capacity cs.ending cs.list 0 (start h) (rw z at e) in
        let a : Passes bs capacity h cs = record {
          short = short;
          small = small;
          reads = r;
          to_end = k.no_ending;
          fits = f;
          state = k.state;
          all = k.all;
        } in
        (h, cs, a)

pub accepted_script : (bs : List ℕ) (capacity : ℕ) (h : Head) (cs : Commands) → read_script bs ≡ script h cs → (played bs capacity).number ≡ 0
    → Passes bs capacity h cs
accepted_script bs capacity h cs r e =
    let a = accepted_reads bs capacity e in
    let one : script a.0 a.1 ≡ script h cs = sym a.2.reads ∙ r in
    let head : a.0 ≡ h = cc in
    let list : a.1 ≡ cs = cc in
    rw (head, list) at a.2

-- The commands of a script that passes are played, with any capacity that question 1 lets pass.
pub passes_plays : {bs : List ℕ} {capacity : ℕ} {h : Head} {cs : Commands} → Passes bs capacity h cs → (other : ℕ) → other ≤ most_bytes
    → played bs other ≡ plays h other 0 cs.list 0 (start h)
passes_plays {bs} {capacity} {h} {cs} a other most =
    let two : (leb (length bs) most_bytes && leb other most_bytes) ≡ true =
    rw (le-leb (length bs) most_bytes a.short, le-leb other most_bytes most) in
    played_true other bs two ∙ ap (play_script other) a.reads ∙ script_true other h cs a.fits
    ∙ ap (λ (n : ℕ). plays h other n cs.list 0 (start h)) a.to_end

-- A script that passes is played to its end.
pub passes_is : {bs : List ℕ} {capacity : ℕ} {h : Head} {cs : Commands} (a : Passes bs capacity h cs)
    → played bs capacity ≡ outcome capacity 0 (length cs.list) a.state
passes_is {bs} {capacity} {h} {cs} a = passes_plays a capacity a.small ∙ plays_passed 0 a.all ∙ ap (λ (n : ℕ). outcome capacity 0 n a.state) (omega arith)
