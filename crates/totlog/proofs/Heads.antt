-- The head of a script: where it is refused, its limits, and the place after it.
use mathlib.Core.Path.{◌≡◌, refl, ◌∙◌, ap}
use mathlib.Core.Bool.{true, false}
use mathlib.Core.List.{List, flat_map}
use Prim.Native.Nat.{ℕ, ◌≤◌, ◌<◌}
use native.Mathlib.Omega.{arith}
use borrow.Author.Tests.{le-leb, lt-leb}
use Rattle.std.specs.Prelude.{Option, Some, None, Err}
use Rattle.std.proofs.lemmas.Option.{some_pair_parts}
use lib.ListN.{length}
use Rattle.sizes.specs.Sizes.{most_bytes, most_head}
use Rattle.number.specs.Number.{groups, read_at}
use Rattle.number.proofs.Places.{read_from-number}
use Rattle.record.specs.Record.{bytes, steps, clauses}
use Rattle.cert.specs.State.{Head, start}
use Rattle.player.specs.Places.{head_at, read_on}
use Rattle.player.specs.Player.{Outcome, outcome, head_fits, played, play_script, refused_at_head}
use Rattle.player.proofs.Places.{headed, script_head}
use Rattle.player.proofs.Plays.{played_true, played_false, script_true, script_false, script_headless}
use Rattle.player.specs.Refusals.{number_of}
use Rattle.player.specs.declared.Refusal.{Refusal}
use Rattle.totlog.specs.Entry.{answer_of, commands_from, played_from, Tells, Asked, begins, turned_away}
use Rattle.answer.specs.declared.Answer.{Answer}

-- ---- a script that is refused at its head

module _ (c n : ℕ) where
  refused_answer : record { number = n; place = 0; length = 0; steps = 0; clauses = 0; nodes = 0 } ≡ answer_of (refused_at_head c n)
  unfolding refused_at_head outcome start bytes flat_map steps clauses
  refused_answer = refl

  pub refused_tells : (log : List ℕ) (o : Outcome) (a : Answer) → o ≡ refused_at_head c n
      → a ≡ record { number = n; place = 0; length = 0; steps = 0; clauses = 0; nodes = 0 } → Tells o log a
  unfolding refused_at_head outcome start bytes flat_map
  refused_tells log o a p q = rw (p, q) (record { answer = refused_answer; front = refl })

module _ (bs : List ℕ) (c : ℕ) where
  pub refused_is : (r : Refusal) → Asked bs c (Err r) → played bs c ≡ refused_at_head c (number_of r)
  refused_is r (begins o e l p) = absurd (let z : ◌≡◌ {A = ℕ} 0 1 = cc in omega arith)
  refused_is r (turned_away v e p) = let same : v ≡ r = cc in p ∙ ap (λ (x : Refusal). refused_at_head c (number_of x)) same

  pub script_long : most_bytes < length bs → played bs c ≡ refused_at_head c 1
  script_long p = played_false c bs (rw (lt-leb (length bs) most_bytes p))

  module _ (short : length bs ≤ most_bytes) where
    pub log_long : most_bytes < c → played bs c ≡ refused_at_head c 1
    log_long p = played_false c bs (rw (le-leb (length bs) most_bytes short, lt-leb c most_bytes p))

    module _ (small : c ≤ most_bytes) where
      plays_script : played bs c ≡ play_script c (headed bs (head_at bs))
      plays_script = played_true c bs (rw (le-leb (length bs) most_bytes short, le-leb c most_bytes small)) ∙ ap (play_script c) (script_head bs)

      pub head_bad : head_at bs ≡ None → played bs c ≡ refused_at_head c 2
      head_bad e = plays_script ∙ ap (λ (r : Option (Head × ℕ)). play_script c (headed bs r)) e ∙ script_headless c

      module _ (h : Head) (e : ℕ) (reads : head_at bs ≡ Some (h, e)) where
        pub head_outside : head_fits h ≡ false → played bs c ≡ refused_at_head c 3
        head_outside p =
            plays_script ∙ ap (λ (r : Option (Head × ℕ)). play_script c (headed bs r)) reads ∙ script_false c h (commands_from bs e) p

        pub head_inside : head_fits h ≡ true → played bs c ≡ played_from bs e h c
        head_inside p =
            plays_script ∙ ap (λ (r : Option (Head × ℕ)). play_script c (headed bs r)) reads ∙ script_true c h (commands_from bs e) p

-- The limits of the head, one by one.
module _ (h : Head) where
  pub variable_high : most_head < h.variable → head_fits h ≡ false
  unfolding head_fits
  variable_high p = rw (lt-leb h.variable most_head p)

  module _ (low : h.variable ≤ most_head) where
    pub step_zero : h.step ≡ 0 → head_fits h ≡ false
    unfolding head_fits
    step_zero p = rw (le-leb h.variable most_head low, lt-leb 1 h.step (omega arith))

    module _ (some : 1 ≤ h.step) where
      pub step_high : most_head < h.step → head_fits h ≡ false
      unfolding head_fits
      step_high p = rw (le-leb h.variable most_head low, le-leb 1 h.step some, lt-leb h.step most_head p)

      pub head_fits_lem : h.step ≤ most_head → head_fits h ≡ true
      unfolding head_fits
      head_fits_lem p = rw (le-leb h.variable most_head low, le-leb 1 h.step some, le-leb h.step most_head p)

-- ---- the place after the head

pub head_end : (bs : List ℕ) (h : Head) (e : ℕ) → head_at bs ≡ Some (h, e) → (0 < e) × (e ≤ length bs)
head_end bs h e is = by (read_at bs 0) is
  where
    by : (r : Option (ℕ × ℕ)) → read_on {B = Head × ℕ} r (λ v a. read_on (read_at bs a) (λ n e. Some (record { variable = v; step = n }, e))) ≡ Some (h, e)
        → (0 < e) × (e ≤ length bs)
    by None k = absurd (let z : ◌≡◌ {A = ℕ} 0 1 = cc in omega arith)
    by (Some (v, a)) k = go (read_at bs a) refl k
      where
        go : (r : Option (ℕ × ℕ)) → read_at bs a ≡ r → read_on {B = Head × ℕ} r (λ n e. Some (record { variable = v; step = n }, e)) ≡ Some (h, e) → (0 < e) × (e ≤ length bs)
        go None p q = absurd (let z : ◌≡◌ {A = ℕ} 0 1 = cc in omega arith)
        go (Some (n, d)) p q =
            let w : d ≡ e = (some_pair_parts _ h d e q).1 in
            let k = read_from-number groups bs a p in
            (omega (arith, w, k.1), omega (arith, w, k.2))
