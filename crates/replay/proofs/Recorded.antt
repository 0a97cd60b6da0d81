-- An answer read back from its bytes, and a log held to a recorded one.
use mathlib.Core.Path.{◌≡◌, sym, ap, ◌∙◌}
use mathlib.Core.List.{List, ◌++◌}
use Prim.Native.Nat.{ℕ, ◌<◌}
use native.Mathlib.Omega.{arith}
use native.Mathlib.Decide.{dec_lt}
use lib.ListN.{length, get_or, replicate, length-append, length-replicate, get_or-eq_default}
use lib.Seq.{ext_get_or, get_or-take, length-take-le}
use Rattle.player.specs.Player.{played}
use Rattle.answer.specs.Coded.{padded, word_at}
use Rattle.answer.specs.declared.Answer.{Answer}
use Rattle.answer.proofs.Fills.{pad_in, pad_past}
use Rattle.totlog.specs.Entry.{answer_of, Left, told}
use Rattle.totlog.proofs.Told.{told_left}
use Rattle.replay.specs.Compare.{Met}

-- ---- the answer

-- The six numbers, as the code reads them from the 24 bytes that a call left, are the script's.
pub six : (script log answer log-after bs : List ℕ) → Left script log answer log-after bs → length answer ≡ 24 → {x₁ x₂ x₃ x₄ x₅ x₆ : ℕ}
    → x₁ ≡ word_at bs 0 → x₂ ≡ word_at bs 4 → x₃ ≡ word_at bs 8 → x₄ ≡ word_at bs 12 → x₅ ≡ word_at bs 16 → x₆ ≡ word_at bs 20
    → record { number = x₁; place = x₂; length = x₃; steps = x₄; clauses = x₅; nodes = x₆ } ≡ answer_of (played script (length log))
six script log answer log-after bs left size n₁ n₂ n₃ n₄ n₅ n₆ =
    let read : record { number = _; place = _; length = _; steps = _; clauses = _; nodes = _ } ≡ answer_of (told log-after bs) =
    λ i. record { number = n₁ i; place = n₂ i; length = n₃ i; steps = n₄ i; clauses = n₅ i; nodes = n₆ i } in
    read ∙ ap answer_of (told_left script log answer log-after bs left (omega arith))

-- ---- the log

padded_length : (n : ℕ) (l : List ℕ) → length (padded n l) ≡ n
padded_length n l = length-take-le n (l ++ replicate n 0) (simp (length-append, length-replicate) (omega arith))

-- A padded list has its own bytes, and zeros.
padded_at : (n : ℕ) (l : List ℕ) (k : ℕ) → k < n → get_or (padded n l) k 0 ≡ get_or l k 0
padded_at n l k h = get_or-take n (l ++ replicate n 0) k 0 h ∙ by (dec_lt k (length l))
  where
    by : Dec (k < length l) → get_or (l ++ replicate n 0) k 0 ≡ get_or l k 0
    by (yes inside) = pad_in n l k inside
    by (no past) = pad_past n l k h (omega arith) ∙ sym (get_or-eq_default l 0 {n = k} (omega arith))

module _ (log recorded : List ℕ) where
  agreeing : ((k : ℕ) → k < length log → get_or log k 0 ≡ get_or recorded k 0) → log ≡ padded (length log) recorded
  agreeing h =
      ext_get_or 0 log (padded (length log) recorded) (sym (padded_length (length log) recorded))
      (λ k inside. h k inside ∙ sym (padded_at (length log) recorded k inside))

  differing : (k : ℕ) → k < length log → (get_or log k 0 ≡ get_or recorded k 0 → ⊥) → log ≡ padded (length log) recorded → ⊥
  differing k inside not is = not (ap (λ (l : List ℕ). get_or l k 0) is ∙ padded_at (length log) recorded k inside)

-- ---- a case

-- A script played, with the answer and the log that the code got.
module _ (script recorded : List ℕ) (c : ℕ) (answer got : Answer) (log : List ℕ) (p : got ≡ answer_of (played script c))
    (q : log ≡ (played script c).log) (size : length log ≡ c) where
  -- n is how many bytes the log has as recorded.
  pub met : (n : ℕ) → got ≡ answer → n ≡ length log → ((k : ℕ) → k < n → get_or log k 0 ≡ get_or recorded k 0) → Met script c answer recorded
  met n same whole all =
      record {
        numbers = sym p ∙ same;
        log = sym q ∙ agreeing log recorded (λ k h. all k (omega arith)) ∙ ap (λ (m : ℕ). padded m recorded) size;
      }

  pub unmet_numbers : (got ≡ answer → ⊥) → Met script c answer recorded → ⊥
  unmet_numbers not m = not (p ∙ m.numbers)

  pub unmet_log : (n : ℕ) → n < length log → (n < length log → get_or log n 0 ≡ get_or recorded n 0 → ⊥) → Met script c answer recorded → ⊥
  unmet_log n inside other m = differing log recorded n inside (other inside) (q ∙ m.log ∙ ap (λ (k : ℕ). padded k recorded) (sym size))
