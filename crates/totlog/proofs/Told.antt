-- Log and answer at the exit of a call tell the outcome of the script.
use mathlib.Core.Path.{◌≡◌, ap, ◌∙◌}
use mathlib.Core.List.{List, ◌++◌}
use Prim.Native.Nat.{ℕ, ◌+◌, ◌-◌, ◌*◌, ◌≤◌, ◌/◌, ◌%◌}
use native.Mathlib.Omega.{arith}
use lib.ListN.{length, replicate, take}
use lib.Seq.{take-append-add}
use Rattle.player.specs.Player.{Outcome, played}
use Rattle.answer.specs.Coded.{bytes_of, padded, word_at}
use Rattle.totlog.specs.Entry.{answer_of, Left, told}

-- Four bytes, low byte first, and back.
four : (x : ℕ) → x % 256 + 256 * (x / 256 % 256) + 65536 * (x / 65536 % 256) + 16777216 * (x / 16777216) ≡ x
four x = omega arith

whole : (o : Outcome) (rest : List ℕ) → told o.log (bytes_of (answer_of o) ++ rest) ≡ o
whole o rest =
    let a = bytes_of (answer_of o) ++ rest in
    let number : word_at a 0 ≡ o.number = four o.number in
    let place : word_at a 4 ≡ o.place = four o.place in
    let used : word_at a 8 ≡ o.used = four o.used in
    let steps : word_at a 12 ≡ o.steps = four o.steps in
    let clauses : word_at a 16 ≡ o.clauses = four o.clauses in
    let nodes : word_at a 20 ≡ o.nodes = four o.nodes in
    λ i. record { number = number i; place = place i; used = used i; steps = steps i; clauses = clauses i; nodes = nodes i; log = o.log }

pub told_left : (script log answer log-after answer-after : List ℕ) → Left script log answer log-after answer-after → 24 ≤ length answer
    → told log-after answer-after ≡ played script (length log)
told_left script log answer log-after answer-after l e =
    let o = played script (length log) in
    let b = bytes_of (answer_of o) in
    let n : length answer ≡ length b + (length answer - 24) = omega arith in
    let cut : padded (length answer) b ≡ b ++ take (length answer - 24) (replicate (length answer) 0) =
    ap (λ (k : ℕ). take k (b ++ replicate (length answer) 0)) n ∙ take-append-add b (replicate (length answer) 0) (length answer - 24) in
    rw (l.log_is, l.answer_is, cut) (whole o (take (length answer - 24) (replicate (length answer) 0)))
