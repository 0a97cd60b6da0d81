-- The sheet from what the library answers: the refusal, or the header and the lines of the log.
use mathlib.Core.Path.{◌≡◌, refl, sym, ap, ◌∙◌}
use mathlib.Core.List.{List, ◌++◌, flat_map}
use Prim.Native.Nat.{ℕ, zero, suc, ◌≤◌}
use lib.ListN.{length, take}
use lib.Seq.{length-take-le}
use Rattle.sizes.specs.Sizes.{most_bytes}
use Rattle.player.specs.Player.{played}
use Rattle.totlog.specs.Entry.{answer_of}
use Rattle.answer.specs.declared.Answer.{Answer}
use Rattle.player.proofs.Plays.{padded}
use Rattle.order.specs.Order.{sorted}
use Rattle.listing.specs.Line.{line, lines_at}
use Rattle.lines.specs.Sheet.{header, refusal, clauses_in, sheet_of, sheet}
use Rattle.text.specs.Text.{Page, Prints}
use Rattle.text.proofs.Laws.{after}
use Rattle.lines.proofs.Played.{log_clauses_lem}

module _ (script : List ℕ) {log : List ℕ} {a : Answer} (p : a ≡ answer_of (played script most_bytes)) (q : log ≡ (played script most_bytes).log) where
  pub used_within : a.length ≤ length log
  used_within = let d = padded most_bytes script in rw (p, q, d.whole) d.within

  pub cut_length : a.length ≡ length (take a.length log)
  cut_length = sym (length-take-le a.length log used_within)

  pub cut_within : length (take a.length log) ≤ most_bytes
  cut_within = let d = padded most_bytes script in rw (← cut_length, p) d.within

  refused_sheet : (a.number ≡ 0 → ⊥) → refusal a.number a.place ≡ sheet script
  unfolding sheet_of
  refused_sheet h = go a.number refl
    where
      go : (n : ℕ) → a.number ≡ n → refusal a.number a.place ≡ sheet script
      go zero e = absurd (h e)
      go (suc n) e =
          let k : (played script most_bytes).number ≡ suc n = ap (λ (b : Answer). b.number) (sym p) ∙ e in
          let f : (played script most_bytes).place ≡ a.place = ap (λ (b : Answer). b.place) (sym p) in
          rw (k, sheet_of, f, e)

  accepted_sheet : a.number ≡ 0 → header a.nodes a.steps a.clauses ++ lines_at (take a.length log) ≡ sheet script
  unfolding sheet_of lines_at
  accepted_sheet h =
      let o = played script most_bytes in
      let l = take o.used o.log in
      let k : o.number ≡ 0 = ap (λ (b : Answer). b.number) (sym p) ∙ h in
      let lines : lines_at l ≡ flat_map line (sorted (clauses_in l)) =
      ap (λ (cs : List (List ℕ)). flat_map line (sorted cs)) (log_clauses_lem script most_bytes) in
      rw (p, q, k, sheet_of, lines)

  -- The same of what is printed.
  pub refusal_printed : {p q : Page} → Prints p (refusal a.number a.place) q → (a.number ≡ 0 → ⊥) → Prints p (sheet script) q
  refusal_printed k h = rw (refused_sheet h) at k

  pub sheet_printed : {p q r : Page} → Prints p (header a.nodes a.steps a.clauses) q → Prints q (lines_at (take a.length log)) r → a.number ≡ 0
      → Prints p (sheet script) r
  sheet_printed k l h = rw (accepted_sheet h) at (after k l)
