-- The answer of a play that has ended.
use mathlib.Core.Path.{◌≡◌, refl, sym, ◌∙◌, ap}
use mathlib.Core.List.{List, ◌++◌, append-nil}
use Prim.Native.Nat.{ℕ, ◌-◌, ◌≤◌}
use native.Mathlib.Omega.{arith}
use borrow.Rule.Slice.PartMut.{mid_of, put_mid, mid_len, Post-is}
use lib.ListN.{length, take, replicate, take-append-drop}
use lib.Seq.{take_at, drop-length}
use Rattle.sizes.specs.Sizes.{most_nodes}
use Rattle.record.specs.Record.{bytes, steps}
use Rattle.cert.specs.State.{Head, start}
use Rattle.player.specs.Player.{outcome, Outcome, plays, Padded}
use Rattle.player.specs.Refusals.{number_or_none}
use Rattle.player.specs.Script.{Commands}
use Rattle.totlog.specs.Entry.{answer_after, answer_of, Finished, Tells}
use Rattle.answer.specs.declared.Answer.{Answer}
use Rattle.totlog.specs.declared.PlayEnd.{PlayEnd}

module _ {h : Head} {c : ℕ} {cs : Commands} {log : List ℕ} {r : PlayEnd} (f : Finished h c cs log r) where
  pub finished_step : h.step ≤ r.totals.step
  finished_step = omega (arith, f.reported.step, f.counted)

  pub finished_at : r.totals.at ≤ c
  finished_at = omega (arith, f.reported.used, f.fits)

  pub finished_nodes : r.totals.nodes ≤ most_nodes
  finished_nodes = omega (arith, f.reported.nodes, f.few)

  answer_is : answer_after h.step r ≡ answer_of (outcome c (number_or_none r.refusal) r.place f.state)
  unfolding outcome
  answer_is =
      let k : r.totals.step - h.step ≡ steps f.state.log = omega (arith, f.reported.step, f.counted) in
      rw (k, f.reported.used, f.reported.clauses, f.reported.nodes)

  front_is : take (length (bytes f.state.log)) log ≡ take (length (bytes f.state.log)) (outcome c (number_or_none r.refusal) r.place f.state).log
  unfolding outcome
  front_is =
      ap (λ (n : ℕ). take n log) (sym f.reported.used) ∙ f.reported.whole
      ∙ sym (take_at (bytes f.state.log) (replicate (c - length (bytes f.state.log)) 0) (length (bytes f.state.log)) refl)

  pub finished_tells : (a : Answer) → a ≡ answer_after h.step r → Tells (plays h c cs.ending cs.list 0 (start h)) log a
  finished_tells a e = rw f.is (record { answer = e ∙ answer_is; front = unfold outcome in front_is })

-- Zeros put from the answer's length on.
module _ {o : Outcome} {log : List ℕ} {a : Answer} (p : Padded (length log) o) (t : Tells o log a) where
  used_is : a.length ≡ o.used
  used_is = ap (λ (x : Answer). x.length) t.answer

  pub used_within : a.length ≤ length log
  used_within = omega (arith, used_is, p.within)

  pub settled : (zs : List ℕ) → zs ≡ replicate (length (mid_of a.length (length log - a.length) log)) 0
      → put_mid a.length (length log - a.length) log zs ≡ o.log
  settled zs e =
      let h = used_within in
      let k : put_mid a.length (length log - a.length) log zs ≡ take a.length log ++ replicate (length log - a.length) 0 =
      rw (e, mid_len a.length (length log) log (omega arith), Post-is a.length (length log) log h, drop-length, append-nil) in
      k ∙ rw (used_is, t.front, ← p.zeros) (take-append-drop o.used o.log)
