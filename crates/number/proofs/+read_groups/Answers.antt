-- `number::read_groups` meets its contract: each answer is a case of `read_in`. The measure is the limit.
use Rattle.std.proofs.Common.{arith, List, ◌≤◌, get_or, length, true, nat_lt}
use Rattle.std.specs.Prelude.{Option, Some}
use mathlib.Core.Path.{◌≡◌, sym, ap, ◌∙◌}
use Prim.Native.Nat.{ℕ, ◌+◌, ◌-◌, ◌<◌}
use borrow.Author.Tests.{ltb-true, ltb-false}
use Rattle.number.specs.Number.{Bytes, read_from}
use Rattle.number.proofs.Laws.{encode_length}
use Rattle.number.proofs.Places.{above_at, above_at-some, read_from-none, read_from-end, read_from-last, read_from-more, read_from-length}
use Rattle.number.proofs.+read_groups.Goals as goal

pub returns-then-groups-eq0 : goal.returns-then-groups-eq0
returns-then-groups-eq0 t c = rw c.if-groups-eq0.true (sym (read_from-none c.args.s.now c.args.at))

pub returns-in_err-get : goal.returns-in_err-get
returns-in_err-get t c =
    c.from_residual.ensures ∙ sym (read_from-end c.args.s.now c.args.at c.args.groups (ltb-false _ _ (sym c.in_err-get.ensures.lookup.0)))

pub returns-then-b-lt128 : goal.returns-then-b-lt128
returns-then-b-lt128 t c =
    sym (read_from-last c.args.s.now c.args.at c.args.groups c.from-b.result _ (omega arith) (ltb-true _ _ (sym c.in_ok-get.ensures.lookup.0)) (c.from-b.ensures ∙ c.in_ok-get.ensures.lookup.1) c.if-b-lt128.true)

-- what the call's answer makes of the whole
after : (s : List ℕ) (at groups b d v : ℕ) (r : Option (ℕ × ℕ)) → (groups ≡ 0 → ⊥) → true ≡ nat_lt at (length s) → b ≡ v → v ≡ get_or s at d → 128 ≤ b
    → r ≡ read_from (groups - 1) s (at + 1) → read_from groups s at ≡ above_at b r
after s at groups b d v r some in_range is there high e =
    read_from-more s at groups b d (omega arith) (ltb-true _ _ (sym in_range)) (is ∙ there) high ∙ ap (above_at b) (sym e)

pub returns-in_err-x : goal.returns-in_err-x
returns-in_err-x t c =
    c.from_residual-in_err-x.ensures
    ∙ sym (after _ _ _ _ _ _ _ c.if-groups-eq0.false c.in_ok-get.ensures.lookup.0 c.from-b.ensures c.in_ok-get.ensures.lookup.1 c.if-b-lt128.false c.in_err-x.ensures)

pub returns-then-x-eq0 : goal.returns-then-x-eq0
returns-then-x-eq0 t c =
    sym (after _ _ _ _ _ _ _ c.if-groups-eq0.false c.in_ok-get.ensures.lookup.0 c.from-b.ensures c.in_ok-get.ensures.lookup.1 c.if-b-lt128.false c.in_ok-x.ensures
    ∙ ap (λ (n : ℕ). above_at c.from-b.result (Some (n, c.in_ok-x.end))) c.if-x-eq0.true)

-- the call's number has one group less than the limit, at most three
small : (s : List ℕ) (at groups x end : ℕ) → ((i : ℕ) → get_or s i 0 < 256) → groups ≤ 4 → Some (x, end) ≡ read_from (groups - 1) s (at + 1) → x < 2097152
unfolding Bytes
small s at groups x end bytes few e =
    let l = read_from-length (groups - 1) s (at + 1) bytes (sym e) in
    omega (arith, (encode_length x 3 (omega arith)).0 (omega arith))

pub overflow_mul-result : goal.overflow_mul-result
overflow_mul-result t c = omega (arith, small _ _ _ _ _ (λ i. omega (arith, c.type_inv.s i)) c.requires c.in_ok-x.ensures)

pub overflow_add-result-2 : goal.overflow_add-result-2
overflow_add-result-2 t c =
    omega (arith, small _ _ _ _ _ (λ i. omega (arith, c.type_inv.s i)) c.requires c.in_ok-x.ensures, c.from-b.ensures, c.in_ok-get.ensures.lookup.1, c.type_inv.s c.args.at)

pub returns : goal.returns
returns t c =
    sym (after _ _ _ _ _ _ _ c.if-groups-eq0.false c.in_ok-get.ensures.lookup.0 c.from-b.ensures c.in_ok-get.ensures.lookup.1 c.if-b-lt128.false c.in_ok-x.ensures
    ∙ above_at-some _ c.in_ok-x.x c.in_ok-x.end (omega arith))
