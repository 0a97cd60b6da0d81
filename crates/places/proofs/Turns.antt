-- Laws that the code's proofs cite: a reading as an item, and what one more turn of a loop leaves.
use mathlib.Core.Path.{◌≡◌, refl, sym, ap, ◌∙◌}
use mathlib.Core.List.{List, [], ◌∷◌, map}
use lib.ListN.{length, length-map}
use Prim.Native.Nat.{ℕ, ◌+◌, ◌*◌, suc}
use native.Mathlib.Omega.{arith}
use borrow.Author.Tests.{ne_eqb}
use Rattle.std.specs.Prelude.{Option, Some, None}
use Rattle.std.specs.Option.{unwrap_or}
use Rattle.std.specs.List.{FoldsTo, range_with_len}
use Rattle.std.specs.Iterator.{ActsAsOnTwo, FoldTurn, FoldsItems}
use Rattle.std.proofs.iter.Yields.{nat_range_steps}
use Rattle.std.proofs.lemmas.Iterator.{items_from_drains, YieldsList-from_range}
use Rattle.std.proofs.lemmas.List.FromFn.{length-range_with_len}
use denote.Param.Members.{Mut}
use Rattle.number.specs.Number.{read_at}
use Rattle.places.specs.declared.Item.{Item}
use Rattle.places.specs.Walk.{item, read, item_at, after_number, skip, after_token, after_record, numbers_at}

-- ---- numbers in turn

read_is : (n : ℕ) (o : Option (ℕ × ℕ)) → item (unwrap_or o (0, n)).0 (unwrap_or o (0, n)).1 ≡ read n o
unfolding read
read_is n (Some (x, e)) = refl
read_is n None = refl

pub item_is : (log : List ℕ) (at : ℕ) {o : Option (ℕ × ℕ)} {p : ℕ × ℕ} → o ≡ read_at log at → p ≡ unwrap_or o (0, length log) → item p.0 p.1 ≡ item_at log at
item_is log at {o} e f = rw f (rw e (read_is (length log) (read_at log at)))

pub numbers_end : (log : List ℕ) (k at : ℕ) → k ≡ 0 → numbers_at log k at ≡ []
unfolding numbers_at
numbers_end log k at h = rw h

pub numbers_next : (log : List ℕ) (at : ℕ) {k m : ℕ} {x : Item} → x ≡ item_at log at → k ≡ suc m → numbers_at log k at ≡ x.value ∷ numbers_at log m x.end
unfolding numbers_at
numbers_next log at q h = rw (h, q)

-- ---- a fold that goes on from place to place is `skip`

module _ {F : Type 0} {g : Mut F (ℕ × (ℕ × Unit {0})) ℕ} {f : F} (next : ℕ → ℕ) (acts : ActsAsOnTwo g f (λ at _. next at)) where
  skip_turns : (f' : F) (xs : List ℕ) (at r : ℕ) → FoldsTo {P = F × ℕ} (FoldTurn g) (f, at) xs (f', r) → r ≡ skip next (length xs) at
  unfolding skip
  skip_turns f' [] at r e = sym (ap (λ (p : F × ℕ). p.1) e)
  skip_turns f' (x ∷ xs) at r ((h, y), c, t) = let q = acts at x y h c in skip_turns f' xs (next at) r (rw (q.0, q.1) at t)

pub skip_range : {F : Type 0} {g : Mut F (ℕ × (ℕ × Unit {0})) ℕ} {f : F} (next : ℕ → ℕ) (k at r : ℕ) → ActsAsOnTwo g f (λ at _. next at)
    → FoldsItems nat_range_steps g (record { start = 0; end = k }) f at r → r ≡ skip next k at
skip_range next k at r acts (xs, f', d, turns) =
    let is : map (λ x. x) xs ≡ range_with_len 0 k = items_from_drains xs (d.1.0, d.1.1, λ _. (d.0, d.1.2)) (YieldsList-from_range 0 k k refl (omega arith)) in
    let n : length xs ≡ k = sym (length-map xs (λ x. x)) ∙ ap length is ∙ length-range_with_len 0 k in
    rw n at (skip_turns next acts f' xs at r turns)

-- ---- the place after a token and after a record, by cases

module _ (log : List ℕ) (at : ℕ) {t : Item} (q : t ≡ item_at log at) where
  pub token_add : t.value ≡ 2 → t.end ≡ after_token log at
  unfolding after_token
  token_add h = rw (← q, h)

  pub token_saturate : t.value ≡ 4 → t.end ≡ after_token log at
  unfolding after_token
  token_saturate h = rw (← q, h)

  pub token_other : (t.value ≡ 2 → ⊥) → (t.value ≡ 4 → ⊥) → {u : Item} → u ≡ item_at log t.end → u.end ≡ after_token log at
  unfolding after_token
  token_other h k p = rw (← q, ne_eqb t.value 2 h, ne_eqb t.value 4 k, ← p)

module _ (log : List ℕ) (at : ℕ) {kind first : Item} (p : kind ≡ item_at log at) (q : first ≡ item_at log kind.end) where
  pub record_derivation : kind.value ≡ 2 → skip (after_token log) first.value first.end ≡ after_record log at
  unfolding after_record
  record_derivation h = rw (← p, ← q, h)

  pub record_sum : {second : Item} → second ≡ item_at log first.end → kind.value ≡ 1 → skip (after_number log) (2 * second.value + 1) second.end ≡ after_record log at
  unfolding after_record
  record_sum r h = rw (← p, ← q, ← r, h)

  pub record_clause : {second : Item} → second ≡ item_at log first.end → kind.value ≡ 3 → skip (after_number log) second.value second.end ≡ after_record log at
  unfolding after_record
  record_clause r h = rw (← p, ← q, ← r, h)

  pub record_other : (kind.value ≡ 1 → ⊥) → (kind.value ≡ 2 → ⊥) → (kind.value ≡ 3 → ⊥) → skip (after_number log) first.value first.end ≡ after_record log at
  unfolding after_record
  record_other f g h = rw (← p, ← q, ne_eqb kind.value 1 f, ne_eqb kind.value 2 g, ne_eqb kind.value 3 h)
