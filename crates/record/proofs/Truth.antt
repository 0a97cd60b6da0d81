-- The sums of a log entail what its steps come to, and its clauses.
use mathlib.Core.Path.{◌≡◌, refl, sym, subst}
use mathlib.Core.Bool.{Bool, true, false}
use mathlib.Core.Logic.{⊎_elim}
use mathlib.Core.List.Memᴰ
use mathlib.Core.List.{List, [], ◌∷◌, ◌++◌, Memᴰ}
use mathlib.Core.Option.{Option, none, some, some-injective, none-ne-some}
use Prim.Native.Nat.{ℕ, zero, suc, ◌-◌}
use lib.Dec.{ltb}
use lib.ListN.{get_or}
use Rattle.pb.specs.Rules.{evaluate}
use Rattle.pb.specs.Sum.{Sum, ◌≥◌, normal, clause_sum}
use Rattle.pb.specs.Truth.{Assignment, Satisfies}
use Rattle.pb.proofs.Truth.{satisfies_normal, satisfies_clause, sound_evaluate}
use Rattle.record.specs.Record.{Record, sum, derivation, clause, deletion}
use Rattle.record.specs.Steps.{step_sum, sums_after, step_of}
use Rattle.record.specs.Truth.{SatisfiesSums, Entailed}

module _ (first : ℕ) (a : Assignment) where
  -- Each sum of the list is satisfied.
  Known : List (Option Sum) → Type 0
  Known known = (s : Sum) → Memᴰ (some s) known → Satisfies a s

  found : (known : List (Option Sum)) (i : ℕ) (s : Sum) → get_or known i none ≡ some s → Memᴰ (some s) known
  found [] i s e = absurd (none-ne-some s e)
  found (o ∷ known) zero s e = Memᴰ.head (sym e)
  found (o ∷ known) (suc i) s e = Memᴰ.tail (found known i s e)

  step_known : (known : List (Option Sum)) → Known known → (n : ℕ) (s : Sum) → step_sum first known n ≡ some s → Satisfies a s
  unfolding Known step_sum
  step_known known k n s e = by (ltb n first) e
    where
      by : (b : Bool) → elim b [ true ↦ none | false ↦ get_or known (n - first) none ] ≡ some s → Satisfies a s
      by true f = absurd (none-ne-some s f)
      by false f = k s (found known (n - first) s f)

  known_more : (known : List (Option Sum)) (o : Option Sum) → Known known → ((s : Sum) → o ≡ some s → Satisfies a s) → Known (known ++ (o ∷ []))
  unfolding Known
  known_more known o k h s m = ⊎_elim (k s) (λ q. h s (sym (Memᴰ.eq_of_singleton q))) (Memᴰ.append_cases known m)

  -- A record after the others: its sum holds, and those before it.
  known_after : (known : List (Option Sum)) (rs : List Record) → Known known → SatisfiesSums a rs → Known (sums_after first known rs)
  unfolding sums_after
  known_after known [] k h = k
  known_after known (sum w ts b ∷ rs) k h =
      known_after (known ++ (some (normal (ts ≥ b)) ∷ [])) rs
      (known_more known (some (normal (ts ≥ b))) k
      (λ s e. subst (Satisfies a) (some-injective (normal (ts ≥ b)) s e) ((satisfies_normal a (ts ≥ b)).1 (h w ts b (Memᴰ.head refl)))))
      (λ u us c m. h u us c (Memᴰ.tail m))
  known_after known (derivation ks ∷ rs) k h =
      known_after (known ++ (evaluate (step_sum first known) ks ∷ [])) rs
      (known_more known (evaluate (step_sum first known) ks) k (λ s e. sound_evaluate a (step_sum first known) (step_known known k) ks s e))
      (λ u us c m. h u us c (Memᴰ.tail m))
  known_after known (clause n ls ∷ rs) k h = known_after known rs k (λ u us c m. h u us c (Memᴰ.tail m))
  known_after known (deletion ns ∷ rs) k h = known_after known rs k (λ u us c m. h u us c (Memᴰ.tail m))

pub entailed : Entailed
unfolding Entailed Known step_of
entailed first rs a h = record {
  steps_hold = holds;
  clauses_hold = λ n ls m e. (satisfies_clause a ls).0 ((satisfies_normal a (clause_sum ls)).0 (holds n (normal (clause_sum ls)) e));
}
  where
    holds : (n : ℕ) (s : Sum) → step_sum first (sums_after first [] rs) n ≡ some s → Satisfies a s
    holds = step_known first a (sums_after first [] rs) (known_after first a [] rs (λ s m. absurd (Memᴰ.not-nil m)) h)
