-- The requests that the player takes a command for are those that it names.
use mathlib.Core.Path.{refl, sym, subst}
use mathlib.Core.Logic.{⊎_elim}
use mathlib.Core.List.Memᴰ
use mathlib.Core.List.{Memᴰ}
use Prim.Native.Nat.{ℕ, zero, suc}
use Rattle.cert.specs.Requests.{Request, Names, names_if, names_only_if, names_both_if, names_both_only_if}
use Rattle.cert.specs.State.{directions, requests}

module _ (n v : ℕ) where
  pub requests_from : (k : ℕ) (x : Request) → Memᴰ x (requests n v k) → Names n v k x
  unfolding requests directions
  requests_from zero x m = absurd (Memᴰ.not-nil m)
  requests_from (suc zero) x m = subst (Names n v 1) (sym (Memᴰ.eq_of_singleton m)) names_if
  requests_from (suc (suc zero)) x m = subst (Names n v 2) (sym (Memᴰ.eq_of_singleton m)) names_only_if
  requests_from (suc (suc (suc zero))) x m =
      ⊎_elim (λ e. subst (Names n v 3) (sym e) names_both_if)
      (λ i. subst (Names n v 3) (sym (Memᴰ.eq_of_singleton i)) names_both_only_if) (Memᴰ.cases_cons m)
  requests_from (suc (suc (suc (suc k)))) x m = absurd (Memᴰ.not-nil m)

  pub requests_has : (k : ℕ) (x : Request) → Names n v k x → Memᴰ x (requests n v k)
  unfolding requests directions
  requests_has _ _ names_if = Memᴰ.head refl
  requests_has _ _ names_only_if = Memᴰ.head refl
  requests_has _ _ names_both_if = Memᴰ.head refl
  requests_has _ _ names_both_only_if = Memᴰ.tail (Memᴰ.head refl)
