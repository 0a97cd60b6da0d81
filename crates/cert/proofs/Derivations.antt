-- What a derivation comes to when it is in normal form after every token: its parts put together, where each has room in its bound for what cancels.
use mathlib.Core.Path.{◌≡◌, refl, ◌∙◌, ap}
use mathlib.Core.List.{List, [], ◌∷◌, ◌++◌, append_assoc, append-nil}
use mathlib.Core.Option.{Option, some}
use Prim.Native.Nat.{ℕ, zero, suc, ◌+◌, ◌≤◌, ◌<◌}
use native.Mathlib.Omega.{arith}
use lib.ListN.{length}
use Rattle.pb.specs.Rules.{Token, run, step, literal, literal_axiom, add, addition, divide, division, saturate, saturation, evaluate, single}
use Rattle.pb.specs.Sum.{Sum, normal, Term, coef, neg}
use Rattle.pb.proofs.Normal.{spent, Clean, spent_clean, normal_normal, normal_same}
use Rattle.pb.proofs.Rules.{add_normal, divide_normal, saturate_normal, add_at, same_assoc}
use Rattle.cert.specs.Definitions.{total}
use Rattle.cert.proofs.WindowSums.{total as totalSum, same_nil}

-- Whatever the stack, and whatever comes after, the tokens put the normal form of s on the stack.
pub record Gives (sums : ℕ → Option Sum) (ks : List Token) (s : Sum) : Type 0 where
  pub run : (js : List Token) (st : List Sum) → run sums (ks ++ js) st ≡ run sums js (normal s ∷ st)

-- The bound of a sum has room for what cancels in it.
abbrev pub Room : Sum → Type 0
Room s = spent s ≤ s.bound

pub clean_room : (s : Sum) → Clean s.terms → Room s
clean_room s c = omega (arith, spent_clean s c)

module _ {sums : ℕ → Option Sum} where
  pub gives_step : (n : ℕ) (s : Sum) → sums n ≡ some (normal s) → Gives sums (step n ∷ []) s
  unfolding run
  gives_step n s e = record { run = λ js st. rw e (ap (λ (x : Sum). run sums js (x ∷ st)) (normal_normal s)) }

  pub gives_literal : (l : ℕ) → Gives sums (literal l ∷ []) (literal_axiom l)
  unfolding run
  gives_literal l = record { run = λ js st. refl }

  pub gives_add : {ks js : List Token} {s t : Sum} → Gives sums ks s → Gives sums js t → Room s → Room t
      → Gives sums (ks ++ (js ++ (add ∷ []))) (addition s t)
  unfolding run
  gives_add {ks} {js} {s} {t} g h p q =
      record {
        run = λ r st. rw (append_assoc, append_assoc)
            (g.run (js ++ (add ∷ r)) st ∙ h.run (add ∷ r) (normal s ∷ st) ∙ ap (λ (x : Sum). run sums r (x ∷ st)) (add_normal s t p q));
      }

  pub gives_divide : (d : ℕ) {ks : List Token} {s : Sum} → 0 < d → Gives sums ks s → Gives sums (ks ++ (divide d ∷ [])) (division d s)
  unfolding run
  gives_divide zero p g = absurd (omega arith)
  gives_divide (suc d) {ks} {s} p g =
      record {
        run = λ js st. rw append_assoc
            (g.run (divide (suc d) ∷ js) st ∙ ap (λ (x : Sum). run sums js (normal x ∷ st)) (divide_normal (suc d) (normal s) s (normal_normal s)));
      }

  pub gives_saturate : {ks : List Token} {s : Sum} → Gives sums ks s → Gives sums (ks ++ (saturate ∷ [])) (saturation s)
  unfolding run
  gives_saturate {ks} {s} g =
      record {
        run = λ js st. rw append_assoc
            (g.run (saturate ∷ js) st ∙ ap (λ (x : Sum). run sums js (normal x ∷ st)) (saturate_normal (normal s) s (normal_normal s)));
      }

  pub gives_as : {ks : List Token} {s : Sum} (t : Sum) → normal s ≡ normal t → Gives sums ks s → Gives sums ks t
  gives_as t e g = record { run = λ js st. g.run js st ∙ ap (λ (x : Sum). run sums js (x ∷ st)) e }

  pub evaluate_gives : {ks : List Token} {s : Sum} → Gives sums ks s → evaluate sums ks ≡ some (normal s)
  unfolding evaluate run single
  evaluate_gives g = ap single (rw append-nil at (g.run [] []))

-- ---- many parts added up

-- Each text gives its sum; an empty one none.
pub data Parts (sums : ℕ → Option Sum) : List (List Token) → List Sum → Type 0 where
  parts_done : Parts sums [] []
  parts_skip : {kss : List (List Token)} {ss : List Sum} → Parts sums kss ss → Parts sums ([] ∷ kss) ss
  parts_more : {k : Token} {ks : List Token} {s : Sum} {kss : List (List Token)} {ss : List Sum} → Gives sums (k ∷ ks) s → Parts sums kss ss
      → Parts sums ((k ∷ ks) ∷ kss) (s ∷ ss)

-- Less than a clean sum is clean.
pub clean_less : (ts us : List Term) → ((l : ℕ) → coef ts l ≤ coef us l) → Clean us → Clean ts
unfolding Clean
clean_less ts us h c l = omega (arith, h l, h (neg l), c l)

module _ {sums : ℕ → Option Sum} where
  gives_total : {k : Token} {ks : List Token} {s : Sum} {kss : List (List Token)} {ss : List Sum} → Gives sums (k ∷ ks) s → Parts sums kss ss
      → Clean (addition s (totalSum ss)).terms → Gives sums (total (k ∷ ks) kss) (addition s (totalSum ss))
  unfolding total totalSum
  gives_total {s = s} g parts_done c = gives_as (addition s (totalSum [])) (normal_same s (addition s (totalSum [])) (same_nil s)) g
  gives_total g (parts_skip p) c = gives_total g p c
  gives_total {k} {ks} {s} g (parts_more {k = j} {ks = js} {s = t} {kss = kss} {ss = ss} h p) c =
      let whole : Clean (addition (addition s t) (totalSum ss)).terms =
      clean_less _ _ (λ l. omega
      (arith, add_at (addition s t) (totalSum ss) l, add_at s t l, add_at s (addition t (totalSum ss)) l, add_at t (totalSum ss) l)) c in
      let one : Clean s.terms = clean_less _ _ (λ l. omega (arith, add_at s (addition t (totalSum ss)) l)) c in
      let two : Clean t.terms = clean_less _ _ (λ l. omega (arith, add_at s (addition t (totalSum ss)) l, add_at t (totalSum ss) l)) c in
      gives_as (addition s (addition t (totalSum ss)))
      (normal_same (addition (addition s t) (totalSum ss)) (addition s (addition t (totalSum ss))) (same_assoc s t (totalSum ss)))
      (gives_total {ks = ks ++ j ∷ (js ++ add ∷ [])} (gives_add g h (clean_room s one) (clean_room t two)) p whole)

  pub gives_parts : {kss : List (List Token)} {ss : List Sum} → Parts sums kss ss → 0 < length ss → Clean (totalSum ss).terms
      → Gives sums (total [] kss) (totalSum ss)
  unfolding total totalSum
  gives_parts parts_done h c = absurd (omega arith)
  gives_parts (parts_skip p) h c = gives_parts p h c
  gives_parts (parts_more g p) h c = gives_total g p c

  pub parts_append : {kss jss : List (List Token)} {ss ts : List Sum} → Parts sums kss ss → Parts sums jss ts → Parts sums (kss ++ jss) (ss ++ ts)
  parts_append parts_done q = q
  parts_append (parts_skip p) q = parts_skip (parts_append p q)
  parts_append (parts_more g p) q = parts_more g (parts_append p q)

pub coef_total : (ss ts : List Sum) (l : ℕ) → coef (totalSum (ss ++ ts)).terms l ≡ coef (totalSum ss).terms l + coef (totalSum ts).terms l
unfolding totalSum
coef_total [] ts l = unfold coef in omega arith
coef_total (s ∷ ss) ts l = omega (arith, add_at s (totalSum (ss ++ ts)) l, add_at s (totalSum ss) l, coef_total ss ts l)
