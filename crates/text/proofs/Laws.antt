-- Laws of printing: one writer after another, a whole text on a fresh page, and the digits of a number.
use mathlib.Core.Path.{◌≡◌, refl, sym, ap, ◌∙◌}
use mathlib.Core.List.{List, [], ◌∷◌, ◌++◌, append_assoc}
use Prim.Native.Nat.{ℕ, zero, suc, ◌+◌, ◌/◌, ◌%◌, ◌^◌, ◌≤◌, ◌<◌, min}
use native.Mathlib.Decide.{dec_lt}
use native.Mathlib.Numerals.{add-one}
use native.Mathlib.Omega.{arith}
use borrow.Author.Tests.{lt-ltb, le-ltb}
use lib.ListN.{length, get_or, set, take, drop, length-append}
use lib.Seq.{set_at, take_all, take-append_seam}
use Rattle.std.proofs.lemmas.List.{get_or-take, get_or-drop}
use Rattle.text.specs.Text.{Page, page, print, prints, Prints, laid, decimal_in, decimal}

-- ---- one writer after another

pub nothing : {p : Page} → Prints p [] p
unfolding prints
nothing = record { is = refl }

prints_append : (p : Page) (bs cs : List ℕ) → prints (prints p bs) cs ≡ prints p (bs ++ cs)
unfolding prints
prints_append p [] cs = refl
prints_append p (b ∷ bs) cs = prints_append (print p b) bs cs

-- Nested to the right, so that the lists compute.
pub after : {p q r : Page} {bs cs : List ℕ} → Prints p bs q → Prints q cs r → Prints p (bs ++ cs) r
after {p} {q} {r} {bs} {cs} h k = record { is = k.is ∙ ap (λ (a : Page). prints a cs) h.is ∙ prints_append p bs cs }

-- ---- the numbers of a list in turn

-- A part of a list from its first number on has the same number at i.
pub get_or_part : (xs : List ℕ) (m n i : ℕ) → m ≡ 0 → i < n → get_or (take n (drop m xs)) i 0 ≡ get_or xs i 0
get_or_part xs m n i e h = let same : m + i ≡ i = omega arith in rw (get_or-take n (drop m xs) i 0 h, get_or-drop m xs i 0, same) refl

-- ---- one byte

module _ (l : List ℕ) (at b : ℕ) where
  pub put_room : at < length l → Prints (page l at) (b ∷ []) (page (set l at b) (at + 1))
  unfolding prints print
  put_room h = record { is = rw (lt-ltb at (length l) h, add-one) }

  pub put_none : length l ≤ at → Prints (page l at) (b ∷ []) (page l at)
  unfolding prints print
  put_none h = record { is = rw (le-ltb at (length l) h) }

-- ---- a whole text

nothing_laid : (bs : List ℕ) → laid [] bs ≡ []
nothing_laid [] = refl
nothing_laid (b ∷ bs) = refl

-- On a page of which pre is written already.
on_rest : (pre rest bs : List ℕ) → prints (page (pre ++ rest) (length pre)) bs ≡ page (pre ++ laid rest bs) (length pre + min (length bs) (length rest))
unfolding prints print
on_rest pre [] [] = let e : length pre + min 0 0 ≡ length pre = omega arith in rw e
on_rest pre (r ∷ rest) [] = let e : length pre + min 0 (suc (length rest)) ≡ length pre = omega arith in rw e
on_rest pre [] (b ∷ bs) =
    let none : length (pre ++ []) ≤ length pre = simp (length-append) (omega arith) in
    let same : length pre + min (length bs) 0 ≡ length pre + min (length (b ∷ bs)) 0 = omega arith in
    rw (le-ltb (length pre) (length (pre ++ [])) none, on_rest pre [] bs, same, nothing_laid bs)
on_rest pre (r ∷ rest) (b ∷ bs) =
    let room : length pre < length (pre ++ r ∷ rest) = simp (length-append) (omega arith) in
    let one : length (pre ++ (b ∷ [])) ≡ suc (length pre) = simp (length-append) (omega arith) in
    let size : suc (length pre) + min (length bs) (length rest) ≡ length pre + min (suc (length bs)) (suc (length rest)) = omega arith in
    rw (lt-ltb (length pre) (length (pre ++ r ∷ rest)) room, set_at pre r rest b (length pre) refl)
    (rw (append_assoc pre (b ∷ []) rest, append_assoc pre (b ∷ []) (laid rest bs), one, size) at (on_rest (pre ++ (b ∷ [])) rest bs))

pub on_front : {l m bs : List ℕ} {r : ℕ} → Prints (page l 0) bs (page m r) → (m ≡ laid l bs) × (r ≡ min (length bs) (length l))
on_front {l} {m} {bs} {r} h =
    let e = h.is ∙ on_rest [] l bs in
    let k : r ≡ 0 + min (length bs) (length l) = ap (λ (p : Page). p.at) e in
    (ap (λ (p : Page). p.bytes) e, omega arith)

-- A text that the slice has room for is all there.
pub laid_fits : (l bs : List ℕ) {m : List ℕ} {r : ℕ} → length bs ≤ length l → m ≡ laid l bs → r ≡ min (length bs) (length l) → (take r m ≡ bs) × (r ≤ length m)
laid_fits l bs {m} {r} h e k =
    let size : r ≡ length bs = omega arith in
    let front : m ≡ bs ++ drop (length bs) l = e ∙ rw (take_all (length l) bs h) in
    (rw (front, size) (take-append_seam bs (drop (length bs) l)), rw (front, size) (simp length-append (omega arith)))

-- ---- digits

-- Induction by digits: a number is one digit, or a digit after a smaller number.
by_digits : (P : ℕ → Type 0) → ((x : ℕ) → x < 10 → P x) → ((x : ℕ) → 10 ≤ x → P (x / 10) → P x) → (x : ℕ) → P x
by_digits P last more x = go x x (omega arith)
  where
    go : (n x : ℕ) → x ≤ n → P x
    go zero x h = last x (omega arith)
    go (suc n) x h = step (dec_lt x 10) (go n (x / 10))
      where
        step : Dec (x < 10) → (x / 10 ≤ n → P (x / 10)) → P x
        step (yes l) below = last x l
        step (no m) below = more x (omega arith) (below (omega arith))

in_last : (g x : ℕ) → x < 10 → decimal_in g x ≡ (48 + x) ∷ []
unfolding decimal_in
in_last zero x h = refl
in_last (suc g) x h = rw (lt-ltb x 10 h, decimal_in)

in_more : (g x : ℕ) → 10 ≤ x → decimal_in (suc g) x ≡ decimal_in g (x / 10) ++ ((48 + x % 10) ∷ [])
unfolding decimal_in
in_more g x h = rw (le-ltb x 10 h, decimal_in)

abbrev Same : ℕ → Type 0
Same x = (g h : ℕ) → x ≤ g → x ≤ h → decimal_in g x ≡ decimal_in h x

same : (x : ℕ) → Same x
same = by_digits Same (λ x l g h _ _. in_last g x l ∙ sym (in_last h x l)) more
  where
    more : (x : ℕ) → 10 ≤ x → Same (x / 10) → Same x
    more x m below zero h p q = absurd (omega arith)
    more x m below (suc g) zero p q = absurd (omega arith)
    more x m below (suc g) (suc h) p q = rw (in_more g x m, in_more h x m, below g h (omega arith) (omega arith))

pub decimal_last : (x : ℕ) → x < 10 → decimal x ≡ (48 + x) ∷ []
unfolding decimal
decimal_last x h = in_last x x h

pub decimal_more : (x : ℕ) → 10 ≤ x → decimal x ≡ decimal (x / 10) ++ ((48 + x % 10) ∷ [])
unfolding decimal
decimal_more zero h = absurd (omega arith)
decimal_more (suc n) h = rw (in_more n (suc n) h, same (suc n / 10) n (suc n / 10) (omega arith) (omega arith))

-- A number below 10 ^ g has at most g digits.
abbrev Sized : ℕ → Type 0
Sized x = (g : ℕ) → 0 < g → x < 10 ^ g → length (decimal x) ≤ g

pub decimal_length : (x g : ℕ) → 0 < g → x < 10 ^ g → length (decimal x) ≤ g
decimal_length = by_digits Sized (λ x h g p l. rw (decimal_last x h) p) more
  where
    more : (x : ℕ) → 10 ≤ x → Sized (x / 10) → Sized x
    more x h below zero p l = absurd (omega arith)
    more x h below (suc zero) p l = absurd (omega arith)
    more x h below (suc (suc g)) p l = rw (decimal_more x h) (simp length-append (omega (arith, below (suc g) (omega arith) (omega arith))))
