-- The bytes of a number and the number at the front of a list: `encode` by groups, its length, and the two round trips with `read`.
-- A law of a limit is over any limit g; only `read_encode` and `read_number` are at `groups`.
use mathlib.Core.Path.{◌≡◌, refl, sym, ap, ◌∙◌}
use mathlib.Core.Logic.{◌↔◌}
use mathlib.Core.List.{List, [], ◌∷◌, ◌++◌}
use Prim.Native.Nat.{ℕ, zero, suc, ◌+◌, ◌-◌, ◌*◌, ◌/◌, ◌%◌, ◌^◌, ◌≤◌, ◌<◌}
use native.Mathlib.Decide.{dec_lt}
use native.Mathlib.Nat.{one-le-pow}
use native.Mathlib.Omega.{arith}
use borrow.Author.Tests.{lt-ltb, le-ltb}
use lib.ListN.{length, get_or, drop}
use Rattle.number.specs.Number.{groups, encode_in, encode, Front, number, bad, above, read_in, read, Bytes}

-- ---- encode

-- induction by groups: a number is one group, or a group below a smaller number
by_groups : (P : ℕ → Type 0) → ((x : ℕ) → x < 128 → P x) → ((x : ℕ) → 128 ≤ x → P (x / 128) → P x) → (x : ℕ) → P x
by_groups P last more x = go x x (omega arith)
  where
    go : (n x : ℕ) → x ≤ n → P x
    go zero x h = last x (omega arith)
    go (suc n) x h = step (dec_lt x 128) (go n (x / 128))
      where
        step : Dec (x < 128) → (x / 128 ≤ n → P (x / 128)) → P x
        step (yes l) below = last x l
        step (no m) below = more x (omega arith) (below (omega arith))

in_last : (g x : ℕ) → x < 128 → encode_in g x ≡ x ∷ []
unfolding encode_in
in_last zero x h = refl
in_last (suc g) x h = rw (lt-ltb x 128 h, encode_in)

in_more : (g x : ℕ) → 128 ≤ x → encode_in (suc g) x ≡ (x % 128 + 128) ∷ encode_in g (x / 128)
unfolding encode_in
in_more g x h = rw (le-ltb x 128 h, encode_in)

-- the bound on the recursion does not matter where it is enough
abbrev Same : ℕ → Type 0
Same x = (g h : ℕ) → x ≤ g → x ≤ h → encode_in g x ≡ encode_in h x

same : (x : ℕ) → Same x
same = by_groups Same (λ x l g h _ _. in_last g x l ∙ sym (in_last h x l)) more
  where
    more : (x : ℕ) → 128 ≤ x → Same (x / 128) → Same x
    more x m below zero h p q = absurd (omega arith)
    more x m below (suc g) zero p q = absurd (omega arith)
    more x m below (suc g) (suc h) p q = rw (in_more g x m, in_more h x m, below g h (omega arith) (omega arith))

pub encode_last : (x : ℕ) → x < 128 → encode x ≡ x ∷ []
unfolding encode
encode_last x h = in_last x x h

pub encode_more : (x : ℕ) → 128 ≤ x → encode x ≡ (x % 128 + 128) ∷ encode (x / 128)
unfolding encode
encode_more zero h = absurd (omega arith)
encode_more (suc n) h = rw (in_more n (suc n) h, same (suc n / 128) n (suc n / 128) (omega arith) (omega arith))

-- by bytes

pub encode_two : (x a b : ℕ) → 128 ≤ x → x < 16384 → a ≡ x % 128 + 128 → b ≡ x / 128 → encode x ≡ a ∷ b ∷ []
encode_two x a b h k p q = rw (p, q, encode_more x h, encode_last (x / 128) (omega arith))

pub encode_three : (x a b c : ℕ) → 16384 ≤ x → x < 2097152 → a ≡ x % 128 + 128 → b ≡ x / 128 % 128 + 128 → c ≡ x / 16384 → encode x ≡ a ∷ b ∷ c ∷ []
encode_three x a b c h k p q r = rw (p, encode_more x (omega arith), encode_two (x / 128) b c (omega arith) (omega arith) q (omega arith))

pub encode_four : (x a b c d : ℕ) → 2097152 ≤ x → x < 268435456 → a ≡ x % 128 + 128 → b ≡ x / 128 % 128 + 128 → c ≡ x / 16384 % 128 + 128
    → d ≡ x / 2097152 → encode x ≡ a ∷ b ∷ c ∷ d ∷ []
encode_four x a b c d h k p q r s =
    rw (p, encode_more x (omega arith), encode_three (x / 128) b c d (omega arith) (omega arith) q (omega arith) (omega arith))

pub encode_some : (x : ℕ) → 0 < length (encode x)
encode_some = by_groups (λ x. 0 < length (encode x)) (λ x h. rw (encode_last x h) (omega arith)) (λ x h _. rw (encode_more x h) (omega arith))

-- x takes at most g groups exactly where it is below 128 ^ g
abbrev Sized : ℕ → Type 0
Sized x = (g : ℕ) → 0 < g → (length (encode x) ≤ g) ↔ (x < 128 ^ g)

pub encode_length : (x g : ℕ) → 0 < g → (length (encode x) ≤ g) ↔ (x < 128 ^ g)
encode_length = by_groups Sized last more
  where
    last : (x : ℕ) → x < 128 → Sized x
    last x h zero p = absurd (omega arith)
    last x h (suc g) p = rw (encode_last x h) (omega (arith, one-le-pow g 128 (omega arith)))

    more : (x : ℕ) → 128 ≤ x → Sized (x / 128) → Sized x
    more x h below zero p = absurd (omega arith)
    more x h below (suc zero) p = rw (encode_more x h) (omega (arith, encode_some (x / 128)))
    more x h below (suc (suc g)) p =
        let b = below (suc g) (omega arith) in
        rw (encode_more x h) (λ l. omega (arith, b.0 (omega arith)), λ l. omega (arith, b.1 (omega arith)))

pub encode_groups : (x g : ℕ) → 0 < g → 128 ^ g ≤ x → x < 128 ^ suc g → length (encode x) ≡ suc g
encode_groups x g p low high =
    let more : ¬ (length (encode x) ≤ g) = λ l. omega (arith, (encode_length x g p).0 l) in
    omega (arith, more, (encode_length x (suc g) (omega arith)).1 high)

pub encode_bytes : (x : ℕ) → Bytes (encode x)
unfolding Bytes
encode_bytes = by_groups (λ x. Bytes (encode x)) last more
  where
    last : (x : ℕ) → x < 128 → Bytes (encode x)
    last x h zero = rw (encode_last x h) (omega arith)
    last x h (suc i) = rw (encode_last x h) (omega arith)

    more : (x : ℕ) → 128 ≤ x → Bytes (encode (x / 128)) → Bytes (encode x)
    more x h below zero = rw (encode_more x h) (omega arith)
    more x h below (suc i) = rw (encode_more x h) (below i)

-- ---- read

pub read_in-last : (g b : ℕ) (bs : List ℕ) → b < 128 → read_in (suc g) (b ∷ bs) ≡ number b bs
unfolding read_in
read_in-last g b bs h = rw (lt-ltb b 128 h, read_in)

pub read_in-more : (g b : ℕ) (bs : List ℕ) → 128 ≤ b → read_in (suc g) (b ∷ bs) ≡ above b (read_in g bs)
unfolding read_in
read_in-more g b bs h = rw (le-ltb b 128 h, read_in)

-- what goes on after the limit does not read
pub read_in-over : (g : ℕ) (bs : List ℕ) → ((i : ℕ) → i < g → 128 ≤ get_or bs i 0) → read_in g bs ≡ bad
unfolding read_in above
read_in-over zero bs h = refl
read_in-over (suc g) [] h = refl
read_in-over (suc g) (b ∷ bs) h = rw (read_in-more g b bs (h 0 (omega arith)), read_in-over g bs (λ i l. h (suc i) (omega arith)))

above_some : (b x : ℕ) (bs : List ℕ) → 0 < x → above b (number x bs) ≡ number (b - 128 + 128 * x) bs
unfolding above
above_some b zero bs h = absurd (omega arith)
above_some b (suc x) bs h = refl

-- what is written reads back, within a limit that is enough
abbrev Back : ℕ → Type 0
Back x = (g : ℕ) (rest : List ℕ) → length (encode x) ≤ g → read_in g (encode x ++ rest) ≡ number x rest

pub read_in-encode : (x g : ℕ) (rest : List ℕ) → length (encode x) ≤ g → read_in g (encode x ++ rest) ≡ number x rest
read_in-encode = by_groups Back last more
  where
    last : (x : ℕ) → x < 128 → Back x
    last x h zero rest l = absurd (omega (arith, encode_some x))
    last x h (suc g) rest l = rw (encode_last x h, read_in-last g x rest h)

    more : (x : ℕ) → 128 ≤ x → Back (x / 128) → Back x
    more x h below zero rest l = absurd (omega (arith, encode_some x))
    more x h below (suc g) rest l =
        let k = rw (encode_more x h) at l in
        rw (
          encode_more x h,
          read_in-more g (x % 128 + 128) (encode (x / 128) ++ rest) (omega arith),
          below g rest (omega arith),
          above_some (x % 128 + 128) (x / 128) rest (omega arith),
        ) (ap (λ (n : ℕ). number n rest) (omega arith))

pub read_encode : (x : ℕ) (rest : List ℕ) → x < 128 ^ groups → read (encode x ++ rest) ≡ number x rest
read_encode x rest h = read_in-encode x groups rest ((encode_length x groups (omega arith)).1 h)

-- P of the number that reads, where one does
abbrev Of : (ℕ → List ℕ → Type 0) → Front → Type 0
Of P (number x rest) = P x rest
Of P bad = Unit {0}

-- induction by what reads: a last group, or a group below a number that is not 0
by_reading : (P : ℕ → List ℕ → ℕ → List ℕ → Type 0)
    → ((g b : ℕ) (bs : List ℕ) → b < 128 → P (suc g) (b ∷ bs) b bs)
    → ((g b x : ℕ) (bs rest : List ℕ) → 128 ≤ b → 0 < x → P g bs x rest → P (suc g) (b ∷ bs) (b - 128 + 128 * x) rest)
    → (g : ℕ) (bs : List ℕ) {x : ℕ} {rest : List ℕ} → read_in g bs ≡ number x rest → P g bs x rest
unfolding read_in above
by_reading P last more g bs e = rw e at (go g bs)
  where
    go : (g : ℕ) (bs : List ℕ) → Of (P g bs) (read_in g bs)
    go zero bs = tt
    go (suc g) [] = tt
    go (suc g) (b ∷ bs) = step (dec_lt b 128) (go g bs)
      where
        low : (r : Front) → 128 ≤ b → Of (P g bs) r → Of (P (suc g) (b ∷ bs)) (above b r)
        low (number zero rest) h p = tt
        low (number (suc x) rest) h p = more g b (suc x) bs rest h (omega arith) p
        low bad h p = tt

        step : Dec (b < 128) → Of (P g bs) (read_in g bs) → Of (P (suc g) (b ∷ bs)) (read_in (suc g) (b ∷ bs))
        step (yes h) p = rw (read_in-last g b bs h) (last g b bs h)
        step (no h) p = rw (read_in-more g b bs (omega arith)) (low (read_in g bs) (omega arith) p)

encode_above : (b x : ℕ) → 128 ≤ b → b < 256 → 0 < x → encode (b - 128 + 128 * x) ≡ b ∷ encode x
encode_above b x h k p =
    let y = b - 128 + 128 * x in
    let low : y % 128 + 128 ≡ b = omega arith in
    let high : y / 128 ≡ x = omega arith in
    encode_more y (omega arith) ∙ rw (low, high)

-- what reads is what would be written
pub read_in-number : (g : ℕ) (bs : List ℕ) {x : ℕ} {rest : List ℕ} → Bytes bs → read_in g bs ≡ number x rest → (bs ≡ encode x ++ rest) × (length (encode x) ≤ g)
unfolding Bytes
read_in-number g bs h e =
    by_reading (λ g bs x rest. Bytes bs → (bs ≡ encode x ++ rest) × (length (encode x) ≤ g))
    (λ g b bs l h. rw (encode_last b l) (refl, omega arith))
    (λ g b x bs rest m p below h.
    let t = below (λ i. h (suc i)) in
    rw (encode_above b x m (h 0) p) (ap (λ (l : List ℕ). b ∷ l) t.0, omega arith))
    g bs e h

pub read_number : (bs : List ℕ) {x : ℕ} {rest : List ℕ} → Bytes bs → read bs ≡ number x rest → (bs ≡ encode x ++ rest) × (x < 128 ^ groups)
read_number bs {x} h e =
    let t = read_in-number groups bs h e in
    (t.0, (encode_length x groups (omega arith)).0 t.1)

-- what is left is an end of what was there, and shorter
pub read_in-rest : (g : ℕ) (bs : List ℕ) {x : ℕ} {rest : List ℕ} → read_in g bs ≡ number x rest → (rest ≡ drop (length bs - length rest) bs) × (length rest < length bs)
read_in-rest =
    by_reading (λ g bs x rest. (rest ≡ drop (length bs - length rest) bs) × (length rest < length bs))
    (λ g b bs l.
    let one : suc (length bs) - length bs ≡ 1 = omega arith in
    (rw one, omega arith))
    (λ g b x bs rest m p t.
    let more : suc (length bs) - length rest ≡ suc (length bs - length rest) = omega arith in
    (rw more t.0, omega arith))
