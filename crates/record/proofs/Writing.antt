-- Laws of writing: what a number, one writer after another, and a record that was written apart leave.
use mathlib.Core.Path.{◌≡◌, refl, sym, ap, ◌∙◌}
use mathlib.Core.List.{List, [], ◌∷◌, ◌++◌, append_assoc, append-nil, flat_map}
use Prim.Native.Nat.{ℕ, ◌+◌, ◌-◌, ◌≤◌, ◌<◌}
use native.Mathlib.Decide.{dec_le}
use native.Mathlib.Omega.{arith}
use borrow.Author.Tests.{le-leb, lt-leb}
use lib.Dec.{leb}
use lib.ListN.{length, set, take, drop, length-append, length-set}
use lib.Seq.{take_at, take-take, length-take-le}
use Rattle.memo.proofs.Lists.{flat_map_append}
use Rattle.number.specs.Number.{encode}
use Rattle.number.proofs.Laws.{encode_last}
use Rattle.number.proofs.Places.{written_is, sets_written}
use Rattle.record.specs.Writing.{Buffer, buffer, Content, written, overflow, content, append, Onward, Puts}

-- ---- the content of a buffer

module _ (l : List ℕ) (a : ℕ) where
  pub content_in : a ≤ length l → content (buffer l a) ≡ written (take a l)
  unfolding content
  content_in h = rw (le-leb _ _ h)

  pub content_over : length l < a → content (buffer l a) ≡ overflow
  unfolding content
  content_over h = rw (lt-leb _ _ h)

module _ (n : ℕ) (bs ws : List ℕ) where
  pub append_fits : length ws + length bs ≤ n → append n bs (written ws) ≡ written (ws ++ bs)
  unfolding append
  append_fits h = rw (le-leb _ _ h)

  pub append_over : n < length ws + length bs → append n bs (written ws) ≡ overflow
  unfolding append
  append_over h = rw (lt-leb _ _ h)

pub append_none : (n : ℕ) (bs : List ℕ) → append n bs overflow ≡ overflow
unfolding append
append_none n bs = refl

append_twice : (n : ℕ) (xs bs : List ℕ) (c : Content) → append n bs (append n xs c) ≡ append n (xs ++ bs) c
append_twice n xs bs overflow = rw (append_none n xs, append_none n bs, append_none n (xs ++ bs))
append_twice n xs bs (written ws) = by (dec_le (length ws + length xs) n) (dec_le (length ws + length (xs ++ bs)) n)
  where
    both : length (xs ++ bs) ≡ length xs + length bs
    both = length-append xs bs

    front : length (ws ++ xs) ≡ length ws + length xs
    front = length-append ws xs

    by : Dec (length ws + length xs ≤ n) → Dec (length ws + length (xs ++ bs) ≤ n)
        → append n bs (append n xs (written ws)) ≡ append n (xs ++ bs) (written ws)
    by (yes a) (yes b) =
        rw (append_fits n xs ws a, append_fits n bs (ws ++ xs) (omega (arith, both, front)), append_fits n (xs ++ bs) ws b, append_assoc)
    by (yes a) (no b) =
        rw (append_fits n xs ws a, append_over n bs (ws ++ xs) (omega (arith, both, front)), append_over n (xs ++ bs) ws (omega arith))
    by (no a) (yes b) = absurd (omega (arith, both))
    by (no a) (no b) = rw (append_over n xs ws (omega arith), append_none, append_over n (xs ++ bs) ws (omega arith))

append_nothing : (b : Buffer) → content b ≡ append (length b.log) [] (content b)
append_nothing b = by (dec_le b.at (length b.log))
  where
    by : Dec (b.at ≤ length b.log) → content b ≡ append (length b.log) [] (content b)
    by (yes h) =
        let s : length (take b.at b.log) ≡ b.at = length-take-le b.at b.log h in
        let z : length {A = ℕ} [] ≡ 0 = refl in
        rw (content_in b.log b.at h, append_fits (length b.log) [] (take b.at b.log) (omega (arith, s, z)), append-nil)
    by (no h) = rw (content_over b.log b.at (omega arith), append_none)

-- The test of the room, by what is left.
pub room_left : (l a n : ℕ) → n ≤ l → leb a (l - n) ≡ leb (a + n) l
room_left l a n h = by (dec_le (a + n) l)
  where
    by : Dec (a + n ≤ l) → leb a (l - n) ≡ leb (a + n) l
    by (yes k) = rw (le-leb (a + n) l k) (le-leb a (l - n) (omega arith))
    by (no k) = rw (lt-leb (a + n) l (omega arith)) (lt-leb a (l - n) (omega arith))

-- ---- one writer after another

pub stays : {b : Buffer} → Onward b b
stays = record { size = refl; on = omega arith; front = λ k h. refl }

pub onward_then : {b c d : Buffer} → Onward b c → Onward c d → Onward b d
onward_then {b} {c} {d} p q = record {
  size = q.size ∙ p.size;
  on = omega (arith, p.on, q.on);
  front = λ k h. q.front k (omega (arith, p.on)) ∙ p.front k h;
}

pub nothing : {b : Buffer} → Puts b [] b
unfolding flat_map
nothing {b} = record { onward = stays; is = append_nothing b }

-- Nested to the right, so that the lists compute.
pub after : {b c d : Buffer} {ms ns : List ℕ} → Puts b ms c → Puts c ns d → Puts b (ms ++ ns) d
after {b} {c} {d} {ms} {ns} p q = record {
  onward = onward_then p.onward q.onward;
  is = q.is
      ∙ rw (p.onward.size, p.is, append_twice (length b.log) (flat_map encode ms) (flat_map encode ns) (content b), flat_map_append encode ms ns);
}

-- ---- bytes that are written at the place

module _ (l m : List ℕ) (a e : ℕ) (bs : List ℕ) (room : a + length bs ≤ length l) where
  -- e is the place after them, and the bytes before it are known.
  pub appended : e ≡ a + length bs → length m ≡ length l → take e m ≡ take a l ++ bs
      → content (buffer m e) ≡ append (length l) bs (content (buffer l a))
  appended end size is =
      let s : length (take a l) ≡ a = length-take-le a l (omega arith) in
      rw (
        content_in l a (omega arith),
        append_fits (length l) bs (take a l) (omega (arith, s)),
        content_in m e (omega (arith, end, size)),
        is,
      )

  pub pasted : e ≡ a + length bs → length m ≡ length l → m ≡ take a l ++ bs ++ drop (a + length bs) l
      → content (buffer m e) ≡ append (length l) bs (content (buffer l a))
  pasted end size is =
      let s : length (take a l) ≡ a = length-take-le a l (omega arith) in
      let k : e ≡ length (take a l ++ bs) = rw (length-append (take a l) bs) (omega (arith, s, end)) in
      appended end size (rw is (take_at (take a l ++ bs) (drop (a + length bs) l) e (sym k)))

-- They find no room, or there was none before.
pub no_room : (l m : List ℕ) (a e : ℕ) (bs : List ℕ) → a ≤ length l → length l < a + length bs → length m < e
    → content (buffer m e) ≡ append (length l) bs (content (buffer l a))
no_room l m a e bs h k past =
    let s : length (take a l) ≡ a = length-take-le a l h in
    rw (content_in l a h, append_over (length l) bs (take a l) (omega (arith, s)), content_over m e past)

pub full_before : (l m : List ℕ) (a e : ℕ) (bs : List ℕ) → length l < a → length m < e
    → content (buffer m e) ≡ append (length l) bs (content (buffer l a))
full_before l m a e bs h past = rw (content_over l a h, append_none, content_over m e past)

-- Where the bytes before a place are known, so are those before a place ahead of it.
pub same_front : (l m : List ℕ) (a k : ℕ) → k ≤ a → take a m ≡ take a l → take k m ≡ take k l
same_front l m a k h e = sym (take-take k a m h) ∙ ap (take k) e ∙ take-take k a l h

-- One number, where there is room.
pub put_one : (l m : List ℕ) (a e x : ℕ) → a + length (encode x) ≤ length l → e ≡ a + length (encode x) → length m ≡ length l
    → m ≡ Rattle.number.specs.Number.written l a x → Puts (buffer l a) (x ∷ []) (buffer m e)
unfolding flat_map
put_one l m a e x room end size is =
    let s : length (take a l) ≡ a = length-take-le a l (omega arith) in
    let front : take a m ≡ take a l = rw (is ∙ written_is l a x, append_assoc) (take_at (take a l) (encode x ++ drop (a + length (encode x)) l) a s) in
    record {
      onward = record { size = size; on = omega (arith, end); front = λ k h. same_front l m a k h front };
      is = rw append-nil (pasted l m a e (encode x) room end size (is ∙ written_is l a x));
    }

-- One number of one group, as a byte; and two.
put_byte : (l : List ℕ) (a x : ℕ) → a < length l → x < 128 → Puts (buffer l a) (x ∷ []) (buffer (set l a x) (a + 1))
put_byte l a x h k =
    let one = encode_last x k in
    let n : length (encode x) ≡ 1 = ap length one in
    put_one l (set l a x) a (a + 1) x (omega arith) (omega arith) (length-set l a x) (sets_written l a x (x ∷ []) one (omega arith))

pub put_bytes : (l : List ℕ) (a b x d y : ℕ) → a + 1 < length l → b ≡ x → x < 128 → d ≡ y → y < 128
    → Puts (buffer l a) (x ∷ y ∷ []) (buffer (set (set l a b) (a + 1) d) (a + 1 + 1))
put_bytes l a b x d y h e p f q = rw (e, f) (after (put_byte l a x (omega arith) p) (put_byte (set l a x) (a + 1) y (simp length-set h) q))

-- What was put apart, from its beginning, is in place once its bytes are.
pub from_apart : {z w l m : List ℕ} {n a e : ℕ} {ns : List ℕ} → Puts (buffer z 0) ns (buffer w n) → n ≤ length w
    → Onward (buffer l a) (buffer m e) × (content (buffer m e) ≡ append (length l) (take n w) (content (buffer l a))) → Puts (buffer l a) ns (buffer m e)
from_apart {z} {w} {l} {m} {n} {a} {e} {ns} p h (onward, is) =
    record { onward = onward; is = rw (bytes (dec_le (length (flat_map encode ns)) (length z))) at is }
  where
    start : content (buffer z 0) ≡ written []
    start = content_in z 0 (omega arith)

    took : content (buffer w n) ≡ written (take n w)
    took = content_in w n h

    none : {A : Type 0} → overflow ≡ written (take n w) → A
    none q = absurd (let z : ◌≡◌ {A = ℕ} 0 1 = cc in omega arith)

    inside : written (take n w) ≡ written (flat_map encode ns) → take n w ≡ flat_map encode ns
    inside q = cc

    bytes : Dec (length (flat_map encode ns) ≤ length z) → take n w ≡ flat_map encode ns
    bytes (yes k) = inside (sym took ∙ p.is ∙ rw (start, append_fits (length z) (flat_map encode ns) [] (omega arith)))
    bytes (no k) = none (sym (append_over (length z) (flat_map encode ns) [] (omega arith)) ∙ ap (append (length z) (flat_map encode ns)) (sym start) ∙ sym p.is ∙ took)

-- ---- what is written, by the bytes

module _ {b d : Buffer} {ns : List ℕ} (p : Puts b ns d) where
  pub still_over : length b.log < b.at → content d ≡ overflow
  still_over h = p.is ∙ rw (content_over b.log b.at h, append_none)

-- A place whose content is known.
module _ (l : List ℕ) (a : ℕ) where
  pub not_over : {bs : List ℕ} → content (buffer l a) ≡ written bs → a ≤ length l
  not_over {bs} e = by (dec_le a (length l))
    where
      by : Dec (a ≤ length l) → a ≤ length l
      by (yes h) = h
      by (no h) =
          let q : overflow ≡ written bs = sym (content_over l a (omega arith)) ∙ e in
          absurd (let z : ◌≡◌ {A = ℕ} 0 1 = cc in omega arith)

  pub content_is : {bs : List ℕ} → content (buffer l a) ≡ written bs → take a l ≡ bs
  content_is {bs} e = inside (sym (content_in l a (not_over e)) ∙ e)
    where
      inside : written (take a l) ≡ written bs → take a l ≡ bs
      inside q = cc

  pub content_length : {bs : List ℕ} → content (buffer l a) ≡ written bs → length bs ≡ a
  content_length e = ap length (sym (content_is e)) ∙ length-take-le a l (not_over e)

  pub is_over_lem : content (buffer l a) ≡ overflow → length l < a
  is_over_lem e = by (dec_le a (length l))
    where
      by : Dec (a ≤ length l) → length l < a
      by (yes h) =
          let q : written (take a l) ≡ overflow = sym (content_in l a h) ∙ e in
          absurd (let z : ◌≡◌ {A = ℕ} 0 1 = cc in omega arith)
      by (no h) = omega arith
