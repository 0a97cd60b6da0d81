-- What the player reads is what stands at the front: numbers, commands, and which question of reading is answered no.
use mathlib.Core.Path.{◌≡◌, refl, sym, ◌∙◌, ap, subst}
use mathlib.Core.Bool.{Bool, true, false}
use mathlib.Core.Logic.{◌⊎◌, inl, inr, ⊎_elim}
use mathlib.Core.List.Memᴰ
use mathlib.Core.List.{List, [], ◌∷◌, ◌++◌, flat_map, append_assoc, Memᴰ}
use Prim.Native.Nat.{ℕ, zero, suc, ◌≤◌, ◌<◌}
use native.Mathlib.Decide.{dec_le}
use native.Mathlib.Omega.{arith}
use lib.ListN.{length, length-append}
use Rattle.number.specs.Number.{groups, Bytes, encode, Front, number, bad, read_in, read}
use Rattle.number.proofs.Laws.{encode_length, read_encode, read_number}
use Rattle.memo.proofs.Lists.{flat_map_append}
use Rattle.record.proofs.Decode.{Small}
use Rattle.player.specs.Script.{Next, command, refuse, end, get, arguments, read_command, command_numbers}
use Rattle.player.specs.Verdict.{Reads}
use Rattle.player.specs.declared.Command.{Command}
use Rattle.player.proofs.Coding.{command_bytes, some_bytes_lem, command_back, bytes_rest, command_written}

-- ---- numbers

pub short_small : (ns : List ℕ) → ((x : ℕ) → Memᴰ x ns → length (encode x) ≤ groups) → Small ns
unfolding Small
short_small [] h = tt
short_small (n ∷ ns) h = ((encode_length n groups (omega arith)).0 (h n (Memᴰ.head refl)), short_small ns (λ x m. h x (Memᴰ.tail m)))

pub small_short : (ns : List ℕ) → Small ns → (x : ℕ) → Memᴰ x ns → length (encode x) ≤ groups
unfolding Small
small_short [] s x m = absurd (Memᴰ.not-nil m)
small_short (n ∷ ns) s x m =
    ⊎_elim (λ e. rw e ((encode_length n groups (omega arith)).1 s.0)) (small_short ns s.1 x) (Memᴰ.cases_cons m)

-- The first number reads, and the others stand after it.
pub reads_cons : {bs ns rest : List ℕ} {x : ℕ} → Reads bs (x ∷ ns) rest → (r : List ℕ) × (read bs ≡ number x r) × Reads r ns rest
unfolding flat_map
reads_cons {bs} {ns} {rest} {x} k = (
  flat_map encode ns ++ rest,
  rw (k.coded, append_assoc (encode x) (flat_map encode ns) rest)
      (read_encode x (flat_map encode ns ++ rest) ((encode_length x groups (omega arith)).0 (k.short x (Memᴰ.head refl)))),
  record { coded = refl; short = λ y m. k.short y (Memᴰ.tail m) },
)

pub cons_reads : {bs ns r rest : List ℕ} {x : ℕ} → Bytes bs → read bs ≡ number x r → Reads r ns rest → Reads bs (x ∷ ns) rest
unfolding flat_map
cons_reads {bs} {ns} {r} {rest} {x} w e k =
    let p = read_number bs w e in
    record {
      coded = p.0 ∙ ap (λ (u : List ℕ). encode x ++ u) k.coded ∙ sym (append_assoc (encode x) (flat_map encode ns) rest);
      short = λ y m. ⊎_elim (λ q. rw q ((encode_length x groups (omega arith)).1 p.1)) (k.short y) (Memᴰ.cases_cons m);
    }

pub reads_nil : {bs rest : List ℕ} → Reads bs [] rest → bs ≡ rest
unfolding flat_map
reads_nil k = k.coded

pub nil_reads : (bs : List ℕ) → Reads bs [] bs
unfolding flat_map
nil_reads bs = record { coded = refl; short = λ x m. absurd (Memᴰ.not-nil m) }

-- Two lists of numbers that stand at one place begin with one number.
pub reads_both : {bs ns ms r q : List ℕ} {x y : ℕ} → Reads bs (x ∷ ns) r → Reads bs (y ∷ ms) q → (y ≡ x) × (rest : List ℕ) × Reads rest ns r × Reads rest ms q
reads_both {ms = ms} {q = q} {x = x} {y = y} j k =
    let a = reads_cons j in
    let b = reads_cons k in
    let e : number x a.0 ≡ number y b.0 = sym a.1 ∙ b.1 in
    let same : y ≡ x = cc in
    let after : b.0 ≡ a.0 = cc in
    (same, a.0, a.2, subst (λ (u : List ℕ). Reads u ms q) after b.2)

-- Some of the numbers, with the others after them.
pub reads_split : (ns ms : List ℕ) {bs rest : List ℕ} → Reads bs (ns ++ ms) rest → Reads bs ns (flat_map encode ms ++ rest)
reads_split ns ms {rest = rest} k = record {
  coded = k.coded ∙ ap (λ (u : List ℕ). u ++ rest) (flat_map_append encode ns ms) ∙ append_assoc (flat_map encode ns) (flat_map encode ms) rest;
  short = λ x m. k.short x (Memᴰ.append_left ms m);
}

-- Where no number reads none stands.
pub none_stands : {bs ns rest : List ℕ} {x : ℕ} → read bs ≡ bad → Reads bs (x ∷ ns) rest → ⊥
none_stands e k = let p = reads_cons k in let q : bad ≡ number _ p.0 = sym e ∙ p.1 in let z : ◌≡◌ {A = ℕ} 0 1 = cc in omega arith

-- One number.
pub reads_one : {bs rest : List ℕ} {x : ℕ} → Reads bs (x ∷ []) rest → read bs ≡ number x rest
reads_one {bs} {rest} {x} k = let p = reads_cons k in p.1 ∙ ap (number x) (reads_nil p.2)

pub one_reads : {bs rest : List ℕ} {x : ℕ} → Bytes bs → read bs ≡ number x rest → Reads bs (x ∷ []) rest
one_reads {rest = rest} w e = cons_reads w e (nil_reads rest)

pub rest_bytes : (bs : List ℕ) {rest : List ℕ} {x : ℕ} → Bytes bs → read bs ≡ number x rest → Bytes rest
rest_bytes bs {rest} {x} w e = bytes_rest x rest (rw (read_number bs w e).0 at w)

-- ---- commands

pub reads_command : {bs rest : List ℕ} {c : Command} → Reads bs (command_numbers c) rest → read_command false bs ≡ command c rest
reads_command {bs} {rest} {c} k = rw k.coded (command_back c rest (short_small (command_numbers c) k.short))

pub command_reads : (closed : Bool) {bs rest : List ℕ} {c : Command} → Bytes bs → read_command closed bs ≡ command c rest
    → Reads bs (command_numbers c) rest × Bytes rest
command_reads closed {bs} {rest} {c} w e =
    let p = command_written closed bs c rest w e in
    (record { coded = p.0; short = small_short (command_numbers c) p.2 }, p.1)

pub command_shorter : (c : Command) {bs rest : List ℕ} → Reads bs (command_numbers c) rest → length rest < length bs
command_shorter c {bs} {rest} k = omega (arith, some_bytes_lem c, ap length k.coded, length-append (command_bytes c) rest)

-- ---- the code

code_bad : (closed : Bool) (bs : List ℕ) → 0 < length bs → read bs ≡ bad → read_command closed bs ≡ refuse 2
unfolding read_command get
code_bad closed [] l e = absurd (omega arith)
code_bad closed (b ∷ bs) l e = rw (e, get)

code_closed : (bs : List ℕ) (x : ℕ) (r : List ℕ) → read bs ≡ number x r → read_command true bs ≡ refuse 4
unfolding read_command get read_in
code_closed [] x r e = absurd (let z : ◌≡◌ {A = ℕ} 0 1 = cc in omega arith)
code_closed (b ∷ bs) x r e = rw (e, get)

code_open : (bs : List ℕ) (x : ℕ) (r : List ℕ) → read bs ≡ number x r → read_command false bs ≡ arguments x r
unfolding read_command get read_in
code_open [] x r e = absurd (let z : ◌≡◌ {A = ℕ} 0 1 = cc in omega arith)
code_open (b ∷ bs) x r e = rw (e, get)

-- A code that is not 1 to 4.
no_code : (x : ℕ) (r : List ℕ) → (x < 1) ⊎ (4 < x) → arguments x r ≡ refuse 5
unfolding arguments
no_code zero r k = refl
no_code (suc zero) r k = absurd (⊎_elim (λ l. omega arith) (λ l. omega arith) k)
no_code (suc (suc zero)) r k = absurd (⊎_elim (λ l. omega arith) (λ l. omega arith) k)
no_code (suc (suc (suc zero))) r k = absurd (⊎_elim (λ l. omega arith) (λ l. omega arith) k)
no_code (suc (suc (suc (suc zero)))) r k = absurd (⊎_elim (λ l. omega arith) (λ l. omega arith) k)
no_code (suc (suc (suc (suc (suc x))))) r k = refl

-- After a code that is one, a reader gives a command, or a number does not read.
data Given : Next → Type 0 where
  given : (c : Command) (rest : List ℕ) → Given (command c rest)
  unread : Given (refuse 2)

given_get : (f : ℕ → List ℕ → Next) → ((x : ℕ) (r : List ℕ) → Given (f x r)) → (bs : List ℕ) → Given (get bs f)
unfolding get
given_get f l bs = by (read bs) refl
  where
    by : (t : Front) → read bs ≡ t → Given (get bs f)
    by bad e = rw (e, get) unread
    by (number x r) e = rw (e, get) (l x r)

given_arguments : (x : ℕ) (r : List ℕ) → 1 ≤ x → x ≤ 4 → Given (arguments x r)
unfolding arguments
given_arguments zero r a b = absurd (omega arith)
given_arguments (suc zero) r a b = given_get _ (λ l q. given _ q) r
given_arguments (suc (suc zero)) r a b =
    given_get _ (λ n q. given_get _ (λ f q. given_get _ (λ k q. given_get _ (λ m q. given_get _ (λ g q. given_get _ (λ j q. given _ q) q) q) q) q) q) r
given_arguments (suc (suc (suc zero))) r a b = given_get _ (λ n q. given_get _ (λ v q. given_get _ (λ d q. given _ q) q) q) r
given_arguments (suc (suc (suc (suc zero)))) r a b = given _ r
given_arguments (suc (suc (suc (suc (suc x))))) r a b = absurd (omega arith)

-- ---- what stands next

-- The end, or which question of reading is answered no, or the command that stands there.
pub data Stands (closed : Bool) (bs : List ℕ) : Next → Type 0 where
  at_end : bs ≡ [] → Stands closed bs end
  code_unread : (bs ≡ [] → ⊥) → ((x : ℕ) (r : List ℕ) → Reads bs (x ∷ []) r → ⊥) → Stands closed bs (refuse 2)
  after_close : {x : ℕ} {r : List ℕ} → Reads bs (x ∷ []) r → closed ≡ true → Stands closed bs (refuse 4)
  not_a_code : {x : ℕ} {r : List ℕ} → Reads bs (x ∷ []) r → closed ≡ false → (x < 1) ⊎ (4 < x) → Stands closed bs (refuse 5)
  other_unread : {x : ℕ} {r : List ℕ} → Reads bs (x ∷ []) r → closed ≡ false → 1 ≤ x → x ≤ 4
      → ((c : Command) (q : List ℕ) → Reads bs (command_numbers c) q → ⊥) → Stands closed bs (refuse 2)
  stands : (c : Command) (rest : List ℕ) → Reads bs (command_numbers c) rest → closed ≡ false → Stands closed bs (command c rest)

pub next_stands : (closed : Bool) (bs : List ℕ) → Bytes bs → Stands closed bs (read_command closed bs)
next_stands closed [] w = unfold read_command in at_end refl
next_stands closed (b ∷ bs) w = by (read (b ∷ bs)) refl
  where
    by : (f : Front) → read (b ∷ bs) ≡ f → Stands closed (b ∷ bs) (read_command closed (b ∷ bs))
    by bad e =
        rw (code_bad closed (b ∷ bs) (omega arith) e)
        (code_unread (λ q. let z : ◌≡◌ {A = ℕ} 0 1 = cc in omega arith)
        (λ x r k. none_stands e k))
    by (number x r) e = code closed
      where
        last : (t : Next) → read_command false (b ∷ bs) ≡ t → 1 ≤ x → x ≤ 4 → Given t → Stands false (b ∷ bs) t
        last t q i j (given c rest) = stands c rest (command_reads false w q).0 refl
        last t q i j unread =
            other_unread (one_reads w e) refl i j
            (λ c rest k. let m = reads_command {c = c} k in let z : ◌≡◌ {A = ℕ} 0 1 = cc in omega arith)

        outside : (x < 1) ⊎ (4 < x) → Stands false (b ∷ bs) (read_command false (b ∷ bs))
        outside o = rw (code_open (b ∷ bs) x r e, no_code x r o) (not_a_code (one_reads w e) refl o)

        split : Dec (1 ≤ x) → Dec (x ≤ 4) → Stands false (b ∷ bs) (read_command false (b ∷ bs))
        split (yes i) (yes j) = last (read_command false (b ∷ bs)) refl i j (rw (code_open (b ∷ bs) x r e) (given_arguments x r i j))
        split (yes i) (no j) = outside (inr (omega arith))
        split (no i) d = outside (inl (omega arith))

        code : (d : Bool) → Stands d (b ∷ bs) (read_command d (b ∷ bs))
        code true = rw (code_closed (b ∷ bs) x r e) (after_close (one_reads w e) refl)
        code false = split (dec_le 1 x) (dec_le x 4)

-- ---- and back

pub unread_code : (closed : Bool) (bs : List ℕ) → Bytes bs → (bs ≡ [] → ⊥) → ((x : ℕ) (r : List ℕ) → Reads bs (x ∷ []) r → ⊥)
    → read_command closed bs ≡ refuse 2
unread_code closed [] w some none = absurd (some refl)
unread_code closed (b ∷ bs) w some none = by (read (b ∷ bs)) refl
  where
    by : (f : Front) → read (b ∷ bs) ≡ f → read_command closed (b ∷ bs) ≡ refuse 2
    by bad e = code_bad closed (b ∷ bs) (omega arith) e
    by (number x r) e = absurd (none x r (one_reads w e))

pub closed_code : {bs r : List ℕ} {x : ℕ} → Reads bs (x ∷ []) r → read_command true bs ≡ refuse 4
closed_code {bs} {r} {x} k = code_closed bs x r (reads_one k)

pub other_code : {bs r : List ℕ} {x : ℕ} → Reads bs (x ∷ []) r → (x < 1) ⊎ (4 < x) → read_command false bs ≡ refuse 5
other_code {bs} {r} {x} k o = code_open bs x r (reads_one k) ∙ no_code x r o

pub unread_others : {bs r : List ℕ} {x : ℕ} → Bytes bs → Reads bs (x ∷ []) r → 1 ≤ x → x ≤ 4
    → ((c : Command) (q : List ℕ) → Reads bs (command_numbers c) q → ⊥) → read_command false bs ≡ refuse 2
unread_others {bs} {r} {x} w k i j none =
    by (read_command false bs) refl (rw (code_open bs x r (reads_one k)) (given_arguments x r i j))
  where
    by : (t : Next) → read_command false bs ≡ t → Given t → t ≡ refuse 2
    by t e (given c q) = absurd (none c q (command_reads false w e).0)
    by t e unread = refl
