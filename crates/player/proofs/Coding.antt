-- Scripts as bytes and back: what is written reads as the commands, and what reads to its end is what would be written.
use mathlib.Core.Path.{◌≡◌, refl, sym, ◌∙◌, ap}
use mathlib.Core.Bool.{Bool, true, false, ◌&&◌}
use mathlib.Core.List.{List, [], ◌∷◌, ◌++◌, flat_map, append_assoc, append-nil}
use Prim.Native.Nat.{ℕ, zero, suc, ◌+◌, ◌^◌, ◌≤◌, ◌<◌}
use native.Mathlib.Omega.{arith}
use borrow.Author.Tests.{ltb-true}
use lib.Dec.{ltb}
use lib.ListN.{length, length-append}
use lib.Seq.{get_or-append-add}
use Rattle.memo.proofs.Booleans.{and_true}
use Rattle.number.specs.Number.{groups, Bytes, encode, Front, number, bad, read}
use Rattle.number.proofs.Laws.{encode_some, read_encode, read_number}
use Rattle.memo.proofs.Lists.{flat_map_append}
use Rattle.record.proofs.Decode.{Small}
use Rattle.cert.specs.State.{Head}
use Rattle.player.specs.Script.{Next, command, refuse, end, get, arguments, read_command, closes, Commands, stop, before, read_commands, script, read_script, command_numbers, script_bytes}
use Rattle.player.specs.declared.Command.{Command}
use Rattle.player.specs.declared.Command.TheVariants.{Leaf, Join, Request, Close}
use Rattle.player.proofs.Plays.{head_read}

-- ---- what is written reads

get_more : (x : ℕ) (ns rest : List ℕ) (f : ℕ → List ℕ → Next) → x < 128 ^ groups
    → get (flat_map encode (x ∷ ns) ++ rest) f ≡ f x (flat_map encode ns ++ rest)
unfolding get flat_map
get_more x ns rest f h = rw (append_assoc (encode x) (flat_map encode ns) rest, read_encode x (flat_map encode ns ++ rest) h, get)

-- The bytes of a command, where nothing is closed.
abbrev pub command_bytes : Command → List ℕ
command_bytes c = flat_map encode (command_numbers c)

arguments_back : (c : Command) (rest : List ℕ) → Small (command_numbers c) → get (command_bytes c ++ rest) arguments ≡ command c rest
unfolding arguments command_numbers Small
arguments_back (Leaf l) rest s = get_more 1 _ rest _ s.0 ∙ get_more l _ rest _ s.1.0 ∙ (unfold flat_map in refl)
arguments_back (Join l r) rest s =
    get_more 2 _ rest _ s.0 ∙ get_more l.node _ rest _ s.1.0 ∙ get_more l.offset _ rest _ s.1.1.0
    ∙ get_more l.limit _ rest _ s.1.1.1.0
    ∙ get_more r.node _ rest _ s.1.1.1.1.0 ∙ get_more r.offset _ rest _ s.1.1.1.1.1.0
    ∙ get_more r.limit _ rest _ s.1.1.1.1.1.1.0
    ∙ (unfold flat_map in refl)
arguments_back (Request n v d) rest s =
    get_more 3 _ rest _ s.0 ∙ get_more n _ rest _ s.1.0 ∙ get_more v _ rest _ s.1.1.0 ∙ get_more d _ rest _ s.1.1.1.0
    ∙ (unfold flat_map in refl)
arguments_back Close rest s = get_more 4 _ rest _ s.0 ∙ (unfold flat_map in refl)

pub some_bytes_lem : (c : Command) → 0 < length (command_bytes c)
unfolding command_numbers flat_map
some_bytes_lem (Leaf l) = omega (arith, encode_some 1, length-append (encode 1) (flat_map encode (l ∷ [])))
some_bytes_lem (Join l r) =
    omega (arith, encode_some 2, length-append (encode 2) (flat_map encode (l.node ∷ l.offset ∷ l.limit ∷ r.node ∷ r.offset ∷ r.limit ∷ [])))
some_bytes_lem (Request n v d) = omega (arith, encode_some 3, length-append (encode 3) (flat_map encode (n ∷ v ∷ d ∷ [])))
some_bytes_lem Close = omega (arith, encode_some 4, length-append (encode 4) [])

pub command_back : (c : Command) (rest : List ℕ) → Small (command_numbers c) → read_command false (command_bytes c ++ rest) ≡ command c rest
command_back c rest s = by (command_bytes c) (some_bytes_lem c) (arguments_back c rest s)
  where
    by : (bs : List ℕ) → 0 < length bs → get (bs ++ rest) arguments ≡ command c rest → read_command false (bs ++ rest) ≡ command c rest
    by [] h e = absurd (omega arith)
    by (b ∷ bs) h e = unfold read_command in e

-- A close is the last command.
unfoldable pub CloseLast : List Command → Type 0
unfolding closes
CloseLast [] = Unit {0}
CloseLast (c ∷ []) = Unit {0}
CloseLast (c ∷ d ∷ cs) = (closes c ≡ false) × CloseLast (d ∷ cs)

pub small_split : (ms ns : List ℕ) → Small (ms ++ ns) → Small ms × Small ns
unfolding Small
small_split [] ns s = (tt, s)
small_split (m ∷ ms) ns s = let r = small_split ms ns s.1 in ((s.0, r.0), r.1)

pub nothing_left : (k : ℕ) (closed : Bool) → read_commands k closed [] ≡ record { list = []; ending = 0 }
unfolding read_commands read_command stop
nothing_left zero closed = refl
nothing_left (suc k) closed = refl

-- One command, then the rest.
command_then : (k : ℕ) (c : Command) (rest : List ℕ) → Small (command_numbers c)
    → read_commands (suc k) false (command_bytes c ++ rest) ≡ before c (read_commands k (closes c) rest)
unfolding read_commands
command_then k c rest s = rw (command_back c rest s, read_commands)

pub bytes_cons : (c : Command) (cs : List Command)
    → flat_map encode (flat_map command_numbers (c ∷ cs)) ≡ command_bytes c ++ flat_map encode (flat_map command_numbers cs)
unfolding flat_map
bytes_cons c cs = flat_map_append encode (command_numbers c) (flat_map command_numbers cs)

commands_back : (k : ℕ) (cs : List Command) → length (flat_map encode (flat_map command_numbers cs)) ≤ k → Small (flat_map command_numbers cs)
    → CloseLast cs
    → read_commands k false (flat_map encode (flat_map command_numbers cs)) ≡ record { list = cs; ending = 0 }
unfolding flat_map CloseLast before
commands_back k [] h s o = nothing_left k false
commands_back zero (c ∷ cs) h s o =
    absurd (omega (arith, some_bytes_lem c, ap length (bytes_cons c cs), length-append (command_bytes c) (flat_map encode (flat_map command_numbers cs))))
commands_back (suc k) (c ∷ []) h s o =
    let p = small_split (command_numbers c) [] s in
    rw (bytes_cons c []) (command_then k c [] p.0 ∙ ap (before c) (nothing_left k (closes c)))
commands_back (suc k) (c ∷ d ∷ cs) h s o =
    let p = small_split (command_numbers c) (flat_map command_numbers (d ∷ cs)) s in
    let l : length (flat_map encode (flat_map command_numbers (d ∷ cs))) ≤ k =
    omega (
      arith,
      some_bytes_lem c,
      ap length (bytes_cons c (d ∷ cs)),
      length-append (command_bytes c)
          (flat_map encode (flat_map command_numbers (d ∷ cs))),
    ) in
    rw (bytes_cons c (d ∷ cs))
    (command_then k c (flat_map encode (flat_map command_numbers (d ∷ cs))) p.0
    ∙ rw o.0 (ap (before c) (commands_back k (d ∷ cs) l p.1 o.1)))

pub script_back : (h : Head) (cs : List Command) → h.variable < 128 ^ groups → h.step < 128 ^ groups → Small (flat_map command_numbers cs)
    → CloseLast cs
    → read_script (script_bytes h cs) ≡ script h (record { list = cs; ending = 0 })
unfolding script_bytes read_script flat_map
script_back h cs a b s o =
    let q = flat_map encode (flat_map command_numbers cs) in
    rw (read_encode h.variable (encode h.step ++ q) a, read_script, read_encode h.step q b)
    (ap (script h) (commands_back (length q) cs (omega arith) s o))

-- ---- what reads is what would be written

pub bytes_rest : (x : ℕ) (rest : List ℕ) → Bytes (encode x ++ rest) → Bytes rest
unfolding Bytes
bytes_rest x rest h i = rw (get_or-append-add (encode x) rest i 0) at (h (length (encode x) + i))

-- After the numbers `ms` of a command, a reader takes the others.
abbrev Spells : List ℕ → (List ℕ → Next) → Type 0
Spells ms f = (bs : List ℕ) (c : Command) (rest : List ℕ) → Bytes bs → f bs ≡ command c rest
    → (ns : List ℕ) × (bs ≡ flat_map encode ns ++ rest) × (command_numbers c ≡ ms ++ ns) × Bytes rest × Small ns

spells_done : (c : Command) → Spells (command_numbers c) (command c)
unfolding flat_map Small
spells_done c bs d rest h e =
    let p : bs ≡ rest = cc in
    let q : c ≡ d = cc in
    ([], p, rw (append-nil, q), rw p at h, tt)

spells_refuse : (ms : List ℕ) (n : ℕ) → Spells ms (λ bs. refuse n)
spells_refuse ms n bs c rest h e = absurd (let z : ◌≡◌ {A = ℕ} 0 1 = cc in omega arith)

spells_get : (ms : List ℕ) (f : ℕ → List ℕ → Next) → ((x : ℕ) → Spells (ms ++ (x ∷ [])) (f x)) → Spells ms (λ bs. get bs f)
unfolding get flat_map Small
spells_get ms f l bs c rest h e = by (read bs) refl
  where
    by : (t : Front) → read bs ≡ t → (ns : List ℕ) × (bs ≡ flat_map encode ns ++ rest) × (command_numbers c ≡ ms ++ ns) × Bytes rest × Small ns
    by bad k = absurd (let j = rw (k, get) at e in let z : ◌≡◌ {A = ℕ} 0 1 = cc in omega arith)
    by (number x r) k =
        let p = read_number bs h k in
        let q = l x r c rest (bytes_rest x r (rw p.0 at h)) (rw (k, get) at e) in (
          x ∷ q.0,
          p.0 ∙ ap (λ (u : List ℕ). encode x ++ u) q.1 ∙ sym (append_assoc (encode x) (flat_map encode q.0) rest),
          q.2 ∙ append_assoc ms (x ∷ []) q.0,
          q.3,
          (p.1, q.4),
        )

spells_arguments : (n : ℕ) → Spells (n ∷ []) (arguments n)
unfolding arguments command_numbers
spells_arguments zero = spells_refuse (zero ∷ []) 5
spells_arguments (suc zero) = spells_get (1 ∷ []) _ (λ l. spells_done (Leaf l))
spells_arguments (suc (suc zero)) =
    spells_get (2 ∷ []) _ (λ n. spells_get (2 ∷ n ∷ []) _ (λ f. spells_get (2 ∷ n ∷ f ∷ []) _ (λ k. spells_get (2 ∷ n ∷ f ∷ k ∷ []) _ (λ m.
    spells_get (2 ∷ n ∷ f ∷ k ∷ m ∷ []) _ (λ g. spells_get (2 ∷ n ∷ f ∷ k ∷ m ∷ g ∷ []) _ (λ j.
    spells_done (Join (record { node = n; offset = f; limit = k }) (record { node = m; offset = g; limit = j }))))))))
spells_arguments (suc (suc (suc zero))) =
    spells_get (3 ∷ []) _ (λ n. spells_get (3 ∷ n ∷ []) _ (λ v. spells_get (3 ∷ n ∷ v ∷ []) _ (λ d. spells_done (Request n v d))))
spells_arguments (suc (suc (suc (suc zero)))) = spells_done Close
spells_arguments (suc (suc (suc (suc (suc n))))) = spells_refuse (suc (suc (suc (suc (suc n)))) ∷ []) 5

spells_code : (closed : Bool) → Spells [] (λ bs. get bs (λ c r. elim closed [ true ↦ refuse 4 | false ↦ arguments c r ]))
spells_code true = spells_get [] _ (λ c. spells_refuse (c ∷ []) 4)
spells_code false = spells_get [] _ spells_arguments

pub command_written : (closed : Bool) (bs : List ℕ) (c : Command) (rest : List ℕ) → Bytes bs → read_command closed bs ≡ command c rest
    → (bs ≡ command_bytes c ++ rest) × Bytes rest × Small (command_numbers c)
unfolding read_command
command_written closed [] c rest h e = absurd (let z : ◌≡◌ {A = ℕ} 0 1 = cc in omega arith)
command_written closed (b ∷ bs) c rest h e = let p = spells_code closed (b ∷ bs) c rest h e in (p.1 ∙ rw p.2, p.3, rw p.2 p.4)

-- A reader of a command's numbers never says that the script ends, and refuses with a number from 1 to 5.
abbrev Proper : (List ℕ → Next) → Type 0
Proper f = (bs : List ℕ) → (f bs ≡ end → ⊥) × ((n : ℕ) → f bs ≡ refuse n → (0 < n) × (n ≤ 5))

proper_done : (c : Command) → Proper (command c)
proper_done c bs = (λ e. let z : ◌≡◌ {A = ℕ} 0 1 = cc in omega arith, λ n e. absurd (let z : ◌≡◌ {A = ℕ} 0 1 = cc in omega arith))

proper_refuse : (m : ℕ) → 0 < m → m ≤ 5 → Proper (λ bs. refuse m)
proper_refuse m h k bs = (λ e. let z : ◌≡◌ {A = ℕ} 0 1 = cc in omega arith, λ n e. let z : m ≡ n = cc in omega arith)

proper_get : (f : ℕ → List ℕ → Next) → ((x : ℕ) → Proper (f x)) → Proper (λ bs. get bs f)
unfolding get
proper_get f l bs = by (read bs) refl
  where
    by : (t : Front) → read bs ≡ t → (get bs f ≡ end → ⊥) × ((n : ℕ) → get bs f ≡ refuse n → (0 < n) × (n ≤ 5))
    by bad k = rw (k, get) (proper_refuse 2 (omega arith) (omega arith) bs)
    by (number x r) k = rw (k, get) (l x r)

proper_arguments : (n : ℕ) → Proper (arguments n)
unfolding arguments
proper_arguments zero = proper_refuse 5 (omega arith) (omega arith)
proper_arguments (suc zero) = proper_get _ (λ l. proper_done _)
proper_arguments (suc (suc zero)) =
    proper_get _ (λ n. proper_get _ (λ f. proper_get _ (λ k. proper_get _ (λ m. proper_get _ (λ g. proper_get _ (λ j. proper_done _))))))
proper_arguments (suc (suc (suc zero))) = proper_get _ (λ n. proper_get _ (λ v. proper_get _ (λ d. proper_done _)))
proper_arguments (suc (suc (suc (suc zero)))) = proper_done Close
proper_arguments (suc (suc (suc (suc (suc n))))) = proper_refuse 5 (omega arith) (omega arith)

proper_code : (closed : Bool) → Proper (λ bs. get bs (λ c r. elim closed [ true ↦ refuse 4 | false ↦ arguments c r ]))
proper_code true = proper_get _ (λ c. proper_refuse 4 (omega arith) (omega arith))
proper_code false = proper_get _ proper_arguments

pub at_end : (closed : Bool) (bs : List ℕ) → read_command closed bs ≡ end → bs ≡ []
unfolding read_command
at_end closed [] e = refl
at_end closed (b ∷ bs) e = absurd ((proper_code closed (b ∷ bs)).0 e)

pub refused_number : (closed : Bool) (bs : List ℕ) (n : ℕ) → read_command closed bs ≡ refuse n → (0 < n) × (n ≤ 5)
unfolding read_command
refused_number closed [] n e = absurd (let z : ◌≡◌ {A = ℕ} 0 1 = cc in omega arith)
refused_number closed (b ∷ bs) n e = (proper_code closed (b ∷ bs)).1 n e

-- To the end of the bytes.
commands_written : (k : ℕ) (closed : Bool) (bs : List ℕ) → length bs ≤ k → Bytes bs → (read_commands k closed bs).ending ≡ 0
    → bs ≡ flat_map encode (flat_map command_numbers (read_commands k closed bs).list)
unfolding read_commands before stop flat_map
commands_written zero closed [] l h e = refl
commands_written zero closed (b ∷ bs) l h e = absurd (omega arith)
commands_written (suc k) closed bs l h e = by (read_command closed bs) refl (commands_written k)
  where
    by : (t : Next) → read_command closed bs ≡ t
        → ((d : Bool) (r : List ℕ) → length r ≤ k → Bytes r → (read_commands k d r).ending ≡ 0
        → r ≡ flat_map encode (flat_map command_numbers (read_commands k d r).list))
        → bs ≡ flat_map encode (flat_map command_numbers (read_commands (suc k) closed bs).list)
    by (refuse n) q ih = absurd (omega (arith, (refused_number closed bs n q).0, rw (q, read_commands) at e))
    by end q ih = rw (q, read_commands) (at_end closed bs q)
    by (command c rest) q ih =
        let p = command_written closed bs c rest h q in
        let g = ih (closes c) rest (omega (arith, some_bytes_lem c, ap length p.0, length-append (command_bytes c) rest)) p.1
        (rw (q, read_commands) at e) in
        rw (q, read_commands) (p.0 ∙ ap (λ (u : List ℕ). command_bytes c ++ u) g ∙ sym (bytes_cons c (read_commands k (closes c) rest).list))

pub script_written : (bs : List ℕ) (h : Head) (cs : Commands) → Bytes bs → read_script bs ≡ script h cs → cs.ending ≡ 0
    → bs ≡ script_bytes h cs.list
unfolding script_bytes flat_map
script_written bs h cs w e z =
    let r = head_read bs h cs e in
    let a = read_number bs w r.one in
    let v = bytes_rest h.variable r.after_one (rw a.0 at w) in
    let b = read_number r.after_one v r.two in
    let u = bytes_rest h.step r.after_two (rw b.0 at v) in
    let c = commands_written (length r.after_two) false r.after_two (omega arith) u (rw r.rest z) in
    let d : r.after_two ≡ flat_map encode (flat_map command_numbers cs.list) = rw r.rest at c in
    a.0 ∙ ap (λ (y : List ℕ). encode h.variable ++ y) (b.0 ∙ ap (λ (y : List ℕ). encode h.step ++ y) d)

-- ---- a script that meets the hypotheses: a leaf and a close

-- A list of bytes, by a test that computes.
unfoldable pub are_bytes : List ℕ → Bool
are_bytes [] = true
are_bytes (b ∷ bs) = ltb b 256 && are_bytes bs

pub bytes_tested : (bs : List ℕ) → are_bytes bs ≡ true → Bytes bs
unfolding are_bytes Bytes
bytes_tested [] e i = omega arith
bytes_tested (b ∷ bs) e zero = ltb-true b 256 (and_true (ltb b 256) (are_bytes bs) e).0
bytes_tested (b ∷ bs) e (suc i) = bytes_tested bs (and_true (ltb b 256) (are_bytes bs) e).1 i

unfoldable pub leaf_closed : List Command
leaf_closed = Leaf 300 ∷ Close ∷ []

unfoldable pub bytes_of_leaf : List ℕ
bytes_of_leaf = 0x80 ∷ 2 ∷ 1 ∷ 1 ∷ 0xac ∷ 2 ∷ 4 ∷ []

pub met_back : read_script (script_bytes (record { variable = 256; step = 1 }) leaf_closed)
    ≡ script (record { variable = 256; step = 1 }) (record { list = leaf_closed; ending = 0 })
unfolding leaf_closed command_numbers flat_map Small CloseLast closes
met_back =
    script_back (record { variable = 256; step = 1 }) leaf_closed (omega arith) (omega arith)
    (omega arith, (omega arith, (omega arith, tt))) (refl, tt)

pub met_written : bytes_of_leaf ≡ script_bytes (record { variable = 256; step = 1 }) leaf_closed
unfolding bytes_of_leaf leaf_closed read_script are_bytes
met_written =
    script_written bytes_of_leaf (record { variable = 256; step = 1 }) (record { list = leaf_closed; ending = 0 }) (bytes_tested bytes_of_leaf refl) refl refl
