-- Document 01's questions as propositions, and the number and place that a script comes to by them, apart from the player's tests.
-- The limits stand here as documents 01 and 02 write them, and not by the names of `sizes`: a limit there that is not the documents' is refused
-- where the player's tests are proved to answer these questions.
use Rattle.std.specs.Prelude.{◌≡◌, ◌⊎◌, ◌≢◌, ℕ, suc, ◌-◌, ◌≤◌, ◌<◌, length}
use mathlib.Core.List.{List, [], ◌∷◌, ◌++◌, flat_map, Memᴰ}
use Rattle.number.specs.Number.{encode}
use Rattle.pb.specs.Sum.{variable, neg}
use Rattle.record.specs.Record.{bytes}
use Rattle.totdb.specs.Nodes.{Node, leaf, join, node_at, len}
use Rattle.totdb.specs.declared.Side.{Side}
use Rattle.cert.specs.State.{State, start, Head}
use Rattle.player.specs.Player.{act}
use Rattle.player.specs.Script.{command_numbers}
use Rattle.player.specs.declared.Command.{Command}
use Rattle.player.specs.declared.Command.TheVariants.{Leaf, Join, Request as Requested, Close}

-- ---- reading

-- The numbers ns stand at the front of bs, each in shortest form and of at most four groups (document 02, §2), and rest comes after them.
pub record Reads (bs ns rest : List ℕ) : Type 0 where
  pub coded : bs ≡ flat_map encode ns ++ rest
  pub short : (x : ℕ) → Memᴰ x ns → length (encode x) ≤ 4

-- A script that begins with this head and these commands, and goes on with rest in whatever way.
abbrev pub Begins : List ℕ → Head → List Command → List ℕ → Type 0
Begins bs h cs rest = Reads bs (h.variable ∷ h.step ∷ flat_map command_numbers cs) rest

-- The script of a head and commands.
abbrev pub IsScript : List ℕ → Head → List Command → Type 0
IsScript bs h cs = Begins bs h cs []

-- ---- what a table has

unfoldable pub own_literal : Node → List ℕ
own_literal (leaf l) = l ∷ []
own_literal (join ls o l r) = []

-- The literals of the leaves.
unfoldable pub leaf_literals : List Node → List ℕ
unfolding own_literal
leaf_literals t = flat_map own_literal t

-- The leaf that is node x lies below the node n: a leaf lies below itself, and below a join what lies below the node of a side of it, through windows
-- or not (document 02, §5).
pub data Below (t : List Node) (x : ℕ) : ℕ → Type 0 where
  itself : {l : ℕ} → x < length t → node_at t x ≡ leaf l → Below t x x
  through_left : {n o : ℕ} {ls : List ℕ} {l r : Side} → n < length t → node_at t n ≡ join ls o l r → Below t x l.node → Below t x n
  through_right : {n o : ℕ} {ls : List ℕ} {l r : Side} → n < length t → node_at t n ≡ join ls o l r → Below t x r.node → Below t x n

unfoldable pub own_join : Node → List Node
own_join (leaf l) = []
own_join (join ls o l r) = join ls o l r ∷ []

unfoldable pub joins : List Node → List Node
unfolding own_join
joins t = flat_map own_join t

-- ---- a command's questions, where they are answered no

-- Question 10, of one side: offset not below the length, or limit past the length less offset. At offset 0 the whole length passes as a limit
-- (document 02, §3).
pub data OffNode (t : List Node) (s : Side) : Type 0 where
  offset_high : len (node_at t s.node) ≤ s.offset → OffNode t s
  limit_high : len (node_at t s.node) - s.offset < s.limit → OffNode t s

-- In the state s, the command is answered no to the question of this number. Question 14 is of the state after it.
pub data No (h : Head) (capacity : ℕ) (s : State) : Command → ℕ → Type 0 where
  -- Leaf: is the variable below the first output variable?
  no_6 : {l : ℕ} → h.variable ≤ variable l → No h capacity s (Leaf l) 6
  -- Leaf, new literal: is its negation no leaf, and are there fewer than 64?
  no_7 : {l : ℕ} → (Memᴰ l (leaf_literals s.nodes) → ⊥)
      → Memᴰ (neg l) (leaf_literals s.nodes) ⊎ (64 ≤ length (leaf_literals s.nodes)) → No h capacity s (Leaf l) 7
  -- Join, request: does each node exist?
  no_8_join : {l r : Side} → (length s.nodes ≤ l.node) ⊎ (length s.nodes ≤ r.node) → No h capacity s (Join l r) 8
  no_8_request : {n v d : ℕ} → length s.nodes ≤ n → No h capacity s (Requested n v d) 8
  -- Join: does no leaf lie below both sides (document 02, §5)?
  no_9 : {l r : Side} {x : ℕ} → Below s.nodes x l.node → Below s.nodes x r.node → No h capacity s (Join l r) 9
  -- Join: would it be no more than the 255th (document 02, §5)?
  no_15 : {l r : Side} → 255 ≤ length (joins s.nodes) → No h capacity s (Join l r) 15
  -- Join: offset below the length, and limit at most the length less offset?
  no_10 : {l r : Side} → OffNode s.nodes l ⊎ OffNode s.nodes r → No h capacity s (Join l r) 10
  -- Request: value 1 to the length?
  no_11 : {n v d : ℕ} → (v < 1) ⊎ (len (node_at s.nodes n) < v) → No h capacity s (Requested n v d) 11
  -- Request: direction 1 to 3?
  no_12 : {n v d : ℕ} → (d < 1) ⊎ (3 < d) → No h capacity s (Requested n v d) 12
  -- Does all the command writes fit in the log?
  no_14 : {c : Command} → capacity < length (bytes (act c s).log) → No h capacity s c 14

-- The order in which they are put.
unfoldable pub order : List ℕ
order = 6 ∷ 7 ∷ 8 ∷ 9 ∷ 15 ∷ 10 ∷ 11 ∷ 12 ∷ 14 ∷ []

-- n is the first of the numbers that P holds of.
pub data First (P : ℕ → Type 0) : List ℕ → ℕ → Type 0 where
  first_here : {n : ℕ} {ns : List ℕ} → P n → First P (n ∷ ns) n
  first_later : {m n : ℕ} {ns : List ℕ} → (P m → ⊥) → First P ns n → First P (m ∷ ns) n

-- ---- a script

-- Past question 1, the head reads, question 3 is answered yes, and the commands cs are read and answered yes to every question:
-- this leaves the state s, and the bytes rest are to be read.
pub data Reached (bs : List ℕ) (capacity : ℕ) (h : Head) : List Command → State → List ℕ → Type 0 where
  at_head : {rest : List ℕ} → length bs ≤ 65536 → capacity ≤ 65536 → Reads bs (h.variable ∷ h.step ∷ []) rest → h.variable ≤ 100000000
      → 1 ≤ h.step → h.step ≤ 100000000 → Reached bs capacity h [] (start h) rest
  one_more : {cs : List Command} {s : State} {at-command rest : List ℕ} {c : Command} → Reached bs capacity h cs s at-command
      → (Memᴰ Close cs → ⊥) → Reads at-command (command_numbers c) rest → ((n : ℕ) → No h capacity s c n → ⊥)
      → Reached bs capacity h (cs ++ (c ∷ [])) (act c s) rest

-- Nothing was made, held or written.
abbrev pub untouched : State
untouched = start (record { variable = 0; step = 0 })

-- Number and place, and the state that the commands before them leave.
pub data Verdict (bs : List ℕ) (capacity : ℕ) : ℕ → ℕ → State → Type 0 where
  -- Are script and log at most 65,536 bytes each?
  no_1 : (65536 < length bs) ⊎ (65536 < capacity) → Verdict bs capacity 1 0 untouched
  -- Does the next number read? Both head numbers come before question 3.
  no_2_head : length bs ≤ 65536 → capacity ≤ 65536 → ((v n : ℕ) (rest : List ℕ) → Reads bs (v ∷ n ∷ []) rest → ⊥) → Verdict bs capacity 2 0 untouched
  -- Head: variable at most 100,000,000, step 1 to 100,000,000 (document 02, §2)?
  no_3 : {v n : ℕ} {rest : List ℕ} → length bs ≤ 65536 → capacity ≤ 65536 → Reads bs (v ∷ n ∷ []) rest
      → (100000000 < v) ⊎ ((n < 1) ⊎ (100000000 < n)) → Verdict bs capacity 3 0 untouched
  -- Does the next number read? A script may end only where a code would stand.
  no_2_code : {h : Head} {cs : List Command} {s : State} {rest : List ℕ} → Reached bs capacity h cs s rest → rest ≢ []
      → ((x : ℕ) (more : List ℕ) → Reads rest (x ∷ []) more → ⊥) → Verdict bs capacity 2 (suc (length cs)) s
  -- The code once read, was nothing closed before this command?
  no_4 : {h : Head} {cs : List Command} {s : State} {rest more : List ℕ} {x : ℕ} → Reached bs capacity h cs s rest → Reads rest (x ∷ []) more
      → Memᴰ Close cs → Verdict bs capacity 4 (suc (length cs)) s
  -- Is the code 1 to 4?
  no_5 : {h : Head} {cs : List Command} {s : State} {rest more : List ℕ} {x : ℕ} → Reached bs capacity h cs s rest → Reads rest (x ∷ []) more
      → (Memᴰ Close cs → ⊥) → (x < 1) ⊎ (4 < x) → Verdict bs capacity 5 (suc (length cs)) s
  -- Its other numbers are read next.
  no_2 : {h : Head} {cs : List Command} {s : State} {rest more : List ℕ} {x : ℕ} → Reached bs capacity h cs s rest → Reads rest (x ∷ []) more
      → (Memᴰ Close cs → ⊥) → 1 ≤ x → x ≤ 4 → ((c : Command) (r : List ℕ) → Reads rest (command_numbers c) r → ⊥)
      → Verdict bs capacity 2 (suc (length cs)) s
  -- Questions 6 to 12, 15 and 14.
  no_more : {h : Head} {cs : List Command} {s : State} {rest more : List ℕ} {c : Command} {n : ℕ} → Reached bs capacity h cs s rest
      → (Memᴰ Close cs → ⊥) → Reads rest (command_numbers c) more → First (No h capacity s c) order n → Verdict bs capacity n (suc (length cs)) s
  -- None is answered no.
  passed : {h : Head} {cs : List Command} {s : State} → Reached bs capacity h cs s [] → Verdict bs capacity 0 (length cs) s
