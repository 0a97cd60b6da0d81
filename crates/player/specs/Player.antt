-- The player: the questions in their order, one command at a time, and the answer.
use Rattle.std.specs.Prelude.{None, ◌≡◌, Bool, true, false, ◌&&◌, ◌||◌, not as notb, List, [], ◌∷◌, ◌++◌, ℕ, zero, suc, ◌+◌, ◌-◌, ◌≤◌, leb, ltb, length, drop, replicate}
use Rattle.sizes.specs.Sizes.{most_bytes, most_head, most_leaves, most_joins}
use Rattle.number.specs.Number.{read_refusal}
use Rattle.pb.specs.Sum.{variable, neg}
use Rattle.record.specs.Record.{deletion, bytes, steps, clauses}
use Rattle.totdb.specs.Below.{share_leaf}
use Rattle.totdb.specs.Nodes.{Node, leaf, node_at, len, joined, known, leaf_count, join_count}
use Rattle.totdb.specs.declared.Side.{Side}
use Rattle.cert.specs.State.{State, start, stored_steps, serve, requests, Head}
use Rattle.player.specs.Script.{Script, script, headless, read_script}
use Rattle.player.specs.declared.Command.{Command}

-- ---- questions

-- A question of a number, and whether its answer is yes.
pub data Question : Type 0 where
  ask : ℕ → Bool → Question

-- The number of the first that is answered no, or 0.
unfoldable pub first_no : List Question → ℕ
first_no [] = 0
first_no (ask n true ∷ qs) = first_no qs
first_no (ask n false ∷ qs) = n

-- Over a node of n values: offset below the length, and limit at most the length less offset.
abbrev pub fits_over : Side → ℕ → Bool
fits_over s n = ltb s.offset n && leb s.limit (n - s.offset)

unfoldable pub side_fits : List Node → Side → Bool
unfolding node_at len
side_fits t s = fits_over s (len (node_at t s.node))

-- Questions 6 to 12, and 15 of document 02, §5, which is put after 9.
unfoldable pub questions : Head → List Node → Command → List Question
unfolding variable neg known leaf_count share_leaf join_count node_at len side_fits
questions h t (Command.Leaf l) =
    ask 6 (ltb (variable l) h.variable)
    ∷ ask 7 (known t l || (notb (known t (neg l)) && ltb (leaf_count t) most_leaves))
    ∷ []
questions h t (Command.Join l r) =
    ask 8 (ltb l.node (length t) && ltb r.node (length t))
    ∷ ask 9 (notb (share_leaf t l.node r.node))
    ∷ ask 15 (ltb (join_count t) most_joins)
    ∷ ask 10 (side_fits t l && side_fits t r)
    ∷ []
questions h t (Command.Request n v d) =
    ask 8 (ltb n (length t))
    ∷ ask 11 (leb 1 v && leb v (len (node_at t n)))
    ∷ ask 12 (leb 1 d && leb d 3)
    ∷ []
questions h t Command.Close = []

-- ---- commands

unfoldable pub make : Node → ℕ → State → State
make a n s = record {
  nodes = s.nodes ++ (a ∷ []);
  next_variable = s.next_variable + n;
  next_step = s.next_step;
  held = s.held;
  stored = s.stored;
  log = s.log;
}

unfoldable pub delete : State → State
unfolding stored_steps
delete s = record {
  nodes = s.nodes;
  next_variable = s.next_variable;
  next_step = s.next_step;
  held = s.held;
  stored = s.stored;
  log = s.log ++ (deletion (stored_steps s.nodes s.stored) ∷ []);
}

-- What a command does that passes these questions. A leaf literal seen before makes no new node; a join reserves all its outputs.
unfoldable pub act : Command → State → State
unfolding known make joined len serve requests delete
act (Command.Leaf l) s = elim (known s.nodes l) [ true ↦ s | false ↦ make (leaf l) 0 s ]
act (Command.Join l r) s = let a = joined s.nodes s.next_variable l r in make a (len a) s
act (Command.Request n v d) s = serve s.nodes (requests n v d) s
act Command.Close s = delete s

pub data Result : Type 0 where
  accepted : State → Result
  refused : ℕ → Result

-- Question 14, of the whole log after a command.
unfoldable pub fitted : ℕ → State → Result
unfolding bytes
fitted capacity s = elim (leb (length (bytes s.log)) capacity) [ true ↦ accepted s | false ↦ refused 14 ]

unfoldable pub play : Head → ℕ → Command → State → Result
unfolding first_no questions act fitted
play h capacity c s = elim (first_no (questions h s.nodes c)) [ zero ↦ fitted capacity (act c s) | suc n ↦ refused (suc n) ]

-- ---- a whole script

-- The six numbers of the answer, and the log.
pub record Outcome : Type 0 where
  pub number : ℕ
  pub place : ℕ
  pub used : ℕ
  pub steps : ℕ
  pub clauses : ℕ
  pub nodes : ℕ
  pub log : List ℕ

-- The last four numbers and the log are as after the last accepted command. Every log byte from the length on is 0.
unfoldable pub outcome : ℕ → ℕ → ℕ → State → Outcome
unfolding bytes steps clauses
outcome capacity n p s =
    let bs = bytes s.log in
    record {
      number = n;
      place = p;
      used = length bs;
      steps = Rattle.record.specs.Record.steps s.log;
      clauses = length (Rattle.record.specs.Record.clauses s.log);
      nodes = length s.nodes;
      log = bs ++ replicate (capacity - length bs) 0;
    }

-- The log keeps its size, and every byte from its length on is 0.
pub record Padded (capacity : ℕ) (o : Outcome) : Type 0 where
  pub within : o.used ≤ capacity
  pub whole : length o.log ≡ capacity
  pub zeros : drop o.used o.log ≡ replicate (capacity - o.used) 0

-- The question that stopped the reading is put to the command after the last one read.
unfoldable pub ended : ℕ → ℕ → ℕ → State → Outcome
unfolding outcome
ended capacity zero p s = outcome capacity 0 p s
ended capacity (suc n) p s = outcome capacity (suc n) (suc p) s

-- From place p. Play ends at the first refusal.
unfoldable pub plays : Head → ℕ → ℕ → List Command → ℕ → State → Outcome
unfolding play outcome ended
plays h capacity ending [] p s = ended capacity ending p s
plays h capacity ending (c ∷ cs) p s =
    elim (play h capacity c s) [ accepted u ↦ plays h capacity ending cs (suc p) u | refused n ↦ outcome capacity n (suc p) s ]

-- A refusal at place 0.
unfoldable pub refused_at_head : ℕ → ℕ → Outcome
unfolding outcome start
refused_at_head capacity n = outcome capacity n 0 (start (record { variable = 0; step = 0 }))

unfoldable pub head_fits : Head → Bool
head_fits h = leb h.variable most_head && leb 1 h.step && leb h.step most_head

unfoldable pub play_script : ℕ → Script → Outcome
unfolding plays start refused_at_head head_fits
play_script capacity headless = refused_at_head capacity (read_refusal None)
play_script capacity (script h cs) =
    elim (head_fits h) [ true ↦ plays h capacity cs.ending cs.list 0 (start h) | false ↦ refused_at_head capacity 3 ]

-- Questions 1, 2, 3, then the commands.
unfoldable pub played : List ℕ → ℕ → Outcome
unfolding play_script read_script refused_at_head
played bs capacity =
    elim (leb (length bs) most_bytes && leb capacity most_bytes) [ true ↦ play_script capacity (read_script bs) | false ↦ refused_at_head capacity 1 ]
