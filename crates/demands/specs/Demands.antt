-- The three demands as claims about scripts of bytes, each below its words. Their proofs are in proofs/.
use Rattle.std.specs.Prelude.{◌≡◌, ℕ, ◌+◌, length, take}
use mathlib.Core.List.{List, [], flat_map, Memᴰ, Nodup, Perm}
use Rattle.std.proofs.Math.Option.{some}
use Rattle.number.specs.Number.{Bytes}
use Rattle.pb.specs.Sum.{Sum}
use Rattle.pb.specs.Truth.{Assignment, Satisfies, SatisfiesClause}
use Rattle.record.specs.Record.{Record, steps, clauses, decode_log}
use Rattle.record.specs.Steps.{step_of, defined}
use Rattle.record.specs.Truth.{SatisfiesSums}
use Rattle.cert.specs.Definitions.{Key, defined_by}
use Rattle.cert.specs.Meaning.{Means}
use Rattle.cert.specs.Requests.{Request}
use Rattle.cert.specs.State.{State, Head}
use Rattle.cert.specs.Totalizer.{totalizer}
use Rattle.player.specs.Accepted.{NodesOf, RecordsOf}
use Rattle.player.specs.Called.{makes, Asked, table, Closure, Called, KeyCalled}
use Rattle.player.specs.Player.{Outcome, Padded, played}
use Rattle.player.specs.Verdict.{IsScript, Reached, Verdict}
use Rattle.player.specs.declared.Command.{Command}

-- ---- an outcome, its records and the state it reports

-- The log cut at its length reads back as the records rs, and steps and clauses are counted over them.
pub record Holds (o : Outcome) (rs : List Record) : Type 0 where
  pub decodes : decode_log (take o.used o.log) ≡ some rs
  pub steps_are : o.steps ≡ steps rs
  pub clauses_are : o.clauses ≡ length (clauses rs)

-- Its records, then zeros, and the number of its nodes.
pub record Reports (capacity : ℕ) (o : Outcome) (s : State) : Type 0 where
  pub holds : Holds o s.log
  pub padded : Padded capacity o
  pub nodes_are : o.nodes ≡ length s.nodes

-- ---- demand 1
-- "Every script of bytes ends in a finished log, or in one refusal number and the command it fell on; nothing outside the lent memory is touched,
-- and the log holds exactly the records of the commands before the refused one, then zeros." (Which memory is touched is a matter of the
-- code, not of these definitions.)

-- Number and place are those of document 01's questions, and of no other; the outcome reports the state that the commands before leave.
pub record Meets1 (bs : List ℕ) (capacity : ℕ) (o : Outcome) : Type 0 where
  pub state : State
  pub verdict : Verdict bs capacity o.number o.place state
  pub reports : Reports capacity o state
  pub only : (n p : ℕ) (s : State) → Verdict bs capacity n p s → (n ≡ o.number) × (p ≡ o.place) × Reports capacity o s

unfoldable pub Demand1 : Type 0
Demand1 = (bs : List ℕ) (capacity : ℕ) → Bytes bs → Meets1 bs capacity (played bs capacity)

-- ---- demand 2
-- "For every script that passes document 01's questions, the log equals what the Rust records for the same commands; its clauses are those of the
-- totalizer of Bailleux and Boufkhad, and each derivation, worked out by the cutting-planes rules, comes to exactly the clause or window definition it is
-- written for." (That the log equals what the Rust records is not stated here: crate `recorded` holds `played` to answers recorded from the Rust.)

-- The members of xs are just those that P holds of.
abbrev pub Enumerates : {A : Type 0} → List A → (A → Type 0) → Type 0
Enumerates {A} xs P = (a : A) → (Memᴰ a xs → P a) × (P a → Memᴰ a xs)

-- An assignment satisfies what every step comes to, and every clause.
pub record SatisfiesAll (first : ℕ) (rs : List Record) (a : Assignment) : Type 0 where
  pub every_step : (n : ℕ) (s : Sum) → step_of first rs n ≡ some s → Satisfies a s
  pub every_clause : (c : List ℕ) → Memᴰ c (clauses rs) → SatisfiesClause a c

-- The records of a script that passes: `served` are its requests and all they need below, `stored` the definitions that their clauses look up, each once.
pub record Proved (h : Head) (cs : List Command) (rs : List Record) : Type 0 where
  pub served : List Request
  pub served_once : Nodup served
  pub served_are : Enumerates served (Closure h cs)
  -- the clauses are the totalizer's, for each request served
  pub clauses_are : clauses rs ≡ flat_map (totalizer (table h cs)) served
  -- each stands after the derivation written for it, which comes to it; a close deletes the definitions, and nothing else is deleted
  pub places : RecordsOf h cs rs
  pub stored : List Key
  pub stored_once : Nodup stored
  pub stored_are : Enumerates stored (KeyCalled h cs)
  -- every sum, and what every other derivation comes to, is the definition it is written for
  pub definitions : defined h.step rs ≡ flat_map (defined_by (table h cs)) stored
  -- and this means what it is named for
  pub meanings : (k : Key) → Memᴰ k stored → Means (table h cs) k (defined_by (table h cs) k)
  -- each clause has a derivation of its own
  pub steps_split : steps rs ≡ length (defined h.step rs) + length (clauses rs)
  -- what satisfies the sums of kind 1 satisfies all that is derived from them
  pub entailed : (a : Assignment) → SatisfiesSums a rs → SatisfiesAll h.step rs a

-- What commands that passed leave.
pub record Made (h : Head) (cs : List Command) (s : State) : Type 0 where
  pub table_is : s.nodes ≡ table h cs
  pub nodes : NodesOf h cs (table h cs)
  pub proved : Proved h cs s.log

pub record Meets2 (capacity : ℕ) (h : Head) (cs : List Command) (s : State) (o : Outcome) : Type 0 where
  pub accepted : o.number ≡ 0
  pub all_played : o.place ≡ length cs
  pub reports : Reports capacity o s
  pub made : Made h cs s

-- It is so, too, of the commands before a refused one: those that passed, whatever is left to read.
pub record Demand2 : Type 0 where
  pub passes : (bs : List ℕ) (capacity : ℕ) (h : Head) (cs : List Command) (s : State) → Bytes bs → Reached bs capacity h cs s []
      → Meets2 capacity h cs s (played bs capacity)
  pub before : (bs : List ℕ) (capacity : ℕ) (h : Head) (cs : List Command) (s : State) (rest : List ℕ) → Reached bs capacity h cs s rest → Made h cs s

-- ---- demand 3
-- "For every two accepted scripts, lists of leaf, join, request and close commands, with one head and the same leaf and join commands in the same order,
-- whose requests name the same set of node, value and direction (both counts as the two): whatever the order and place of the requests, and however often
-- one is repeated, both logs hold the same set of clauses, each written once, and the same sums defined, each as often; both answers give the same steps,
-- clauses and nodes, and steps = sums defined + clauses. That set is exactly demand 2's for those requests and all they need below, and the sums are those
-- written for its clauses' lookups, as document 01 lists both."

-- Two scripts with their outcomes.
pub record Alike (bs ds : List ℕ) (o p : Outcome) (h : Head) (cs es : List Command) : Type 0 where
  pub one_head : IsScript bs h cs × IsScript ds h es
  pub accepted_both : (o.number ≡ 0) × (p.number ≡ 0)
  pub same_makes : makes cs ≡ makes es
  pub same_asked : (x : Request) → (Asked cs x → Asked es x) × (Asked es x → Asked cs x)

pub record Matching (h : Head) (o p : Outcome) (rs qs : List Record) : Type 0 where
  pub clauses_match : Perm (clauses rs) (clauses qs)
  pub each_once : Nodup (clauses rs) × Nodup (clauses qs)
  pub sums_match : Perm (defined h.step rs) (defined h.step qs)
  pub answers_match : (o.steps ≡ p.steps) × (o.clauses ≡ p.clauses) × (o.nodes ≡ p.nodes)
  pub steps_split : (o.steps ≡ length (defined h.step rs) + length (clauses rs))
      × (p.steps ≡ length (defined h.step qs) + length (clauses qs))

-- The clauses are those that the script calls for; the sums are those of the keys called for, as demand 2 has them.
pub record Listed (h : Head) (cs : List Command) (rs : List Record) : Type 0 where
  pub clauses_listed : Enumerates (clauses rs) (Called h cs)
  pub proved : Proved h cs rs

pub record Meets3 (h : Head) (cs es : List Command) (o p : Outcome) : Type 0 where
  pub records : List Record
  pub others : List Record
  pub holds : Holds o records × Holds p others
  pub matching : Matching h o p records others
  pub listed : Listed h cs records × Listed h es others

unfoldable pub Demand3 : Type 0
Demand3 =
    (bs ds : List ℕ) (c d : ℕ) (h : Head) (cs es : List Command) → Bytes bs → Bytes ds → Alike bs ds (played bs c) (played ds d) h cs es
    → Meets3 h cs es (played bs c) (played ds d)
