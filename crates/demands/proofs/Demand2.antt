-- Demand 2: a script that passes every question has a log; its clauses are the totalizer's, each derivation comes to its clause or window definition,
-- and each sum is a definition's.
use mathlib.Core.Path.{◌≡◌, sym, ◌∙◌, ap, subst}
use mathlib.Core.List.Memᴰ
use mathlib.Core.List.{List, [], ◌∷◌, flat_map, Memᴰ}
use mathlib.Core.Logic.{⊎_elim}
use Prim.Native.Nat.{ℕ, ◌+◌}
use lib.ListN.{length}
use Rattle.pb.specs.Truth.{Assignment}
use Rattle.record.specs.Record.{Record, sum, derivation, clause, deletion, clauses}
use Rattle.record.specs.Steps.{defined}
use Rattle.record.specs.Truth.{SatisfiesSums, Entailed}
use Rattle.record.proofs.Truth.{entailed}
use Rattle.totdb.specs.Nodes.{Node}
use Rattle.cert.specs.Definitions.{defined_by}
use Rattle.cert.specs.Meaning.{Meanings}
use Rattle.cert.specs.State.{Head, State, start, keys}
use Rattle.cert.proofs.Meaning.{meanings}
use Rattle.player.specs.Accepted.{RecordsOf}
use Rattle.player.specs.Called.{table}
use Rattle.player.specs.Passes.{AllPassed}
use Rattle.player.specs.Player.{Outcome}
use Rattle.player.specs.Verdict.{Reached, passed}
use Rattle.player.specs.declared.Command.{Command}
use Rattle.player.proofs.Defines.{defines_exactly}
use Rattle.player.proofs.Judged.{reached_all, reached_last, verdict_is, verdict_led}
use Rattle.player.proofs.Matching.{held_from, held_has, held_once, held_clauses, keys_from, keys_has, keys_once, nodes_table, steps_count}
use Rattle.player.proofs.Nodes.{nodes_of_lem}
use Rattle.player.proofs.Records.{records_of}
use Rattle.player.proofs.Plays.{outcome_number, outcome_place}
use Rattle.demands.specs.Demands.{SatisfiesAll, Proved, Made, Demand2}
use Rattle.demands.proofs.Holds.{reports_of}

-- A clause stands in a record.
clause_record : (rs : List Record) (c : List ℕ) → Memᴰ c (clauses rs) → (n : ℕ) × Memᴰ (clause n c) rs
unfolding clauses
clause_record [] c m = absurd (Memᴰ.not-nil m)
clause_record (sum w ts b ∷ rs) c m = let k = clause_record rs c m in (k.0, Memᴰ.tail k.1)
clause_record (derivation ks ∷ rs) c m = let k = clause_record rs c m in (k.0, Memᴰ.tail k.1)
clause_record (clause n ls ∷ rs) c m =
    ⊎_elim (λ e. (n, Memᴰ.head (ap (clause n) e))) (λ i. let k = clause_record rs c i in (k.0, Memᴰ.tail k.1)) (Memᴰ.cases_cons m)
clause_record (deletion ns ∷ rs) c m = let k = clause_record rs c m in (k.0, Memᴰ.tail k.1)

all_satisfied : (h : Head) (cs : List Command) (rs : List Record) → RecordsOf h cs rs → (a : Assignment) → SatisfiesSums a rs → SatisfiesAll h.step rs a
unfolding Entailed
all_satisfied h cs rs r a e =
    let k = entailed h.step rs a e in
    record {
      every_step = k.steps_hold;
      every_clause = λ c m. let i = clause_record rs c m in k.clauses_hold i.0 c i.1 (r.clauses_for i.0 c i.1).comes_to;
    }

module _ (h : Head) (capacity : ℕ) (cs : List Command) (u : State) (a : AllPassed h capacity cs (start h) u) where
  -- The sums that the log defines are those of the keys stored.
  pub sums_are : defined h.step u.log ≡ flat_map (defined_by (table h cs)) (keys u)
  sums_are =
      subst (λ (t : List Node). defined h.step u.log ≡ flat_map (defined_by t) (keys u)) (nodes_table h capacity cs u a)
      (defines_exactly h capacity cs u a)

  pub proved : RecordsOf h cs u.log → Proved h cs u.log
  unfolding Meanings
  proved r = record {
    served = u.held;
    served_once = held_once h capacity cs u a;
    served_are = λ x. (held_from h capacity cs u a x, held_has h capacity cs u a x);
    clauses_are = held_clauses h capacity cs u a;
    places = r;
    stored = keys u;
    stored_once = keys_once h capacity cs u a;
    stored_are = λ k. (keys_from h capacity cs u a k, keys_has h capacity cs u a k);
    definitions = sums_are;
    meanings = λ k m. meanings (table h cs) k;
    steps_split = steps_count h capacity cs u a ∙ ap (λ (n : ℕ). n + length (clauses u.log)) (ap length (sym sums_are));
    entailed = all_satisfied h cs u.log r;
  }

made_of : (bs : List ℕ) (capacity : ℕ) (h : Head) (cs : List Command) (s : State) (rest : List ℕ) → Reached bs capacity h cs s rest → Made h cs s
made_of bs capacity h cs s rest r =
    let a = (reached_all r).3 in
    record {
      table_is = nodes_table h capacity cs s a;
      nodes = nodes_of_lem h capacity cs s a;
      proved = proved h capacity cs s a (records_of h capacity cs s a (reached_last r));
    }

pub demand_2 : Demand2
demand_2 = record {
  passes = λ bs capacity h cs s w r.
      let e = verdict_is w (passed r) in
      record {
        accepted = ap (λ (o : Outcome). o.number) e ∙ outcome_number capacity 0 (length cs) s;
        all_played = ap (λ (o : Outcome). o.place) e ∙ outcome_place capacity 0 (length cs) s;
        reports = reports_of bs capacity 0 (length cs) s (verdict_led (passed r)) e;
        made = made_of bs capacity h cs s [] r;
      };
  before = made_of;
}
