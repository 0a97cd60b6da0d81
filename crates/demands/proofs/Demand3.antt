-- Demand 3: two scripts alike write the same clauses, each once, and the same sums; and these are the ones that the scripts call for.
use mathlib.Core.Path.{sym, ◌∙◌, ap, subst}
use mathlib.Core.List.Perm
use mathlib.Core.List.{List, flat_map, Perm}
use Prim.Native.Nat.{ℕ}
use lib.ListN.{length}
use Rattle.memo.proofs.Lists.{length_perm}
use Rattle.record.specs.Steps.{defined}
use Rattle.cert.specs.Definitions.{defined_by}
use Rattle.cert.specs.State.{State, start, keys, Head}
use Rattle.player.specs.Called.{table}
use Rattle.player.specs.Passes.{AllPassed}
use Rattle.player.specs.declared.Command.{Command}
use Rattle.player.proofs.Accepted.{accepted_reached}
use Rattle.player.proofs.Judged.{reached_all}
use Rattle.player.proofs.Matching.{clauses_from, clauses_has, clauses_once, same_table, same_clauses, same_sums, same_steps}
use Rattle.demands.specs.Demands.{Demand3}
use Rattle.demands.proofs.Demand2.{sums_are, demand_2}

sums_of : (h : Head) (capacity : ℕ) (cs : List Command) (u : State) → AllPassed h capacity cs (start h) u
    → Perm (defined h.step u.log) (flat_map (defined_by (table h cs)) (keys u))
sums_of h capacity cs u a = subst (Perm (defined h.step u.log)) (sums_are h capacity cs u a) (Perm.refl (defined h.step u.log))

pub demand_3 : Demand3
unfolding Demand3
demand_3 bs ds c d h cs es i j k =
    let r = accepted_reached i k.one_head.0 k.accepted_both.0 in
    let t = accepted_reached j k.one_head.1 k.accepted_both.1 in
    let u = r.0 in
    let w = t.0 in
    let a = (reached_all r.1).3 in
    let b = (reached_all t.1).3 in
    let m = demand_2.passes bs c h cs u i r.1 in
    let n = demand_2.passes ds d h es w j t.1 in
    let p = m.reports.holds in
    let q = n.reports.holds in
    let same-c = same_clauses h c d cs es u w a b k.same_makes k.same_asked in
    let same_s = same_sums h c d cs es u w a b k.same_makes k.same_asked in
    let steps-same = same_steps h c d cs es u w a b k.same_makes k.same_asked in
    let table_same = same_table h c d cs es u w a b k.same_makes k.same_asked in
    record {
      records = u.log;
      others = w.log;
      holds = (p, q);
      matching = record {
        clauses_match = same-c;
        each_once = (clauses_once h c cs u a, clauses_once h d es w b);
        sums_match = Perm.trans (sums_of h c cs u a) (Perm.trans same_s (Perm.symm (sums_of h d es w b)));
        answers_match = (
          p.steps_are ∙ steps-same ∙ sym q.steps_are,
          p.clauses_are ∙ length_perm same-c ∙ sym q.clauses_are,
          m.reports.nodes_are ∙ ap length (m.made.table_is ∙ sym table_same ∙ sym n.made.table_is) ∙ sym n.reports.nodes_are,
        );
        steps_split = (p.steps_are ∙ m.made.proved.steps_split, q.steps_are ∙ n.made.proved.steps_split);
      };
      listed = (
        record { clauses_listed = λ x. (clauses_from h c cs u a x, clauses_has h c cs u a x); proved = m.made.proved },
        record { clauses_listed = λ x. (clauses_from h d es w b x, clauses_has h d es w b x); proved = n.made.proved },
      );
    }
