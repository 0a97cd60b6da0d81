-- Demand 1: every script ends in a finished log or in one refusal, and the log holds the records of the commands before it, then zeros.
use mathlib.Core.Path.{sym, ◌∙◌, ap}
use Rattle.player.specs.Player.{Outcome, played}
use Rattle.player.proofs.Judged.{verdict_of, verdict_is, verdict_led}
use Rattle.player.proofs.Plays.{outcome_number, outcome_place}
use Rattle.demands.specs.Demands.{Demand1}
use Rattle.demands.proofs.Holds.{reports_of}

pub demand_1 : Demand1
unfolding Demand1
demand_1 bs capacity w =
    let o = played bs capacity in
    let v = verdict_of bs capacity w in
    record {
      state = v.0;
      verdict = v.1;
      only = λ n p s u.
          let e = verdict_is w u in (
            sym (ap (λ (q : Outcome). q.number) e ∙ outcome_number capacity n p s),
            sym (ap (λ (q : Outcome). q.place) e ∙ outcome_place capacity n p s),
            reports_of bs capacity n p s (verdict_led u) e,
          );
      reports = reports_of bs capacity o.number o.place v.0 (verdict_led v.1) v.2;
    }
