-- `number::push_groups` meets its contract: of what is left there is more than one group before the last place, and one at it.
use Rattle.std.proofs.Common.{arith}
use mathlib.Core.Path.{◌≡◌, refl, ap, ◌∙◌}
use mathlib.Core.List.{List}
use Prim.Native.Nat.{ℕ, suc, ◌+◌, ◌/◌, ◌%◌, ◌≤◌, ◌<◌}
use lib.ListN.{length, set}
use lib.Seq.{sets}
use Rattle.number.specs.Number.{encode}
use Rattle.number.proofs.Laws.{encode_last, encode_more, encode_some, encode_length}
use Rattle.number.proofs.Places.{sets_written}
use Rattle.number.proofs.push_groups.Goals as goal

pub overflow_sub-i-end : goal.overflow_sub-i-end
overflow_sub-i-end g c = omega (arith, encode_some c.args.x)

pub overflow_sub-log : goal.overflow_sub-log
overflow_sub-log g c = omega (arith, encode_some c.args.x)

pub loop-i-init : goal.loop-i-init
loop-i-init g c =
    record {
      same_log = ap (λ (k : ℕ). sets c.args.log.now k (encode c.args.x)) (omega arith);
      same_end = omega arith;
    }

-- one group exactly where the number is below 128
one_group : (x : ℕ) → length (encode x) ≤ 1 → x < 128
one_group x h = (encode_length x 1 (omega arith)).0 h

more_groups : (x : ℕ) → 1 < length (encode x) → 128 ≤ x
more_groups x h = grind (arith, (encode_length x 1 (omega arith)).1)

-- a group b with its top bit, where another follows
sets_more : (log : List ℕ) (at : ℕ) {k b y : ℕ} (x : ℕ) → 128 ≤ x → b ≡ x % 128 + 128 → y ≡ x / 128 → k ≡ suc at
    → sets (set log at b) k (encode y) ≡ sets log at (encode x)
sets_more log at x h p q r = rw (p, q, r, encode_more x h) refl

pub loop-i-preserved : goal.loop-i-preserved
loop-i-preserved g c =
    let more = more_groups c.loop-i.rest (omega (arith, c.loop-i.invariant.same_end)) in
    record {
      same_log = sets_more c.loop-i.log (c.args.at + c.loop-i.i) c.loop-i.rest more (grind arith) (omega arith) (omega arith) ∙ c.loop-i.invariant.same_log;
      same_end = omega (arith, ap length (encode_more c.loop-i.rest more), c.loop-i.invariant.same_end);
    }

pub overflow_cast-log-2 : goal.overflow_cast-log-2
overflow_cast-log-2 g c = omega (arith, one_group c.loop-i.rest (omega (arith, c.loop-i.invariant.same_end, encode_some c.args.x)))

pub bounds-log-at-2 : goal.bounds-log-at-2
bounds-log-at-2 g c = omega (arith, encode_some c.args.x)

-- the last group b, which has no top bit
sets_last : (log : List ℕ) (at : ℕ) {k b : ℕ} (x : ℕ) → x < 128 → b ≡ x → k ≡ at → set log k b ≡ sets log at (encode x)
sets_last log at x h p q = rw (p, q, encode_last x h) refl

pub returns : goal.returns
returns g c =
    let last = one_group c.loop-i.rest (omega (arith, c.loop-i.invariant.same_end)) in
    record {
      value = omega arith;
      log_after = sets_last c.loop-i.log (c.args.at + c.loop-i.i) c.loop-i.rest last (grind (arith, encode_some c.args.x)) (omega (arith, encode_some c.args.x))
          ∙ c.loop-i.invariant.same_log
          ∙ sets_written c.args.log.now c.args.at c.args.x (encode c.args.x) refl (omega arith);
    }
