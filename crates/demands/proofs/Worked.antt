-- Scripts that meet the hypotheses of the demands: one tree, its requests in two orders and places, one repeated and closed, each with its own log.
use mathlib.Core.Path.{◌≡◌, refl, sym, subst}
use mathlib.Core.Logic.{inl, inr, ⊎_elim}
use mathlib.Core.List.{List, [], ◌∷◌, flat_map, Memᴰ}
use mathlib.Core.Option.{none, some}
use Prim.Native.Nat.{ℕ, zero, suc, ◌≤◌}
use native.Mathlib.Omega.{arith}
use Rattle.number.specs.Number.{Bytes, read_in, above}
use lib.ListN.{length, drop}
use Rattle.memo.specs.Closure.{SameMembers}
use Rattle.memo.proofs.Lists.{of_three}
use Rattle.record.specs.Record.{numbers}
use Rattle.totdb.specs.Nodes.{leaf, node_at}
use Rattle.totdb.specs.Leaves.{node_found, looked_at, lookup_leaf}
use Rattle.totdb.specs.declared.Side.{Side}
use Rattle.cert.specs.Definitions.{if, only_if}
use Rattle.cert.specs.Requests.{Request, request}
use Rattle.cert.specs.State.{Head, State, start}
use Rattle.player.specs.Accepted.{pointwise_nil, pointwise_cons}
use Rattle.player.specs.Called.{makes, table}
use Rattle.player.specs.Player.{Outcome, act, played}
use Rattle.player.specs.Script.{command_numbers, script_bytes}
use Rattle.player.specs.Verdict.{IsScript, own_literal, leaf_literals, Reached, at_head}
use Rattle.player.specs.declared.Command.{Command}
use Rattle.player.proofs.Runs.{asked, asked_from, asked_has}
use Rattle.player.proofs.Accepted.{are_short, script_tested, accepted_reached}
use Rattle.player.proofs.Coding.{are_bytes, bytes_tested}
use Rattle.player.proofs.Fronts.{cons_reads, nil_reads}
use Rattle.player.proofs.Judged.{reached_all, verdict_of}
use Rattle.player.proofs.Matching.{nodes_table}
use Rattle.demands.specs.Demands.{Alike, Meets1, Meets2, Meets3, Demand1, Demand3}
use Rattle.demands.specs.Needed.{Acts, NoneUndefined}
use Rattle.demands.specs.Fields.{FifthGroup, RefusedBy}
use Rattle.demands.specs.Windows.{dropped, kept, in_join, unchanged, DropsLimits}
use Rattle.demands.proofs.Demand1.{demand_1}
use Rattle.demands.proofs.Demand2.{demand_2}
use Rattle.demands.proofs.Demand3.{demand_3}
use Rattle.demands.proofs.Needed.{desk_card, last_acts, full_acts}
use Rattle.demands.proofs.Fields.{big_fields}
use Rattle.demands.proofs.Windows.{reads_more, hides_nothing}
use Rattle.demands.proofs.Leaves.{from_the_newest}

-- Four leaves; node 4 joins the first two, node 5 that and the third, node 6 node 5 from offset 1 on and the fourth. Of node 6 value 1, if, and value
-- 2, only-if; of node 5 value 2, if.
unfoldable pub first : List ℕ
first =
    4 ∷ 1 ∷ 1 ∷ 0 ∷ 1 ∷ 2 ∷ 1 ∷ 5 ∷ 1 ∷ 7 ∷ 2 ∷ 0 ∷ 0 ∷ 0 ∷ 1 ∷ 0 ∷ 0 ∷ 2 ∷ 4 ∷ 0 ∷ 0 ∷ 2 ∷ 0 ∷ 0 ∷ 2 ∷ 5 ∷ 1 ∷ 0 ∷ 3 ∷ 0 ∷ 0 ∷
    3 ∷ 6 ∷ 1 ∷ 1 ∷ 3 ∷ 6 ∷ 2 ∷ 2 ∷ 3 ∷ 5 ∷ 2 ∷ 1 ∷ []

-- The same tree; node 5 is asked for before node 6 is made, node 6 for its values in the other order, one of them twice; then a close.
unfoldable pub second : List ℕ
second =
    4 ∷ 1 ∷ 1 ∷ 0 ∷ 1 ∷ 2 ∷ 1 ∷ 5 ∷ 1 ∷ 7 ∷ 2 ∷ 0 ∷ 0 ∷ 0 ∷ 1 ∷ 0 ∷ 0 ∷ 2 ∷ 4 ∷ 0 ∷ 0 ∷ 2 ∷ 0 ∷ 0 ∷ 3 ∷ 5 ∷ 2 ∷ 1 ∷ 2 ∷ 5 ∷ 1 ∷ 0 ∷ 3 ∷ 0 ∷ 0 ∷
    3 ∷ 6 ∷ 2 ∷ 2 ∷ 3 ∷ 6 ∷ 1 ∷ 1 ∷ 3 ∷ 6 ∷ 2 ∷ 2 ∷ 4 ∷ []

unfoldable pub head : Head
head = record { variable = 4; step = 1 }

unfoldable plain : ℕ → Side
plain n = record { node = n; offset = 0; limit = 0 }

unfoldable five : List Command → List Command
unfolding plain
five cs =
    Command.Leaf 0 ∷ Command.Leaf 2 ∷ Command.Leaf 5 ∷ Command.Leaf 7 ∷ Command.Join (plain 0) (plain 1) ∷ Command.Join (plain 4) (plain 2) ∷ cs

unfoldable six : List Command → List Command
unfolding plain
six cs = Command.Join (record { node = 5; offset = 1; limit = 0 }) (plain 3) ∷ cs

unfoldable pub first_commands : List Command
unfolding five six
first_commands = five (six (Command.Request 6 1 1 ∷ Command.Request 6 2 2 ∷ Command.Request 5 2 1 ∷ []))

unfoldable pub second_commands : List Command
unfolding five six
second_commands =
    five (Command.Request 5 2 1 ∷ six (Command.Request 6 2 2 ∷ Command.Request 6 1 1 ∷ Command.Request 6 2 2 ∷ Command.Close ∷ []))

three : (a b c : Request) → SameMembers (a ∷ b ∷ c ∷ []) (c ∷ b ∷ a ∷ b ∷ [])
three a b c x =
    let i : Memᴰ a (a ∷ b ∷ c ∷ []) = mathlib.Core.List.Memᴰ.head refl in
    let j : Memᴰ b (a ∷ b ∷ c ∷ []) = mathlib.Core.List.Memᴰ.tail (mathlib.Core.List.Memᴰ.head refl) in
    let k : Memᴰ c (a ∷ b ∷ c ∷ []) = mathlib.Core.List.Memᴰ.tail (mathlib.Core.List.Memᴰ.tail (mathlib.Core.List.Memᴰ.head refl)) in (
      of_three (λ (y : Request). Memᴰ y (c ∷ b ∷ a ∷ b ∷ [])) (mathlib.Core.List.Memᴰ.tail (mathlib.Core.List.Memᴰ.tail (mathlib.Core.List.Memᴰ.head refl)))
          (mathlib.Core.List.Memᴰ.tail (mathlib.Core.List.Memᴰ.head refl)) (mathlib.Core.List.Memᴰ.head refl) x,
      λ m. ⊎_elim (λ e. subst (λ (y : Request). Memᴰ y (a ∷ b ∷ c ∷ [])) (sym e) k) (of_three (λ (y : Request). Memᴰ y (a ∷ b ∷ c ∷ [])) j i j x)
          (mathlib.Core.List.Memᴰ.cases_cons m),
    )

pub first_bytes : Bytes first
unfolding first are_bytes
first_bytes = bytes_tested first refl

pub second_bytes : Bytes second
unfolding second are_bytes
second_bytes = bytes_tested second refl

-- Two scripts are alike by their commands, which compute.
pub alike_tested : (bs ds : List ℕ) (o p : Outcome) (h : Head) (cs es : List Command) → IsScript bs h cs → IsScript ds h es → o.number ≡ 0
    → p.number ≡ 0 → makes cs ≡ makes es → SameMembers (asked cs) (asked es) → Alike bs ds o p h cs es
alike_tested bs ds o p h cs es i j a b makes same = record {
  one_head = (i, j);
  accepted_both = (a, b);
  same_makes = makes;
  same_asked = λ x. (λ m. asked_from es x ((same x).0 (asked_has cs x m)), λ m. asked_from cs x ((same x).1 (asked_has es x m)));
}

pub alike : Alike first second (played first 600) (played second 700) head first_commands second_commands
unfolding first second head first_commands second_commands are_short script_bytes command_numbers flat_map played makes asked
alike =
    alike_tested first second (played first 600) (played second 700) head first_commands second_commands (script_tested first head first_commands refl refl)
    (script_tested second head second_commands refl refl) refl refl refl (three (request 6 1 if) (request 6 2 only_if) (request 5 2 if))

-- What the demands say of them.
pub ends : Meets1 first 600 (played first 600)
unfolding Demand1
ends = demand_1 first 600 first_bytes

pub reached : (s : State) × Reached first 600 head first_commands s []
reached = accepted_reached first_bytes alike.one_head.0 alike.accepted_both.0

pub proved : Meets2 600 head first_commands reached.0 (played first 600)
proved = demand_2.passes first 600 head first_commands reached.0 first_bytes reached.1

pub matched : Meets3 head first_commands second_commands (played first 600) (played second 700)
unfolding Demand3
matched = demand_3 first second 600 700 head first_commands second_commands first_bytes second_bytes alike

-- Document 02, §7, of its last command; and of the one that question 14 refuses where the log is too short.
pub last : (c : Command) × (u : State) × Acts first 600 c u
unfolding first_commands
last = last_acts reached.1 (λ e. absurd (let z : ◌≡◌ {A = ℕ} 0 1 = cc in omega arith))

pub last_needs : NoneUndefined (act last.0 last.1)
last_needs = desk_card.needed first 600 last.0 last.1 last.2

pub too_short : (played first 100).number ≡ 14
unfolding first played
too_short = refl

pub full : (s : State) × (c : Command) × Acts first 100 c s
full = let v = verdict_of first 100 first_bytes in let a = full_acts too_short v.1 in (v.0, a.0, a.1)

pub full_needs : NoneUndefined (act full.1 full.0)
full_needs = desk_card.needed first 100 full.1 full.0 full.2

-- Document 02, §2, of the first; of a step past the head's limit; of five groups for a step of the head, and for a leaf's literal.
pub fields : (x : ℕ) → Memᴰ x (flat_map numbers ends.state.log) → x ≤ 268435455
fields = (big_fields.logs first 600 ends.state.log ends.reports.holds).1

unfoldable pub past : List ℕ
past = 2 ∷ 0x81 ∷ 0xc2 ∷ 0xd7 ∷ 0x2f ∷ []

pub past_refused : RefusedBy 3 0 (played past 65536)
unfolding past are_bytes read_in above
past_refused =
    (big_fields.head past [] 65536 2 100000001 (bytes_tested past refl) (omega arith) (omega arith)
    (cons_reads (bytes_tested past refl) refl (cons_reads (bytes_tested (0x81 ∷ 0xc2 ∷ 0xd7 ∷ 0x2f ∷ []) refl) refl (nil_reads [])))).1 (inr (inr (omega arith)))

unfoldable pub long : List ℕ
long = 0x80 ∷ 0x80 ∷ 0x80 ∷ 0x80 ∷ 1 ∷ []

long_fifth : FifthGroup long
unfolding long
long_fifth zero l = omega arith
long_fifth (suc zero) l = omega arith
long_fifth (suc (suc zero)) l = omega arith
long_fifth (suc (suc (suc zero))) l = omega arith
long_fifth (suc (suc (suc (suc i)))) l = absurd (omega arith)

pub long_step : RefusedBy 2 0 (played (2 ∷ long) 65536)
unfolding long are_bytes read_in above
long_step =
    let w = bytes_tested (2 ∷ long) refl in
    big_fields.fifth_in_head (2 ∷ long) long (2 ∷ []) 65536 w (omega arith) (omega arith) (omega arith) (cons_reads w refl (nil_reads long)) long_fifth

pub long_literal : RefusedBy 2 1 (played (2 ∷ 1 ∷ 1 ∷ long) 65536)
unfolding long are_bytes read_in above command_numbers
long_literal =
    let w = bytes_tested (2 ∷ 1 ∷ 1 ∷ long) refl in
    let u = bytes_tested (1 ∷ 1 ∷ long) refl in
    let here = bytes_tested (1 ∷ long) refl in
    let leaf = bytes_tested (1 ∷ 0 ∷ []) refl in
    let literal = bytes_tested (0 ∷ []) refl in
    let h : Head = record { variable = 2; step = 1 } in
    big_fields.fifth (2 ∷ 1 ∷ 1 ∷ long) (1 ∷ long) long (1 ∷ []) 65536 h [] (start h) w
    (at_head (omega arith) (omega arith) (cons_reads w refl (cons_reads u refl (nil_reads (1 ∷ long)))) (omega arith) (omega arith) (omega arith))
    (cons_reads here refl (nil_reads long)) (1 ∷ 0 ∷ [], Command.Leaf 0, 0, [], cons_reads leaf refl (cons_reads literal refl (nil_reads [])), refl) (λ _ m. mathlib.Core.List.Memᴰ.not-nil m) long_fifth

-- Document 02, §3. Four leaves; node 4 joins the first, with its full limit, and the second; node 5 that and the third, both with full limits; node 6 the
-- last two of node 5's three, which is a window, and the fourth, with its full limit. Of node 6 value 1, if; of node 5 value 3, only-if; a close.
unfoldable pub full_limits : List ℕ
full_limits =
    4 ∷ 1 ∷ 1 ∷ 0 ∷ 1 ∷ 2 ∷ 1 ∷ 5 ∷ 1 ∷ 7 ∷ 2 ∷ 0 ∷ 0 ∷ 1 ∷ 1 ∷ 0 ∷ 0 ∷ 2 ∷ 4 ∷ 0 ∷ 2 ∷ 2 ∷ 0 ∷ 1 ∷ 2 ∷ 5 ∷ 1 ∷ 2 ∷ 3 ∷ 0 ∷ 1 ∷
    3 ∷ 6 ∷ 1 ∷ 1 ∷ 3 ∷ 5 ∷ 3 ∷ 2 ∷ 4 ∷ []

-- The same with limit 0 for each.
unfoldable pub no_limits : List ℕ
no_limits =
    4 ∷ 1 ∷ 1 ∷ 0 ∷ 1 ∷ 2 ∷ 1 ∷ 5 ∷ 1 ∷ 7 ∷ 2 ∷ 0 ∷ 0 ∷ 0 ∷ 1 ∷ 0 ∷ 0 ∷ 2 ∷ 4 ∷ 0 ∷ 0 ∷ 2 ∷ 0 ∷ 0 ∷ 2 ∷ 5 ∷ 1 ∷ 2 ∷ 3 ∷ 0 ∷ 0 ∷
    3 ∷ 6 ∷ 1 ∷ 1 ∷ 3 ∷ 5 ∷ 3 ∷ 2 ∷ 4 ∷ []

unfoldable limited_to : ℕ → ℕ → Side
limited_to k n = record { node = n; offset = 0; limit = k }

-- The commands with these limits of the first node, of node 4, of the third and of the fourth.
unfoldable pub limits : ℕ → ℕ → ℕ → ℕ → List Command
unfolding limited_to plain
limits a b c d =
    Command.Leaf 0 ∷ Command.Leaf 2 ∷ Command.Leaf 5 ∷ Command.Leaf 7 ∷ Command.Join (limited_to a 0) (plain 1)
    ∷ Command.Join (limited_to b 4) (limited_to c 2) ∷ Command.Join (record { node = 5; offset = 1; limit = 2 }) (limited_to d 3)
    ∷ Command.Request 6 1 1 ∷ Command.Request 5 3 2 ∷ Command.Close ∷ []

pub full_bytes : Bytes full_limits
unfolding full_limits are_bytes
full_bytes = bytes_tested full_limits refl

pub limits_dropped : DropsLimits full_limits no_limits
unfolding full_limits no_limits head limits are_short script_bytes command_numbers flat_map table
limits_dropped = record {
  head = head;
  own = limits 1 2 1 1;
  others = limits 0 0 0 0;
  rest = [];
  begins = script_tested full_limits head (limits 1 2 1 1) refl refl;
  drops =
      pointwise_cons unchanged (pointwise_cons unchanged (pointwise_cons unchanged (pointwise_cons unchanged
      (pointwise_cons (in_join (dropped refl refl) kept) (pointwise_cons (in_join (dropped refl refl) (dropped refl refl))
      (pointwise_cons (in_join kept (dropped refl refl)) (pointwise_cons unchanged (pointwise_cons unchanged
      (pointwise_cons unchanged pointwise_nil)))))))));
  is = refl;
}

pub same_log : played no_limits 600 ≡ played full_limits 600
unfolding full_limits
same_log = hides_nothing.same full_limits no_limits 600 full_bytes limits_dropped (λ _. omega arith)

pub same_length : length no_limits ≡ length full_limits
unfolding limits_dropped
same_length =
    let r = accepted_reached full_bytes limits_dropped.begins accepted in
    hides_nothing.as_long full_limits no_limits 600 r.0 limits_dropped (inl r.1)
  where
    accepted : (played full_limits 600).number ≡ 0
    accepted = unfold full_limits played in refl

-- In a command that is refused, with a byte that does not read after it: the join of a leaf, with its full limit, and the same leaf.
unfoldable pub refused : List ℕ
refused = 2 ∷ 1 ∷ 1 ∷ 0 ∷ 2 ∷ 0 ∷ 0 ∷ 1 ∷ 0 ∷ 0 ∷ 0 ∷ 0x80 ∷ []

unfoldable pub refused_too : List ℕ
refused_too = 2 ∷ 1 ∷ 1 ∷ 0 ∷ 2 ∷ 0 ∷ 0 ∷ 0 ∷ 0 ∷ 0 ∷ 0 ∷ 0x80 ∷ []

unfoldable leaf_twice : ℕ → List Command
unfolding limited_to plain
leaf_twice k = Command.Leaf 0 ∷ Command.Join (limited_to k 0) (plain 0) ∷ []

pub same_refusal : ((played refused 46).number ≡ 9) × (played refused_too 46 ≡ played refused 46)
unfolding refused refused_too leaf_twice played are_bytes are_short script_bytes command_numbers flat_map table
same_refusal =
    let h : Head = record { variable = 2; step = 1 } in (
      refl,
      hides_nothing.same refused refused_too 46 (bytes_tested refused refl)
          (record {
            head = h;
            own = leaf_twice 1;
            others = leaf_twice 0;
            rest = 0x80 ∷ [];
            begins = reads_more (script_tested (2 ∷ 1 ∷ 1 ∷ 0 ∷ 2 ∷ 0 ∷ 0 ∷ 1 ∷ 0 ∷ 0 ∷ 0 ∷ []) h (leaf_twice 1) refl refl) (0x80 ∷ []);
            drops = pointwise_cons unchanged (pointwise_cons (in_join (dropped refl refl) kept) pointwise_nil);
            is = refl;
          }) (λ _. omega arith),
    )

-- Document 02, §4, of the second leaf of the script `first`. Of two leaves of one literal, as no script has them, the newest is found; and none among those
-- made after it.
pub second_leaf : (node_found (lookup_leaf reached.0.nodes 2) ≡ some 1) × (looked_at (lookup_leaf reached.0.nodes 2) ≡ 3)
unfolding head first_commands table node_at leaf_literals own_literal flat_map
second_leaf =
    let nodes = nodes_table head 600 first_commands reached.0 (reached_all reached.1).3 in
    let later : length (leaf_literals (drop 2 reached.0.nodes)) ≡ 2 = rw nodes refl in
    let r = from_the_newest.any_leaf first 600 head first_commands reached.0 [] reached.1 2 1 (rw nodes (omega arith)) (rw nodes refl) in
    (r.0, omega (arith, r.1, later))

four_absent : Memᴰ 4 (leaf_literals (leaf 9 ∷ [])) → ⊥
unfolding leaf_literals own_literal flat_map
four_absent m = omega (arith, mathlib.Core.List.Memᴰ.eq_of_singleton m)

pub newest_of_two : (node_found (lookup_leaf (leaf 4 ∷ leaf 4 ∷ leaf 9 ∷ []) 4) ≡ some 1) × (looked_at (lookup_leaf (leaf 4 ∷ leaf 4 ∷ leaf 9 ∷ []) 4) ≡ 2)
unfolding leaf_literals own_literal flat_map
newest_of_two = from_the_newest.found (leaf 4 ∷ []) (leaf 9 ∷ []) 4 four_absent

pub none_of_one : (node_found (lookup_leaf (leaf 9 ∷ []) 4) ≡ none) × (looked_at (lookup_leaf (leaf 9 ∷ []) 4) ≡ 1)
unfolding leaf_literals own_literal flat_map
none_of_one = from_the_newest.missing (leaf 9 ∷ []) 4 four_absent
