-- Document 02, §5: a node may stand under any number of joins, and each clause is written once.
use mathlib.Core.Path.{◌≡◌, refl, sym, ◌∙◌, ap, subst}
use mathlib.Core.Bool.{true, false}
use mathlib.Core.Logic.{◌≢◌, ◌⊎◌, ⊎_elim}
use mathlib.Core.List.Memᴰ
use mathlib.Core.List.{List, ◌∷◌, map, head-eq_of_cons-eq, Memᴰ, Nodup, Nodup-nil}
use Prim.Native.Nat.{ℕ, zero, suc, ◌+◌, ◌≤◌, ◌<◌}
use native.Mathlib.Omega.{arith}
use lib.ListN.{length, take, length-map}
use Rattle.std.proofs.Math.Option.{some-injective}
use Rattle.memo.proofs.Lists.{length_subset}
use Rattle.record.specs.Record.{Record, bytes, clauses}
use Rattle.totdb.specs.Nodes.{IsWindow, Node, node_at, leaves, len, output, outputs, range, side_len, keyed, side_outputs, plain_or, leaf_count}
use Rattle.totdb.specs.Below.{share_leaf}
use Rattle.totdb.specs.declared.Side.{Side}
use Rattle.totdb.proofs.Listed.{length_range}
use Rattle.cert.specs.Definitions.{Direction, Key, window, side_def}
use Rattle.cert.specs.Requests.{key_of}
use Rattle.cert.specs.Sized.{Separate}
use Rattle.cert.specs.State.{State, start, Head}
use Rattle.cert.proofs.Apart.{Apart, sized_ok, numbered_apart}
use Rattle.cert.proofs.Distinct.{Distinct, different_once, leaves_apart}
use Rattle.cert.proofs.Keyed.{window_side, window_key}
use Rattle.cert.proofs.Few.{len_below, below_once}
use Rattle.cert.proofs.LeavesBelow.{share_no}
use Rattle.cert.proofs.OneWindow.{same_window}
use Rattle.cert.proofs.Rules.{Ok}
use Rattle.player.specs.Formed.{Formed}
use Rattle.player.specs.Passes.{AllPassed}
use Rattle.player.specs.Player.{make, act}
use Rattle.player.specs.Verdict.{Below, joins, OffNode, No, no_8_join, no_9, no_15, no_10, no_14, Reached, one_more}
use Rattle.player.specs.declared.Command.{Command}
use Rattle.player.proofs.Below.{common_leaf, common_number, of_number}
use Rattle.player.proofs.Decoded.{all_fit}
use Rattle.player.proofs.Endings.{Led, nowhere, on}
use Rattle.player.proofs.Defines.{all_told}
use Rattle.player.proofs.Judged.{reached_all, verdict_led}
use Rattle.player.proofs.Limits.{few_nodes_lem}
use Rattle.player.proofs.Matching.{clauses_once}
use Rattle.player.proofs.Questions.{joins_counted}
use Rattle.player.proofs.Plays.{start_empty}
use Rattle.player.proofs.Sound.{side_in}
use Rattle.demands.specs.Demands.{Demand1}
use Rattle.demands.specs.Shared.{NoneBelow, Window, SharedIn, SharedNodes}
use Rattle.demands.proofs.Demand1.{demand_1}
use Rattle.demands.proofs.Needed.{reached_formed}

-- ---- windows

not_plain : (f k n : ℕ) → (0 < f) ⊎ ((0 < k) × (k < n)) → plain_or f k true false ≡ false
unfolding plain_or
not_plain zero zero n h = absurd (⊎_elim (λ l. omega arith) (λ l. omega (arith, l.0)) h)
not_plain zero (suc k) n h = refl
not_plain (suc f) k n h = refl

module _ (t : List Node) where
  hidden : (a : Side) → Window t a → IsWindow a
  hidden a w = not_plain a.offset a.limit (len (node_at t a.node)) w.hides

  -- All that is looked up of a window is of its node, offset and number of outputs.
  window_keys : (a : Side) → Window t a → (i : ℕ) (d : Direction) (k : Key) → Memᴰ k (key_of (side_def t a i d))
      → k ≡ window a.node a.offset (side_len t a)
  window_keys a w i d k m =
      Memᴰ.eq_of_singleton
      (rw (window_side t a i d w.several (hidden a w), window_key a.node a.offset (side_len t a) (keyed a i) d) at m)

  -- Outputs that begin with the one after the offset.
  abbrev First : Side → List ℕ → Type 0
  First a os = (l : ℕ) × (os ≡ output (node_at t a.node) (a.offset + 1) ∷ map (output (node_at t a.node)) (range (a.offset + 2) l))

  outputs_first : (a : Side) → Window t a → First a (side_outputs t a)
  unfolding side_outputs outputs range
  outputs_first a w = by (side_len t a) w.several
    where
      by : (m : ℕ) → 2 ≤ m → First a (outputs (node_at t a.node) a.offset m)
      by zero l = absurd (omega arith)
      by (suc m) l = let e : suc (a.offset + 1) ≡ a.offset + 2 = omega arith in (m, rw (← e) refl)

  outputs_long : (a : Side) → length (side_outputs t a) ≡ side_len t a
  unfolding side_outputs outputs
  outputs_long a = length-map (range (a.offset + 1) (side_len t a)) (output (node_at t a.node)) ∙ length_range (a.offset + 1) (side_len t a)

module _ {h : Head} {s : State} (f : Formed h s) where
  abbrev nodes : List Node
  nodes = s.nodes

  -- Windows of the same outputs are of the same node, offset and number of outputs.
  same_outputs : (a b : Side) → Window nodes a → Window nodes b → side_outputs nodes a ≡ side_outputs nodes b
      → (a.node ≡ b.node) × (a.offset ≡ b.offset) × (side_len nodes a ≡ side_len nodes b)
  unfolding Apart
  same_outputs a b w v e =
      let p = outputs_first nodes a w in
      let q = outputs_first nodes b v in
      let i = side_in nodes a w.inside in
      let j = side_in nodes b v.inside in
      let first = head-eq_of_cons-eq (sym p.1 ∙ e ∙ q.1) in
      let r =
      numbered_apart h.variable nodes f.sound.numbered a.node b.node (a.offset + 1) (b.offset + 1) w.there v.there (omega arith) (omega (arith, i.1))
      (omega arith) (omega (arith, j.1)) first in
      (r.0, omega (arith, r.1), sym (outputs_long nodes a) ∙ ap length e ∙ outputs_long nodes b)

  own_window : (a b : Side) → Window nodes a → Window nodes b → side_outputs nodes a ≢ side_outputs nodes b → (i j : ℕ) (d e : Direction) (k : Key)
      → Memᴰ k (key_of (side_def nodes a i d)) → Memᴰ k (key_of (side_def nodes b j e)) → ⊥
  unfolding side_outputs
  own_window a b w v ne i j d e k m n =
      let same : window a.node a.offset (side_len nodes a) ≡ window b.node b.offset (side_len nodes b) =
      sym (window_keys nodes a w i d k m) ∙ window_keys nodes b v j e k n in
      let p : a.node ≡ b.node = cc in
      let q : a.offset ≡ b.offset = cc in
      let r : side_len nodes a ≡ side_len nodes b = cc in
      ne
      (ap (λ (n : ℕ). outputs (node_at nodes n) a.offset (side_len nodes a)) p ∙ ap (λ (o : ℕ). outputs (node_at nodes b.node) o (side_len nodes a)) q
      ∙ ap (outputs (node_at nodes b.node) b.offset) r)

  -- ---- leaves below

  ok : Ok nodes
  ok = sized_ok nodes f.sound.sized

  separate : (n m : ℕ) → NoneBelow nodes n m → Separate nodes n m
  separate n m none k i j = let c = common_leaf nodes ok n m (k, i, j) in none c.0 c.1 c.2

  -- A list that has the leaves below a node is as long as the node at least.
  no_longer : (n : ℕ) (xs : List ℕ) → n < length nodes → ((x : ℕ) → Below nodes x n → Memᴰ x xs) → len (node_at nodes n) ≤ length xs
  no_longer n xs l all =
      omega (
        arith,
        len_below nodes f.sound.sized n l,
        length_subset (below_once nodes f.sound.sized n l)
            (λ k m.
            let o = of_number nodes ok k n l m in
            subst (λ (x : ℕ). Memᴰ x (map number xs)) (sym o.2) (Memᴰ.map number (all o.0 o.1))),
        length-map xs number,
      )
    where
      number : ℕ → ℕ
      number x = leaf_count (take x nodes)

-- By the player's test.
pub none_below : (t : List Node) → Ok t → (n m : ℕ) → share_leaf t n m ≡ false → NoneBelow t n m
none_below t ok n m e x a b = let c = common_number t ok n m (x, a, b) in share_no t n m e c.0 c.1 c.2

-- ---- a script

module _ {bs : List ℕ} {capacity : ℕ} {h : Head} {cs : List Command} {s : State} {rest : List ℕ} (r : Reached bs capacity h cs s rest) where
  all : AllPassed h capacity cs (start h) s
  all = (reached_all r).3

  formed : Formed h s
  formed = reached_formed r

  told : Distinct s.nodes
  told = (all_told all).distinct

  written : length (bytes s.log) ≤ capacity
  written = all_fit all (start_empty h capacity)

  joins_pass : (l r : Side) → l.node < length s.nodes → r.node < length s.nodes → NoneBelow s.nodes l.node r.node → length (joins s.nodes) < 255
      → (OffNode s.nodes l → ⊥) → (OffNode s.nodes r → ⊥) → (n : ℕ) → No h capacity s (Command.Join l r) n → ⊥
  unfolding act make
  joins_pass l r i j none few a b n (no_8_join p) = ⊎_elim (λ p. omega arith) (λ p. omega arith) p
  joins_pass l r i j none few a b n (no_9 {x = x} p q) = none x p q
  joins_pass l r i j none few a b n (no_15 p) = omega arith
  joins_pass l r i j none few a b n (no_10 p) = ⊎_elim a b p
  joins_pass l r i j none few a b n (no_14 p) = omega (arith, p, written)

  shared_in : SharedIn s.nodes
  shared_in = record {
    own = own_window formed;
    one = λ a b w v e i d.
        let q = same_outputs formed a b w v e in
        same_window s.nodes a b (hidden s.nodes a w) (hidden s.nodes b v) q.0 q.1 q.2 i d;
    few_joins = omega (arith, joins_counted s.nodes, formed.limits.few_joins);
    few_nodes = omega (arith, few_nodes_lem formed.limits);
    no_longer = λ n xs l all. omega (arith, no_longer formed n xs l all);
    short = λ n i. omega (arith, formed.limits.short n i);
    within = λ n i. different_once (leaves (node_at s.nodes n)) (told.within n i);
    apart = λ n m i j none. leaves_apart s.nodes formed.sound.sized told.outputs n m i j (separate formed n m none);
  }

-- ---- each clause once

led_once : {capacity : ℕ} {s : State} → Led capacity s → Nodup (clauses s.log)
unfolding start clauses
led_once (nowhere e) = rw e Nodup-nil
led_once {capacity} {s} (on h cs f c a) = clauses_once h capacity cs s a

pub shared_nodes : SharedNodes
unfolding Demand1
shared_nodes = record {
  joined = λ bs capacity h cs s here rest l r p unclosed k i j none few a b.
      one_more p unclosed k (λ n. joins_pass p l r (omega (arith, i)) (omega (arith, j)) none (omega (arith, few)) a b n);
  nodes = λ bs capacity h cs s rest r. shared_in r;
  once = λ bs capacity rs w k.
      let m = demand_1 bs capacity w in
      let same = some-injective m.state.log rs (sym m.reports.holds.decodes ∙ k.decodes) in
      subst (λ (qs : List Record). Nodup (clauses qs)) same (led_once (verdict_led m.verdict));
}
