-- The log of an accepted script reads back as the records that were written.
use mathlib.Core.Path.{◌≡◌, refl, sym, ap, subst}
use mathlib.Core.Bool.{Bool, true, false}
use mathlib.Core.Logic.{⊎_elim, dite}
use mathlib.Core.List.Memᴰ
use mathlib.Core.List.{List, [], ◌∷◌, ◌++◌, map, flat_map, Memᴰ}
use mathlib.Core.Option.{some}
use Prim.Native.Nat.{ℕ, zero, suc, ◌+◌, ◌-◌, ◌*◌, ◌≤◌, ◌<◌, ◌^◌}
use native.Mathlib.Decide.{dec_le}
use native.Mathlib.Omega.{arith}
use lib.ListN.{length}
use Rattle.sizes.specs.Sizes.{most_head, most_bytes, most_variable, width}
use Rattle.number.specs.Number.{groups}
use Rattle.pb.specs.Sum.{neg}
use Rattle.memo.proofs.Lists.{flat_map_append}
use Rattle.record.specs.Record.{Record, derivation, clause, token_numbers, steps, deletion, numbers, bytes, decode_log}
use Rattle.record.proofs.Bytes.{two_bytes}
use Rattle.record.proofs.Decode.{Small, decode_bytes}
use Rattle.totdb.specs.Nodes.{Node, len, leaf, join, output, leaves, node_at, side_len, side_lit, side_outputs, outputs, range, plain_or, side_leaves, known, joined}
use Rattle.totdb.specs.declared.Side.{Side}
use Rattle.cert.specs.Counted.{Counted}
use Rattle.cert.specs.Definitions.{Direction, one_def, if, only_if, real_def, real, window_def, window, side_def, defined_by, Key, window_zero, key_records}
use Rattle.cert.specs.Equal.{key_dec}
use Rattle.cert.specs.Requests.{neg_part, pos_part, Clause, definition, Request, clauses_of, request, if_clause, only_if_clause, clause_tokens, Right}
use Rattle.cert.specs.Sized.{Sized, Fit}
use Rattle.cert.specs.State.{State, Stored, from_in, step_in, define, write, hold, serve, start, keys, requests, Head, stored_steps}
use Rattle.cert.proofs.Apart.{range_mem, splits_mem, sized_ok}
use Rattle.cert.proofs.Counts.{key_count, counted_start, defined_more}
use Rattle.cert.proofs.Fits.{KeyFits, request_falls, key_falls, looked_fit}
use Rattle.cert.proofs.Keyed.{by_form, key_most}
use Rattle.cert.proofs.Rules.{ClauseForm, an_if, an_only_if, clause_form}
use Rattle.cert.proofs.Serving.{serve_keeps, Asked}
use Rattle.player.specs.Formed.{Sound, Limits}
use Rattle.player.specs.Passes.{AllPassed, all_done, all_more}
use Rattle.player.specs.Player.{make, delete, first_no, questions, act, head_fits}
use Rattle.player.specs.declared.Command.{Command}
use Rattle.player.proofs.Counts.{counted_act, all_keep}
use Rattle.player.proofs.Formed.{head_low}
use Rattle.player.proofs.Plays.{start_empty}
use Rattle.player.proofs.Sound.{request_fits, requests_asked, serve_nodes, requests_right, sound_start}
use Rattle.player.proofs.Limits.{limits_start, few_variables, limits_act}
use Rattle.player.proofs.Values.{AllBelow, below_map, below_append, below_at, LowNode, below_mono, DefLow, values, key_records-below, clause_tokens-below, log_small}

-- ---- the literals of a table are low

pub node_low : (x : Node) (i v : ℕ) → 1 ≤ i → i ≤ len x → ((m : ℕ) → x ≡ leaf m → m < 2 * v)
    → ((ls : List ℕ) (o : ℕ) (l r : Side) → x ≡ join ls o l r → o + length ls ≤ v) → output x i < 2 * v
unfolding output len leaves
node_low (leaf m) i v a b f g = f m refl
node_low (join ls o l r) i v a b f g = omega (arith, g ls o l r refl)

module _ (h : Head) (s : State) (p : Sound h s) where
  pub output_low : (n i : ℕ) → n < length s.nodes → 1 ≤ i → i ≤ len (node_at s.nodes n) → output (node_at s.nodes n) i < 2 * s.next_variable
  output_low n i l a b =
      node_low (node_at s.nodes n) i s.next_variable a b (λ m e. omega (arith, p.numbered.leaf_low n m l e, p.high))
      (λ ls o c d e. p.after n ls o c d l e)

  outputs_low : (t : Side) → t.node < length s.nodes → t.offset + side_len s.nodes t ≤ len (node_at s.nodes t.node)
      → AllBelow (2 * s.next_variable) (side_outputs s.nodes t)
  unfolding side_outputs outputs
  outputs_low t l f = below_map (2 * s.next_variable) (output (node_at s.nodes t.node)) (range (t.offset + 1) (side_len s.nodes t))
      (λ i m. let k = range_mem (t.offset + 1) (side_len s.nodes t) i m in output_low t.node i l (omega (arith, k.0)) (omega (arith, k.1)))

  either_low : (f k : ℕ) (ls os : List ℕ) → AllBelow (2 * s.next_variable) ls → AllBelow (2 * s.next_variable) os
      → AllBelow (2 * s.next_variable) (plain_or f k ls os)
  unfolding plain_or
  either_low zero zero ls os a b = a
  either_low zero (suc k) ls os a b = b
  either_low (suc f) k ls os a b = b

  pub leaves_low : (k n : ℕ) → n < k → n < length s.nodes → AllBelow (2 * s.next_variable) (leaves (node_at s.nodes n))
  unfolding Sized Fit leaves AllBelow
  leaves_low zero n l g = absurd (omega arith)
  leaves_low (suc k) n l g = by (node_at s.nodes n) refl (p.sized n g) (leaves_low k)
    where
      side : (c : Side) → ((m : ℕ) → m < k → m < length s.nodes → AllBelow (2 * s.next_variable) (leaves (node_at s.nodes m))) → c.node < n
          → c.offset + side_len s.nodes c ≤ len (node_at s.nodes c.node) → AllBelow (2 * s.next_variable) (side_leaves s.nodes c)
      side c ih i j = unfold side_leaves in
          either_low c.offset c.limit (leaves (node_at s.nodes c.node)) (side_outputs s.nodes c) (ih c.node (omega arith) (omega arith))
          (outputs_low c (omega arith) j)

      by : (x : Node) → node_at s.nodes n ≡ x → Fit s.nodes n x
          → ((m : ℕ) → m < k → m < length s.nodes → AllBelow (2 * s.next_variable) (leaves (node_at s.nodes m)))
          → AllBelow (2 * s.next_variable) (leaves x)
      by (leaf m) e f ih = (omega (arith, p.numbered.leaf_low n m g e, p.high), tt)
      by (join ls o a b) e f ih =
          rw f.6 (below_append (2 * s.next_variable) (side_leaves s.nodes a) (side_leaves s.nodes b) (side a ih f.0 f.3)
          (side b ih f.1 f.4))

neg_low : (l v : ℕ) → l < 2 * v → neg l < 2 * v
unfolding neg
neg_low l v h = omega arith

negs_low : (v : ℕ) (ls : List ℕ) → AllBelow (2 * v) ls → AllBelow (2 * v) (map neg ls)
negs_low v ls p = below_map (2 * v) neg ls (λ l m. neg_low l v (below_at (2 * v) ls p l m))

pub low_nodes : (h : Head) (s : State) (b : ℕ) → Sound h s → Limits h s → 2 * s.next_variable + 2 ≤ b → 300 ≤ b → (n : ℕ) → n < length s.nodes
    → LowNode b (node_at s.nodes n)
low_nodes h s b p k l m n g =
    let v = s.next_variable in
    let ls = leaves_low h s p (suc n) n (omega arith) g in
    record {
      lits = below_mono (2 * v) b (leaves (node_at s.nodes n)) (omega arith) ls;
      nots = below_mono (2 * v) b (map neg (leaves (node_at s.nodes n))) (omega arith) (negs_low v (leaves (node_at s.nodes n)) ls);
      outs = λ i x y. let o = output_low h s p n i g x y in omega (arith, o, neg_low (output (node_at s.nodes n) i) v o);
      short = omega (arith, k.short n g);
    }

-- ---- the clauses of a right request are low

one_def-low : (b o i : ℕ) → o < b → neg o < b → DefLow b (one_def o i)
unfolding one_def DefLow
one_def-low b o zero h g = h
one_def-low b o (suc zero) h g = tt
one_def-low b o (suc (suc i)) h g = g

real_def-low : (b n i : ℕ) (d : Direction) → DefLow b (real_def n i d)
unfolding real_def DefLow
real_def-low b n zero d = omega arith
real_def-low b n (suc v) if = omega arith
real_def-low b n (suc v) only_if = omega arith

window_def-low : (b n f m v : ℕ) (d : Direction) → m ≤ width → v ≤ f + m + 1 → DefLow b (window_def n f m v d)
unfolding window_def DefLow
window_def-low b n f m zero d h g = omega arith
window_def-low b n f m (suc v) if h g = omega arith
window_def-low b n f m (suc v) only_if h g = omega arith

module _ (t : List Node) (b : ℕ) (low : (n : ℕ) → n < length t → LowNode b (node_at t n)) (short : (n : ℕ) → n < length t → len (node_at t n) ≤ width) where
  lit_low : (s : Side) → s.node < length t → s.offset + side_len t s ≤ len (node_at t s.node) → (i : ℕ) → 1 ≤ i → i ≤ side_len t s → (side_lit t s i < b)
      × (neg (side_lit t s i) < b)
  unfolding side_lit
  lit_low s h f i a c = omega (arith, (low s.node h).outs (s.offset + i) (omega arith) (omega arith))

  side_def-low : (s : Side) (i : ℕ) (d : Direction) → s.node < length t → s.offset + side_len t s ≤ len (node_at t s.node) → 1 ≤ side_len t s
      → i ≤ side_len t s + 1 → DefLow b (side_def t s i d)
  side_def-low s i d h f o l =
      by_form (DefLow b) t s i d (λ _. let k = lit_low s h f 1 (omega arith) o in one_def-low b (side_lit t s 1) i k.0 k.1)
      (λ _ _ _. real_def-low b s.node i d)
      (λ _ _ v k. window_def-low b s.node s.offset (side_len t s) v d (omega (arith, short s.node h)) (omega (arith, key_most i k)))

  neg_part-low : (s : Side) → s.node < length t → s.offset + side_len t s ≤ len (node_at t s.node) → (i : ℕ) → i ≤ side_len t s
      → AllBelow b (neg_part t s i)
  unfolding neg_part AllBelow
  neg_part-low s h f zero l = tt
  neg_part-low s h f (suc i) l = ((lit_low s h f (suc i) (omega arith) l).1, tt)

  pos_part-low : (s : Side) → s.node < length t → s.offset + side_len t s ≤ len (node_at t s.node) → (i : ℕ) → 1 ≤ i → AllBelow b (pos_part t s i)
  unfolding pos_part
  pos_part-low s h f i l = by (dec_le i (side_len t s))
    where
      by : (c : Dec (i ≤ side_len t s)) → AllBelow b (dite {C = List ℕ} c (λ _. side_lit t s i ∷ []) (λ _. []))
      by (yes p) = unfold AllBelow in ((lit_low s h f i l p).0, tt)
      by (no p) = unfold AllBelow in tt

  pub record ClauseLow (c : Clause) : Type 0 where
    pub left : DefLow b (definition t c.left)
    pub right : DefLow b (definition t c.right)
    pub this : DefLow b (definition t c.this)
    pub literals : AllBelow b c.literals

  pub clause_low : Sized t → (x : Request) (c : Clause) → Right t x → Memᴰ c (clauses_of t x) → ClauseLow c
  unfolding clauses_of Right Fit Sized definition if_clause only_if_clause
  clause_low sz (request n v d) c g m = go refl (sz n g.0) (clause_form t n v (node_at t n) d c m)
    where
      out : (y : Node) → node_at t n ≡ y → (output y v < b) × (neg (output y v) < b)
      out y e = rw (← e) (omega (arith, (low n g.0).outs v g.1 g.2))

      go : {y : Node} {d : Direction} {c : Clause} → node_at t n ≡ y → Fit t n y → ClauseForm t n v y d c → ClauseLow c
      go e f (an_if {ls = ls} {o = o} {l = l} {r = r} a m) =
          let q = splits_mem v (side_len t l) (side_len t r) a m in
          let hl : l.node < length t = omega (arith, f.0, g.0) in
          let hr : r.node < length t = omega (arith, f.1, g.0) in
          record {
            left = side_def-low l a only_if hl f.3 f.7 (omega (arith, q));
            right = side_def-low r (v - a) only_if hr f.4 f.8 (omega (arith, q));
            this = real_def-low b n v if;
            literals = below_append b (neg_part t l a ++ neg_part t r (v - a)) (output (join ls o l r) v ∷ [])
                (below_append b (neg_part t l a) (neg_part t r (v - a)) (neg_part-low l hl f.3 a q.1) (neg_part-low r hr f.4 (v - a) (omega (arith, q))))
                (unfold AllBelow in ((out (join ls o l r) e).0, tt));
          }
      go e f (an_only_if {ls = ls} {o = o} {l = l} {r = r} a m) =
          let q = splits_mem (v - 1) (side_len t l) (side_len t r) a m in
          let hl : l.node < length t = omega (arith, f.0, g.0) in
          let hr : r.node < length t = omega (arith, f.1, g.0) in
          record {
            left = side_def-low l (suc a) if hl f.3 f.7 (omega (arith, q));
            right = side_def-low r (suc (v - 1 - a)) if hr f.4 f.8 (omega (arith, q));
            this = real_def-low b n v only_if;
            literals = below_append b (pos_part t l (suc a) ++ pos_part t r (suc (v - 1 - a))) (neg (output (join ls o l r) v) ∷ [])
                (below_append b (pos_part t l (suc a)) (pos_part t r (suc (v - 1 - a))) (pos_part-low l hl f.3 (suc a) (omega arith))
                (pos_part-low r hr f.4 (suc (v - 1 - a)) (omega arith))) (unfold AllBelow in ((out (join ls o l r) e).1, tt));
          }

-- ---- the invariant: if the steps stay low, so does the log

pub record LowLog (b : ℕ) (t : List Node) (s : State) : Type 0 where
  pub all : AllBelow b (flat_map values s.log)
  pub froms : (e : Stored) → Memᴰ e s.stored → e.from + length (defined_by t e.key) ≤ s.next_step

abbrev pub LowIf : ℕ → List Node → State → Type 0
LowIf b t s = s.next_step + 200 ≤ b → LowLog b t s

from_in-low : (n : ℕ) (es : List Stored) → ((e : Stored) → Memᴰ e es → e.from ≤ n) → (k : Key) → from_in es k ≤ n
unfolding from_in
from_in-low n [] h k = omega arith
from_in-low n (e ∷ es) h k = by (key_dec e.key k) (from_in-low n es (λ d m. h d (Memᴰ.tail m)) k)
  where
    by : (c : Dec (e.key ≡ k)) → from_in es k ≤ n → dite {C = ℕ} c (λ _. e.from) (λ _. from_in es k) ≤ n
    by (yes p) ih = h e (Memᴰ.head refl)
    by (no p) ih = ih

step_in-low : (n : ℕ) (es : List Stored) → ((e : Stored) → Memᴰ e es → e.from ≤ n) → (k : Key) (i : ℕ) → step_in es k i ≤ n + i
unfolding step_in
step_in-low n es h (real m v) i = omega (arith, from_in-low n es h (real m v))
step_in-low n es h (window_zero m f q) i = omega (arith, from_in-low n es h (window_zero m f q))
step_in-low n es h (window m f q) zero = omega (arith, from_in-low n es h (window_zero m f q))
step_in-low n es h (window m f q) (suc i) = omega (arith, from_in-low n es h (window m f q))

append_low : (b : ℕ) (rs qs : List Record) → AllBelow b (flat_map values rs) → AllBelow b (flat_map values qs) → AllBelow b (flat_map values (rs ++ qs))
append_low b rs qs p q = subst (AllBelow b) (sym (flat_map_append values rs qs)) (below_append b (flat_map values rs) (flat_map values qs) p q)

module _ (b : ℕ) (big : 300 ≤ b) (t : List Node) (sz : Sized t) (low : (n : ℕ) → n < length t → LowNode b (node_at t n))
    (short : (n : ℕ) → n < length t → len (node_at t n) ≤ width) where
  steps_low : (s : State) → LowLog b t s → s.next_step + 200 ≤ b → (k : Key) (i : ℕ) → i ≤ 130 → step_in s.stored k i < b
  steps_low s p h k i l = omega (arith, step_in-low s.next_step s.stored (λ e m. omega (arith, p.froms e m)) k i)

  define_low : (k : Key) (s : State) → KeyFits t k → LowIf b t s → LowIf b t (define t k s)
  unfolding define
  define_low k s g p h =
      let q = p (omega arith) in
      record {
        all = append_low b s.log (key_records (step_in s.stored) t k) q.all
            (key_records-below b (step_in s.stored) (steps_low s q (omega arith)) (omega arith) t low k g);
        froms = λ e m. ⊎_elim (λ i. omega (arith, q.froms e i))
            (λ i. let z : e ≡ record { key = k; from = s.next_step } = Memᴰ.eq_of_singleton i in
            rw z (omega (arith, key_count (step_in s.stored) t k))) (Memᴰ.append_cases s.stored m);
      }

  write_low : (x : Request) (c : Clause) (s : State) → Right t x → Memᴰ c (clauses_of t x) → LowIf b t s → LowIf b t (write t c s)
  unfolding write
  write_low x c s g m p h =
      let q = p (omega arith) in
      let k = clause_low t b low short sz x c g m in
      record {
        all = append_low b s.log (derivation (clause_tokens (step_in s.stored) t c) ∷ clause s.next_step c.literals ∷ []) q.all
            (unfold flat_map values in
            below_append b (token_numbers (clause_tokens (step_in s.stored) t c)) (s.next_step ∷ (c.literals ++ []))
            (clause_tokens-below b (step_in s.stored) (steps_low s q (omega arith)) (omega arith) t c k.left k.right k.this)
            (unfold AllBelow in (omega arith, below_append b c.literals [] k.literals (unfold AllBelow in tt))));
        froms = λ e i. omega (arith, q.froms e i);
      }

  hold_low : (x : Request) (s : State) → LowIf b t s → LowIf b t (hold x s)
  unfolding hold
  hold_low x s p h = let q = p h in record { all = q.all; froms = q.froms }

  serve_low : (xs : List Request) → ((x : Request) → Memᴰ x xs → Right t x) → Asked t xs → (s : State) → LowIf b t s → LowIf b t (serve t xs s)
  serve_low xs r a s p =
      serve_keeps t (Right t) (KeyFits t) (request_falls t sz) (key_falls t) (looked_fit t sz) (LowIf b t) (λ k u g n j q. define_low k u g q)
      (λ x c u g m j q. write_low x c u g m q) (λ x u g q. hold_low x u q) xs r a s p

-- ---- every command

-- The invariants of the table, of the counts and of the log, together.
pub record Low (h : Head) (b : ℕ) (s : State) : Type 0 where
  pub limits : Limits h s
  pub counted : Counted h s
  pub low : LowIf b s.nodes s

low_start : (h : Head) (b : ℕ) → Low h b (start h)
low_start h b = record {
  limits = limits_start h;
  counted = counted_start h;
  low =
      λ l. record { all = unfold start flat_map AllBelow in tt; froms = λ e m. absurd (none e m) };
}
  where
    none : (e : Stored) → Memᴰ e (start h).stored → ⊥
    none e m = Memᴰ.not-nil (rw empty at m)
      where
        empty : (start h).stored ≡ []
        empty = unfold start in refl

make_low : (h : Head) (b : ℕ) (a : Node) (n : ℕ) (s : State) → Counted h s → LowIf b s.nodes s → LowIf b (make a n s).nodes (make a n s)
unfolding make
make_low h b a n s c p l =
    let q = p l in
    record {
      all = q.all;
      froms =
          λ e m. subst (λ (i : ℕ). e.from + i ≤ s.next_step)
          (ap length (defined_more s.nodes (a ∷ []) e.key (c.keys_in e.key (unfold keys in Memᴰ.map (λ (e : Stored). e.key) m))))
          (q.froms e m);
    }

all_below : (b : ℕ) (ns : List ℕ) → ((n : ℕ) → Memᴰ n ns → n < b) → AllBelow b ns
unfolding AllBelow
all_below b [] h = tt
all_below b (n ∷ ns) h = (h n (Memᴰ.head refl), all_below b ns (λ m i. h m (Memᴰ.tail i)))

stored_low : (b : ℕ) (t : List Node) (n : ℕ) (es : List Stored) → n ≤ b
    → ((e : Stored) → Memᴰ e es → e.from + length (defined_by t e.key) ≤ n) → AllBelow b (stored_steps t es)
unfolding stored_steps flat_map
stored_low b t n [] l h = unfold AllBelow in tt
stored_low b t n (e ∷ es) l h =
    below_append b (range e.from (steps (key_records (λ k i. 0) t e.key))) (stored_steps t es)
    (all_below b (range e.from (steps (key_records (λ k i. 0) t e.key)))
    (λ v m. omega (
      arith,
      range_mem e.from (steps (key_records (λ k i. 0) t e.key)) v m,
      h e (Memᴰ.head refl),
      key_count (λ k i. 0) t
          e.key,
    )))
    (stored_low b t n es l (λ d m. h d (Memᴰ.tail m)))

delete_low : (b : ℕ) (s : State) → LowIf b s.nodes s → LowIf b s.nodes (delete s)
unfolding delete
delete_low b s p l =
    let q = p l in
    let ss = stored_steps s.nodes s.stored in
    record {
      all = append_low b s.log (deletion ss ∷ []) q.all
          (unfold flat_map values in
          below_append b ss [] (stored_low b s.nodes s.next_step s.stored (omega arith) q.froms) (unfold AllBelow in tt));
      froms =
          q.froms;
    }

act_low : (h : Head) (b : ℕ) → h.variable ≤ most_head → 2 * most_variable + 2 ≤ b → (c : Command) (s : State) → first_no (questions h s.nodes c) ≡ 0 → Sound h s
    → Low h b s → LowIf b (act c s).nodes (act c s)
unfolding act
act_low h b v l (Command.Leaf m) s q p k = by (known s.nodes m)
  where
    by : (x : Bool) → LowIf b (elim x as (λ _. State) [ true ↦ s | false ↦ make (leaf m) 0 s ]).nodes
        (elim x as (λ _. State) [ true ↦ s | false ↦ make (leaf m) 0 s ])
    by true = k.low
    by false = make_low h b (leaf m) 0 s k.counted k.low
act_low h b v l (Command.Join x y) s q p k =
    make_low h b (joined s.nodes s.next_variable x y) (len (joined s.nodes s.next_variable x y)) s k.counted k.low
act_low h b v l (Command.Request n w d) s q p k =
    let t = s.nodes in
    let f = request_fits h t n w d q in
    let a = requests_asked t n w d f in
    let few = few_variables k.limits in
    subst (λ (x : List Node). LowIf b x (serve t (requests n w d) s)) (sym (serve_nodes t (sized_ok t p.sized) (requests n w d) a s).0)
    (serve_low b (omega arith) t p.sized (low_nodes h s b p k.limits (omega arith) (omega arith)) k.limits.short (requests n w d)
    (requests_right t n w d f) a s k.low)
act_low h b v l Command.Close s q p k = subst (λ (x : List Node). LowIf b x (delete s)) (unfold delete in refl) (delete_low b s k.low)

low_act : (h : Head) (b : ℕ) → h.variable ≤ most_head → 2 * most_variable + 2 ≤ b → (c : Command) (s : State) → first_no (questions h s.nodes c) ≡ 0 → Sound h s
    → Low h b s → Low h b (act c s)
low_act h b v l c s q p k =
    record { limits = limits_act h c s q p k.limits; counted = counted_act h c s q p k.counted; low = act_low h b v l c s q p k }

pub all_low : {h : Head} {capacity : ℕ} {cs : List Command} {u : State} (b : ℕ) → h.variable ≤ most_head → 2 * most_variable + 2 ≤ b
    → AllPassed h capacity cs (start h) u → Low h b u
all_low {h} b v l a = all_keep (Low h b) (low_act h b v l) a (sound_start h) (low_start h b)

-- ---- the log reads back

pub all_fit : {h : Head} {capacity : ℕ} {cs : List Command} {s u : State} → AllPassed h capacity cs s u → length (bytes s.log) ≤ capacity
    → length (bytes u.log) ≤ capacity
all_fit all_done l = l
all_fit (all_more q a) l = all_fit a q.fits

most_number : 268435456 ≡ 128 ^ groups
most_number = refl

-- Every number that an accepted script writes fits.
pub log_fits : {h : Head} {capacity : ℕ} {cs : List Command} {u : State} → head_fits h ≡ true → capacity ≤ most_bytes → AllPassed h capacity cs (start h) u
    → Small (flat_map numbers u.log)
log_fits {h} {capacity} {cs} {u} e c a =
    let x = head_low h e in
    let k = all_low 268435456 x.0 (omega arith) a in
    let f : length (bytes u.log) ≤ capacity = all_fit a (start_empty h capacity) in
    log_small u.log (omega arith)
    (subst (λ (b : ℕ). AllBelow b (flat_map values u.log)) most_number (k.low (omega (arith, k.counted.next, two_bytes u.log))).all)

pub log_decodes : {h : Head} {capacity : ℕ} {cs : List Command} {u : State} → head_fits h ≡ true → capacity ≤ most_bytes
    → AllPassed h capacity cs (start h) u → decode_log (bytes u.log) ≡ some u.log
log_decodes {u = u} e c a = decode_bytes u.log (log_fits e c a)
