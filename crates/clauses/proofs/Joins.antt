-- The sides and outputs of a join, as the code has them.
use mathlib.Core.Path.{◌≡◌, refl, sym, ap, subst, ◌∙◌}
use mathlib.Core.Bool.{Bool, true, false}
use mathlib.Core.Logic.{dite}
use mathlib.Core.List.{List, [], ◌∷◌}
use Prim.Native.Nat.{ℕ, zero, suc, ◌+◌, ◌≤◌, ◌<◌}
use native.Mathlib.Decide.{dec_le}
use native.Mathlib.Omega.{arith}
use lib.ListN.{length, get_or}
use Rattle.sizes.specs.Sizes.{width, store_at}
use Rattle.pb.specs.Sum.{neg}
use Rattle.totdb.specs.Nodes.{IsWindow, Node, node_at, len, leaves, output, from_first, side_len, side_lit, plain_or, keyed}
use Rattle.totdb.specs.declared.Side.{Side}
use Rattle.totdb.proofs.Sides.{keyed_zero, keyed_above, plain_keyed}
use Rattle.cert.specs.Definitions.{Direction, one_def, side_def}
use Rattle.cert.specs.Requests.{neg_part, pos_part}
use Rattle.cert.specs.Sized.{Sized, Fit}
use Rattle.cert.specs.State.{Stored, step_in}
use Rattle.cert.proofs.Keyed.{short_side, plain_side, window_side}
use Rattle.derivation.specs.Operands.{operand}
use Rattle.derivation.specs.declared.SemDefinition.TheVariants.{Step}
use Rattle.rows.specs.Windows.{SideAt, at_left, at_right}
use Rattle.rows.specs.Rows.{Bounded, ShownOf, JoinOf}
use Rattle.rows.specs.declared.Join.{Join}
use Rattle.rows.specs.declared.Shown.{Shown}
use Rattle.rows.proofs.Reading.{from_first_lem}
use Rattle.rows.proofs.Sides.{side_inside, side_shows, window_first}
use Rattle.define.specs.Store.{direction, WindowOf}
use Rattle.define.specs.Lookups.{RealOf, SideIn}
use Rattle.define.proofs.Slots.{real_named}
use Rattle.define.proofs.SideLooks.{plain_value}
use Rattle.clauses.specs.Firsts.{real_step, window_step, FirstsOf}
use Rattle.clauses.specs.declared.Split.{Split}
use Rattle.clauses.specs.Joins.{JoinIn, ClauseIn, SideReach, SideRoom, ClauseReach, clause_part}
use Rattle.clauses.proofs.Firsts.{real_read, window_read}

-- ---- sides

slot_high : {t : List Node} {p w : ℕ} {u : Side} → SideAt t p w u → w + 1 < store_at (length t)
slot_high (at_left n ls o l r h e) = omega arith
slot_high (at_right n ls o l r h e) = omega arith

module _ {t : List Node} (b : Bounded t) {s : Shown} where
  side_literal : (a : ℕ) → ShownOf t s → 1 ≤ a → a ≤ s.len → from_first s.first (s.side.offset + a) ≡ side_lit t s.side a
  unfolding side_lit
  side_literal a o h k =
      let f = side_inside b o.of in
      ap (λ (first : ℕ). from_first first (s.side.offset + a)) o.first
      ∙ sym (from_first_lem (node_at t s.side.node) (s.side.offset + a) (omega arith) (omega (arith, f.1, o.length)))

  pub side_reach : {a : ℕ} → SideIn t s a → SideReach s a
  side_reach i =
      let f = side_inside b i.shown.of in
      let short = b.short s.side.node f.0 in
      record {
        node = omega (arith, f.0, b.few);
        first = rw i.shown.first (b.low s.side.node 1 f.0 (omega arith) (omega (arith, f.1, f.2)));
        offset = omega (arith, f.1, short);
        short = omega (arith, f.1, short, i.shown.length);
        value = i.value;
      }

  pub side_room : {store : List ℕ} {a : ℕ} → store_at (length t) ≤ length store → SideIn t s a → SideRoom store s a
  side_room room i = record {
    reach = side_reach i;
    row = omega (arith, room, (side_inside b i.shown.of).0);
    window = λ p. rw (i.shown.window p) (omega (arith, room, slot_high (window_first _ _ _ _ (side_shows i.shown.of)).of));
  }

-- ---- a join and its clauses

-- A join is as long as its sides.
pub join_fits : {t : List Node} {x : Join} → Bounded t → JoinOf t x → len (node_at t x.node) ≡ x.left.len + x.right.len
unfolding Sized Fit len leaves
join_fits {t} {x} b i =
    let f = subst (Fit t x.node) i.is (b.sized x.node i.there) in
    ap (λ (y : Node). len y) i.is ∙ f.5 ∙ rw (i.left.length, i.right.length)

module _ {t : List Node} {x : Join} where
  pub last_literal_lem : {v : ℕ} → JoinIn t x v → from_first x.first v ≡ output (node_at t x.node) v
  last_literal_lem {v} i =
      ap (λ (first : ℕ). from_first first v) i.of.first ∙ sym (from_first_lem (node_at t x.node) v i.above i.within)

  module _ {z : Split} (k : ClauseIn t x z) where
    pub left_in : SideIn t x.left z.left
    left_in = record { shown = k.of.of.left; value = k.left.top }

    pub right_in : SideIn t x.right z.right
    right_in = record { shown = k.of.of.right; value = k.right.top }

    module _ (bd : Bounded t) where
      pub this_in : RealOf t x.node z.value
      this_in =
          let f = join_fits bd k.of.of in
          let l = (side_inside bd left_in.shown.of).2 in
          let r = (side_inside bd right_in.shown.of).2 in
          record {
            there = k.of.of.there;
            long = omega (arith, f, l, r, k.of.of.left.length, k.of.of.right.length);
            value = omega (arith, k.of.within);
          }

      pub clause_reach : (store : List ℕ) → store_at (length t) ≤ length store → ClauseReach store x z
      clause_reach store room =
          let h = k.of.of.there in
          record {
            node = omega (arith, h, bd.few);
            row = omega (arith, h, room);
            first = rw k.of.of.first (bd.low x.node 1 h (omega arith) (omega (arith, k.of.above, k.of.within)));
            above = k.of.above;
            within = omega (arith, k.of.within, bd.short x.node h);
            left = side_room bd room left_in;
            right = side_room bd room right_in;
            left_in = k.left;
            right_in = k.right;
          }

-- ---- a side, by the cases of the code

pos_none : (t : List Node) (s : Side) (a : ℕ) → side_len t s < a → [] ≡ pos_part t s a
unfolding pos_part
pos_none t s a h = by (dec_le a (side_len t s))
  where
    by : (d : Dec (a ≤ side_len t s)) → ◌≡◌ {A = List ℕ} [] (dite d (λ _. side_lit t s a ∷ []) (λ _. []))
    by (yes p) = absurd (omega arith)
    by (no p) = refl

pos_one : (t : List Node) (s : Side) (a : ℕ) → a ≤ side_len t s → side_lit t s a ∷ [] ≡ pos_part t s a
unfolding pos_part
pos_one t s a h = by (dec_le a (side_len t s))
  where
    by : (d : Dec (a ≤ side_len t s)) → ◌≡◌ {A = List ℕ} (side_lit t s a ∷ []) (dite d (λ _. side_lit t s a ∷ []) (λ _. []))
    by (yes p) = refl
    by (no p) = absurd (p h)

neg_one : (t : List Node) (s : Side) (a : ℕ) → 1 ≤ a → neg (side_lit t s a) ∷ [] ≡ neg_part t s a
unfolding neg_part
neg_one t s zero h = absurd (omega arith)
neg_one t s (suc a) h = refl

pub keyed_low : {s : Shown} {a : ℕ} → SideReach s a → plain_or s.side.offset s.side.limit true false ≡ true → keyed s.side a ≤ width + 1
keyed_low {s} {a} r p = omega (arith, plain_keyed s.side p a, r.short, r.value)

-- 0, or above the offset.
pub keyed_in : {s : Shown} {a : ℕ} → SideReach s a
    → (0 < keyed s.side a → s.side.offset < keyed s.side a) × (keyed s.side a ≤ s.side.offset + width + 1)
keyed_in {s} {a} r = by (dec_le a 0)
  where
    by : Dec (a ≤ 0) → (0 < keyed s.side a → s.side.offset < keyed s.side a) × (keyed s.side a ≤ s.side.offset + width + 1)
    by (yes p) = let e = keyed_zero s.side a (omega arith) in (λ h. omega arith, omega arith)
    by (no p) = let e = keyed_above s.side a (omega arith) in (λ h. omega arith, omega (arith, r.short, r.value))

module _ {t : List Node} (b : Bounded t) {s : Shown} {a : ℕ} (i : SideIn t s a) where
  pub only_absent : s.len < a → [] ≡ clause_part true t s.side a
  unfolding clause_part
  only_absent h = pos_none t s.side a (omega (arith, i.shown.length))

  pub only_literal : 1 ≤ a → a ≤ s.len → from_first s.first (s.side.offset + a) ∷ [] ≡ clause_part true t s.side a
  unfolding clause_part
  only_literal h g = rw (side_literal b a i.shown h g) (pos_one t s.side a (omega (arith, i.shown.length)))

  pub if_absent : a ≡ 0 → [] ≡ clause_part false t s.side a
  unfolding clause_part neg_part
  if_absent e = rw e

  pub if_literal : 1 ≤ a → a ≤ s.len → neg (from_first s.first (s.side.offset + a)) ∷ [] ≡ clause_part false t s.side a
  unfolding clause_part
  if_literal h g = rw (side_literal b a i.shown h g) (neg_one t s.side a h)

  pub one_operand : (d : Direction) → s.len ≤ 1 → one_def (from_first s.first (s.side.offset + 1)) a ≡ side_def t s.side a d
  one_operand d h =
      ap (λ (o : ℕ). one_def o a) (side_literal b 1 i.shown (omega arith) (omega (arith, (side_inside b i.shown.of).2, i.shown.length)))
      ∙ sym (short_side t s.side a d (omega (arith, i.shown.length)))

  module _ {store : List ℕ} {es : List Stored} (f : FirstsOf t store es) (q : Bool) (h : 1 < s.len) where
    pub plain_operand : plain_or s.side.offset s.side.limit true false ≡ true
        → Step (real_step (get_or store (store_at s.side.node + keyed s.side a) 0) (keyed s.side a) q)
        ≡ operand (step_in es) (side_def t s.side a (direction q))
    plain_operand p =
        let d = plain_side t s.side a (direction q) (omega (arith, h, i.shown.length)) p in
        let u = (real_named b (plain_value b h p i)).used in
        rw (plain_keyed s.side p a, d) (real_read f s.side.node a q (rw (plain_keyed s.side p a) at u))

    pub window_operand : IsWindow s.side
        → Step (window_step (get_or store s.window 0) (get_or store (s.window + 1) 0) s.side.offset (keyed s.side a) q)
        ≡ operand (step_in es) (side_def t s.side a (direction q))
    window_operand p =
        let d = window_side t s.side a (direction q) (omega (arith, h, i.shown.length)) p in
        let w : WindowOf t s.side.node s.side.offset (side_len t s.side)
        = record { slot = i.shown.slot; shown = side_shows i.shown.of; long = omega (arith, h, i.shown.length) } in
        rw d (window_read f w (sym (i.shown.window p)) (keyed s.side a) q)
