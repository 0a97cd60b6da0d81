-- Where what a clause looks up is stored, its lookups do nothing.
use mathlib.Core.Path.{◌≡◌, refl, ◌∙◌}
use mathlib.Core.Bool.{Bool, true, false, not}
use mathlib.Core.List.{List}
use Prim.Native.Nat.{ℕ, zero, suc, ◌+◌, ◌≤◌, ◌<◌}
use native.Mathlib.Decide.{dec_le}
use native.Mathlib.Omega.{arith}
use borrow.Author.Tests.{le-leb, lt-leb}
use lib.ListN.{length}
use Rattle.sizes.specs.Sizes.{store_at}
use Rattle.memo.specs.Visit.{each}
use Rattle.totdb.specs.Nodes.{Node, plain_or, keyed}
use Rattle.cert.specs.Definitions.{Direction, Key, real, window, side_def}
use Rattle.cert.specs.Requests.{key_of, looks_of}
use Rattle.cert.specs.State.{State, look_up}
use Rattle.memo.proofs.Booleans.{and_true}
use Rattle.rows.specs.Rows.{Table}
use Rattle.rows.specs.declared.Join.{Join}
use Rattle.rows.specs.declared.Shown.{Shown}
use Rattle.define.specs.Store.{direction, slot}
use Rattle.define.specs.Represents.{Memory, Simulates}
use Rattle.define.specs.Lookups.{RealOf, SideIn}
use Rattle.define.proofs.Looks.{look_up_grows, sims_there}
use Rattle.define.proofs.SideLooks.{short_looks, plain_looks, window_looks}
use Rattle.define.proofs.Simulates.{sims_full}
use Rattle.define.proofs.Slots.{Named, real_named, window_named}
use Rattle.define.proofs.Windows.{window_of, window_slots}
use Rattle.clauses.specs.Firsts.{has_first, side_stored, sides_stored}
use Rattle.clauses.specs.declared.Split.{Split}
use Rattle.clauses.specs.Joins.{ClauseIn, clause_of}
use Rattle.clauses.proofs.Written.{sims_looks}

pub true_false : {A : Type 0} {b : Bool} → b ≡ true → b ≡ false → A
true_false p q = absurd (let z : ◌≡◌ {A = ℕ} 0 1 = cc in omega arith)

-- ---- the tests

pub plain_first : {A : Type 0} (f k : ℕ) (a b : A) → plain_or f k true false ≡ true → plain_or f k a b ≡ a
unfolding plain_or
plain_first zero zero a b h = refl
plain_first zero (suc k) a b h = true_false h refl
plain_first (suc f) k a b h = true_false h refl

pub plain_second : {A : Type 0} (f k : ℕ) (a b : A) → plain_or f k true false ≡ false → plain_or f k a b ≡ b
unfolding plain_or
plain_second zero zero a b h = true_false refl h
plain_second zero (suc k) a b h = refl
plain_second (suc f) k a b h = refl

module _ (store : List ℕ) (s : Shown) (a : ℕ) where
  pub short_stored : s.len ≤ 1 → true ≡ side_stored store s a
  unfolding side_stored
  short_stored h = rw (le-leb _ _ h)

  pub long_stored : 1 < s.len → {p : ℕ}
      → plain_or s.side.offset s.side.limit (store_at s.side.node + keyed s.side a) (s.window + 1) ≡ p
      → has_first store p ≡ side_stored store s a
  unfolding side_stored
  long_stored h e = rw (lt-leb _ _ h, e)

module _ (store : List ℕ) (x : Join) (i j : ℕ) where
  pub left_missing : side_stored store x.left i ≡ false → false ≡ sides_stored store x i j
  unfolding sides_stored
  left_missing e = rw e

  pub right_last : side_stored store x.left i ≡ true → side_stored store x.right j ≡ sides_stored store x i j
  unfolding sides_stored
  right_last e = rw e

-- ---- lookups

module _ {ns : List ℕ} {P : List Node → State → Type 0} (k : Key) (p : ℕ) (m : Memory)
    (named : (t : List Node) (s : State) → Table ns t → P t s → Named t k) (place : (t : List Node) (s : State) → Table ns t → P t s → slot t k ≡ p) where
  sims_stored_key : has_first m.store p ≡ true → Simulates ns P (λ t s. look_up t k s) m m
  sims_stored_key h = by (dec_le m.at (length m.log))
    where
      by : Dec (m.at ≤ length m.log) → Simulates ns P (λ t s. look_up t k s) m m
      by (yes e) = sims_there k p m e named place (λ z. true_false (rw z at h) refl)
      by (no e) = sims_full (look_up_grows k) (omega arith)

module _ {ns : List ℕ} (s : Shown) (a : ℕ) (d : Direction) (m : Memory) where
  pub sims_stored_side : side_stored m.store s a ≡ true
      → Simulates ns (λ t u. SideIn t s a) (λ t u. each (look_up t) (key_of (side_def t s.side a d)) u) m m
  sims_stored_side h = by (dec_le s.len 1)
    where
      long : (b : Bool) → plain_or s.side.offset s.side.limit true false ≡ b → 1 < s.len
          → Simulates ns (λ t u. SideIn t s a) (λ t u. each (look_up t) (key_of (side_def t s.side a d)) u) m m
      long true p g = plain_looks s a g d p
          (sims_stored_key (real s.side.node (keyed s.side a)) (store_at s.side.node + keyed s.side a) m
          (λ t u l q. real_named l.bounded q) (λ t u l q. unfold slot in refl)
          (long_stored m.store s a g (plain_first s.side.offset s.side.limit _ _ p) ∙ h))
      long false p g = window_looks s a g d p
          (sims_stored_key (window s.side.node s.side.offset s.len) (s.window + 1) m
          (λ t u l q. window_named l.bounded (window_of l.bounded s q)) (λ t u l q. (window_slots l.bounded s q).1)
          (long_stored m.store s a g (plain_second s.side.offset s.side.limit _ _ p) ∙ h))

      by : Dec (s.len ≤ 1)
          → Simulates ns (λ t u. SideIn t s a) (λ t u. each (look_up t) (key_of (side_def t s.side a d)) u) m m
      by (yes l) = short_looks s a d l
      by (no g) = long (plain_or s.side.offset s.side.limit true false) refl (omega arith)

-- ---- a clause

-- The sides look up nothing, and the value itself what it may.
pub sims_this : {ns : List ℕ} {x : Join} {z : Split} {m n : Memory} → sides_stored m.store x z.left z.right ≡ true
    → Simulates ns (λ t u. RealOf t x.node z.value) (λ t u. look_up t (real x.node z.value) u) m n
    → Simulates ns (λ t u. ClauseIn t x z) (λ t u. each (look_up t) (looks_of t (clause_of t x z)) u) m n
unfolding sides_stored
sims_this {x = x} {z} {m} h d =
    let both = and_true (side_stored m.store x.left z.left) _ h in
    let side = direction (not z.only_if) in
    sims_looks (sims_stored_side x.left z.left side m both.0) (sims_stored_side x.right z.right side m both.1) d

pub sims_stored_real : {ns : List ℕ} {n v : ℕ} {m : Memory} → has_first m.store (store_at n + v) ≡ true
    → Simulates ns (λ t u. RealOf t n v) (λ t u. look_up t (real n v) u) m m
unfolding slot
sims_stored_real {n = n} {v} {m} h =
    sims_stored_key (real n v) (store_at n + v) m (λ t s l q. real_named l.bounded q) (λ t s l q. refl) h
