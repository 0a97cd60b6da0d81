-- What the a-th value of a side looks up: nothing for a side of length 1, a real definition for a plain side, else the window.
use mathlib.Core.Path.{◌≡◌}
use mathlib.Core.Bool.{true, false}
use mathlib.Core.List.{List, [], ◌∷◌}
use Prim.Native.Nat.{ℕ, ◌+◌, ◌-◌, ◌≤◌, ◌<◌}
use native.Mathlib.Omega.{arith}
use Rattle.sizes.specs.Sizes.{width}
use Rattle.memo.specs.Visit.{each}
use Rattle.record.proofs.Writing.{stays}
use Rattle.totdb.specs.Nodes.{IsWindow, Node, node_at, len, length_over, limited, plain_or, keyed, side_len, side_lit}
use Rattle.totdb.specs.declared.Side.{Side}
use Rattle.totdb.proofs.Sides.{plain_zero, plain_keyed}
use Rattle.cert.specs.Definitions.{Direction, real, window, side_def}
use Rattle.cert.specs.Requests.{key_of}
use Rattle.cert.specs.State.{look_up}
use Rattle.cert.proofs.Keyed.{short_side, plain_side, window_side, no_key, real_key, window_key}
use Rattle.rows.specs.Rows.{Bounded, Table}
use Rattle.rows.specs.declared.Shown.{Shown}
use Rattle.rows.proofs.Sides.{side_inside}
use Rattle.define.specs.Represents.{Memory, Represented, Simulates}
use Rattle.define.specs.Lookups.{RealOf, SideIn, SideWindow}

-- ---- the key of a value

plain_length : (s : Side) → plain_or s.offset s.limit true false ≡ true → (k : ℕ) → length_over s k ≡ k
unfolding limited
plain_length s p k =
    let z = plain_zero s.offset s.limit p in
    let e : k - 0 ≡ k = omega arith in
    rw (z.0, z.1, e)

module _ (t : List Node) (s : Side) (a : ℕ) (d : Direction) where
  short_keys : side_len t s ≤ 1 → key_of (side_def t s a d) ≡ []
  short_keys h = rw (short_side t s a d h) (no_key (side_lit t s 1) a)

  plain_keys : 1 < side_len t s → plain_or s.offset s.limit true false ≡ true → key_of (side_def t s a d) ≡ real s.node (keyed s a) ∷ []
  plain_keys h p = rw (plain_side t s a d h p, plain_keyed s p a) (real_key s.node a d)

  side_keys_lem : 1 < side_len t s → IsWindow s
      → key_of (side_def t s a d) ≡ window s.node s.offset (side_len t s) ∷ []
  side_keys_lem h p = rw (window_side t s a d h p) (window_key s.node s.offset (side_len t s) (keyed s a) d)

pub plain_value : {t : List Node} {s : Shown} {a : ℕ} → Bounded t → 1 < s.len → plain_or s.side.offset s.side.limit true false ≡ true
    → SideIn t s a → RealOf t s.side.node (keyed s.side a)
unfolding side_len
plain_value {t} {s} {a} b long p i =
    let q = side_inside b i.shown.of in
    let k = plain_length s.side p (len (node_at t s.side.node)) in
    let e = i.shown.length in
    record {
      there = q.0;
      long = omega (arith, k, e, long);
      value = omega (arith, plain_keyed s.side p a, k, e, i.value);
    }

-- ---- the code of a side's lookup

abbrev SideLooks : List ℕ → Shown → ℕ → Direction → Memory → Memory → Type 0
SideLooks ns s a d m n =
    Simulates ns (λ t u. SideIn t s a) (λ t u. each (look_up t) (key_of (side_def t s.side a d)) u) m n

module _ {ns : List ℕ} (s : Shown) (a : ℕ) where
  pub side_bounds : {m : Memory} → Represented ns (λ t u. SideIn t s a) m → (s.side.offset ≤ width) × (a ≤ width + 1)
  side_bounds h =
      let i = h.holds in
      let b = h.table.bounded in
      let q = side_inside b i.shown.of in
      let short = b.short s.side.node q.0 in
      (omega (arith, q.1, short), omega (arith, q.1, short, i.value, i.shown.length))

  module _ (long : 1 < s.len) where
    pub plain_in : plain_or s.side.offset s.side.limit true false ≡ true → (t : List Node) → Table ns t → SideIn t s a
        → RealOf t s.side.node (keyed s.side a)
    plain_in p t l i = plain_value l.bounded long p i

    pub plain_looks : (d : Direction) {m n : Memory} → plain_or s.side.offset s.side.limit true false ≡ true
        → Simulates ns (λ t u. RealOf t s.side.node (keyed s.side a)) (λ t u. look_up t (real s.side.node (keyed s.side a)) u) m n
        → SideLooks ns s a d m n
    unfolding each
    plain_looks d p x = record {
      does = λ c t u l q st.
          rw (plain_keys t s.side a d (omega (arith, long, q.shown.length)) p) (x.does c t u l (plain_in p t l q) st);
      onward = x.onward;
    }

    pub window_looks : (d : Direction) {m n : Memory} → IsWindow s.side
        → Simulates ns (λ t u. SideWindow t s) (λ t u. look_up t (window s.side.node s.side.offset s.len) u) m n
        → SideLooks ns s a d m n
    unfolding each
    window_looks d p x = record {
      does = λ c t u l q st.
          let e = q.shown.length in
          rw (side_keys_lem t s.side a d (omega (arith, long, e)) p, ← e) (x.does c t u l (record { shown = q.shown; window = p; long = long }) st);
      onward = x.onward;
    }

  pub short_looks : (d : Direction) {m : Memory} → s.len ≤ 1 → SideLooks ns s a d m m
  unfolding each
  short_looks d h = record {
    does = λ c t u l q st. rw (short_keys t s.side a d (omega (arith, h, q.shown.length))) st;
    onward = stays;
  }
