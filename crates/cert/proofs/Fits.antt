-- The definitions that the clauses of a right request look up are inside their nodes.
use mathlib.Core.Logic.{⊎_elim}
use mathlib.Core.List.Memᴰ
use mathlib.Core.List.{List, Memᴰ}
use Prim.Native.Nat.{ℕ, suc, ◌+◌, ◌-◌, ◌≤◌, ◌<◌}
use native.Mathlib.Omega.{arith}
use lib.ListN.{length}
use Rattle.memo.proofs.Serve.{Falls}
use Rattle.totdb.specs.Nodes.{Node, len, node_at, side_len, join}
use Rattle.totdb.specs.declared.Side.{Side}
use Rattle.cert.specs.Definitions.{Key, real, window_zero, window, pulls, Direction, if, only_if, real_def, side_def}
use Rattle.cert.specs.Equal.{key_rank}
use Rattle.cert.specs.Requests.{Request, node_of, request, needs, Clause, definition, looks_of, clauses_of, if_clause, only_if_clause, Right}
use Rattle.cert.specs.Sized.{Sized, Fit}
use Rattle.cert.proofs.Apart.{right_needs, sized_ok, splits_mem}
use Rattle.cert.proofs.Rules.{In, needs_fall, AllKeys, node_keys, side_keys_lem, looks_all, ClauseForm, an_if, an_only_if, clause_form}
use Rattle.cert.proofs.Pulls.{pulls_mem}

-- A key inside its node.
unfoldable pub KeyFits : List Node → Key → Type 0
KeyFits t (real n v) = (n < length t) × (v ≤ len (node_at t n) + 1)
KeyFits t (window_zero n f m) = (n < length t) × (f + m ≤ len (node_at t n)) × (1 < m)
KeyFits t (window n f m) = (n < length t) × (f + m ≤ len (node_at t n)) × (1 < m)

pulls_fit : (t : List Node) (k j : Key) → KeyFits t k → Memᴰ j (pulls k) → KeyFits t j × (key_rank j < key_rank k)
unfolding pulls KeyFits key_rank
pulls_fit t (real n v) j g m = absurd (Memᴰ.not-nil m)
pulls_fit t (window_zero n f k) j g m = absurd (Memᴰ.not-nil m)
pulls_fit t (window n f k) j g m =
    ⊎_elim (λ e. rw e (g, omega arith)) (λ q. rw (← q.3) ((g.0, omega (arith, g.1, q.2)), omega arith)) (pulls_mem n f k j m)

pub key_falls : (t : List Node) → Falls pulls (KeyFits t) key_rank
key_falls t = record { good = λ k j g m. (pulls_fit t k j g m).0; lower = λ k j g m. (pulls_fit t k j g m).1 }

right_in : (t : List Node) (x : Request) → Right t x → In t x
unfolding In node_of Right
right_in t (request n v d) g = g.0

-- Right requests need right requests.
pub request_falls : (t : List Node) → Sized t → Falls (needs t) (Right t) node_of
request_falls t sz = record { good = right_needs t sz; lower = λ x y g m. (needs_fall t (sized_ok t sz)).lower x y (right_in t x g) m }

side_fits_lem : (t : List Node) (s : Side) (i : ℕ) (d : Direction) → s.node < length t → s.offset + side_len t s ≤ len (node_at t s.node)
    → i ≤ side_len t s + 1 → AllKeys (KeyFits t) (side_def t s i d)
unfolding KeyFits
side_fits_lem t s i d h g l = side_keys_lem (KeyFits t) t s i d (h, omega arith) (λ m. (h, g, m))

pub looked_fit : (t : List Node) → Sized t → (x : Request) (c : Clause) (k : Key) → Right t x → Memᴰ c (clauses_of t x) → Memᴰ k (looks_of t c)
    → KeyFits t k
unfolding clauses_of Right Fit Sized KeyFits definition if_clause only_if_clause
looked_fit t sz (request n v d) c k g m h = go (sz n g.0) (clause_form t n v (node_at t n) d c m) h
  where
    own : (d : Direction) → AllKeys (KeyFits t) (real_def n v d)
    own d = node_keys (KeyFits t) n v d (g.0, omega (arith, g.2))

    go : {x : Node} {d : Direction} {c : Clause} → Fit t n x → ClauseForm t n v x d c → Memᴰ k (looks_of t c) → KeyFits t k
    go f (an_if {ls = ls} {o = o} {l = l} {r = r} a m) h =
        let p = splits_mem v (side_len t l) (side_len t r) a m in
        looks_all (KeyFits t) t (if_clause t n (join ls o l r) l r v a) (side_fits_lem t l a only_if (omega (arith, f.0, g.0)) f.3 (omega (arith, p)))
        (side_fits_lem t r (v - a) only_if (omega (arith, f.1, g.0)) f.4 (omega (arith, p))) (own if) k h
    go f (an_only_if {ls = ls} {o = o} {l = l} {r = r} a m) h =
        let p = splits_mem (v - 1) (side_len t l) (side_len t r) a m in
        looks_all (KeyFits t) t (only_if_clause t n (join ls o l r) l r v a) (side_fits_lem t l (suc a) if (omega (arith, f.0, g.0)) f.3 (omega (arith, p)))
        (side_fits_lem t r (suc (v - 1 - a)) if (omega (arith, f.1, g.0)) f.4 (omega (arith, p))) (own only_if) k h
