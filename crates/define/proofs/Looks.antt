-- Lookups: of a key that is stored, of one that is not, and where the log is too short.
use mathlib.Core.Path.{◌≡◌, refl, ap, subst, ◌∙◌}
use mathlib.Core.Logic.{⊎_elim}
use mathlib.Core.List.{List, [], flat_map, Memᴰ}
use Prim.Native.Nat.{ℕ, ◌≤◌}
use native.Mathlib.Omega.{arith}
use lib.ListN.{length, get_or}
use Rattle.memo.specs.Closure.{Reach, reach_here, reach_down}
use Rattle.memo.specs.Visit.{each, dec_memᴰ}
use Rattle.memo.proofs.Machine.{asks_serve}
use Rattle.memo.proofs.Unrolled.{ask_all, ask_there, ask_new}
use Rattle.record.specs.Record.{numbers, steps, bytes}
use Rattle.record.specs.Writing.{buffer, Onward, Puts}
use Rattle.record.proofs.Writing.{stays, onward_then}
use Rattle.totdb.specs.Nodes.{Node}
use Rattle.cert.specs.Definitions.{Key, window_zero, window, pulls, key_records, window_reals}
use Rattle.cert.specs.Equal.{key_dec, key_rank}
use Rattle.cert.specs.State.{State, keys, step_in, define, look_up}
use Rattle.cert.proofs.Fits.{KeyFits, key_falls}
use Rattle.cert.proofs.Serving.{define_keys}
use Rattle.rows.specs.Rows.{Table}
use Rattle.define.specs.Store.{Used, WindowOf, slot, key_stored}
use Rattle.define.specs.Represents.{Memory, memory, Exact, Represents, exact, Represented, Simulates}
use Rattle.define.specs.Lookups.{New}
use Rattle.define.proofs.Defines.{defined}
use Rattle.define.proofs.Entries.{from_missing}
use Rattle.define.proofs.Simulates.{grown, Grows, exact_of, sims_open}
use Rattle.define.proofs.Slots.{Named, window_named}

-- ---- a log that was too short stays too short

pub define_grows : (k : Key) → Grows (λ t s. define t k s)
unfolding define
define_grows k t s = grown s (define t k s) (key_records (step_in s.stored) t k) refl

pub look_up_grows : (k : Key) → Grows (λ t s. look_up t k s)
unfolding look_up
look_up_grows k t s =
    ask_all key_dec pulls key_rank keys (define t) (λ u. length (bytes s.log) ≤ length (bytes u.log))
    (λ j u y. omega (arith, y, define_grows j t u)) k s (omega arith)

-- ---- a key that is stored, and one that is not

module _ (t : List Node) (k : Key) (fits : KeyFits t k) (s : State) where
  look_up_there : Memᴰ k (keys s) → look_up t k s ≡ s
  unfolding look_up
  look_up_there h = ask_there key_dec (key_falls t) keys (define t) k fits s h

  look_up_new : ¬ Memᴰ k (keys s) → look_up t k s ≡ define t k (each (look_up t) (pulls k) s)
  unfolding look_up
  look_up_new h = ask_new key_dec (key_falls t) keys (define t) k fits s h

  -- After its pulls the key is still not stored.
  reach_low : {a b : Key} → KeyFits t a → Reach pulls a b → key_rank b ≤ key_rank a
  reach_low g (reach_here e) = rw e (omega arith)
  reach_low {a} g (reach_down {c = d} h r) =
      omega (arith, (key_falls t).lower a d g h, reach_low ((key_falls t).good a d g h) r)

  still_new : ¬ Memᴰ k (keys s) → New k (each (look_up t) (pulls k) s)
  unfolding look_up
  still_new h =
      let z = asks_serve key_dec (key_falls t) keys (define t) (define_keys t) (pulls k) (λ j i. (key_falls t).good k j fits i) s in
      record {
        new = λ i. ⊎_elim h
            (λ f. let low = (key_falls t).lower k f.0 fits f.1 in
            absurd (omega (arith, low, reach_low ((key_falls t).good k f.0 fits f.1) f.2)))
            (z.only k i);
      }

-- Whether it is stored, by the store.
module _ {c : ℕ} {t : List Node} {m : Memory} {s : State} (ex : Exact c t m s) (k : Key) (used : Used t k) where
  pub there : (get_or m.store (slot t k) 0 ≡ 0 → ⊥) → Memᴰ k (keys s)
  unfolding keys
  there h = by (dec_memᴰ key_dec k (keys s))
    where
      by : Dec (Memᴰ k (keys s)) → Memᴰ k (keys s)
      by (yes i) = i
      by (no i) = absurd (h (ex.stores.firsts.is k used ∙ from_missing s.stored k i))

  not_there : get_or m.store (slot t k) 0 ≡ 0 → ¬ Memᴰ k (keys s)
  not_there h i = omega (arith, h, ex.stores.firsts.is k used, ex.consistent.from_one k i)

-- ---- the code of a lookup

module _ {ns : List ℕ} {P : List Node → State → Type 0} (k : Key) (p : ℕ) (m : Memory) (h : m.at ≤ length m.log)
    (named : (t : List Node) (s : State) → Table ns t → P t s → Named t k) (place : (t : List Node) (s : State) → Table ns t → P t s → slot t k ≡ p) where
  -- The key is stored.
  pub sims_there : (get_or m.store p 0 ≡ 0 → ⊥) → Simulates ns P (λ t s. look_up t k s) m m
  sims_there f = sims_open h stays
      (λ c t s l q x. let u = named t s l q in
      rw (look_up_there t k u.fits s (there x k u.used (rw (← place t s l q) at f))) (exact x))

  -- Its records are written.
  pub sims_define : {store' log' : List ℕ} {a : ℕ} (n : ℕ)
      → ((c : ℕ) (t : List Node) (s : State) → Table ns t → P t s → New k s → Exact c t m s
      → Puts (buffer m.log m.at) (flat_map numbers (key_records (step_in s.stored) t k)) (buffer log' a))
      → Onward (buffer m.log m.at) (buffer log' a)
      → ((t : List Node) (s : State) (g : Key → ℕ → ℕ) → Table ns t → P t s → n ≡ steps (key_records g t k))
      → store' ≡ key_stored p n m.store
      → Simulates ns (λ t s. P t s × New k s) (λ t s. define t k s) m (memory store' log' a)
  sims_define n w on count is =
      sims_open h on
      (λ c t s l q x.
      defined l.bounded x k (named t s l q.0).used q.1.new n (w c t s l q.0 q.1 x) (count t s (step_in s.stored) l q.0)
      (rw (place t s l q.0) is))

  -- A key that pulls in nothing.
  pub sims_new : {r : Memory} → pulls k ≡ [] → get_or m.store p 0 ≡ 0
      → Simulates ns (λ t s. P t s × New k s) (λ t s. define t k s) m r → Simulates ns P (λ t s. look_up t k s) m r
  sims_new {r} none f d = sims_open h d.onward
      (λ c t s l q x.
      let u = named t s l q in
      let i = not_there x k u.used (rw (← place t s l q) at f) in
      let e : look_up t k s ≡ define t k s = look_up_new t k u.fits s i ∙ ap (λ (ks : List Key). define t k (each (look_up t) ks s)) none
      ∙ (unfold each in refl) in
      rw e (d.does c t s l (q, record { new = i }) (exact x)))

-- The sum of value 0, the real definitions, then the rest.
module _ {ns : List ℕ} {P : List Node → Type 0} (n f m slot' : ℕ) {p a b : Memory} (h : p.at ≤ length p.log)
    (z : get_or p.store slot' 0 ≡ 0) (shown : (t : List Node) → Table ns t → P t → WindowOf t n f m)
    (place : (t : List Node) → Table ns t → P t → slot t (window n f m) ≡ slot')
    (first : Simulates ns (λ t s. P t) (λ t s. look_up t (window_zero n f m) s) p a)
    (second : Simulates ns (λ t s. P t) (λ t s. each (look_up t) (window_reals n f m) s) a b) where
  abbrev pulled : List Node → State → State
  pulled t s = each (look_up t) (window_reals n f m) (look_up t (window_zero n f m) s)

  same : (t : List Node) (s : State) → each (look_up t) (pulls (window n f m)) s ≡ pulled t s
  unfolding each pulls
  same t s = refl

  pulled_stands : (c : ℕ) (t : List Node) (s : State) → Table ns t → P t → Represents c t p s → Represents c t b (pulled t s)
  pulled_stands c t s l q x = second.does c t _ l q (first.does c t s l q x)

  missing : (c : ℕ) (t : List Node) (s : State) → Table ns t → P t → Exact c t p s → ¬ Memᴰ (window n f m) (keys s)
  missing c t s l q x =
      not_there x (window n f m) (window_named l.bounded (shown t l q)).used (rw (← place t l q) at z)

  pulled_new : (c : ℕ) (t : List Node) (s : State) → Table ns t → P t → Exact c t p s → New (window n f m) (pulled t s)
  pulled_new c t s l q x =
      let u = window_named l.bounded (shown t l q) in
      subst (New (window n f m)) (same t s) (still_new t (window n f m) u.fits s (missing c t s l q x))

  pub sims_window : {r : Memory}
      → Simulates ns (λ t s. P t × New (window n f m) s) (λ t s. define t (window n f m) s) b r
      → Simulates ns (λ t s. P t) (λ t s. look_up t (window n f m) s) p r
  sims_window third = sims_open h (onward_then first.onward (onward_then second.onward third.onward))
      (λ c t s l q x.
      let u = window_named l.bounded (shown t l q) in
      rw (look_up_new t (window n f m) u.fits s (missing c t s l q x), same t s)
      (third.does c t _ l (q, pulled_new c t s l q x) (pulled_stands c t s l q (exact x))))

  -- What the rest needs.
  pub rest_represented : Represented ns (λ t s. P t) p → Represented ns (λ t s. P t × New (window n f m) s) b
  rest_represented s = record {
    capacity = s.capacity;
    nodes = s.nodes;
    state = pulled s.nodes s.state;
    table = s.table;
    holds = (
      s.holds,
      pulled_new s.capacity s.nodes s.state s.table s.holds (exact_of h s.represents),
    );
    represents = pulled_stands s.capacity s.nodes s.state s.table s.holds s.represents;
  }
