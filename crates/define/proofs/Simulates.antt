-- What functions do, composed: one act after the other, under a stronger premise, and by whether the log has room.
use mathlib.Core.Path.{◌≡◌, refl}
use mathlib.Core.List.{List, ◌++◌}
use Prim.Native.Nat.{ℕ, ◌≤◌, ◌<◌}
use native.Mathlib.Omega.{arith}
use lib.ListN.{length}
use Rattle.sizes.specs.Sizes.{store_at}
use Rattle.record.specs.Record.{Record, bytes}
use Rattle.record.specs.Writing.{buffer, Onward}
use Rattle.record.proofs.Bytes.{length_bytes}
use Rattle.record.proofs.Writing.{stays, onward_then, not_over}
use Rattle.totdb.specs.Nodes.{Node}
use Rattle.cert.specs.State.{State}
use Rattle.rows.specs.Rows.{Table}
use Rattle.define.specs.Represents.{Memory, memory, Exact, Represents, exact, over, Represented, Simulates}

-- ---- a log that was too short stays too short

abbrev pub Grows : (List Node → State → State) → Type 0
Grows f = (t : List Node) (s : State) → length (bytes s.log) ≤ length (bytes (f t s).log)

pub grown : (s u : State) (rs : List Record) → u.log ≡ s.log ++ rs → length (bytes s.log) ≤ length (bytes u.log)
grown s u rs e = rw e (omega (arith, length_bytes s.log rs))

-- ---- the two cases

pub open_log : {c : ℕ} {t : List Node} {m : Memory} {s : State} → Exact c t m s → m.at ≤ length m.log
open_log {m = m} x = not_over m.log m.at x.logged.is

pub exact_of : {c : ℕ} {t : List Node} {m : Memory} {s : State} → m.at ≤ length m.log → Represents c t m s → Exact c t m s
exact_of h (exact x) = x
exact_of h (over x) = absurd (omega (arith, x.size, x.past))

pub store_room : {c : ℕ} {t : List Node} {m : Memory} {s : State} → Represents c t m s → store_at (length t) ≤ length m.store
store_room (exact x) = x.stores.room
store_room (over x) = x.room

-- ---- acts

module _ {ns : List ℕ} {P : List Node → State → Type 0} where
  pub sims_none : {m : Memory} → Simulates ns P (λ t s. s) m m
  sims_none = record { does = λ c t s l p x. x; onward = stays }

  pub sims_under : {Q : List Node → State → Type 0} {f : List Node → State → State} {m n : Memory}
      → ((t : List Node) (s : State) → Table ns t → P t s → Q t s) → Simulates ns Q f m n → Simulates ns P f m n
  sims_under h d = record { does = λ c t s l p x. d.does c t s l (h t s l p) x; onward = d.onward }

  pub sims_same : {f g : List Node → State → State} {m n : Memory} → ((t : List Node) (s : State) → Table ns t → P t s → f t s ≡ g t s)
      → Simulates ns P f m n → Simulates ns P g m n
  sims_same {f} {g} {m} {n} h d = record { does = λ c t s l p x. rw (← h t s l p) (d.does c t s l p x); onward = d.onward }

  -- Where the log was too short nothing is written, and the store is open.
  pub sims_past : {f : List Node → State → State} {m : Memory} {store : List ℕ} → Grows f → length m.log < m.at → length store ≡ length m.store
      → Simulates ns P f m (memory store m.log m.at)
  sims_past {f} {m} {store} g h e = record { does = λ c t s l p x. by c t s x; onward = stays }
    where
      by : (c : ℕ) (t : List Node) (s : State) → Represents c t m s → Represents c t (memory store m.log m.at) (f t s)
      by c t s (exact x) = absurd (omega (arith, open_log x))
      by c t s (over x) = over (record { size = x.size; past = x.past; room = omega (arith, e, x.room); more = omega (arith, x.more, g t s) })

  pub sims_full : {f : List Node → State → State} {m : Memory} → Grows f → length m.log < m.at → Simulates ns P f m m
  sims_full g h = sims_past g h refl

  -- Where it was not, the memory has the state.
  pub sims_open : {f : List Node → State → State} {m n : Memory} → m.at ≤ length m.log
      → Onward (buffer m.log m.at) (buffer n.log n.at)
      → ((c : ℕ) (t : List Node) (s : State) → Table ns t → P t s → Exact c t m s → Represents c t n (f t s)) → Simulates ns P f m n
  sims_open e on h = record { does = λ c t s l p x. h c t s l p (exact_of e x); onward = on }

module _ {ns : List ℕ} {P : List Node → Type 0} where
  pub sims_then : {f g : List Node → State → State} {m n k : Memory} → Simulates ns (λ t s. P t) f m n → Simulates ns (λ t s. P t) g n k
      → Simulates ns (λ t s. P t) (λ t s. g t (f t s)) m k
  sims_then {f} {g} d e = record {
    does = λ c t s l p x. e.does c t (f t s) l p (d.does c t s l p x);
    onward = onward_then d.onward e.onward;
  }

-- ---- what calls need

module _ {ns : List ℕ} {P Q : List Node → State → Type 0} (to : (t : List Node) (s : State) → Table ns t → P t s → Q t s) where
  pub represented_to : {m : Memory} → Represented ns P m → Represented ns Q m
  represented_to r = record {
    capacity = r.capacity;
    nodes = r.nodes;
    state = r.state;
    table = r.table;
    holds = to r.nodes r.state r.table r.holds;
    represents = r.represents;
  }

-- After a call.
module _ {ns : List ℕ} {P : List Node → Type 0} {Q : List Node → State → Type 0} (to : (t : List Node) (s : State) → Table ns t → P t → Q t s) where
  pub represented_after : {f : List Node → State → State} {m n : Memory} → Simulates ns Q f m n → Represented ns (λ t s. P t) m
      → Represented ns (λ t s. P t) n
  represented_after {f} d r = record {
    capacity = r.capacity;
    nodes = r.nodes;
    state = f r.nodes r.state;
    table = r.table;
    holds = r.holds;
    represents =
        d.does r.capacity r.nodes r.state r.table (to r.nodes r.state r.table r.holds) r.represents;
  }
