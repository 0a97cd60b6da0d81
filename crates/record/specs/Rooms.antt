-- A closure that pushes a record where it has room: what is asked of it, and what it writes. `pre` and `post` are those of its calls.
use Rattle.std.specs.Prelude.{List, ℕ, ◌+◌, ◌≤◌, length}
use denote.Ref.{MutBor}
use Rattle.record.specs.Writing.{buffer, Puts}

-- It may be called where so many bytes are free.
abbrev pub MayPush : (MutBor (List ℕ) → ℕ → Type 0) → ℕ → Type 0
MayPush pre room = (l : MutBor (List ℕ)) (a : ℕ) → a + room ≤ length l.now → pre l a

-- It takes no more.
abbrev pub Within : (MutBor (List ℕ) → ℕ → ℕ → MutBor (List ℕ) → Type 0) → ℕ → Type 0
Within post room = (l : MutBor (List ℕ)) (a e : ℕ) (m : MutBor (List ℕ)) → a + room ≤ length l.now → post l a e m → e ≤ a + room

-- It writes the numbers ns.
abbrev pub Pushes : (MutBor (List ℕ) → ℕ → ℕ → MutBor (List ℕ) → Type 0) → ℕ → List ℕ → Type 0
Pushes post room ns =
    (l : MutBor (List ℕ)) (a e : ℕ) (m : MutBor (List ℕ)) → a + room ≤ length l.now → post l a e m → Puts (buffer l.now a) ns (buffer m.now e)
