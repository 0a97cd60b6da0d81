-- A script at a place: what its reader comes to, number by number, as the code has it.
use Rattle.std.specs.Prelude.{Option, Some, None, ok_or, Result, Ok, Err}
use mathlib.Core.Path.{◌≡◌, refl, sym, ap, ◌∙◌}
use mathlib.Core.Bool.{Bool, true, false}
use mathlib.Core.List.{List}
use Prim.Native.Nat.{ℕ, zero, suc, ◌-◌, ◌≤◌, ◌<◌}
use native.Mathlib.Omega.{arith}
use lib.ListN.{length, drop, length-drop, drop_of_length-le}
use lib.Seq.{drop-cons}
use Rattle.number.specs.Number.{groups, read_at}
use Rattle.number.proofs.Places.{read_from-number, read_from-bad}
use Rattle.totdb.specs.declared.Side.{Side}
use Rattle.cert.specs.State.{Head}
use Rattle.player.specs.Refusals.{numbered}
use Rattle.player.specs.Script.{Next, command, refuse, get, get_three, get_side, arguments, read_command, read_commands, Script, script, headless, read_script}
use Rattle.player.specs.Places.{placed, arguments_at, followed, next_at, read_on, read_on_three, triple_at, side_at, leaf_at, join_at, request_at, head_at}
use Rattle.player.specs.declared.Command.{Command}
use Rattle.player.specs.declared.Refusal.{Refusal}

-- The script after its head.
abbrev pub headed : List ℕ → Option (Head × ℕ) → Script
headed s (Some (h, e)) = script h (read_commands (length s - e) false (drop e s))
headed s None = headless

-- What follows a code, where question 2 is answered no if it does not read.
abbrev pub or_no_number : Option (Command × ℕ) → Result (Option (Command × ℕ)) ℕ
or_no_number r = followed (numbered (ok_or r Refusal.NoNumber))

module _ (s : List ℕ) where
  -- A reader that takes a number and goes on, by places: φ is what becomes of what is read.
  placed_get : {B : Type 0} (at : ℕ) (f : ℕ → List ℕ → Next) (φ : Option B → Result (Option (Command × ℕ)) ℕ) (g : ℕ → ℕ → Option B) → φ None ≡ Err 2
      → ((x e : ℕ) → e ≤ length s → placed s (f x (drop e s)) ≡ φ (g x e)) → placed s (get (drop at s) f) ≡ φ (read_on (read_at s at) g)
  unfolding get placed
  placed_get at f φ g n h = by (read_at s at) refl
    where
      by : (r : Option (ℕ × ℕ)) → read_at s at ≡ r → placed s (get (drop at s) f) ≡ φ (read_on r g)
      by (Some (x, e)) p = let q = read_from-number groups s at p in rw (q.0, get) (h x e q.2)
      by None p = rw (read_from-bad groups s at p, get) (sym n)

  -- ---- a command

  placed_command : (c : Command) (e : ℕ) → e ≤ length s → placed s (command c (drop e s)) ≡ Ok (Some (c, e))
  unfolding placed
  placed_command c e h = rw (length-drop e s) (ap (λ (n : ℕ). Ok (Some (c, n))) (omega arith))

  -- The same with three numbers, and with a side.
  placed_three : {B : Type 0} (at : ℕ) (f : ℕ → ℕ → ℕ → List ℕ → Next) (φ : Option B → Result (Option (Command × ℕ)) ℕ) (g : ℕ → ℕ → ℕ → ℕ → Option B)
      → φ None ≡ Err 2 → ((x y z e : ℕ) → e ≤ length s → placed s (f x y z (drop e s)) ≡ φ (g x y z e))
      → placed s (get_three (drop at s) f) ≡ φ (read_on_three (triple_at s at) g)
  placed_three at f φ g n h =
      let ψ = λ (r : Option ((ℕ × ℕ × ℕ) × ℕ)). φ (read_on_three r g) in
      placed_get at _ ψ _ n (λ x a _. placed_get a _ ψ _ n (λ y b _. placed_get b _ ψ _ n (λ z e. h x y z e)))

  placed_side : (at : ℕ) (f : Side → List ℕ → Next) (g : Side → ℕ → Option (Command × ℕ))
      → ((d : Side) (e : ℕ) → e ≤ length s → placed s (f d (drop e s)) ≡ or_no_number (g d e))
      → placed s (get_side (drop at s) f) ≡ or_no_number (read_on (side_at s at) g)
  placed_side at f g h = placed_three at _ (λ r. or_no_number (read_on r g)) _ refl (λ x y z e. h _ e)

  module _ (at : ℕ) where
    pub arguments_leaf : arguments_at 1 s at ≡ or_no_number (leaf_at s at)
    unfolding arguments
    arguments_leaf = placed_get at _ or_no_number _ refl (λ l. placed_command (Command.Leaf l))

    pub arguments_join : arguments_at 2 s at ≡ or_no_number (join_at s at)
    unfolding arguments
    arguments_join =
        placed_side at (λ l q. get_side q (λ r. command (Command.Join l r))) _ (λ l a _.
        placed_side a (λ r. command (Command.Join l r)) _ (λ r. placed_command (Command.Join l r)))

    pub arguments_request : arguments_at 3 s at ≡ or_no_number (request_at s at)
    unfolding arguments
    arguments_request = placed_three at _ or_no_number _ refl (λ n v d. placed_command (Command.Request n v d))

    pub arguments_close : at ≤ length s → arguments_at 4 s at ≡ Ok (Some (Command.Close, at))
    unfolding arguments
    arguments_close h = placed_command Command.Close at h

    pub arguments_none : (c : ℕ) → ¬ (c ≡ 1) → ¬ (c ≡ 2) → ¬ (c ≡ 3) → ¬ (c ≡ 4) → arguments_at c s at ≡ Err 5
    unfolding arguments placed
    arguments_none zero p q r t = refl
    arguments_none (suc zero) p q r t = absurd (p refl)
    arguments_none (suc (suc zero)) p q r t = absurd (q refl)
    arguments_none (suc (suc (suc zero))) p q r t = absurd (r refl)
    arguments_none (suc (suc (suc (suc zero)))) p q r t = absurd (t refl)
    arguments_none (suc (suc (suc (suc (suc c))))) p q r t = refl

    -- ---- a code

    pub code_end : (closed : Bool) → length s ≤ at → next_at closed s at ≡ Ok None
    unfolding read_command placed
    code_end closed h = rw (drop_of_length-le s h)

    next_get : (closed : Bool) → at < length s
        → next_at closed s at ≡ placed s (get (drop at s) (λ c r. elim closed [ true ↦ refuse 4 | false ↦ arguments c r ]))
    unfolding read_command
    next_get closed h = rw (drop-cons s at 0 h)

    pub code_bad : (closed : Bool) → at < length s → read_at s at ≡ None → next_at closed s at ≡ Err 2
    unfolding get placed
    code_bad closed h p = next_get closed h ∙ rw (read_from-bad groups s at p, get)

    module _ {c e : ℕ} (h : at < length s) (p : read_at s at ≡ Some (c, e)) where
      pub code_closed : next_at true s at ≡ Err 4
      unfolding get placed
      code_closed = next_get true h ∙ rw ((read_from-number groups s at p).0, get)

      pub code_open : next_at false s at ≡ arguments_at c s e
      unfolding get placed
      code_open = next_get false h ∙ rw ((read_from-number groups s at p).0, get)

  -- ---- the head

  -- A script is its head, and its commands from there.
  pub script_head : read_script s ≡ headed s (head_at s)
  unfolding read_script
  script_head = by (read_at s 0) refl
    where
      by : (r : Option (ℕ × ℕ)) → read_at s 0 ≡ r
          → read_script s ≡ headed s (read_on r (λ v a. read_on (read_at s a) (λ n e. Some (record { variable = v; step = n }, e))))
      by None p = rw (read_from-bad groups s 0 p, read_script)
      by (Some (v, a)) p = go (read_at s a) refl
        where
          go : (r : Option (ℕ × ℕ)) → read_at s a ≡ r → read_script s ≡ headed s (read_on r (λ n e. Some (record { variable = v; step = n }, e)))
          go None q = rw ((read_from-number groups s 0 p).0, read_script, read_from-bad groups s a q)
          go (Some (n, e)) q = rw ((read_from-number groups s 0 p).0, read_script, (read_from-number groups s a q).0, length-drop e s)
