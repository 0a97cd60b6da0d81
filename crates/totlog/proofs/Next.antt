-- What stands at a place of a script, and the commands from there on.
use mathlib.Core.Path.{◌≡◌, refl, sym, ◌∙◌, ap}
use mathlib.Core.Bool.{Bool}
use mathlib.Core.List.{List, [], ◌∷◌}
use Prim.Native.Nat.{ℕ, zero, suc, ◌+◌, ◌-◌, ◌≤◌, ◌<◌}
use native.Mathlib.Omega.{arith}
use Rattle.std.specs.Prelude.{Option, Some, None, Ok, Err}
use Rattle.std.proofs.lemmas.Option.{some_pair_parts}
use lib.ListN.{length, drop, length-append, length-drop}
use lib.Seq.{drop-append_seam, drop-drop}
use Rattle.player.specs.Places.{placed, next_at}
use Rattle.player.specs.Script.{Next, command, refuse, end, read_command, closes, stop, before, read_commands, command_numbers}
use Rattle.player.specs.declared.Command.{Command}
use Rattle.player.proofs.Coding.{refused_number}
use Rattle.player.proofs.NodeBytes.{command_takes}
use Rattle.player.proofs.Reading.{command_front}

-- ---- the reading at a place, taken back

module _ (s : List ℕ) where
  placed_end : (x : Next) → placed s x ≡ Ok None → x ≡ end
  unfolding placed
  placed_end (command c r) e = absurd (let z : ◌≡◌ {A = ℕ} 0 1 = cc in omega arith)
  placed_end (refuse n) e = absurd (let z : ◌≡◌ {A = ℕ} 0 1 = cc in omega arith)
  placed_end end e = refl

  placed_refuse : (x : Next) (n : ℕ) → placed s x ≡ Err n → x ≡ refuse n
  unfolding placed
  placed_refuse (command c r) n e = absurd (let z : ◌≡◌ {A = ℕ} 0 1 = cc in omega arith)
  placed_refuse (refuse m) n e = let p : m ≡ n = cc in ap refuse p
  placed_refuse end n e = absurd (let z : ◌≡◌ {A = ℕ} 0 1 = cc in omega arith)

  placed_command : (x : Next) (c : Command) (e : ℕ) → placed s x ≡ Ok (Some (c, e))
      → (r : List ℕ) × (x ≡ command c r) × (e ≡ length s - length r)
  unfolding placed
  placed_command (command d r) c e h =
      let some : ◌≡◌ {A = Option (Command × ℕ)} (Some (d, length s - length r)) (Some (c, e)) = cc in
      let p = some_pair_parts d c (length s - length r) e some in
      (r, ap (λ (k : Command). command k r) p.0, sym p.1)
  placed_command (refuse n) c e h = absurd (let z : ◌≡◌ {A = ℕ} 0 1 = cc in omega arith)
  placed_command end c e h = absurd (let z : ◌≡◌ {A = ℕ} 0 1 = cc in omega arith)

-- ---- the commands from a place on, with a bound on their number that is enough

module _ (s : List ℕ) (closed : Bool) (at fuel : ℕ) (inside : at ≤ length s) (enough : length s - at ≤ fuel) where
  rest_length : length (drop at s) ≡ length s - at
  rest_length = length-drop at s

  pub rest_end : next_at closed s at ≡ Ok None → read_commands fuel closed (drop at s) ≡ stop 0
  unfolding read_commands
  rest_end e = by fuel
    where
      by : (k : ℕ) → read_commands k closed (drop at s) ≡ stop 0
      by zero = refl
      by (suc k) = rw (placed_end s (read_command closed (drop at s)) e, read_commands)

  pub rest_refuse : (n : ℕ) → next_at closed s at ≡ Err n → (read_commands fuel closed (drop at s) ≡ stop n) × (0 < n)
  unfolding read_commands
  rest_refuse n e = (by fuel enough, (refused_number closed (drop at s) n is).0)
    where
      is : read_command closed (drop at s) ≡ refuse n
      is = placed_refuse s (read_command closed (drop at s)) n e

      none : (l : List ℕ) → length l ≡ 0 → read_command closed l ≡ refuse n → ⊥
      none [] z h = absurd (let k : end ≡ refuse n = (unfold read_command in refl) ∙ h in let y : ◌≡◌ {A = ℕ} 0 1 = cc in omega arith)
      none (b ∷ l) z h = omega arith

      by : (k : ℕ) → length s - at ≤ k → read_commands k closed (drop at s) ≡ stop n
      by zero h = absurd (none (drop at s) (omega (arith, rest_length)) is)
      by (suc k) h = rw (is, read_commands)

-- A command, and those after it.
pub record After (s : List ℕ) (closed : Bool) (at fuel : ℕ) (c : Command) (e : ℕ) : Type 0 where
  pub later : at < e
  pub takes : at + length (command_numbers c) ≤ e
  pub within : e ≤ length s
  pub left : ℕ
  pub still : length s - e ≤ left
  pub reads : read_commands fuel closed (drop at s) ≡ before c (read_commands left (closes c) (drop e s))

pub rest_command : (s : List ℕ) (closed : Bool) (at fuel : ℕ) → at ≤ length s → length s - at ≤ fuel → (c : Command) (e : ℕ)
    → next_at closed s at ≡ Ok (Some (c, e)) → After s closed at fuel c e
unfolding read_commands
rest_command s closed at fuel inside enough c e h =
    let r = placed_command s (read_command closed (drop at s)) c e h in
    let f = command_front closed (drop at s) c r.0 r.1 in
    let l : length s - at ≡ length f.0 + length r.0 =
    sym (length-drop at s) ∙ ap (λ (k : List ℕ). length k) f.1 ∙ length-append f.0 r.0 in
    let p : e ≡ at + length f.0 = omega (arith, r.2, l, f.2) in
    let q : drop e s ≡ r.0 =
    ap (λ (k : ℕ). drop k s) p ∙ sym (drop-drop (length f.0) at s) ∙ ap (λ (k : List ℕ). drop (length f.0) k) f.1
    ∙ drop-append_seam f.0 r.0 in
    by fuel enough r.0 r.1 (length f.0) f.2 l p (omega (arith, command_takes closed (drop at s) c r.0 r.1, length-drop at s)) q
  where
    by : (k : ℕ) → length s - at ≤ k → (r : List ℕ) → read_command closed (drop at s) ≡ command c r → (n : ℕ) → 0 < n
        → length s - at ≡ n + length r → e ≡ at + n → at + length (command_numbers c) ≤ e → drop e s ≡ r → After s closed at k c e
    by zero h r is n some l p t q = absurd (omega arith)
    by (suc k) h r is n some l p t q = record {
      later = omega arith;
      takes = t;
      within = omega arith;
      left = k;
      still = omega arith;
      reads = rw (is, read_commands, q);
    }
