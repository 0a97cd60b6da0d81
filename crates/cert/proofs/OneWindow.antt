-- Windows of the same node, offset and number of outputs are one, limit set or not: they are looked up alike.
use mathlib.Core.Path.{◌≡◌, refl, sym, ◌∙◌, ap}
use mathlib.Core.List.{List, [], ◌∷◌}
use Prim.Native.Nat.{ℕ, zero, suc, ◌≤◌}
use native.Mathlib.Decide.{dec_le}
use native.Mathlib.Omega.{arith}
use Rattle.totdb.specs.Nodes.{IsWindow, Node, side_len, side_lit, keyed}
use Rattle.totdb.specs.declared.Side.{Side}
use Rattle.cert.specs.Definitions.{Direction, if, only_if, Definition, stored, window, one_def, window_def, side_def}
use Rattle.cert.proofs.Keyed.{short_side, window_side}
use Rattle.cert.proofs.SchemaCases.{three}

module _ (t : List Node) (s u : Side) (p : IsWindow s) (q : IsWindow u)
    (n : s.node ≡ u.node) (f : s.offset ≡ u.offset) (m : side_len t s ≡ side_len t u) where
  same_keyed : (i : ℕ) → keyed s i ≡ keyed u i
  unfolding keyed
  same_keyed zero = refl
  same_keyed (suc i) = omega arith

  pub same_window : (i : ℕ) (d : Direction) → side_def t s i d ≡ side_def t u i d
  same_window i d = by (dec_le (side_len t s) 1)
    where
      first : side_lit t s 1 ≡ side_lit t u 1
      first = unfold side_lit in rw (n, f)

      same : window_def s.node s.offset (side_len t s) (keyed s i) d ≡ window_def u.node u.offset (side_len t u) (keyed u i) d
      same = rw (m, same_keyed i, n, f)

      by : Dec (side_len t s ≤ 1) → side_def t s i d ≡ side_def t u i d
      by (yes h) = short_side t s i d h ∙ ap (λ (l : ℕ). one_def l i) first ∙ sym (short_side t u i d (omega arith))
      by (no h) = window_side t s i d (omega arith) p ∙ same ∙ sym (window_side t u i d (omega arith) q)

-- Of node 4, three outputs: outputs 2 and 3 with no limit and with a limit that reaches the end, and outputs 1 and 2.
side : ℕ → ℕ → Side
side f k = record { node = 4; offset = f; limit = k }

met_windows :
    ◌≡◌ {A = List Definition}
    (side_def three (side 1 0) 2 if ∷ side_def three (side 1 2) 2 if ∷ side_def three (side 0 2) 2 if ∷ side_def three (side 1 2) 0 only_if ∷ [])
    (stored (window 4 1 2) 3 ∷ stored (window 4 1 2) 3 ∷ stored (window 4 0 2) 3 ∷ stored (window 4 1 2) 0 ∷ [])
unfolding three side side_def
met_windows = refl
