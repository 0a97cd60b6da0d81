-- `text::spaced` meets its contract: the space, then the number.
use Rattle.std.proofs.Common.{arith}
use mathlib.Core.Path.{◌≡◌}
use mathlib.Core.List.{[], ◌∷◌}
use Prim.Native.Nat.{ℕ}
use Rattle.text.specs.Text.{Page, Prints, decimal, spaced}
use Rattle.text.proofs.Laws.{after}
use Rattle.text.proofs.spaced.Goals as goal

after-space : {p q r : Page} {b x y : ℕ} → Prints p (b ∷ []) q → Prints q (decimal x) r → b ≡ 32 → x ≡ y → Prints p (spaced y) r
after-space h k space is = rw (space, is) at (after h k)

pub returns : goal.returns
returns c =
    after-space c.put-end.ensures c.decimal.ensures (omega arith) (omega arith)
