-- What a list of requests calls for: itself and, on down, all that is needed.
use Rattle.std.specs.Prelude.{◌≡◌}
use mathlib.Core.List.{List, Memᴰ}

module _ {Item : Type 0} (needs : Item → List Item) where
  -- `b` is `a`, or is reached from one of the needs of `a`.
  pub data Reach : Item → Item → Type 0 where
    reach_here : {a b : Item} → a ≡ b → Reach a b
    reach_down : {a b c : Item} → Memᴰ c (needs a) → Reach c b → Reach a b

  -- `b` is in the closure of `xs`.
  abbrev pub From : List Item → Item → Type 0
  From xs b = (a : Item) × Memᴰ a xs × Reach a b

-- Two lists with the same members.
abbrev pub SameMembers : {A : Type 0} → List A → List A → Type 0
SameMembers {A} xs ys = (a : A) → (Memᴰ a xs → Memᴰ a ys) × (Memᴰ a ys → Memᴰ a xs)
