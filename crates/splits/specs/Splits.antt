-- The clauses of a value, by the split of a sum over the two sides.
use Rattle.std.specs.Prelude.{Bool, true, false, ℕ, ◌+◌, ◌-◌}

-- The sum that is split: in an only-if clause each side has one more.
unfoldable pub split_sum : ℕ → Bool → ℕ
split_sum v true = v - 1
split_sum v false = v

-- The left side's value in the clause of the split a.
unfoldable pub left_value : ℕ → Bool → ℕ
left_value a true = a + 1
left_value a false = a
