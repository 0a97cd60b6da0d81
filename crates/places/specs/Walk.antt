-- The clauses of a log found by places, as the code reads them: any bytes are read to their end.
use Rattle.std.specs.Prelude.{Bool, true, false, cond, Option, Some, None, List, [], ◌∷◌, map, ℕ, zero, suc, ◌+◌, ◌*◌, ◌/◌, eqb, ltb, length}
use Rattle.sizes.specs.Sizes.{most_bytes}
use Rattle.number.specs.Number.{read_at}
use Rattle.places.specs.declared.Item.{Item}
use Rattle.places.specs.declared.Numbers.{Numbers}

abbrev pub item : ℕ → ℕ → Item
item x e = record { value = x; end = e }

-- What a place reads as, in a log of n bytes: bytes that are no number are 0, to the log's end.
unfoldable pub read : ℕ → Option (ℕ × ℕ) → Item
read n (Some (x, e)) = item x e
read n None = item 0 n

abbrev pub item_at : List ℕ → ℕ → Item
item_at log at = read (length log) (read_at log at)

-- The place after a number.
abbrev pub after_number : List ℕ → ℕ → ℕ
after_number log at = (item_at log at).end

-- The place after a token. Tokens 2 (add) and 4 (saturate) stand alone, and a number follows the others.
unfoldable pub after_token : List ℕ → ℕ → ℕ
unfolding read
after_token log at =
    let t = item_at log at in
    cond (eqb t.value 2) t.end (cond (eqb t.value 4) t.end (item_at log t.end).end)

-- The place after k numbers, or k tokens, by the place after one.
unfoldable pub skip : (ℕ → ℕ) → ℕ → ℕ → ℕ
skip next zero at = at
skip next (suc k) at = skip next k (next at)

-- The place after a record: kind, then what the kind has.
unfoldable pub after_record : List ℕ → ℕ → ℕ
unfolding read skip after_token
after_record log at =
    let kind = item_at log at in
    let first = item_at log kind.end in
    let second = item_at log first.end in
    cond (eqb kind.value 1) (skip (after_number log) (2 * second.value + 1) second.end)
    (cond (eqb kind.value 2) (skip (after_token log) first.value first.end)
    (cond (eqb kind.value 3) (skip (after_number log) second.value second.end) (skip (after_number log) first.value first.end)))

-- k numbers.
unfoldable pub numbers_at : List ℕ → ℕ → ℕ → List ℕ
unfolding read
numbers_at log zero at = []
numbers_at log (suc k) at = (item_at log at).value ∷ numbers_at log k (item_at log at).end

-- The numbers that an iterator over numbers has left.
abbrev pub numbers_left : Numbers → List ℕ
numbers_left n = numbers_at n.log.now n.left n.at

-- The literals of a clause whose count is at a place.
unfoldable pub clause_at : List ℕ → ℕ → List ℕ
unfolding numbers_at read
clause_at log at = let count = item_at log at in numbers_at log count.value count.end

-- Whether a clause is at a place, and the place of its count.
abbrev pub is_clause : List ℕ → ℕ → Bool
is_clause log at = eqb (item_at log at).value 3

abbrev pub count_place : List ℕ → ℕ → ℕ
count_place log at = (item_at log (item_at log at).end).end

-- The places of the counts of the clauses, from a place on. The bound on the recursion is the log's length: every record takes a byte.
unfoldable pub places_from : List ℕ → ℕ → ℕ → List ℕ
unfolding after_record read
places_from log zero at = []
places_from log (suc k) at =
    let rest = places_from log k (after_record log at) in
    elim (ltb at (length log)) [ true ↦ cond (is_clause log at) (count_place log at ∷ rest) rest | false ↦ [] ]

abbrev pub clause_places : List ℕ → List ℕ
clause_places log = places_from log (length log) 0

-- The clauses of a log, in its order.
unfoldable pub clauses_at : List ℕ → List (List ℕ)
unfolding places_from clause_at
clauses_at log = map (clause_at log) (clause_places log)

-- They are no more than this: a clause takes three bytes, or is cut off by the end.
abbrev pub most_clauses : ℕ
most_clauses = (most_bytes + 2) / 3
