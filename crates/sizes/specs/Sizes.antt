-- The limits of a script and a log, the sizes of the code's tables and the places in them, for definitions and contracts. `src/lib.rt` has
-- the constants.
use Rattle.std.specs.Prelude.{ℕ, ◌+◌, ◌*◌}

-- ---- limits

-- The largest variable of a head, and the largest step.
abbrev pub most_head : ℕ
most_head = 100000000

-- The bytes of a script, and those of a log.
abbrev pub most_bytes : ℕ
most_bytes = 65536

abbrev pub most_leaves : ℕ
most_leaves = 64

abbrev pub most_joins : ℕ
most_joins = 255

abbrev pub most_nodes : ℕ
most_nodes = most_leaves + most_joins

-- The least bytes of a leaf's command, and of a join's.
abbrev pub leaf_bytes : ℕ
leaf_bytes = 2

abbrev pub join_bytes : ℕ
join_bytes = 7

-- The nodes of the smaller tables, and the bytes of a script that makes no more.
abbrev pub few_nodes : ℕ
few_nodes = 16

abbrev pub few_bytes : ℕ
few_bytes = 32

abbrev pub some_nodes : ℕ
some_nodes = 128

abbrev pub some_bytes : ℕ
some_bytes = 576

-- The values of a node: no more than there are leaves.
abbrev pub width : ℕ
width = most_leaves

-- The counters of steps and of clauses stop here. No log reaches it: a step takes two bytes at least.
abbrev pub step_stop : ℕ
step_stop = most_head + most_bytes

-- The next variable is no larger: each join takes one for each of its values.
abbrev pub most_variable : ℕ
most_variable = most_head + most_joins * width

-- ---- the table of the nodes: of the leaves in the order of their making the literals, then the node numbers; then a row for each node

-- The place of the first leaf's node number.
abbrev pub leaf_nodes : ℕ
leaf_nodes = most_leaves

-- The place of the first row.
abbrev pub nodes_start : ℕ
nodes_start = 2 * most_leaves

abbrev pub row : ℕ
row = 79

abbrev pub row_at : ℕ → ℕ
row_at n = nodes_start + row * n

-- In a row: the length; the output of value 1; 1 for a join, 0 for a leaf; the leaves below, a bit for each, in two numbers, the low one first; the
-- left side; the right side; the leaf list.
abbrev pub length_column : ℕ
length_column = 0

abbrev pub first_column : ℕ
first_column = 1

abbrev pub kind_column : ℕ
kind_column = 2

abbrev pub below_column : ℕ
below_column = 3

abbrev pub left_column : ℕ
left_column = 5

abbrev pub right_column : ℕ
right_column = 10

abbrev pub list_column : ℕ
list_column = 15

-- Of a side, after node, offset and limit: its length; the place of its window's first steps.
abbrev pub side_len_column : ℕ
side_len_column = 3

abbrev pub side_window_column : ℕ
side_window_column = 4

-- The places of these in the table.
abbrev pub first_at : ℕ → ℕ
first_at n = row_at n + first_column

abbrev pub kind_at : ℕ → ℕ
kind_at n = row_at n + kind_column

abbrev pub below_at : ℕ → ℕ
below_at n = row_at n + below_column

abbrev pub left_at : ℕ → ℕ
left_at n = row_at n + left_column

abbrev pub right_at : ℕ → ℕ
right_at n = row_at n + right_column

abbrev pub list_at : ℕ → ℕ
list_at n = row_at n + list_column

-- ---- the store: the places of the stored definitions in the order of their writing, three counters, then a row for each node

-- No definition takes fewer than eight bytes of a log.
abbrev pub trail : ℕ
trail = 8192

-- How many definitions are stored; the next step; how many clauses are written.
abbrev pub marks_at : ℕ
marks_at = trail

abbrev pub step_at : ℕ
step_at = trail + 1

abbrev pub clauses_at : ℕ
clauses_at = trail + 2

-- The place of the first row.
abbrev pub store_start : ℕ
store_start = trail + 3

abbrev pub store_row : ℕ
store_row = 134

abbrev pub store_at : ℕ → ℕ
store_at n = store_start + store_row * n

-- In a row: the first steps of the real definitions of the values 0 to 65; of a join, those of the window of its left side (the sum of value 0,
-- the rest), and of its right side; the directions held of the values 1 to 64, as a request names them.
abbrev pub left_window_column : ℕ
left_window_column = 66

abbrev pub right_window_column : ℕ
right_window_column = 68

-- The place before that of value 1.
abbrev pub held_column : ℕ
held_column = 69

abbrev pub left_window : ℕ → ℕ
left_window n = store_at n + left_window_column

abbrev pub right_window : ℕ → ℕ
right_window n = store_at n + right_window_column

abbrev pub held_at : ℕ → ℕ → ℕ
held_at n v = store_at n + held_column + v
