-- `nodes::window_of` meets its contract: a leaf has no sides, and those of a join are asked in turn.
use Rattle.std.proofs.Common.{arith}
use mathlib.Core.Path.{sym, ◌∙◌}
use Rattle.sizes.specs.Sizes.{left_window, right_window}
use Rattle.nodes.proofs.Windows.{place_some, window_leaf, join_sides}
use Rattle.nodes.proofs.window_of.Goals as goal

pub returns-then-nodes-row-eq0 : goal.returns-then-nodes-row-eq0
returns-then-nodes-row-eq0 c = λ t tb h. rw (window_leaf tb _ _ _ c.args.i h (rw c.row_at-row.ensures at c.if-nodes-row-eq0.true))

pub shows-requires : goal.shows-requires
shows-requires c =
    let tb = c.requires.1 in
    let j = join_sides tb 0 0 0 c.args.i c.requires.2 (rw c.row_at-row.ensures at c.if-nodes-row-eq0.false) in
    (c.requires.0, tb, left_window c.args.i, j.left, rw c.row_at-row.ensures j.left_of)

pub returns-then-shows : goal.returns-then-shows
returns-then-shows c = λ t tb h.
    let j = join_sides tb c.args.s.node c.args.s.offset c.args.len c.args.i h (rw c.row_at-row.ensures at c.if-nodes-row-eq0.false) in
    let left = sym (c.shows.ensures t tb (left_window c.args.i) j.left (rw c.row_at-row.ensures j.left_of)) ∙ c.if-shows.true in
    rw (j.is, left, c.store_at-base.ensures) (sym (place_some (left_window c.args.i) (λ z. omega (arith, z))))

pub shows-requires-2 : goal.shows-requires-2
shows-requires-2 c =
    let tb = c.requires.1 in
    let j = join_sides tb 0 0 0 c.args.i c.requires.2 (rw c.row_at-row.ensures at c.if-nodes-row-eq0.false) in
    (c.requires.0, tb, right_window c.args.i, j.right, rw c.row_at-row.ensures j.right_of)

pub returns-then-shows-2 : goal.returns-then-shows-2
returns-then-shows-2 c = λ t tb h.
    let j = join_sides tb c.args.s.node c.args.s.offset c.args.len c.args.i h (rw c.row_at-row.ensures at c.if-nodes-row-eq0.false) in
    let left = sym (c.shows.ensures t tb (left_window c.args.i) j.left (rw c.row_at-row.ensures j.left_of)) ∙ c.if-shows.false in
    let right = sym (c.shows-2.ensures t tb (right_window c.args.i) j.right (rw c.row_at-row.ensures j.right_of)) ∙ c.if-shows-2.true in
    rw (j.is, left, right, c.store_at-base.ensures) (sym (place_some (right_window c.args.i) (λ z. omega (arith, z))))

pub returns : goal.returns
returns c = λ t tb h.
    let j = join_sides tb c.args.s.node c.args.s.offset c.args.len c.args.i h (rw c.row_at-row.ensures at c.if-nodes-row-eq0.false) in
    let left = sym (c.shows.ensures t tb (left_window c.args.i) j.left (rw c.row_at-row.ensures j.left_of)) ∙ c.if-shows.false in
    let right = sym (c.shows-2.ensures t tb (right_window c.args.i) j.right (rw c.row_at-row.ensures j.right_of)) ∙ c.if-shows-2.false in
    rw (j.is, left, right)
