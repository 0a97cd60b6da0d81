-- What a play begins with: a table of no nodes, a store of zeros but for the first step, and a log of which nothing is written.
use mathlib.Core.Path.{◌≡◌, refl, ◌∙◌, ap}
use mathlib.Core.List.Memᴰ
use mathlib.Core.List.{List, []}
use Prim.Native.Nat.{ℕ, zero, suc, ◌≤◌}
use native.Mathlib.Omega.{arith}
use lib.ListN.{length, get_or, set, replicate, length-set}
use lib.Seq.{get_or-set_same, get_or-set_other}
use Rattle.sizes.specs.Sizes.{most_bytes, row_at, marks_at, step_at, clauses_at}
use Rattle.record.specs.Record.{bytes, steps, clauses}
use Rattle.record.specs.Writing.{content, buffer, written}
use Rattle.record.proofs.Writing.{content_in}
use Rattle.totdb.specs.Nodes.{range, leaf_count}
use Rattle.totdb.specs.Leaves.{leaf_table}
use Rattle.cert.specs.Definitions.{Key, real, window_zero, window}
use Rattle.cert.specs.State.{Head, start, keys, from_in}
use Rattle.cert.proofs.Tables.{sized_nil}
use Rattle.rows.specs.Windows.{SideAt, at_left, at_right}
use Rattle.rows.specs.Rows.{Table}
use Rattle.define.specs.Store.{Used}
use Rattle.define.specs.Represents.{memory, Exact}
use Rattle.player.proofs.Formed.{formed_start, head_low}
use Rattle.commands.specs.Standing.{Standing, Room}
use Rattle.commands.specs.declared.Totals.{Totals}
use Rattle.totlog.specs.Entry.{Rows}
use Rattle.totlog.specs.declared.opened.Opened.{Opened}

-- ---- the tables

zero_at : (n i : ℕ) → ◌≡◌ {A = ℕ} (get_or (replicate n 0) i 0) 0
zero_at zero i = refl
zero_at (suc n) zero = refl
zero_at (suc n) (suc i) = zero_at n i

no_side : {p w : ℕ} {u : _} → SideAt [] p w u → ⊥
no_side (at_left n ls o l r h e) = omega arith
no_side (at_right n ls o l r h e) = omega arith

table_none : (ns : List ℕ) → row_at 0 ≤ length ns → Table ns []
table_none ns h = record {
  has = record {
    room = h;
    row = λ n h. absurd (omega arith);
    leaves = unfold leaf_count leaf_table range in refl;
  };
  bounded = record {
    few = omega arith;
    few_leaves = unfold leaf_count in omega arith;
    short = λ n h. absurd (omega arith);
    low = λ n i h. absurd (omega arith);
    sized = sized_nil;
  };
}

-- ---- a play begins

no_key : (k : Key) → Used [] k → ⊥
unfolding Used
no_key (real n v) u = omega (arith, u.0)
no_key (window_zero n f m) u = no_side u.shown.of
no_key (window n f m) u = no_side u.shown.of

abbrev pub begin : Head → Totals
begin h = record { at = 0; step = h.step; clauses = 0; nodes = 0; leaves = 0; variable = h.variable }

nothing_written : (h : Head) (log : List ℕ) → content (buffer log 0) ≡ written (bytes (start h).log)
unfolding start bytes
nothing_written h log = content_in log 0 (omega arith)

module _ (o : Opened) {capacity : ℕ} (small : capacity ≤ most_bytes) {ns store : List ℕ} (rows : Rows (length o.script.now) ns store)
    (zeros : store ≡ replicate (length store) 0) where
  -- The store, with the first step.
  abbrev begun : List ℕ
  begun = set store step_at o.head.step

  pub rows_begun : (n : ℕ) → Rows (length o.script.now) ns (set store step_at n)
  rows_begun n = record {
    room = λ leaves joins m.
        let r = rows.room leaves joins m in
        record { row = r.row; store_row = omega (arith, r.store_row, length-set store step_at n) };
  }

  -- The script has its head, and so a byte.
  pub first : Room ns store 0
  first = rows.room 0 0 (record { few_leaves = omega arith; few = omega arith; took = omega (arith, o.headed, o.inside) })

  blank : (i : ℕ) → (i ≡ step_at → ⊥) → get_or begun i 0 ≡ 0
  blank i e = get_or-set_other store step_at i o.head.step 0 e ∙ ap (λ (k : List ℕ). get_or k i 0) zeros ∙ zero_at (length store) i

  no_marks : get_or begun marks_at 0 ≡ 0
  no_marks = blank marks_at (λ e. absurd (omega arith))

  exact_start : (log : List ℕ) → length log ≡ capacity → Exact capacity [] (memory begun log 0) (start o.head)
  unfolding start keys
  exact_start log size = record {
    small = small;
    logged = record { size = size; is = unfold start in nothing_written o.head log };
    stores = record {
      room = omega (arith, first.store_row, length-set store step_at o.head.step);
      firsts = record { is = λ k u. absurd (no_key k u) };
      trail = record { count = no_marks; is = rw no_marks refl };
      counters = record {
        step = get_or-set_same store step_at o.head.step 0 (omega (arith, first.store_row));
        clauses = blank clauses_at (λ e. absurd (omega arith)) ∙ (unfold clauses in refl);
      };
      holds = record { is = λ n v i. absurd (omega arith) };
      blank = record { is = λ i b. blank i (λ e. absurd (omega arith)) };
    };
    consistent = record {
      one = (head_low o.head o.fits).1;
      used = λ k m. absurd (Memᴰ.not-nil m);
      entry = λ e m. absurd (Memᴰ.not-nil m);
      from_one = λ k m. absurd (Memᴰ.not-nil m);
      from_few = λ k. unfold from_in in omega arith;
      few = unfold steps in omega (arith, head_low o.head o.fits);
      few_clauses = unfold steps clauses in omega arith;
      few_stored = unfold bytes in omega arith;
    };
  }

  pub standing_begin : (log : List ℕ) → length log ≡ capacity → Standing o.head capacity ns (memory begun log 0) (begin o.head) (start o.head)
  standing_begin log size = record {
    formed = formed_start o.head o.fits;
    table = unfold start in table_none ns (omega (arith, first.row));
    exact = unfold start in exact_start log size;
    step = unfold start in refl;
    clauses = unfold start clauses in refl;
    nodes = unfold start in refl;
    leaves = unfold start leaf_count in refl;
    variable = unfold start in refl;
  }
