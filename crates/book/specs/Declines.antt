-- Declines: the checks of a batch, and the fault of each.
--   at_row, at_column   the fault at the lowest row of a list, or in the first order column, where a check holds
--   own                 a fault of the accumulator that names no column and no row
--   rows_differ         ROWS in one column, against so many rows
--   order_column        the number of an order column in a fault: 1 to 3, and 3 for any later one
--   kind_check, rows_check, long_check   KIND, ROWS and LONG in one order column
--   cols, kind, rows, long   the checks COLS, KIND, ROWS and LONG: the value column first, then the order columns, then the filter
--   flag_rows           how many rows a filter has; without one, as many as are asked for
--   total_refused       TOTAL and SHRUNK, where `held` groups are held
--   batch_checks, batch_declined   all checks of a batch in their order, where `held` groups are held, and the first that holds
--   null_flag           FLAGS at the lowest row whose flag is null; an update has no flags
--   ungrouped_checks, ungrouped_declined   the same of a batch without groups: an update, or a merge by its flags
use Rattle.std.specs.Prelude.{ℕ, suc, ◌+◌, min, Bool, not, List, [], ◌∷◌, length, Some, None, Option, ◌==◌, nat_le, nat_lt, slice_index, if◌then◌else◌}
use Rattle.column.specs.Checks.{refuse, first_of}
use Rattle.column.specs.Faults.{Fault, fault, KIND, ROWS, COLS, LONG, TOTAL, GROUP, FLAGS, SHRUNK, in_state, in_order, in_accumulator}
use Rattle.column.specs.Cells.{Kind, Cell, same_kind}
use Rattle.column.specs.Columns.{Column, Flags, cell_at, present}
use Rattle.tables.specs.Refusals.{other_kind, cols_fit}
use Rattle.book.specs.Winners.{Making}
use Rattle.book.specs.Batches.{Given, Batch, order_columns, every_row}

abbrev pub at_row : (ℕ → Bool) → (ℕ → Fault) → List ℕ → Option Fault
at_row test f [] = None
at_row test f (r ∷ rs) = if test r then Some (f r) else at_row test f rs

abbrev pub at_column : (ℕ → Column → Option Fault) → ℕ → List Column → Option Fault
at_column check j [] = None
at_column check j (c ∷ cs) = first_of (check j c ∷ at_column check (suc j) cs ∷ [])

-- j counts from 0
abbrev pub order_column : ℕ → ℕ
order_column j = min 3 (j + 1)

-- a fault that names no column and no row
abbrev pub own : ℕ → Fault
own number = fault number in_accumulator 9 0

unfoldable pub cols : Making → Given → Option Fault
cols m g = refuse (not (cols_fit m.order.kinds (order_columns g) g.count)) (own COLS)

-- KIND in order column j, where these kinds are read
abbrev pub kind_check : List Kind → ℕ → Column → Option Fault
kind_check ks j c = refuse (other_kind ks j c) (fault KIND in_order (order_column j) 0)

unfoldable pub kind : Making → Given → Option Fault
kind m g =
    first_of (refuse (not (same_kind g.value.kind m.state.kind)) (fault KIND in_state 0 0)
    ∷ at_column (kind_check m.order.kinds) 0 (order_columns g) ∷ [])

abbrev pub flag_rows : Option Flags → ℕ → ℕ
flag_rows None n = n
flag_rows (Some f) n = f.rows

-- ROWS in one column, against a value column of n rows; the columns are numbered as in a fault
abbrev pub rows_differ : ℕ → ℕ → ℕ → Option Fault
rows_differ column here n = refuse (not (here == n)) (fault ROWS in_accumulator column 0)

-- ROWS in order column j
abbrev pub rows_check : ℕ → ℕ → Column → Option Fault
rows_check n j c = rows_differ (order_column j) c.rows n

unfoldable pub rows : Given → Option Flags → Option Fault
rows g marks =
    first_of (at_column (rows_check g.value.rows) 0 (order_columns g)
    ∷ rows_differ 4 (flag_rows marks g.value.rows) g.value.rows ∷ [])

-- LONG in order column j, at the lowest of some rows, where these cells are taken
abbrev pub long_check : (ℕ → Cell → Bool) → List ℕ → ℕ → Column → Option Fault
long_check takes rs j c = at_row (λ r. not (takes j (cell_at c r))) (λ r. fault LONG in_order (order_column j) r) rs

unfoldable pub long : Making → Given → Option Fault
long m g =
    first_of (at_row (λ r. not (m.state.takes (cell_at g.value r))) (λ r. fault LONG in_state 0 r) (every_row g)
    ∷ at_column (long_check m.order.takes (every_row g)) 0 (order_columns g) ∷ [])

abbrev pub total_refused : ℕ → ℕ → Option Fault
total_refused held total = first_of (refuse (nat_lt 256 total) (own TOTAL) ∷ refuse (nat_lt total held) (own SHRUNK) ∷ [])

abbrev pub batch_checks : Making → ℕ → Batch → Option Flags → List (Option Fault)
batch_checks m held b marks =
    cols m b.columns
    ∷ kind m b.columns
    ∷ rows b.columns marks
    ∷ rows_differ 9 (length b.indices) b.columns.value.rows
    ∷ refuse (nat_lt 256 b.total) (own TOTAL)
    ∷ refuse (nat_lt b.total held) (own SHRUNK)
    ∷ at_row (λ r. nat_le b.total (slice_index b.indices r)) (λ r. fault GROUP in_accumulator 9 r) (every_row b.columns)
    ∷ long m b.columns ∷ []

unfoldable pub batch_declined : Making → ℕ → Batch → Option Flags → Option Fault
batch_declined m held b marks = first_of (batch_checks m held b marks)

-- a merge without groups asks each row whether its flag is known
unfoldable pub null_flag : Given → Option Flags → Option Fault
null_flag g None = None
null_flag g (Some f) = at_row (λ r. not (present f.validity r)) (λ r. fault FLAGS in_accumulator 4 r) (every_row g)

abbrev pub ungrouped_checks : Making → Given → Option Flags → List (Option Fault)
ungrouped_checks m g marks = cols m g ∷ kind m g ∷ rows g marks ∷ null_flag g marks ∷ long m g ∷ []

unfoldable pub ungrouped_declined : Making → Given → Option Flags → Option Fault
ungrouped_declined m g marks = first_of (ungrouped_checks m g marks)
