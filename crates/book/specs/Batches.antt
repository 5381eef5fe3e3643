-- Batches: what a batch brings to the book.
--   Book           the groups of an accumulator, each the list of its admitted rows in the order in which they came
--   Given          a value column, an array of order columns, and how many of these are given
--   Batch          the columns, a group index for each row, and the total number of groups
--   order_columns  the order columns that are given
--   every_row      the numbers of a batch's rows
--   row_at         a row of a batch: its value and its key
--   marked         there is no filter, or it is true and not null there
--   admitted       a marked row, unless its value is null and null values are left out
--   entries        each admitted row, lowest first, with its group
--   grown          empty groups added up to a total
--   entered        each row at the end of its group
use Rattle.std.specs.Prelude.{ℕ, ◌-◌, Bool, true, not, ◌&&◌, List, [], ◌∷◌, ◌++◌, map, length, take, replicate, Some, None, filter, Option, slice_index, slice_index_or, slice_set}
use Rattle.column.specs.Cells.{is_null}
use Rattle.column.specs.Columns.{Column, Flags, cell_at, true_at, count_up}
use Rattle.tables.specs.Refusals.{key_at}
use Rattle.book.specs.Winners.{Row, Making}

abbrev pub Book : Type 0
Book = List (List Row)

pub record Given : Type 0 where
  pub value : Column
  pub orders : List Column
  pub count : ℕ

abbrev pub order_columns : Given → List Column
order_columns g = take g.count g.orders

abbrev pub every_row : Given → List ℕ
every_row g = count_up 0 g.value.rows

pub record Batch : Type 0 where
  pub columns : Given
  pub indices : List ℕ
  pub total : ℕ

unfoldable pub row_at : Given → ℕ → Row
row_at g r = record { value = cell_at g.value r; key = key_at (order_columns g) r }

abbrev pub marked : Option Flags → ℕ → Bool
marked None r = true
marked (Some f) r = true_at f r

unfoldable pub admitted : Making → Given → Option Flags → ℕ → Bool
admitted m g marks r = marked marks r && not (m.ignore_nulls && is_null (cell_at g.value r))

unfoldable pub entries : Making → Batch → Option Flags → List (ℕ × Row)
entries m b marks =
    map (λ r. (slice_index b.indices r, row_at b.columns r)) (filter (admitted m b.columns marks) (every_row b.columns))

abbrev pub grown : Book → ℕ → Book
grown b total = b ++ replicate (total - length b) []

abbrev pub entered : Book → List (ℕ × Row) → Book
entered b [] = b
entered b (e ∷ es) = entered (slice_set b e.0 (slice_index_or b e.0 [] ++ e.1 ∷ [])) es
