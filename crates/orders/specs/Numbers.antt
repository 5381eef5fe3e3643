-- Numbers: what the number order holds, and how it is set.
--   key_cells       the cells of a key of numbers, as many as columns are read
--   order_entries   a key for each held group: a cell for each column read
--   order_settings  a number order compares by the columns' sortings, the first column first
use Rattle.std.specs.Prelude.{ℕ, List, map, take, ℤ, Option}
use Rattle.column.specs.Cells.{Cell, number_cell}
use Rattle.tables.specs.Meaning.{Settings}
use Rattle.tables.specs.Delivered.{number_order}
use Rattle.orders.specs.declared.number.NumberOrder.{NumberOrder}

abbrev pub key_cells : ℕ → List (Option ℤ) → List Cell
key_cells n k = map number_cell (take n k)

abbrev pub order_entries : NumberOrder → List (List Cell)
order_entries o = map (key_cells o.sorts.count) o.keys

abbrev pub order_settings : NumberOrder → Settings
order_settings o = number_order (take o.sorts.count o.sorts.table)
