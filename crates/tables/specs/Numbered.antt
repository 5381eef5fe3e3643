-- Numbered: the number of each refusal of a value state and of a row order. Those of a group table are the same in both, in the layer of whoever holds it.
--   table_number, state_number, order_number   the number of each case
use Rattle.std.specs.Prelude.{ℕ}
use Rattle.column.specs.Faults.{KIND, ROWS, COLS, LONG, TOTAL, GROUP, SPACE, SHRUNK, FEWER}
use Rattle.tables.specs.declared.TableFault.{TableFault}
use Rattle.tables.specs.declared.TableFault.TheVariants as table
use Rattle.tables.specs.declared.StateFault.{StateFault}
use Rattle.tables.specs.declared.StateFault.TheVariants as state
use Rattle.tables.specs.declared.OrderFault.{OrderFault}
use Rattle.tables.specs.declared.OrderFault.TheVariants as order

abbrev pub table_number : TableFault → ℕ
table_number table.Total = TOTAL
table_number table.Shrunk = SHRUNK
table_number table.Fewer = FEWER

abbrev pub state_number : StateFault → ℕ
state_number (state.Table f) = table_number f
state_number state.Group = GROUP
state_number state.Kind = KIND
state_number state.Rows = ROWS
state_number state.Long = LONG
state_number state.Space = SPACE

abbrev pub order_number : OrderFault → ℕ
order_number (order.Table f) = table_number f
order_number order.Cols = COLS
order_number order.Group = GROUP
order_number order.Kind = KIND
order_number order.Rows = ROWS
order_number order.Long = LONG
order_number order.Space = SPACE
