-- Said: the text of each refusal.
--   table_text, state_text, order_text   the text of each case; that of a table is the same in both
use Rattle.std.specs.Prelude.{ℕ, List, codes}
use Rattle.tables.specs.declared.TableFault.{TableFault}
use Rattle.tables.specs.declared.TableFault.TheVariants as table
use Rattle.tables.specs.declared.StateFault.{StateFault}
use Rattle.tables.specs.declared.StateFault.TheVariants as state
use Rattle.tables.specs.declared.OrderFault.{OrderFault}
use Rattle.tables.specs.declared.OrderFault.TheVariants as order

abbrev pub table_text : TableFault → List ℕ
table_text table.Total = codes "more than 256 groups"
table_text table.Shrunk = codes "fewer groups than are held"
table_text table.Fewer = codes "more groups than are held"

abbrev pub state_text : StateFault → List ℕ
state_text (state.Table f) = table_text f
state_text state.Group = codes "the group is not held"
state_text state.Kind = codes "the column is of another kind"
state_text state.Rows = codes "the row is past the column"
state_text state.Long = codes "the cell is not taken"
state_text state.Space = codes "the output has no space"

abbrev pub order_text : OrderFault → List ℕ
order_text (order.Table f) = table_text f
order_text order.Cols = codes "the columns are not those that are read"
order_text order.Group = codes "the group is not held"
order_text order.Kind = codes "a column is of another kind"
order_text order.Rows = codes "a row is past a column"
order_text order.Long = codes "a cell is not taken"
order_text order.Space = codes "the outputs have no space"
