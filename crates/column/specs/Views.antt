-- Views: the cell that a view of the code shows.
--   view_seen   the cell of a view
--   answer_seen   what a question for a held cell answers, the view seen as its cell
use Rattle.std.specs.Prelude.{Some, Ok, Err, Result}
use Rattle.column.specs.Cells.{Cell, null, number, text, fields_cell}
use Rattle.column.specs.declared.view.CellView.{CellView}
use Rattle.column.specs.declared.view.CellView.TheVariants.{Null, Number, Bytes, Fields}

abbrev pub view_seen : CellView → Cell
view_seen Null = null
view_seen (Number z) = number z
view_seen (Bytes bs) = text bs.now
view_seen (Fields fs) = fields_cell (Some fs)

abbrev pub answer_seen : {F : Type 0} → Result CellView F → Result Cell F
answer_seen (Ok v) = Ok (view_seen v)
answer_seen (Err f) = Err f
