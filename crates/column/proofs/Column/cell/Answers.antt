use Rattle.column.specs.Columns.{cell_at}
use Rattle.column.proofs.Column.cell.Goals as goal

pub returns : goal.returns
unfolding cell_at
returns c = c.cell_as.ensures
