use Rattle.std.proofs.Common.{arith}
use Rattle.column.specs.Columns.{cell_at}
use Rattle.column.proofs.Column.is_null.Goals as goal

pub returns-in-Number : goal.returns-in-Number
unfolding cell_at
returns-in-Number c = grind arith

pub returns-in-Bytes : goal.returns-in-Bytes
unfolding cell_at
returns-in-Bytes c = grind arith

pub returns-in-Record : goal.returns-in-Record
unfolding cell_at
returns-in-Record c = grind arith
