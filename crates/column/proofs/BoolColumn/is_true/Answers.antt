use Rattle.std.proofs.Common.{arith}
use Rattle.column.specs.Columns.{true_at}
use Rattle.column.proofs.BoolColumn.is_true.Goals as goal

pub returns-then-valid : goal.returns-then-valid
unfolding true_at
returns-then-valid c = grind arith

pub returns-else-valid : goal.returns-else-valid
unfolding true_at
returns-else-valid c = grind arith
