use Rattle.std.proofs.Common.{sym}
use Rattle.column.specs.Seen.{column_seen}
use Rattle.tables.proofs.Numbers.{number_read}
use Rattle.values.proofs.number.NumberValueStateValueState.is_taken.Goals as goal

pub returns : goal.returns
returns c = sym (number_read (column_seen c.args._column.now) c.args._row)
