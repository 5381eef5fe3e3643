use Rattle.std.proofs.Common.{sym}
use Rattle.column.specs.Seen.{column_seen}
use Rattle.tables.proofs.Records.{record_read}
use Rattle.values.proofs.record.RecordValueStateValueState.is_taken.Goals as goal

pub returns : goal.returns
returns c = sym (record_read (column_seen c.args._column.now) c.args._row)
