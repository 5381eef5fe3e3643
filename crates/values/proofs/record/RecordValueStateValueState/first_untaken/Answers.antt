use Rattle.std.proofs.Common.{not, ap}
use Rattle.column.specs.Columns.{count_up}
use Rattle.column.specs.Seen.{column_seen}
use Rattle.tables.specs.Delivered.{record_state}
use Rattle.tables.specs.Reading.{cell_taken}
use Rattle.tables.proofs.Records.{record_read}
use Rattle.values.proofs.Kept.{none_found}
use Rattle.values.proofs.record.RecordValueStateValueState.first_untaken.Goals as goal

pub returns : goal.returns
returns c =
    let v = column_seen c.args._column.now in
    none_found (λ r. not (cell_taken record_state v r)) (λ r. ap not (record_read v r)) (count_up 0 c.args._column.now.rows)
