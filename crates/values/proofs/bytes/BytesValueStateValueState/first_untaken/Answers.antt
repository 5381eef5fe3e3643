use Rattle.std.proofs.Common.{not, refl, ap}
use Rattle.column.specs.Columns.{count_up}
use Rattle.column.specs.Seen.{column_seen}
use Rattle.tables.specs.Delivered.{bytes_state}
use Rattle.tables.specs.Reading.{cell_taken}
use Rattle.values.proofs.Kept.{none_found}
use Rattle.values.proofs.Texts.{text_short}
use Rattle.values.proofs.bytes.BytesValueStateValueState.first_untaken.Goals as goal

pub returns-then-no_long : goal.returns-then-no_long
returns-then-no_long c =
    let v = column_seen c.args.column.now in
    none_found (λ r. not (cell_taken bytes_state v r)) (λ r. ap not (text_short v r (c.if-no_long.ensures refl))) (count_up 0 c.args.column.now.rows)
