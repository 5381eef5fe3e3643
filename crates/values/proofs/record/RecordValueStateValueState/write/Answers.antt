use Rattle.std.proofs.Common.{refl}
use Rattle.tables.specs.Delivered.{record_state}
use Rattle.values.proofs.record.RecordValueStateValueState.write.Goals as goal

pub returns : goal.returns
returns c = c.write_cells.ensures record_state refl
