use Rattle.std.proofs.Common.{refl}
use Rattle.tables.specs.Delivered.{bytes_state}
use Rattle.values.proofs.bytes.BytesValueStateValueState.write.Goals as goal

pub returns : goal.returns
returns c = c.write_cells.ensures bytes_state refl
