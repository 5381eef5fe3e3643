use Rattle.column.specs.Cells.{fields_cell}
use Rattle.tables.specs.Delivered.{record_state}
use Rattle.values.proofs.Kept.{space_declined, space_measured}
use Rattle.values.proofs.record.RecordValueStateValueState.space.Goals as goal

pub returns-in_err-space : goal.returns-in_err-space
returns-in_err-space c = space_declined fields_cell record_state c.args.self.now.cells c.args.n _ _ _ c.from_residual.ensures.1 c.in_err-space.ensures

pub returns : goal.returns
returns c = space_measured fields_cell record_state c.args.self.now.cells c.args.n _ c.in_ok-space.ensures
