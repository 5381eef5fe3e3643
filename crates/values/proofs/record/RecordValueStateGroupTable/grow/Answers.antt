use Rattle.std.proofs.Common.{[], ◌∷◌, None, refl}
use Rattle.column.specs.Cells.{records}
use Rattle.column.specs.Cells.{fields_cell}
use Rattle.tables.proofs.Fronts.{held_grown}
use Rattle.values.proofs.record.RecordValueStateGroupTable.grow.Goals as goal

pub returns-clause-after : goal.returns-clause-after
returns-clause-after c = held_grown (λ x. fields_cell x ∷ []) (records ∷ []) c.args.self.now.cells c.grow.new.self None c.args.total refl c.grow.ensures.after
