use Rattle.std.proofs.Common.{[], ◌∷◌}
use Rattle.column.specs.Cells.{number_cell}
use Rattle.tables.proofs.Fronts.{held_dropped}
use Rattle.values.proofs.number.NumberValueStateGroupTable.drop_first.Goals as goal

pub returns-clause-after : goal.returns-clause-after
returns-clause-after c = held_dropped (λ x. number_cell x ∷ []) c.args.self.now.cells c.drop_first.new.self c.args.n c.drop_first.ensures.after
