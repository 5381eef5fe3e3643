use Rattle.std.proofs.Common.{[], ◌∷◌, None, refl}
use Rattle.column.specs.Cells.{numbers}
use Rattle.column.specs.Cells.{number_cell}
use Rattle.tables.proofs.Fronts.{held_grown}
use Rattle.values.proofs.number.NumberValueStateGroupTable.grow.Goals as goal

pub returns-clause-after : goal.returns-clause-after
returns-clause-after c = held_grown (λ x. number_cell x ∷ []) (numbers ∷ []) c.args.self.now.cells c.grow.new.self None c.args.total refl c.grow.ensures.after
