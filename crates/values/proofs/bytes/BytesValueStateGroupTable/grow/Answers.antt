use Rattle.std.proofs.Common.{[], ◌∷◌, None, refl}
use Rattle.column.specs.Cells.{strings}
use Rattle.layout.specs.Written.{short_cell}
use Rattle.tables.proofs.Fronts.{held_grown}
use Rattle.values.proofs.bytes.BytesValueStateGroupTable.grow.Goals as goal

pub returns-clause-after : goal.returns-clause-after
returns-clause-after c = held_grown (λ x. short_cell x ∷ []) (strings ∷ []) c.args.self.now.cells c.grow.new.self None c.args.total refl c.grow.ensures.after
