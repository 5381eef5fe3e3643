use Rattle.std.proofs.Common.{[], ◌∷◌, None, refl}
use Rattle.column.specs.Cells.{strings}
use Rattle.tables.proofs.Fronts.{held_grown}
use Rattle.orders.specs.Texts.{text_key}
use Rattle.orders.proofs.text.TextOrderGroupTable.grow.Goals as goal

pub returns-clause-after : goal.returns-clause-after
returns-clause-after c = held_grown text_key (strings ∷ []) c.args.self.now.keys c.grow.new.self None c.args.total refl c.grow.ensures.after
