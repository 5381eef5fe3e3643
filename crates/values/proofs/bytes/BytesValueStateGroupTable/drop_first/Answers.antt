use Rattle.std.proofs.Common.{[], ◌∷◌}
use Rattle.layout.specs.Written.{short_cell}
use Rattle.tables.proofs.Fronts.{held_dropped}
use Rattle.values.proofs.bytes.BytesValueStateGroupTable.drop_first.Goals as goal

pub returns-clause-after : goal.returns-clause-after
returns-clause-after c = held_dropped (λ x. short_cell x ∷ []) c.args.self.now.cells c.drop_first.new.self c.args.n c.drop_first.ensures.after
