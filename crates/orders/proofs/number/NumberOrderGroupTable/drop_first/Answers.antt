use Rattle.tables.proofs.Fronts.{held_dropped}
use Rattle.orders.specs.Numbers.{key_cells}
use Rattle.orders.proofs.number.NumberOrderGroupTable.drop_first.Goals as goal

pub returns-clause-after : goal.returns-clause-after
returns-clause-after c = let o = c.args.self.now in held_dropped (key_cells o.sorts.count) o.keys c.drop_first.new.self c.args.n c.drop_first.ensures.after
