use Rattle.std.proofs.Common.{[], ◌∷◌, map, take, None}
use Rattle.column.specs.Cells.{numbers}
use Rattle.tables.proofs.Fronts.{held_grown}
use Rattle.orders.specs.Numbers.{key_cells}
use Rattle.orders.proofs.Numbers.{null_key}
use Rattle.orders.proofs.number.NumberOrderGroupTable.grow.Goals as goal

pub returns-clause-after : goal.returns-clause-after
returns-clause-after c =
    let o = c.args.self.now in
    let s = o.sorts in
    held_grown (key_cells s.count) (map (λ x. numbers) (take s.count s.table)) o.keys c.grow.new.self (None ∷ None ∷ None ∷ []) c.args.total (null_key s.table s.count s.whole) c.grow.ensures.after
