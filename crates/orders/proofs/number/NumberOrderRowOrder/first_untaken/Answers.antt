use Rattle.std.proofs.Common.{take}
use Rattle.column.specs.Columns.{count_up}
use Rattle.column.specs.Seen.{column_seen}
use Rattle.orders.proofs.Numbers.{none_untaken}
use Rattle.orders.proofs.number.NumberOrderRowOrder.first_untaken.Goals as goal

pub returns-clause-read : goal.returns-clause-read
returns-clause-read c h =
    let o = c.args.self.now in
    none_untaken (take o.sorts.count o.sorts.table) c.args._named (column_seen c.args._column.now) (count_up 0 c.args._column.now.rows)
