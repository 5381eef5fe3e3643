use Rattle.std.proofs.Common.{take, sym}
use Rattle.column.specs.Seen.{column_seen}
use Rattle.orders.proofs.Numbers.{named_any}
use Rattle.orders.proofs.number.NumberOrderRowOrder.is_named_taken.Goals as goal

pub returns-clause-read : goal.returns-clause-read
returns-clause-read c h = let o = c.args.self.now in sym (named_any (take o.sorts.count o.sorts.table) c.args._named (column_seen c.args._column.now) c.args._row)
