use Rattle.std.proofs.Common.{rules}
use Rattle.column.specs.Seen.{column_seen, kind_seen}
use Rattle.tables.proofs.Declining.{answer_some, named_some, named_none}
use Rattle.tables.proofs.order.RowOrder.reads_named.Goals as goal

pub returns-in_default : goal.returns-in_default
returns-in_default g c = answer_some _ _ _ (named_none (g.Self.GroupTable.settings c.args.self.now).kinds c.args.named (column_seen c.args.column.now) c.in_default.ensures)

pub returns-then-ne : goal.returns-then-ne
returns-then-ne g c = let n = named_some (g.Self.GroupTable.settings c.args.self.now).kinds c.args.named (column_seen c.args.column.now) (kind_seen c.in-Some.kind) c.in-Some.ensures in search rules

pub returns : goal.returns
returns g c = let n = named_some (g.Self.GroupTable.settings c.args.self.now).kinds c.args.named (column_seen c.args.column.now) (kind_seen c.in-Some.kind) c.in-Some.ensures in search rules
