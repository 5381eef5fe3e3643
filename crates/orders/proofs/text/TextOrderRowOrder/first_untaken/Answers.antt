use Rattle.std.proofs.Common.{◌∙◌, arith}
use Rattle.column.specs.Columns.{count_up}
use Rattle.column.specs.Seen.{column_seen}
use Rattle.orders.proofs.Texts.{named_first, none_long}
use Rattle.orders.proofs.text.TextOrderRowOrder.first_untaken.Goals.{then-named-ge1-via-then-named-ge1, then-named-ge1-via-else-named-ge1+then-longest-le32}
use Rattle.orders.proofs.text.TextOrderRowOrder.first_untaken.Goals as goal

pub returns-then-named-ge1-clause-read : goal.returns-then-named-ge1-clause-read
returns-then-named-ge1-clause-read c h = elim c.then-named-ge1.branch [
  | then-named-ge1-via-then-named-ge1 w ↦ let past = w.if-named-ge1.true in absurd (omega arith)
  | then-named-ge1-via-else-named-ge1+then-longest-le32 w ↦
      none_long (column_seen c.args.column.now) w.longest.result w.longest.ensures w.if-longest-le32.true (count_up 0 c.args.column.now.rows)
      ∙ named_first c.args.self.now.sort c.args.named (column_seen c.args.column.now) (count_up 0 c.args.column.now.rows) h
]

pub returns-clause-read : goal.returns-clause-read
returns-clause-read c h = c.first_long.ensures ∙ named_first c.args.self.now.sort c.args.named (column_seen c.args.column.now) (count_up 0 c.args.column.now.rows) h
