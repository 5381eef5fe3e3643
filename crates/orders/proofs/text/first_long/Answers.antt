use Rattle.std.proofs.Common.{not, sym, ap, ◌∙◌}
use Rattle.column.specs.Cells.{strings}
use Rattle.column.specs.Columns.{shown}
use Rattle.column.specs.Seen.{column_seen}
use Rattle.tables.specs.Delivered.{takes_text}
use Rattle.orders.proofs.Texts.{found_here, found_later}
use Rattle.orders.proofs.text.first_long.Goals as goal

pub returns-then-not-is_short : goal.returns-then-not-is_short
returns-then-not-is_short c =
    found_here (λ r. not (takes_text (shown strings (column_seen c.args.column.now) r))) c.loop-row.row c.args.column.now.rows c.loop-row-test.true (ap not (sym c.is_short.ensures ∙ c.if-not-is_short.true))
    ∙ c.loop-row.invariant

pub loop-row-preserved : goal.loop-row-preserved
loop-row-preserved c =
    found_later (λ r. not (takes_text (shown strings (column_seen c.args.column.now) r))) c.loop-row.row c.args.column.now.rows c.loop-row-test.true (ap not (sym c.is_short.ensures ∙ c.if-not-is_short.false))
    ∙ c.loop-row.invariant
