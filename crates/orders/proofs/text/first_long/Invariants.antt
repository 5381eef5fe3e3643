use Rattle.std.proofs.Common.{◌≡◌, ◌-◌, not}
use Rattle.std.specs.List.{find}
use Rattle.column.specs.Cells.{strings}
use Rattle.column.specs.Columns.{shown, count_up}
use Rattle.column.specs.Seen.{column_seen}
use Rattle.tables.specs.Delivered.{takes_text}
use Rattle.orders.proofs.text.first_long.Given as goal

abbrev pub invariant-loop-row : goal.invariant-loop-row
invariant-loop-row l =
    find (λ r. not (takes_text (shown strings (column_seen l.column) r))) (count_up l.row (l.column.rows - l.row))
    ≡ find (λ r. not (takes_text (shown strings (column_seen l.column) r))) (count_up 0 l.column.rows)
