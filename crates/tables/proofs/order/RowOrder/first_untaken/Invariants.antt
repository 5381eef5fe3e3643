use Rattle.std.proofs.Common.{◌≡◌, ℕ, ◌-◌, ◌<◌, Bool, length, find, not}
use Rattle.column.specs.Columns.{count_up}
use Rattle.column.specs.Seen.{column_seen}
use Rattle.tables.specs.Reading.{named_taken}
use Rattle.tables.proofs.order.RowOrder.first_untaken.Given as goal

abbrev pub invariant-loop-row : goal.invariant-loop-row
invariant-loop-row g l =
    let untaken : ℕ → Bool = λ r. not (named_taken (g.Self.GroupTable.settings l.self) l.named (column_seen l.column) r) in
    l.named < length (g.Self.GroupTable.settings l.self).kinds → find untaken (count_up l.row (l.column.rows - l.row)) ≡ find untaken (count_up 0 l.column.rows)
