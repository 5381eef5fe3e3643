use Rattle.std.proofs.Common.{◌≡◌, ℕ, ◌-◌, Bool, find, not}
use Rattle.column.specs.Columns.{count_up}
use Rattle.column.specs.Seen.{column_seen}
use Rattle.tables.specs.Delivered.{bytes_state}
use Rattle.tables.specs.Reading.{cell_taken}
use Rattle.values.proofs.bytes.first_long.Given as goal

abbrev pub invariant-loop-row : goal.invariant-loop-row
invariant-loop-row l =
    let untaken : ℕ → Bool = λ r. not (cell_taken bytes_state (column_seen l.column) r) in
    find untaken (count_up l.row (l.column.rows - l.row)) ≡ find untaken (count_up 0 l.column.rows)
