use Rattle.std.proofs.Common.{◌≡◌, map, drop}
use Rattle.column.specs.Seen.{column_seen}
use Rattle.tables.specs.Refusals.{some_of, untaken}
use Rattle.tables.proofs.checks.some_untaken.Given as goal

abbrev pub invariant-loop-row : goal.invariant-loop-row
invariant-loop-row g l =
    some_of (untaken (g.O.GroupTable.settings l.order) (map column_seen l.columns)) (drop l.row-index l.rows)
    ≡ some_of (untaken (g.O.GroupTable.settings l.order) (map column_seen l.columns)) l.rows
