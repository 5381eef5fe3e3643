use Rattle.std.proofs.Common.{◌≡◌, map, drop}
use Rattle.column.specs.Seen.{column_seen}
use Rattle.tables.specs.Refusals.{some_column, other_kind}
use Rattle.tables.proofs.checks.check_kinds.Given as goal

abbrev pub invariant-loop-named : goal.invariant-loop-named
invariant-loop-named g l =
    some_column (other_kind (g.O.GroupTable.settings l.order).kinds) l.named (map column_seen (drop l.named l.columns))
    ≡ some_column (other_kind (g.O.GroupTable.settings l.order).kinds) 0 (map column_seen l.columns)
