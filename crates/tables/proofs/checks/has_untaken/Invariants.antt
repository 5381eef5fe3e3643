use Rattle.std.proofs.Common.{◌≡◌, ℕ, Bool, not, map, drop}
use Rattle.column.specs.Columns.{Column}
use Rattle.column.specs.Seen.{column_seen}
use Rattle.tables.specs.Reading.{named_taken}
use Rattle.tables.specs.Refusals.{some_column}
use Rattle.tables.proofs.checks.has_untaken.Given as goal

abbrev pub invariant-loop-named : goal.invariant-loop-named
invariant-loop-named g l =
    let p : ℕ → Column → Bool = λ j c. not (named_taken (g.O.GroupTable.settings l.order) j c l.row) in
    some_column p l.named (map column_seen (drop l.named l.columns)) ≡ some_column p 0 (map column_seen l.columns)
