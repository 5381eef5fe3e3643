use Rattle.std.proofs.Common.{◌≡◌, ℕ, Option, drop, map}
use Rattle.column.specs.Columns.{Column}
use Rattle.column.specs.Faults.{Fault}
use Rattle.column.specs.Seen.{column_seen}
use Rattle.book.specs.Declines.{at_column}
use Rattle.keeping.specs.Seen.{FindsAtColumn}
use Rattle.keeping.proofs.walks.at_column.Given as goal

abbrev pub invariant-loop-j : goal.invariant-loop-j
invariant-loop-j g l =
    (finds : ℕ → Column → Option Fault) → FindsAtColumn (goal.F-post g l.check) finds
    → at_column finds l.j (drop l.j (map column_seen l.column-items)) ≡ at_column finds 0 (map column_seen l.column-items)
