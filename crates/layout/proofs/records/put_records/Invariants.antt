use Rattle.std.proofs.Common.{◌≡◌, map}
use Rattle.std.specs.List.{flat_map}
use Rattle.column.specs.Columns.{count_up}
use Rattle.layout.specs.Layout.{over, record_content}
use Rattle.layout.proofs.records.put_records.Given as goal

abbrev pub invariant-loop-row : goal.invariant-loop-row
invariant-loop-row g l = l.out ≡ over (flat_map record_content (map (g.C.CellSource.shows l.cells) (count_up 0 l.row))) l.initial.out
