use Rattle.std.proofs.Common.{◌≡◌, map, length}
use Rattle.std.specs.List.{flat_map}
use Rattle.column.specs.Columns.{count_up}
use Rattle.layout.specs.Layout.{string_content, offsets_from, over}
use Rattle.layout.proofs.strings.put_strings.Given as goal

abbrev pub invariant-loop-row : goal.invariant-loop-row
invariant-loop-row g l = record {
  ends : l.end ≡ length (flat_map string_content (map (g.C.CellSource.shows l.cells) (count_up 0 l.row)));
  offsets : l.offsets ≡ over (offsets_from 0 (map (g.C.CellSource.shows l.cells) (count_up 0 l.row))) l.fn.offsets;
  bytes : l.«data» ≡ over (flat_map string_content (map (g.C.CellSource.shows l.cells) (count_up 0 l.row))) l.initial.«data»;
}
