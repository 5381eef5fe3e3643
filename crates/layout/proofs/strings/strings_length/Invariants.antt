use Rattle.std.proofs.Common.{◌≡◌, ◌^◌, ◌<◌, map, length}
use Rattle.std.specs.List.{flat_map}
use Rattle.column.specs.Columns.{count_up}
use Rattle.layout.specs.Layout.{string_content}
use Rattle.layout.proofs.strings.strings_length.Given as goal

abbrev pub invariant-loop-row : goal.invariant-loop-row
invariant-loop-row g l = record {
  all : l.total ≡ length (flat_map string_content (map (g.C.CellSource.shows l.cells) (count_up 0 l.row)));
  said : l.total < 2 ^ 64;
}
