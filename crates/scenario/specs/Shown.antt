-- Shown: columns over the parts that a scenario writes.
--   parts_shown, marks_shown   the parts as a column and as a column of truth values
--   IsColumnOver   the column over the parts, or why there is none
--   IsFlagsOver    the same of truth values
use Rattle.std.specs.Prelude.{◌≡◌, Some, None, Result, Ok, Err}
use Rattle.column.specs.Columns as columns
use Rattle.column.specs.Seen.{kind_seen, kind_coded, column_seen, flags_seen}
use Rattle.column.specs.Shapes.{column_refused, flags_refused}
use Rattle.column.specs.declared.Column.{Column}
use Rattle.column.specs.declared.BoolColumn.{BoolColumn}
use Rattle.column.specs.declared.ColumnFault.{ColumnFault}
use Rattle.scenario.specs.declared.pieces.Parts.{Parts}
use Rattle.scenario.specs.declared.marking.Marks.{Marks}

abbrev pub parts_shown : Parts → columns.Column
parts_shown p = record { kind = kind_seen (kind_coded p.kind); rows = p.rows; validity = p.validity.items; offsets = p.offsets.items; content = p.«data».items }

abbrev pub marks_shown : Marks → columns.Flags
marks_shown m = record { rows = m.rows; validity = m.validity.items; bits = m.bits.items }

abbrev pub IsColumnOver : Parts → Result Column ColumnFault → Type 0
IsColumnOver p (Ok c) = (column_refused p.kind p.rows p.validity.items p.offsets.items p.«data».items ≡ None) × (column_seen c ≡ parts_shown p)
IsColumnOver p (Err f) = column_refused p.kind p.rows p.validity.items p.offsets.items p.«data».items ≡ Some f

abbrev pub IsFlagsOver : Marks → Result BoolColumn ColumnFault → Type 0
IsFlagsOver m (Ok c) = (flags_refused m.rows m.validity.items m.bits.items ≡ None) × (flags_seen c ≡ marks_shown m)
IsFlagsOver m (Err f) = flags_refused m.rows m.validity.items m.bits.items ≡ Some f
