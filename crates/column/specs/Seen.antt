-- Seen: the code's columns in the words of Columns.
--   kind_seen, column_seen, flags_seen   the code's kind, column and boolean column
--   marks_seen      an optional boolean column
--   columns_seen    the order columns that are given: the first so many of an array
--   kind_coded      the code's kind of a number from 1 to 3
--   column_over, flags_over   a column and a boolean column over the caller's slices
use Rattle.std.specs.Prelude.{ℕ, List, map, take, Some, None, Option, ◌==◌, if◌then◌else◌}
use Rattle.std.specs.Borrow.{Bor}
use Rattle.column.specs.Cells as Cells
use Rattle.column.specs.Columns as Columns
use Rattle.column.specs.declared.Kind.{Kind}
use Rattle.column.specs.declared.Kind.TheVariants.{Number, Bytes, Record}
use Rattle.column.specs.declared.Column.{Column}
use Rattle.column.specs.declared.BoolColumn.{BoolColumn}

abbrev pub kind_seen : Kind → Cells.Kind
kind_seen Number = Cells.numbers
kind_seen Bytes = Cells.strings
kind_seen Record = Cells.records

abbrev pub column_seen : Column → Columns.Column
column_seen c = record { kind = kind_seen c.kind; rows = c.rows; validity = c.validity.now; offsets = c.offsets.now; content = c.«data».now }

abbrev pub flags_seen : BoolColumn → Columns.Flags
flags_seen f = record { rows = f.rows; validity = f.validity.now; bits = f.bits.now }

abbrev pub marks_seen : Option BoolColumn → Option Columns.Flags
marks_seen None = None
marks_seen (Some f) = Some (flags_seen f)

abbrev pub columns_seen : List Column → ℕ → List Columns.Column
columns_seen cs n = take n (map column_seen cs)

-- the code's kind of a number from 1 to 3
abbrev pub kind_coded : ℕ → Kind
kind_coded code = if code == 1 then Number else if code == 2 then Bytes else Record

abbrev pub column_over : ℕ → ℕ → Bor (List ℕ) → Bor (List ℕ) → Bor (List ℕ) → Column
column_over code rows validity offsets content = record { kind = kind_coded code; rows = rows; validity = validity; offsets = offsets; «data» = content }

abbrev pub flags_over : ℕ → Bor (List ℕ) → Bor (List ℕ) → BoolColumn
flags_over rows validity bits = record { rows = rows; validity = validity; bits = bits }
