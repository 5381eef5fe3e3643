-- Shapes: which parts make a column.
--   known_kind, kind_of   a number that stands for a kind, and which: 1 numbers, 2 byte strings, 3 records
--   rises        the first so many offsets, and one more, never fall
--   field_fits   a field of a record is present, or its bytes are zero
--   record_fits  25 bytes that are a record: bits 3 to 7 of the first are 0, and so are the bytes of absent fields
--   records_fit  the first so many records are records
--   parts_fit    offsets and bytes that fit the kind and the number of rows, in null rows too
--   bits_fit     exactly as many bytes as the rows need bits
--   validity_fits  no bytes at all, or exactly as many
--   shape_fits   1,024 rows at most; no validity bytes, or as many as needed; fitting offsets and bytes
--   column_refused, flags_refused   the checks of the making, in their order
use Rattle.std.specs.Prelude.{ℕ, zero, suc, ◌+◌, ◌*◌, ◌/◌, Bool, true, not, ◌&&◌, ◌||◌, List, [], ◌∷◌, length, Option, ◌==◌, nat_le, nat_lt, slice_index, if◌then◌else◌}
use Rattle.column.specs.declared.ColumnFault.{ColumnFault}
use Rattle.column.specs.declared.ColumnFault.TheVariants as faults
use Rattle.column.specs.Checks.{refuse, first_of}
use Rattle.column.specs.Cells.{Kind, numbers, strings, records}
use Rattle.column.specs.Columns.{bit_at, part, little}

abbrev pub known_kind : ℕ → Bool
known_kind code = nat_le 1 code && nat_le code 3

abbrev pub kind_of : ℕ → Kind
kind_of code = if code == 1 then numbers else if code == 2 then strings else records

abbrev pub rises : List ℕ → ℕ → Bool
rises offsets zero = true
rises offsets (suc n) = rises offsets n && nat_le (slice_index offsets n) (slice_index offsets (suc n))

-- field j of the record that begins at `start` is present, or its eight bytes are zero
abbrev pub field_fits : List ℕ → ℕ → ℕ → Bool
field_fits content start j = bit_at (part start 1 content) j || little (part (start + 1 + 8 * j) 8 content) == 0

abbrev pub record_fits : List ℕ → ℕ → Bool
record_fits content start = nat_lt (slice_index content start) 8 && (field_fits content start 0 && (field_fits content start 1 && field_fits content start 2))

abbrev pub records_fit : List ℕ → ℕ → Bool
records_fit content zero = true
records_fit content (suc n) = records_fit content n && record_fits content (25 * n)

abbrev pub parts_fit : Kind → ℕ → List ℕ → List ℕ → Bool
parts_fit numbers rows offsets content = length offsets == 0 && length content == 8 * rows
parts_fit strings rows offsets content = length offsets == rows + 1 && (rises offsets rows && nat_le (slice_index offsets rows) (length content))
parts_fit records rows offsets content = length offsets == 0 && (length content == 25 * rows && records_fit content rows)

abbrev pub bits_fit : List ℕ → ℕ → Bool
bits_fit bytes rows = length bytes == (rows + 7) / 8

abbrev pub validity_fits : List ℕ → ℕ → Bool
validity_fits bytes rows = length bytes == 0 || bits_fit bytes rows

abbrev pub shape_fits : Kind → ℕ → List ℕ → List ℕ → List ℕ → Bool
shape_fits k rows validity offsets content = nat_le rows 1024 && (validity_fits validity rows && parts_fit k rows offsets content)

abbrev pub column_refused : ℕ → ℕ → List ℕ → List ℕ → List ℕ → Option ColumnFault
column_refused code rows validity offsets content =
    first_of (refuse (not (known_kind code)) faults.Kind
    ∷ refuse (not (shape_fits (kind_of code) rows validity offsets content)) faults.Shape ∷ [])

abbrev pub flags_refused : ℕ → List ℕ → List ℕ → Option ColumnFault
flags_refused rows validity bits = first_of (refuse (not (nat_le rows 1024 && (validity_fits validity rows && bits_fit bits rows))) faults.Shape ∷ [])
