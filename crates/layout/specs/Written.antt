-- Written: the code's buffers and measures in the words of Layout.
--   parts_seen     the caller's buffers
--   keys_seen      the caller's buffers for key columns, in order
--   space_of       the space that parts need: a length for each
--   roomy          buffers that have so much space
--   rows_laid      the parts of a column of a kind: the cells of its first so many rows
--   numbers_laid   the parts of a column of numbers, given by optional numbers
--   measured       the space that parts need, if numbers of 64 bits say it
--   ends_within    an offset of 32 bits says where a column of so many bytes ends; columns of numbers and of records have no offsets
--   reached        offsets of 32 bits say where each string of a column begins and ends
--   has_place      parts that can be written to buffers: these have room, and the offsets reach
--   short_seen     the bytes of a string that is held by value
--   short_cell     the cell of such a string that may be missing
--   flag_parts_seen   the caller's buffers for truth values
--   flag_room      buffers that have a bit for each of so many truth values, in both parts
--   flags_laid     the parts of a column of the first so many truth values
--   eight          eight truth values by row, from a multiple of eight on, as a byte, the lowest bit first
use Rattle.std.specs.Prelude.{ℕ, ◌+◌, ◌*◌, ◌/◌, ◌^◌, Bool, true, ◌&&◌, List, [], ◌∷◌, map, length, take, ℤ, Some, None, Option, nat_le, nat_lt, if◌then◌else◌}
use Rattle.std.specs.Option.{option_map}
use Rattle.column.specs.Cells.{Kind, numbers, strings, records, Cell, number_cell, text_cell}
use Rattle.column.specs.Columns.{count_up}
use Rattle.layout.specs.Layout.{Parts, FlagParts, binary, laid_out, laid_flags, fits}
use Rattle.layout.specs.declared.FlagOutput.{FlagOutput}
use Rattle.layout.specs.declared.KeyOutputs.{KeyOutputs}
use Rattle.layout.specs.declared.Output.{Output}
use Rattle.layout.specs.declared.Space.{Space}
use Rattle.layout.specs.declared.short.ShortBytes.{ShortBytes}

abbrev pub parts_seen : Output → Parts
parts_seen o = record { validity = o.validity.now; offsets = o.offsets.now; content = o.«data».now }

abbrev pub keys_seen : KeyOutputs → List Parts
keys_seen o = parts_seen o.first ∷ parts_seen o.second ∷ parts_seen o.third ∷ []

abbrev pub space_of : Parts → Space
space_of p = record { validity = length p.validity; offsets = length p.offsets; «data» = length p.content }

abbrev pub roomy : Space → Parts → Bool
roomy s before = nat_le s.validity (length before.validity) && (nat_le s.offsets (length before.offsets) && nat_le s.«data» (length before.content))

abbrev pub rows_laid : Kind → (ℕ → Cell) → ℕ → Parts
rows_laid k shows rows = laid_out k (map shows (count_up 0 rows))

abbrev pub numbers_laid : List (Option ℤ) → Parts
numbers_laid xs = laid_out numbers (map number_cell xs)

abbrev pub measured : Parts → Option Space
measured p = if nat_lt (length p.offsets) (2 ^ 64) && nat_lt (length p.content) (2 ^ 64) then Some (space_of p) else None

abbrev pub ends_within : Kind → ℕ → Bool
ends_within numbers n = true
ends_within strings n = nat_lt n (2 ^ 32)
ends_within records n = true

abbrev pub reached : Kind → Parts → Bool
reached k p = ends_within k (length p.content)

abbrev pub has_place : Kind → Parts → Parts → Bool
has_place k new before = reached k new && fits new before

abbrev pub flag_parts_seen : FlagOutput → FlagParts
flag_parts_seen o = record { validity = o.validity.now; bits = o.bits.now }

abbrev pub flag_room : ℕ → FlagParts → Bool
flag_room rows before = nat_le ((rows + 7) / 8) (length before.validity) && nat_le ((rows + 7) / 8) (length before.bits)

abbrev pub flags_laid : (ℕ → Option Bool) → ℕ → FlagParts
flags_laid flag rows = laid_flags (map flag (count_up 0 rows))

-- the truth values of rows 8 j to 8 j + 7
unfoldable pub eight : (ℕ → Bool) → ℕ → ℕ
eight p j = binary (map p (count_up (8 * j) 8))

abbrev pub short_seen : ShortBytes → List ℕ
short_seen s = take s.len s.bytes

abbrev pub short_cell : Option ShortBytes → Cell
short_cell x = text_cell (option_map short_seen x)
