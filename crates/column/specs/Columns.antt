-- Columns: the cells that the parts of a column show, whatever the parts are.
--   Column      a kind, a number of rows, validity bytes, offsets, and the bytes of the cells
--   Flags       a column of truth values: a number of rows, validity bytes, value bits
--   bit_at      bit r of a row of bytes, the lowest bit of each byte first; false past the end
--   present     row r is not null: there are no validity bytes, or its bit is 1
--   part        some elements of a list from a place on
--   little      the number that bytes say, the lowest byte first
--   number_in   the signed number of 64 bits in the eight bytes from a place on
--   field_in    one field of the record whose 25 bytes begin at a place, if it is there
--   number_at   the number in row r; none where the row is null or its eight bytes are not all there
--   text_there  offsets r and r + 1 are there, do not fall, and end inside the bytes
--   text_at     the byte string between offsets r and r + 1; none where the row is null or the string is no part of the bytes
--   octets      numbers as bytes, each modulo 256: bytes stay as they are
--   fields_at   the three fields in row r; none where the row is null or its 25 bytes are not all there
--   shown, cell_at   the cell in row r, read as a column of a kind, and of the column's own kind
--   flag_at     the truth value in row r, or none
--   true_at     row r is true and not null
--   count_up    the numbers from one on, so many of them
use Rattle.std.specs.Prelude.{ℕ, zero, suc, ◌+◌, ◌-◌, ◌*◌, ◌/◌, ◌%◌, ◌^◌, Bool, ◌&&◌, ◌||◌, List, [], ◌∷◌, map, length, take, drop, ℤ, Some, None, Option, ◌==◌, nat_le, nat_lt, slice_index, if◌then◌else◌}
use Rattle.std.specs.Int.{w64, cast_signed}
use Rattle.std.specs.Option.{option_map}
use Rattle.column.specs.Cells.{Kind, numbers, strings, records, Cell, number_cell, text_cell, fields_cell}

pub record Column : Type 0 where
  pub kind : Kind
  pub rows : ℕ
  pub validity : List ℕ
  pub offsets : List ℕ
  pub content : List ℕ

pub record Flags : Type 0 where
  pub rows : ℕ
  pub validity : List ℕ
  pub bits : List ℕ

unfoldable pub bit_at : List ℕ → ℕ → Bool
bit_at bytes r = (slice_index bytes (r / 8) / 2 ^ (r % 8)) % 2 == 1

abbrev pub present : List ℕ → ℕ → Bool
present bytes r = length bytes == 0 || bit_at bytes r

abbrev pub part {ℓ} : {A : Type ℓ} → ℕ → ℕ → List A → List A
part start size xs = take size (drop start xs)

-- the number that bytes say, the lowest byte first
abbrev pub little : List ℕ → ℕ
little [] = 0
little (b ∷ bs) = b + 256 * little bs

-- the signed number of 64 bits in the eight bytes from `start` on
unfoldable pub number_in : List ℕ → ℕ → ℤ
number_in bytes start = cast_signed w64 (little (part start 8 bytes))

-- field j of the record whose 25 bytes begin at `start`: bit j of the first byte says whether it is there
abbrev pub field_in : List ℕ → ℕ → ℕ → Option ℤ
field_in bytes start j = if bit_at (part start 1 bytes) j then Some (number_in bytes (start + 1 + 8 * j)) else None

abbrev pub number_at : Column → ℕ → Option ℤ
number_at c r = if present c.validity r && nat_le (8 * r + 8) (length c.content) then Some (number_in c.content (8 * r)) else None

abbrev pub text_there : Column → ℕ → Bool
text_there c r = nat_lt (r + 1) (length c.offsets) && (nat_le (slice_index c.offsets r) (slice_index c.offsets (r + 1)) && nat_le (slice_index c.offsets (r + 1)) (length c.content))

abbrev pub text_at : Column → ℕ → Option (List ℕ)
text_at c r =
    if present c.validity r && text_there c r then Some (part (slice_index c.offsets r) (slice_index c.offsets (r + 1) - slice_index c.offsets r) c.content) else None

abbrev pub fields_at : Column → ℕ → Option (List (Option ℤ))
fields_at c r =
    if present c.validity r && nat_le (25 * r + 25) (length c.content) then Some (field_in c.content (25 * r) 0 ∷ field_in c.content (25 * r) 1 ∷ field_in c.content (25 * r) 2 ∷ []) else None

abbrev pub octets : List ℕ → List ℕ
octets bs = map (λ b. b % 256) bs

abbrev pub shown : Kind → Column → ℕ → Cell
shown numbers c r = number_cell (number_at c r)
shown strings c r = text_cell (option_map octets (text_at c r))
shown records c r = fields_cell (fields_at c r)

unfoldable pub cell_at : Column → ℕ → Cell
cell_at c r = shown c.kind c r

abbrev pub flag_at : Flags → ℕ → Option Bool
flag_at f r = if present f.validity r then Some (bit_at f.bits r) else None

unfoldable pub true_at : Flags → ℕ → Bool
true_at f r = present f.validity r && bit_at f.bits r

abbrev pub count_up : ℕ → ℕ → List ℕ
count_up start zero = []
count_up start (suc size) = start ∷ count_up (suc start) size
