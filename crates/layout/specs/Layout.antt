-- Layout: how cells are written out. This is Arrow's layout, with every byte settled.
--   Parts        the parts of an output column: the caller's buffers, or what is written to their fronts
--   FlagParts   the two parts of an output column of truth values
--   bytes_of     so many bytes of a number, the lowest first
--   number_bytes, field_bytes   the eight bytes of a number, and of a field that may be absent
--   number_content, string_content, record_content   the bytes of one cell in a column of each kind
--   bit          1 for true, 0 for false
--   has_field    a field is there
--   binary       the number whose bits these are, the lowest first
--   offsets_from where each string begins and the last one ends
--   packed       truth values as bits, eight to a byte, the lowest first, spare bits zero
--   validity_of  the validity bits of cells: 1 where not null
--   laid_out     the parts of a column of cells: validity bits always; for byte strings offsets from 0 on; a null's bytes zero, a null string of length 0
--   known, holds  a truth value is not missing; it is there and true
--   laid_flags   the same for truth values: whether one is known, and whether it holds; the value bit of a null is zero
--   over         something written to the front of a buffer, the rest untouched
--   written, written_flags   all parts written to the fronts of the buffers
--   room         a buffer is as long as its part needs
--   fits, fits_flags   each buffer has room for its part: the space that the parts need
--   written_all, fits_all   the same of columns, each against the buffers in its place; a column without buffers does not fit
use Rattle.std.specs.Prelude.{ℕ, zero, suc, ◌+◌, ◌*◌, ◌/◌, ◌%◌, Bool, true, false, not, ◌&&◌, List, [], ◌∷◌, ◌++◌, map, length, drop, replicate, ℤ, Some, None, Option, nat_le, if◌then◌else◌}
use Rattle.std.specs.Int.{w64, cast_unsigned}
use Rattle.std.specs.List.{flat_map}
use Rattle.column.specs.Cells.{Kind, numbers, strings, records, Cell, null, number, text, fields, is_null}
use Rattle.column.specs.Columns.{part, count_up}

pub record Parts : Type 0 where
  pub validity : List ℕ
  pub offsets : List ℕ
  pub content : List ℕ

pub record FlagParts : Type 0 where
  pub validity : List ℕ
  pub bits : List ℕ

abbrev pub bytes_of : ℕ → ℕ → List ℕ
bytes_of zero n = []
bytes_of (suc k) n = n % 256 ∷ bytes_of k (n / 256)

unfoldable pub number_bytes : ℤ → List ℕ
number_bytes z = bytes_of 8 (cast_unsigned w64 z)

abbrev pub bit : Bool → ℕ
bit b = if b then 1 else 0

abbrev pub has_field : Option ℤ → Bool
has_field None = false
has_field (Some z) = true

-- the bytes of a field, zero where it is absent
abbrev pub field_bytes : Option ℤ → List ℕ
field_bytes None = replicate 8 0
field_bytes (Some z) = number_bytes z

-- the bytes of one cell in a column of each kind
abbrev pub number_content : Cell → List ℕ
number_content null = replicate 8 0
number_content (number z) = number_bytes z
number_content (text bs) = replicate 8 0
number_content (fields a b c) = replicate 8 0

abbrev pub string_content : Cell → List ℕ
string_content null = []
string_content (number z) = []
string_content (text bs) = bs
string_content (fields a b c) = []

abbrev pub record_content : Cell → List ℕ
record_content null = replicate 25 0
record_content (number z) = replicate 25 0
record_content (text bs) = replicate 25 0
record_content (fields a b c) = (bit (has_field a) + 2 * bit (has_field b) + 4 * bit (has_field c)) ∷ (field_bytes a ++ (field_bytes b ++ field_bytes c))

-- the number whose bits these are, the lowest first
abbrev pub binary : List Bool → ℕ
binary [] = 0
binary (b ∷ bs) = bit b + 2 * binary bs

unfoldable pub packed : List Bool → List ℕ
packed bs = map (λ j. binary (part (8 * j) 8 bs)) (count_up 0 ((length bs + 7) / 8))

-- where each string begins and the last one ends
abbrev pub offsets_from : ℕ → List Cell → List ℕ
offsets_from at [] = at ∷ []
offsets_from at (c ∷ cs) = at ∷ offsets_from (at + length (string_content c)) cs

abbrev pub validity_of : List Cell → List ℕ
validity_of cs = packed (map (λ c. not (is_null c)) cs)

abbrev pub laid_out : Kind → List Cell → Parts
laid_out numbers cs = record { validity = validity_of cs; offsets = []; content = flat_map number_content cs }
laid_out strings cs = record { validity = validity_of cs; offsets = offsets_from 0 cs; content = flat_map string_content cs }
laid_out records cs = record { validity = validity_of cs; offsets = []; content = flat_map record_content cs }

abbrev pub known : Option Bool → Bool
known None = false
known (Some b) = true

abbrev pub holds : Option Bool → Bool
holds None = false
holds (Some b) = b

abbrev pub laid_flags : List (Option Bool) → FlagParts
laid_flags fs = record { validity = packed (map known fs); bits = packed (map holds fs) }

abbrev pub over : List ℕ → List ℕ → List ℕ
over new before = new ++ drop (length new) before

abbrev pub written : Parts → Parts → Parts
written new before = record {
  validity = over new.validity before.validity;
  offsets = over new.offsets before.offsets;
  content = over new.content before.content;
}

abbrev pub written_flags : FlagParts → FlagParts → FlagParts
written_flags new before = record { validity = over new.validity before.validity; bits = over new.bits before.bits }

abbrev pub room : List ℕ → List ℕ → Bool
room new before = nat_le (length new) (length before)

abbrev pub fits : Parts → Parts → Bool
fits new before = room new.validity before.validity && (room new.offsets before.offsets && room new.content before.content)

abbrev pub fits_flags : FlagParts → FlagParts → Bool
fits_flags new before = room new.validity before.validity && room new.bits before.bits

abbrev pub written_all : List Parts → List Parts → List Parts
written_all [] os = os
written_all (p ∷ ps) [] = []
written_all (p ∷ ps) (o ∷ os) = written p o ∷ written_all ps os

abbrev pub fits_all : List Parts → List Parts → Bool
fits_all [] os = true
fits_all (p ∷ ps) [] = false
fits_all (p ∷ ps) (o ∷ os) = fits p o && fits_all ps os
