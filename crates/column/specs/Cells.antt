-- Cells: what a column shows in a row.
--   Kind        what the cells of a column are: numbers, byte strings, or records
--   Cell        null, a number, a byte string, or a record of three numbers each of which may be absent
--   Proper      the cells that a column of a kind can show: numbers of 64 bits, bytes, and strings so short that 256 of them fit 32-bit offsets
--   FieldFits  the same of one field of a record
--   same_kind, is_null   two kinds are the same; a cell is null
--   number_cell, text_cell, fields_cell   the cell of a number, a byte string or a record that may be missing
use Rattle.std.specs.Prelude.{◌≡◌, ℕ, ◌<◌, ◌≤◌, Bool, true, false, List, length, ℤ, Some, None, Option, FitsSigned, slice_index_or}
use Rattle.std.specs.Int.{w64}
use Rattle.std.specs.List.{AllByRecursion}

pub data Kind : Type 0 where
  numbers strings records : Kind

abbrev pub same_kind : Kind → Kind → Bool
same_kind numbers numbers = true
same_kind numbers strings = false
same_kind numbers records = false
same_kind strings numbers = false
same_kind strings strings = true
same_kind strings records = false
same_kind records numbers = false
same_kind records strings = false
same_kind records records = true

pub data Cell : Type 0 where
  null : Cell
  number : ℤ → Cell
  text : List ℕ → Cell
  fields : Option ℤ → Option ℤ → Option ℤ → Cell

abbrev pub is_null : Cell → Bool
is_null null = true
is_null (number z) = false
is_null (text bs) = false
is_null (fields a b c) = false

abbrev pub FieldFits : Option ℤ → Type 0
FieldFits None = Unit {0}
FieldFits (Some z) = FitsSigned w64 z

abbrev pub Proper : Kind → Cell → Type 0
Proper k null = Unit {0}
Proper k (number z) = (k ≡ numbers) × FitsSigned w64 z
Proper k (text bs) = (k ≡ strings) × AllByRecursion (λ b. b < 256) bs × (length bs ≤ 16777215)
Proper k (fields a b c) = (k ≡ records) × FieldFits a × FieldFits b × FieldFits c

abbrev pub number_cell : Option ℤ → Cell
number_cell None = null
number_cell (Some z) = number z

abbrev pub text_cell : Option (List ℕ) → Cell
text_cell None = null
text_cell (Some bs) = text bs

-- a record by the list of its three fields
abbrev pub fields_cell : Option (List (Option ℤ)) → Cell
fields_cell None = null
fields_cell (Some fs) = fields (slice_index_or fs 0 None) (slice_index_or fs 1 None) (slice_index_or fs 2 None)
