-- A column of records shows records whose fields are numbers of 64 bits, or null.
use Rattle.std.proofs.Common.{◌≡◌, ℕ, ◌+◌, ◌*◌, Bool, true, false, cond, ◌&&◌, leb, List, [], ◌∷◌, length, Some, None, refl, ap, ◌∙◌}
use Rattle.column.specs.Cells.{records, fields_cell}
use Rattle.column.specs.Columns.{Column, cell_at, present, part, bit_at, number_in, field_in, shown}
use Rattle.tables.specs.Delivered.{takes_field, takes_record}
use Rattle.tables.proofs.Held.{kind_shown}
use Rattle.tables.proofs.Numbers.{number_fits}

field_taken : (bytes : List ℕ) (start j : ℕ) → takes_field (field_in bytes start j) ≡ true
field_taken bytes start j = go (bit_at (part start 1 bytes) j)
  where
    go : (b : Bool) → takes_field (cond b (Some (number_in bytes (start + 1 + 8 * j))) None) ≡ true
    go true = number_fits bytes (start + 1 + 8 * j)
    go false = refl

pub record_read : (c : Column) (r : ℕ) → takes_record (shown records c r) ≡ true
record_read c r = go (present c.validity r && leb (25 * r + 25) (length c.content))
  where
    go : (b : Bool) → takes_record (fields_cell (cond b (Some (field_in c.content (25 * r) 0 ∷ field_in c.content (25 * r) 1 ∷ field_in c.content (25 * r) 2 ∷ [])) None)) ≡ true
    go true = rw (field_taken c.content (25 * r) 0, field_taken c.content (25 * r) 1) (field_taken c.content (25 * r) 2)
    go false = refl

pub record_taken : (c : Column) (r : ℕ) → c.kind ≡ records → takes_record (cell_at c r) ≡ true
record_taken c r e = ap takes_record (kind_shown records c r e) ∙ record_read c r
