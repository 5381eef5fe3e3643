-- A column of numbers shows numbers of 64 bits or null.
use Rattle.std.proofs.Common.{◌≡◌, ℕ, ◌+◌, ◌*◌, ◌^◌, Bool, true, false, cond, ◌&&◌, leb, List, length, Some, None, refl, ap, ◌∙◌, w64}
use lib.Signed.{mag}
use borrow.Author.Gap.{read_sfits}
use Rattle.std.proofs.lemmas.Bool.{lt-ltb}
use Rattle.column.specs.Cells.{Kind, numbers, same_kind, number_cell}
use Rattle.column.specs.Columns.{Column, cell_at, present, number_in, number_at, little, part, shown}
use Rattle.tables.specs.Delivered.{fits_64, takes_number}
use Rattle.tables.proofs.Held.{same_kinds, kind_shown}

pub same_numbers : (k : Kind) → same_kind k numbers ≡ true → k ≡ numbers
same_numbers k e = same_kinds k numbers e

pub number_shown : (c : Column) (r : ℕ) → c.kind ≡ numbers → cell_at c r ≡ number_cell (number_at c r)
number_shown c r e = kind_shown numbers c r e

-- eight bytes say a number of 64 bits
pub number_fits : (bytes : List ℕ) (start : ℕ) → fits_64 (number_in bytes start) ≡ true
unfolding number_in
number_fits bytes start = lt-ltb (mag (number_in bytes start)) (2 ^ 63) (read_sfits w64 (little (part start 8 bytes))).sfits

pub number_read : (c : Column) (r : ℕ) → takes_number (shown numbers c r) ≡ true
number_read c r = go (present c.validity r && leb (8 * r + 8) (length c.content))
  where
    go : (b : Bool) → takes_number (number_cell (cond b (Some (number_in c.content (8 * r))) None)) ≡ true
    go true = number_fits c.content (8 * r)
    go false = refl

pub number_taken : (c : Column) (r : ℕ) → c.kind ≡ numbers → takes_number (cell_at c r) ≡ true
number_taken c r e = ap takes_number (number_shown c r e) ∙ number_read c r
