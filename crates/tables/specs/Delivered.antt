-- Delivered: the sets of cells and the comparisons of the states and orders that come with the stage.
--   head_cell, tail_cells   the first cell of a key, null where there is none, and the others
--   by_columns    the first column that differs decides
--   leq_by        the relation that a comparison says: not above
--   as_number, as_text   what a cell shows as a number or as bytes: a cell of another kind counts as null
--   number_cmp    one column of numbers, sorted
--   text_cmp      one column of byte strings, sorted: byte by byte, as unsigned numbers; a proper prefix is smaller
--   fits_64, all_bytes   a number of 64 bits; every element is a byte
--   takes_field   a field that is absent, or a number of 64 bits
--   takes_one_text   what a text order takes in its one column, and null in any other
--   takes_number, takes_text, takes_record   a number of 64 bits; a string of at most 32 bytes; a record whose fields are numbers of 64 bits; or null
--   number_state  reads numbers, and takes every one and null
--   bytes_state   reads byte strings, and takes every one of at most 32 bytes and null
--   record_state  reads records, and takes every one and null
--   number_columns  keys of numbers, each column sorted in its own way
--   number_order  reads 1 to 3 columns of numbers
--   text_order    reads one column of byte strings, and takes every one of at most 32 bytes and null
use Rattle.std.specs.Prelude.{ℕ, zero, suc, ◌^◌, Bool, true, false, ◌&&◌, List, [], ◌∷◌, map, length, ℤ, Some, None, Option, nat_le, nat_lt}
use Rattle.std.specs.Cmp.Lexicographic.{slice_cmp}
use Rattle.std.specs.Int.Signed.{mag}
use Rattle.std.specs.List.{list_all}
use Rattle.std.specs.Ordering.{nat_cmp, int_cmp, is_le, on, then_cmp}
use Rattle.std.specs.declared.cmp.Ordering.TheVariants.{Equal}
use Rattle.std.specs.declared.cmp.Ordering.{Ordering}
use Rattle.column.specs.Cells.{numbers, strings, records, Cell, null, number, text, fields, is_null}
use Rattle.tables.specs.declared.Sorting.{Sorting}
use Rattle.tables.specs.Meaning.{Settings}
use Rattle.tables.specs.Missing.{sorted_verdict}

abbrev pub head_cell : List Cell → Cell
head_cell [] = null
head_cell (c ∷ cs) = c

abbrev pub tail_cells : List Cell → List Cell
tail_cells [] = []
tail_cells (c ∷ cs) = cs

abbrev pub by_columns : List (Cell → Cell → Ordering) → List Cell → List Cell → Ordering
by_columns [] = λ a b. Equal
by_columns (cmp ∷ cmps) = then_cmp (on head_cell cmp) (on tail_cells (by_columns cmps))

abbrev pub leq_by : {X : Type 0} → (X → X → Ordering) → X → X → Bool
leq_by cmp a b = is_le (cmp a b)

-- a cell of another kind counts as null
abbrev pub as_number : Cell → Option ℤ
as_number null = None
as_number (number z) = Some z
as_number (text bs) = None
as_number (fields a b c) = None

abbrev pub number_cmp : Sorting → Cell → Cell → Ordering
number_cmp s = on as_number (sorted_verdict int_cmp s)

-- a cell of another kind counts as null
abbrev pub as_text : Cell → Option (List ℕ)
as_text null = None
as_text (number z) = None
as_text (text bs) = Some bs
as_text (fields a b c) = None

abbrev pub text_cmp : Sorting → Cell → Cell → Ordering
text_cmp s = on as_text (sorted_verdict (slice_cmp nat_cmp) s)

-- a number of 64 bits
abbrev pub fits_64 : ℤ → Bool
fits_64 z = nat_lt (mag z) (2 ^ 63)

-- a number of 64 bits, or null
abbrev pub takes_number : Cell → Bool
takes_number null = true
takes_number (number z) = fits_64 z
takes_number (text bs) = false
takes_number (fields a b c) = false

-- every element is a byte
abbrev pub all_bytes : List ℕ → Bool
all_bytes bs = list_all (λ b. nat_lt b 256) bs

abbrev pub takes_text : Cell → Bool
takes_text null = true
takes_text (number z) = false
takes_text (text bs) = nat_le (length bs) 32 && all_bytes bs
takes_text (fields a b c) = false

-- a field that is absent, or a number of 64 bits
abbrev pub takes_field : Option ℤ → Bool
takes_field None = true
takes_field (Some z) = fits_64 z

abbrev pub takes_record : Cell → Bool
takes_record null = true
takes_record (number z) = false
takes_record (text bs) = false
takes_record (fields a b c) = takes_field a && (takes_field b && takes_field c)

abbrev pub number_state : Settings
number_state = record { kinds = numbers ∷ []; takes = λ j c. takes_number c; leq = λ a b. true }

abbrev pub bytes_state : Settings
bytes_state = record { kinds = strings ∷ []; takes = λ j c. takes_text c; leq = λ a b. true }

abbrev pub record_state : Settings
record_state = record { kinds = records ∷ []; takes = λ j c. takes_record c; leq = λ a b. true }

abbrev pub number_columns : List Sorting → List Cell → List Cell → Ordering
number_columns ss = by_columns (map number_cmp ss)

abbrev pub number_order : List Sorting → Settings
number_order ss = record { kinds = map (λ s. numbers) ss; takes = λ j c. takes_number c; leq = leq_by (number_columns ss) }

-- a text order reads one column: in any other it takes null alone
abbrev pub takes_one_text : ℕ → Cell → Bool
takes_one_text zero c = takes_text c
takes_one_text (suc j) c = is_null c

abbrev pub text_order : Sorting → Settings
text_order s = record { kinds = strings ∷ []; takes = takes_one_text; leq = leq_by (on head_cell (text_cmp s)) }
