-- Reading: what columns show when they are read as the kinds of a state or an order, whatever kinds they are of.
--   cell_read    the cell in a row of a value column
--   cell_taken   a value state takes it
--   named_read   the cell in a row of key column j
--   named_taken  a row order takes it there
--   key_read     the key of a row: a cell for each kind, null in a column that is not given
--   takes_all    every cell of a key, from column j on, is in a set
--   key_taken    a row order takes each cell of it
use Rattle.std.specs.Prelude.{ℕ, suc, Bool, true, ◌&&◌, List, [], ◌∷◌, slice_index_or}
use Rattle.column.specs.Cells.{Kind, numbers, Cell, null}
use Rattle.column.specs.Columns.{Column, shown}
use Rattle.tables.specs.Meaning.{Settings, state_of}

abbrev pub cell_read : Settings → Column → ℕ → Cell
cell_read s c r = shown (state_of s).kind c r

abbrev pub cell_taken : Settings → Column → ℕ → Bool
cell_taken s c r = s.takes 0 (cell_read s c r)

abbrev pub named_read : Settings → ℕ → Column → ℕ → Cell
named_read s j c r = shown (slice_index_or s.kinds j numbers) c r

abbrev pub named_taken : Settings → ℕ → Column → ℕ → Bool
named_taken s j c r = s.takes j (named_read s j c r)

abbrev pub key_read : List Kind → List Column → ℕ → List Cell
key_read [] cs r = []
key_read (k ∷ ks) [] r = null ∷ key_read ks [] r
key_read (k ∷ ks) (c ∷ cs) r = shown k c r ∷ key_read ks cs r

abbrev pub takes_all : (ℕ → Cell → Bool) → ℕ → List Cell → Bool
takes_all takes j [] = true
takes_all takes j (c ∷ cs) = takes j c && takes_all takes (suc j) cs

abbrev pub key_taken : Settings → List Column → ℕ → Bool
key_taken s cs r = takes_all s.takes 0 (key_read s.kinds cs r)
