-- Refusals: what the calls of a group table, a value state and a row order decline, and what they do.
--   growing, dropping     the checks of growing to a total and of dropping n entries, where `held` are held
--   grown_entries         entries of nulls at the end, up to a total
--   unread, cell_unfit, cell_refused   the checks of a value column, of one of its rows, and of the cell there
--   cells_laid            the first n cells as they are written out
--   other_kind            a column is of another kind than the one read in its place
--   cols_fit              as many columns as are read, and 1 to 3
--   past_column, untaken  a row is past one of the columns; a row has a cell that is not taken
--   no_column             an order reads no column of this number
--   asking_key            the checks of asking for the cell that a group holds in a named key column
--   named_unread, named_refused        the same for one named column of an order
--   rows_unfit            the checks of the kinds of all order columns, and of some rows
--   rows_refused          the same, and of the cells there
--   key_unfit, key_refused             the checks of all order columns at some rows, and of the cells there
--   some_column, some_of  some column, or some member of a list, has a property
--   key_at                the key of a row: its cell in each order column
--   verdict               how one key stands to another
--   writing, measuring_key, writing_key   the checks of writing out the first n cells, or the first n cells of one key column
--   key_laid, columns_laid   the first n cells of one key column, and of every key column from a number on, as they are written out
--   keys_laid             the first n keys as they are written out, a column after another
--   taking_keys           the checks of writing out the first n keys
use Rattle.std.specs.Prelude.{ℕ, suc, ◌-◌, Bool, false, not, ◌&&◌, ◌||◌, List, [], ◌∷◌, ◌++◌, map, length, take, replicate, Option, ◌==◌, nat_le, nat_lt, slice_index_or, if◌then◌else◌}
use Rattle.std.specs.declared.cmp.Ordering.TheVariants.{Less, Equal, Greater}
use Rattle.std.specs.declared.cmp.Ordering.{Ordering}
use Rattle.std.specs.Option.{option_map}
use Rattle.column.specs.Checks.{refuse, first_of}
use Rattle.column.specs.Cells.{Kind, numbers, Cell, null, same_kind}
use Rattle.column.specs.Columns.{Column, cell_at}
use Rattle.layout.specs.Layout.{Parts, laid_out, fits, fits_all}
use Rattle.tables.specs.declared.TableFault.{TableFault}
use Rattle.tables.specs.declared.TableFault.TheVariants as table
use Rattle.tables.specs.declared.StateFault.{StateFault}
use Rattle.tables.specs.declared.StateFault.TheVariants as state
use Rattle.tables.specs.declared.OrderFault.{OrderFault}
use Rattle.tables.specs.declared.OrderFault.TheVariants as order
use Rattle.tables.specs.Meaning.{Settings, state_of, first_cells, column_cells}

-- Group tables

unfoldable pub growing : ℕ → ℕ → Option TableFault
growing held total = first_of (refuse (nat_lt 256 total) table.Total ∷ refuse (nat_lt total held) table.Shrunk ∷ [])

abbrev pub grown_entries : List Kind → List (List Cell) → ℕ → List (List Cell)
grown_entries ks es total = es ++ replicate (total - length es) (map (λ k. null) ks)

unfoldable pub dropping : ℕ → ℕ → Option TableFault
dropping held n = first_of (refuse (nat_lt held n) table.Fewer ∷ [])

-- Value states

-- a column of another kind than the one read
abbrev pub unread : Kind → Column → Option StateFault
unread k c = refuse (not (same_kind c.kind k)) state.Kind

-- `out` says that the group is not held
abbrev pub cell_unfit : Kind → Bool → Column → ℕ → Option StateFault
cell_unfit k out c r = first_of (refuse out state.Group ∷ unread k c ∷ refuse (not (nat_lt r c.rows)) state.Rows ∷ [])

unfoldable pub cell_refused : Settings → Bool → Column → ℕ → Option StateFault
cell_refused s out c r = first_of (cell_unfit (state_of s).kind out c r ∷ refuse (not (s.takes 0 (cell_at c r))) state.Long ∷ [])

-- the first n cells as they are written out
abbrev pub cells_laid : Settings → List (List Cell) → ℕ → Parts
cells_laid s es n = laid_out (state_of s).kind (take n (first_cells es))

unfoldable pub writing : Settings → List (List Cell) → ℕ → Parts → Option StateFault
writing s es n before =
    first_of (option_map state.Table (dropping (length es) n)
    ∷ refuse (not (fits (cells_laid s es n) before)) state.Space ∷ [])

-- Row orders, by the kinds of the columns that they read

-- a column of another kind than the one read in its place; any kind does where none is read
abbrev pub other_kind : List Kind → ℕ → Column → Bool
other_kind ks j c = not (same_kind c.kind (slice_index_or ks j c.kind))

abbrev pub no_column : List Kind → ℕ → Option OrderFault
no_column ks j = refuse (nat_le (length ks) j) order.Cols

unfoldable pub asking_key : List Kind → ℕ → ℕ → ℕ → Option OrderFault
asking_key ks j held g = first_of (no_column ks j ∷ refuse (nat_le held g) order.Group ∷ [])

unfoldable pub named_unread : List Kind → ℕ → Column → Option OrderFault
named_unread ks j c = first_of (no_column ks j ∷ refuse (other_kind ks j c) order.Kind ∷ [])

unfoldable pub named_refused : Settings → ℕ → Column → ℕ → Option OrderFault
named_refused s j c r =
    first_of (named_unread s.kinds j c
    ∷ refuse (not (nat_lt r c.rows)) order.Rows
    ∷ refuse (not (s.takes j (cell_at c r))) order.Long ∷ [])

-- some column has the property, which also goes by the column's number from j on
abbrev pub some_column : (ℕ → Column → Bool) → ℕ → List Column → Bool
some_column p j [] = false
some_column p j (c ∷ cs) = p j c || some_column p (suc j) cs

abbrev pub some_of : {X : Type 0} → (X → Bool) → List X → Bool
some_of p [] = false
some_of p (x ∷ xs) = p x || some_of p xs

-- as many columns as are read, and 1 to 3
abbrev pub cols_fit : List Kind → List Column → ℕ → Bool
cols_fit ks cs n = length cs == length ks && (nat_le 1 n && nat_le n 3)

-- a row that is past one of the columns
abbrev pub past_column : List Column → ℕ → Bool
past_column cs r = some_column (λ j c. not (nat_lt r c.rows)) 0 cs

-- a row with a cell that is not taken
abbrev pub untaken : Settings → List Column → ℕ → Bool
untaken s cs r = some_column (λ j c. not (s.takes j (cell_at c r))) 0 cs

-- some column is of another kind, or some row is past one of the columns
abbrev pub rows_unfit : List Kind → List Column → List ℕ → Option OrderFault
rows_unfit ks cs rs = first_of (refuse (some_column (other_kind ks) 0 cs) order.Kind ∷ refuse (some_of (past_column cs) rs) order.Rows ∷ [])

unfoldable pub key_unfit : List Kind → Bool → List Column → ℕ → List ℕ → Option OrderFault
key_unfit ks out cs n rs =
    first_of (refuse (not (cols_fit ks cs n)) order.Cols
    ∷ refuse out order.Group
    ∷ refuse (some_column (other_kind ks) 0 cs) order.Kind
    ∷ refuse (some_of (past_column cs) rs) order.Rows ∷ [])

unfoldable pub key_refused : Settings → Bool → List Column → ℕ → List ℕ → Option OrderFault
key_refused s out cs n rs = first_of (key_unfit s.kinds out cs n rs ∷ refuse (some_of (untaken s cs) rs) order.Long ∷ [])

-- the checks of the kinds, of some rows, and of the cells there, where as many columns are given as are read
unfoldable pub rows_refused : Settings → List Column → List ℕ → Option OrderFault
rows_refused s cs rs = first_of (rows_unfit s.kinds cs rs ∷ refuse (some_of (untaken s cs) rs) order.Long ∷ [])

abbrev pub key_at : List Column → ℕ → List Cell
key_at cs r = map (λ c. cell_at c r) cs

unfoldable pub verdict : Settings → List Cell → List Cell → Ordering
verdict s a b = if s.leq a b then (if s.leq b a then Equal else Less) else Greater

-- the first n cells of key column j as they are written out
abbrev pub key_laid : Settings → List (List Cell) → ℕ → ℕ → Parts
key_laid s es j n = laid_out (slice_index_or s.kinds j numbers) (take n (column_cells j es))

unfoldable pub measuring_key : Settings → List (List Cell) → ℕ → ℕ → Option OrderFault
measuring_key s es j n = first_of (no_column s.kinds j ∷ option_map order.Table (dropping (length es) n) ∷ [])

unfoldable pub writing_key : Settings → List (List Cell) → ℕ → ℕ → Parts → Option OrderFault
writing_key s es j n before = first_of (measuring_key s es j n ∷ refuse (not (fits (key_laid s es j n) before)) order.Space ∷ [])

-- the first n cells of every key column as they are written out, by the kinds of those from number j on
abbrev pub columns_laid : List (List Cell) → ℕ → ℕ → List Kind → List Parts
columns_laid es n j [] = []
columns_laid es n j (k ∷ ks) = laid_out k (take n (column_cells j es)) ∷ columns_laid es n (suc j) ks

abbrev pub keys_laid : Settings → List (List Cell) → ℕ → List Parts
keys_laid s es n = columns_laid es n 0 s.kinds

unfoldable pub taking_keys : Settings → List (List Cell) → ℕ → List Parts → Option OrderFault
taking_keys s es n before =
    first_of (option_map order.Table (dropping (length es) n)
    ∷ refuse (not (fits_all (keys_laid s es n) before)) order.Space ∷ [])
