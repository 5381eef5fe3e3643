-- Meaning: what a group table is, beside the entries that it holds.
--   Settings      what no call alters: the kinds of the columns that are read, the cells taken in each, by the column's number from 0, and the relation between keys
--   StateMeaning, state_of   a value state by its settings: the kind of the one column that it reads, and the cells that it takes
--   StateLaws    a value state takes null, and takes no cell that a column of its kind could not show
--   OrderLaws    the same of a row order in each column, and that its relation is total and transitive
--   first_cells   the cells of a value state, which has one in each entry, that is in what is held for a group
--   column_cells  the cells of one key column, which each entry has one of
use Rattle.std.specs.Prelude.{◌≡◌, ℕ, Bool, true, ◌||◌, List, map, slice_index_or}
use Rattle.column.specs.Cells.{Kind, numbers, Cell, null, Proper}

pub record Settings : Type 0 where
  pub kinds : List Kind
  pub takes : ℕ → Cell → Bool
  pub leq : List Cell → List Cell → Bool

pub record StateMeaning : Type 0 where
  pub kind : Kind
  pub takes : Cell → Bool

abbrev pub state_of : Settings → StateMeaning
state_of s = record { kind = slice_index_or s.kinds 0 numbers; takes = s.takes 0 }

pub record StateLaws (s : StateMeaning) : Type 0 where
  pub takes_null : s.takes null ≡ true
  pub takes_proper : (c : Cell) → s.takes c ≡ true → Proper s.kind c

pub record OrderLaws (o : Settings) : Type 0 where
  pub takes_null : (j : ℕ) → o.takes j null ≡ true
  pub takes_proper : (j : ℕ) (c : Cell) → o.takes j c ≡ true → Proper (slice_index_or o.kinds j numbers) c
  pub total : (a b : List Cell) → (o.leq a b || o.leq b a) ≡ true
  pub transitive : (a b c : List Cell) → o.leq a b ≡ true → o.leq b c ≡ true → o.leq a c ≡ true

abbrev pub first_cells : List (List Cell) → List Cell
first_cells es = map (λ e. slice_index_or e 0 null) es

-- the cells of one key column
abbrev pub column_cells : ℕ → List (List Cell) → List Cell
column_cells j es = map (λ e. slice_index_or e j null) es
