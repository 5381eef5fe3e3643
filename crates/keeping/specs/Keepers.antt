-- Keepers: what an accumulator with groups and one without share, and what its calls promise.
--   made_of      how a keeper was made: its value state, its row order, FIRST or LAST, and the null policy
--   cells, keys  the entries of its state and of its order, one for each group
--   kept_row     the row that it keeps for a group
--   front        what is written of it, with a set flag for each group
--   Takes        its state and its order take a row of a batch: no check of a call that sets a cell or a key holds
--   Ranks        one row against another: Less where it beats the other, Greater where the other beats it, Equal where neither does
--   Puts         one group keeps a row of a batch now, and no other group changes
--   Same         it was made as the other was
--   shown_row    the row that it keeps for a group, as it shows it: its value, and a cell for each key column that is read
--   AnsweredAlike   two questions for a held cell are answered, and by the same cell
--   SameValue, SameKeyCell   two keepers hold a group each, with the same value, or the same cell in a key column that both read
--   SameKey      they read as many key columns, and hold the same cell in each
--   Agree        two keepers hold a group each, and show the same row for it
use Rattle.std.specs.Prelude.{◌≡◌, ℕ, Bool, Option, ◌<◌, false, None, Ok, Err, Result, List, [], ◌∷◌, map, length, slice_index_or, slice_set}
use Rattle.std.specs.Ordering.{is_lt, is_gt}
use Rattle.std.specs.declared.cmp.Ordering.{Ordering}
use Rattle.column.specs.Cells.{Cell, null}
use Rattle.column.specs.Columns.{count_up}
use Rattle.tables.specs.Meaning.{state_of, first_cells, column_cells}
use Rattle.tables.specs.Refusals.{cell_refused, key_refused}
use Rattle.tables.specs.declared.table.GroupTable.{Ghosts}
use Rattle.book.specs.Winners.{Row, Making, beats}
use Rattle.book.specs.Batches.{Given, order_columns}
use Rattle.keeping.specs.Fronts.{Front}
use Rattle.keeping.specs.declared.keeper.Keeper.{Keeper}

abbrev pub AnsweredAlike : {F : Type 0} → Result Cell F → Result Cell F → Type 0
AnsweredAlike (Ok x) (Ok y) = x ≡ y
AnsweredAlike (Ok x) (Err f) = ⊥
AnsweredAlike (Err f) (Ok y) = ⊥
AnsweredAlike (Err f) (Err g) = ⊥

pub record Ranks (m : Making) (a b : Row) (o : Ordering) : Type 0 where
  pub less : is_lt o ≡ beats m a b
  pub greater : is_gt o ≡ beats m b a

module _ {S O F G : Type 0} {s : Ghosts S F} {o : Ghosts O G} where
  abbrev pub made_of : Keeper S O F G s o → Making
  made_of k = record { state = state_of (s.settings k.state); order = o.settings k.order; first = k.pick_first; ignore_nulls = k.ignore_nulls }

  abbrev pub cells : Keeper S O F G s o → List (List Cell)
  cells k = s.entries k.state

  abbrev pub keys : Keeper S O F G s o → List (List Cell)
  keys k = o.entries k.order

  abbrev pub kept_row : Keeper S O F G s o → ℕ → Row
  kept_row k g = record { value = slice_index_or (first_cells (cells k)) g null; key = slice_index_or (keys k) g [] }

  abbrev pub front : Keeper S O F G s o → (ℕ → Option Bool) → Front
  front k flags = record { state = s.settings k.state; order = o.settings k.order; cells = cells k; keys = keys k; flags = flags }

  pub record Takes (k : Keeper S O F G s o) (g : Given) (r : ℕ) : Type 0 where
    pub cell : cell_refused (s.settings k.state) false g.value r ≡ None
    pub key : key_refused (o.settings k.order) false (order_columns g) g.count (r ∷ []) ≡ None

  pub record Same (k k' : Keeper S O F G s o) : Type 0 where
    pub state : s.settings k'.state ≡ s.settings k.state
    pub order : o.settings k'.order ≡ o.settings k.order
    pub first : k'.pick_first ≡ k.pick_first
    pub nulls : k'.ignore_nulls ≡ k.ignore_nulls

  pub record Puts (k : Keeper S O F G s o) (group : ℕ) (r : Row) (k' : Keeper S O F G s o) : Type 0 where
    pub value : cells k' ≡ slice_set (cells k) group (r.value ∷ [])
    pub key : keys k' ≡ slice_set (keys k) group r.key

  abbrev pub shown_row : Keeper S O F G s o → ℕ → Row
  shown_row k g = record {
    value = slice_index_or (first_cells (cells k)) g null;
    key = map (λ j. slice_index_or (column_cells j (keys k)) g null) (count_up 0 (length (o.settings k.order).kinds));
  }

  pub record SameValue (k : Keeper S O F G s o) (g : ℕ) (k' : Keeper S O F G s o) (g' : ℕ) : Type 0 where
    pub held : g < length (cells k)
    pub held_too : g' < length (cells k')
    pub same : slice_index_or (first_cells (cells k)) g null ≡ slice_index_or (first_cells (cells k')) g' null

  pub record SameKeyCell (j : ℕ) (k : Keeper S O F G s o) (g : ℕ) (k' : Keeper S O F G s o) (g' : ℕ) : Type 0 where
    pub read : j < length (o.settings k.order).kinds
    pub read_too : j < length (o.settings k'.order).kinds
    pub held : g < length (keys k)
    pub held_too : g' < length (keys k')
    pub same : slice_index_or (column_cells j (keys k)) g null ≡ slice_index_or (column_cells j (keys k')) g' null

  pub record SameKey (k : Keeper S O F G s o) (g : ℕ) (k' : Keeper S O F G s o) (g' : ℕ) : Type 0 where
    pub columns : length (o.settings k.order).kinds ≡ length (o.settings k'.order).kinds
    pub cells : (j : ℕ) → j < length (o.settings k.order).kinds → SameKeyCell j k g k' g'

  pub record Agree (k : Keeper S O F G s o) (g : ℕ) (k' : Keeper S O F G s o) (g' : ℕ) : Type 0 where
    pub held : g < length (cells k)
    pub held_too : g' < length (cells k')
    pub same : shown_row k g ≡ shown_row k' g'
