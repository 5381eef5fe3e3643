-- Accumulators: what a grouped accumulator holds, and what each call promises.
--   Table      a set flag, the cells and the key of each group
--   held       what an accumulator holds, by its slots and by the entries of its state and its order
--   making     how an accumulator was made
--   winner_held   what a table holds as the winner of a group: missing where its slot is unset
--   Shows      a table's flags, values and keys are those of these winners, group by group, the keys being of these kinds
--   Stands     an accumulator shows these winners
--   Keeps      it stands for the book: it shows the book's winners
--   Obeys      what a call promises: the making stays, and for every book that the accumulator stood for, the answer is the defined one and it stands for the next book
use Rattle.std.specs.Prelude.{◌≡◌, ℕ, Bool, false, List, [], map, Some, None, Option, slice_index_or, if◌then◌else◌}
use Rattle.column.specs.Cells.{Kind, Cell, null}
use Rattle.tables.specs.Meaning.{first_cells}
use Rattle.tables.specs.declared.table.GroupTable.{Ghosts}
use Rattle.book.specs.Winners.{Row, Making, winners}
use Rattle.book.specs.Batches.{Book}
use Rattle.book.specs.Emission.{Outputs, value_shown}
use Rattle.book.specs.Calls.{Call, Answer, answer, after}
use Rattle.keeping.specs.Keepers.{made_of, cells, keys}
use Rattle.keeping.specs.Replies.{is_set, key_cells}
use Rattle.grouped.specs.declared.FirstLastGroupsAccumulator.{FirstLastGroupsAccumulator}
use Rattle.grouped.specs.Slots.{flags_held}

pub record Table : Type 0 where
  pub flags : List Bool
  pub cells : List (List Cell)
  pub keys : List (List Cell)

abbrev pub winner_held : Table → ℕ → Option Row
winner_held t g = if slice_index_or t.flags g false then Some (record { value = slice_index_or (first_cells t.cells) g null; key = slice_index_or t.keys g [] }) else None

pub record Shows (ks : List Kind) (t : Table) (ws : List (Option Row)) : Type 0 where
  pub flags : t.flags ≡ map is_set ws
  pub values : first_cells t.cells ≡ map value_shown ws
  pub keys : t.keys ≡ map (key_cells ks) ws

module _ {S O F G : Type 0} {s : Ghosts S F} {o : Ghosts O G} where
  abbrev pub held : FirstLastGroupsAccumulator S O F G s o → Table
  held a = record { flags = flags_held a.slots; cells = cells a.kept; keys = keys a.kept }

  abbrev pub making : FirstLastGroupsAccumulator S O F G s o → Making
  making a = made_of a.kept

  abbrev pub Stands : FirstLastGroupsAccumulator S O F G s o → List (Option Row) → Type 0
  Stands a ws = Shows (making a).order.kinds (held a) ws

  abbrev pub Keeps : FirstLastGroupsAccumulator S O F G s o → Book → Type 0
  Keeps a b = Stands a (winners (making a) b)

  pub record Obeys (a : FirstLastGroupsAccumulator S O F G s o) (c : Call) (before : Outputs) (r : Answer) (a' : FirstLastGroupsAccumulator S O F G s o) : Type 0 where
    pub same_making : making a' ≡ making a
    pub answers_so : (b : Book) → Keeps a b → r ≡ answer (making a) b c before
    pub keeps_so : (b : Book) → Keeps a b → Keeps a' (after (making a) b c before)
