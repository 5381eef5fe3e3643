-- Walk: the row that a batch marks for each group, and what an accumulator holds after it took these rows.
--   brought    the admitted rows of a group among the first n rows of a batch
--   row_of     the row that is marked for a group
--   marked_row a marked row as it stands in the batch
--   Unmarked   no row is marked for any group
--   Best       a marked row is the winner among the rows that the batch brought to its group so far
--   outranks   a row replaces a winner: there is none, or the row beats it
--   BestOfAll  a row that is marked for a group is the winner among all rows that the batch brought to it
--   TakesAll   an accumulator's state and order take each row of a batch
--   Leads      a column is one by which a keeper's order compares rows first
--   Outranks   what is said of a row and the marked one is whether it outranks that, where both are taken
--   Chooses    what is said of them is whether the row is admitted too
--   gained     a book in which one group has got more rows
--   Gains      an accumulator stands for a book in which a group has got more rows, whatever book it stood for
--   GotBelow   the groups below a number have got what a batch brought to them, and no other group has changed
use Rattle.std.specs.Prelude.{◌≡◌, ℕ, ◌<◌, ◌≤◌, Bool, true, ◌&&◌, List, [], ◌++◌, map, length, Some, None, filter, Option, ◌==◌, slice_index, slice_index_or, slice_set}
use Rattle.std.specs.Option.{option_map}
use Rattle.column.specs.Columns.{Flags, count_up}
use Rattle.book.specs.Winners.{Row, Making, beats, winner}
use Rattle.book.specs.Batches.{Book, Given, Batch, order_columns, row_at, admitted}
use Rattle.tables.specs.declared.table.GroupTable.{Ghosts}
use Rattle.grouped.specs.declared.extremes.Extremes.{Extremes}
use Rattle.grouped.specs.declared.FirstLastGroupsAccumulator.{FirstLastGroupsAccumulator}
use Rattle.tables.specs.Leading.{LeadsIn}
use Rattle.tables.specs.declared.leading.Leading.{Leading}
use Rattle.keeping.specs.Keepers.{Takes}
use Rattle.keeping.specs.declared.keeper.Keeper.{Keeper}
use Rattle.grouped.specs.Accumulators.{making, Keeps}

abbrev pub brought : Making → Batch → Option Flags → ℕ → ℕ → List Row
brought m b marks k n = map (row_at b.columns) (filter (λ r. (slice_index b.indices r == k) && admitted m b.columns marks r) (count_up 0 n))

abbrev pub row_of : Extremes → ℕ → Option ℕ
row_of e g = slice_index_or e.rows g None

abbrev pub marked_row : Given → Option ℕ → Option Row
marked_row g o = option_map (row_at g) o

pub record Best (m : Making) (b : Batch) (marks : Option Flags) (k n : ℕ) (o : Option ℕ) : Type 0 where
  pub wins_so : marked_row b.columns o ≡ winner m (brought m b marks k n)
  pub among : (r : ℕ) → o ≡ Some r → r < n

abbrev pub Unmarked : Extremes → Type 0
Unmarked e = (k : ℕ) → row_of e k ≡ None

abbrev pub outranks : Making → Row → Option Row → Bool
outranks m r None = true
outranks m r (Some w) = beats m r w

abbrev pub gained : Book → ℕ → List Row → Book
gained b g rows = slice_set b g (slice_index_or b g [] ++ rows)

pub record GotBelow (m : Making) (b : Batch) (marks : Option Flags) (g : ℕ) (before after : Book) : Type 0 where
  pub as_many : length after ≡ length before
  pub got : (k : ℕ) → k < g → k < length before → slice_index_or after k [] ≡ slice_index_or before k [] ++ brought m b marks k (length b.indices)
  pub others : (k : ℕ) → g ≤ k → slice_index_or after k [] ≡ slice_index_or before k []

module _ {S O F G : Type 0} {s : Ghosts S F} {o : Ghosts O G} where
  abbrev pub BestOfAll : FirstLastGroupsAccumulator S O F G s o → Batch → Option Flags → Extremes → Type 0
  BestOfAll a b marks e = (k : ℕ) → Best (making a) b marks k (length b.indices) (row_of e k)

  abbrev pub TakesAll : FirstLastGroupsAccumulator S O F G s o → Batch → Type 0
  TakesAll a b = (r : ℕ) → r < length b.indices → Takes a.kept b.columns r

  abbrev pub Leads : Keeper S O F G s o → Given → Leading → Type 0
  Leads k g l = LeadsIn (o.settings k.order) (order_columns g) l

  abbrev pub Outranks : FirstLastGroupsAccumulator S O F G s o → Given → ℕ → Option ℕ → Bool → Type 0
  Outranks a g r marked t = Takes a.kept g r → ((i : ℕ) → marked ≡ Some i → Takes a.kept g i) → t ≡ outranks (making a) (row_at g r) (marked_row g marked)

  abbrev pub Chooses : FirstLastGroupsAccumulator S O F G s o → Batch → Option Flags → ℕ → Option ℕ → Bool → Type 0
  Chooses a b marks r marked t =
      Takes a.kept b.columns r → ((i : ℕ) → marked ≡ Some i → Takes a.kept b.columns i)
      → t ≡ (admitted (making a) b.columns marks r && outranks (making a) (row_at b.columns r) (marked_row b.columns marked))

  abbrev pub Gains : FirstLastGroupsAccumulator S O F G s o → ℕ → List Row → FirstLastGroupsAccumulator S O F G s o → Type 0
  Gains a g rows a' = (b : Book) → Keeps a b → Keeps a' (gained b g rows)
