-- Held: the row that an ungrouped accumulator holds, and what takes its place.
--   Kept       a held row, and where it came from: an update or a merge
--   shown_row  the held row without where it came from: what an emission shows
--   origin_of  what a batch is: an update has no flags, a merge has
--   unmerged   a held row came by an update
--   outdoes    a row beats another; for LAST where ties count, is not beaten by it
--   replaces   a batch's row takes the place of a held one. Of input in order the rows of updates are not compared with one another: LAST replaces, FIRST keeps. Any other pair is compared, and ties count where LAST's input is in order
--   gives_way  the same of what is held: nothing held gives way to any row
--   stored     what is held after a batch put a row up
--   taken      what is held after a batch that is not declined
use Rattle.std.specs.Prelude.{Bool, true, false, not, ◌&&◌, Some, None, Option, if◌then◌else◌}
use Rattle.std.specs.Option.{option_map}
use Rattle.column.specs.Columns.{Flags}
use Rattle.book.specs.Winners.{Row, Making, beats}
use Rattle.book.specs.Batches.{Given}
use Rattle.ungrouped.specs.declared.origin.Origin.{Origin}
use Rattle.ungrouped.specs.declared.origin.Origin.TheVariants as origin
use Rattle.ungrouped.specs.Rows.{Alone, arrives, counted, picked}

pub record Kept : Type 0 where
  pub row : Row
  pub came_by : Origin

abbrev pub shown_row : Option Kept → Option Row
shown_row held = option_map (λ k. k.row) held

abbrev pub origin_of : Option Flags → Origin
origin_of None = origin.Update
origin_of (Some f) = origin.Merge

abbrev pub unmerged : Origin → Bool
unmerged origin.Update = true
unmerged origin.Merge = false

unfoldable pub outdoes : Making → Bool → Row → Row → Bool
outdoes m ties new old = if ties && not m.first then not (beats m old new) else beats m new old

abbrev pub replaces : Alone → Option Flags → Row → Kept → Bool
replaces a marks new held = if arrives a marks && unmerged held.came_by then not a.making.first else outdoes a.making a.in_order new held.row

abbrev pub gives_way : Alone → Option Flags → Row → Option Kept → Bool
gives_way a marks new None = true
gives_way a marks new (Some k) = replaces a marks new k

abbrev pub stored : Alone → Option Flags → Option Kept → Option Row → Option Kept
stored a marks held None = held
stored a marks held (Some r) = if gives_way a marks r held then Some (record { row = r; came_by = origin_of marks }) else held

abbrev pub taken : Alone → Option Flags → Option Kept → Given → Option Kept
taken a marks held g = stored a marks held (picked a marks (counted a.making g marks))
