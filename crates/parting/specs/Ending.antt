-- Ending: when a grouped and an ungrouped LAST, as their calls led to them, hold the same.
--   Equal         the same set flag, value and key: those of group 0 of the one, and those of the other; a group that is not held yet counts as unset and null
--   TopsAgree     no row was admitted, or the first and the last top row of the deciding batch agree in value and key
--   ShowSame      group 0 of the one and the other show the same: both are unset, or both show a row, with the same value and the same key
--   TiesDecideOf  of the two, made alike, the one not said to get its input in order, and both given the same batches and nothing else: they show the same exactly when they are equal, and they are equal exactly when the tops agree
use Rattle.std.specs.Prelude.{◌≡◌, ◌↔◌, ◌⊎◌, false, List, [], map, slice_index_or}
use Rattle.std.specs.Option.{is_some}
use Rattle.column.specs.Cells.{null}
use Rattle.tables.specs.Meaning.{first_cells}
use Rattle.tables.specs.declared.table.GroupTable.{Ghosts}
use Rattle.book.specs.Winners.{Making, earliest}
use Rattle.book.specs.Batches.{Given}
use Rattle.agreement.specs.Deciding.{MadeAlike, WinnersAgree}
use Rattle.keeping.specs.Keepers.{cells, keys}
use Rattle.grouped.specs.declared.FirstLastGroupsAccumulator.{FirstLastGroupsAccumulator}
use Rattle.grouped.specs.Accumulators as Grouped
use Rattle.grouped.specs.Reached as GroupedReached
use Rattle.ungrouped.specs.declared.single.Single.{Single}
use Rattle.ungrouped.specs.Rows.{latest}
use Rattle.ungrouped.specs.Accumulators as Ungrouped
use Rattle.ungrouped.specs.Reached as UngroupedReached
use Rattle.parting.specs.Batches.{grouped_calls, alone_calls, group, fed_all, deciding_tops}

abbrev pub TopsAgree : Making → List Given → Type 0
TopsAgree m gs = (group (fed_all m [] gs) ≡ []) ⊎ WinnersAgree (earliest (deciding_tops m gs)) (latest (deciding_tops m gs))

module _ {S O F G : Type 0} {s : Ghosts S F} {o : Ghosts O G} where
  pub record Equal (a : FirstLastGroupsAccumulator S O F G s o) (l : Single S O F G s o) : Type 0 where
    pub flag : slice_index_or (Grouped.held a).flags 0 false ≡ is_some l.held
    pub value : slice_index_or (first_cells (Grouped.held a).cells) 0 null ≡ slice_index_or (first_cells (cells l.keeper)) 0 null
    pub key : slice_index_or (Grouped.held a).keys 0 (map (λ k. null) (Grouped.making a).order.kinds) ≡ slice_index_or (keys l.keeper) 0 []

  abbrev pub ShowSame : FirstLastGroupsAccumulator S O F G s o → Single S O F G s o → Type 0
  ShowSame a l = WinnersAgree (GroupedReached.winner_shown a 0) (UngroupedReached.row_shown l)

  abbrev pub TiesDecideOf : FirstLastGroupsAccumulator S O F G s o → Single S O F G s o → Type 0
  TiesDecideOf a l =
      (gs : List Given) → GroupedReached.Led a (grouped_calls gs) → UngroupedReached.Led l (alone_calls gs)
      → MadeAlike (Grouped.making a) (Ungrouped.alone l).making → (Ungrouped.alone l).making.first ≡ false → (Ungrouped.alone l).in_order ≡ false
      → (ShowSame a l ↔ Equal a l) × (Equal a l ↔ TopsAgree (Grouped.making a) gs)
