-- Leaving: the first groups of an accumulator as they are written out, and what is held without them.
--   front    what is written from
--   without  what is held after the first n groups have left
use Rattle.std.specs.Prelude.{ℕ, drop, slice_get}
use Rattle.std.specs.Option.{option_map}
use Rattle.tables.specs.declared.table.GroupTable.{Ghosts}
use Rattle.keeping.specs.Fronts.{Front}
use Rattle.keeping.specs.Keepers as Keepers
use Rattle.grouped.specs.Accumulators.{Table}
use Rattle.grouped.specs.declared.slots.Slot.{Slot}
use Rattle.grouped.specs.declared.FirstLastGroupsAccumulator.{FirstLastGroupsAccumulator}

abbrev pub without : ℕ → Table → Table
without n t = record { flags = drop n t.flags; cells = drop n t.cells; keys = drop n t.keys }

abbrev pub front : {S O F G : Type 0} {s : Ghosts S F} {o : Ghosts O G} → FirstLastGroupsAccumulator S O F G s o → Front
front a = Keepers.front a.kept (λ g. option_map (λ (x : Slot). x.set) (slice_get a.slots.slots g))
