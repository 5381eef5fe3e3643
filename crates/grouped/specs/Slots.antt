-- Slots: the slots of the held groups.
--   flags_held   the set flag of each held group
use Rattle.std.specs.Prelude.{Bool, List, map, take}
use Rattle.grouped.specs.declared.slots.Slot.{Slot}
use Rattle.grouped.specs.declared.slots.SlotTable.{SlotTable}

abbrev pub flags_held : SlotTable → List Bool
flags_held t = map (λ (s : Slot). s.set) (take t.len t.slots)
