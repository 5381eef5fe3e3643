-- Fresh: the buffers of output parts, before a call.
--   untouched_byte, untouched_offset   what every byte and every offset is
--   Fresh         a part is as large as the room says, and untouched
--   FreshOffsets  the same of a column's offsets; only one of byte strings has any
--   FreshBuffers  the buffers of a column that needs some space
--   FreshFlags    the buffers of so many flags
--   parts_held, flags_held   what the buffers hold
use Rattle.std.specs.Prelude.{◌≡◌, ℕ, ◌+◌, ◌/◌, List, [], length, replicate}
use Rattle.column.specs.declared.Kind.{Kind}
use Rattle.column.specs.declared.Kind.TheVariants.{Number, Bytes, Record}
use Rattle.layout.specs.Layout.{Parts, FlagParts}
use Rattle.layout.specs.declared.Space.{Space}
use Rattle.scenario.specs.Rooms.{Sized}
use Rattle.scenario.specs.declared.rooms.OutputColumn.{OutputColumn}
use Rattle.scenario.specs.declared.rooms.OutputColumn.TheVariants.{Flags}
use Rattle.scenario.specs.declared.rooms.Buffer.TheVariants.{Validity, Offsets, Data, Bits}
use Rattle.scenario.specs.declared.rooms.OutputPart.{OutputPart}
use Rattle.scenario.specs.declared.rooms.Room.{Room}
use Rattle.replay.specs.declared.buffers.Buffers.{Buffers}
use Rattle.replay.specs.declared.buffers.FlagBuffers.{FlagBuffers}

abbrev pub untouched_byte : ℕ
untouched_byte = 170

abbrev pub untouched_offset : ℕ
untouched_offset = 2863311530

abbrev pub Fresh : Room → OutputPart → ℕ → ℕ → List ℕ → Type 0
Fresh room part needed fill items = Sized room part needed (length items) × (items ≡ replicate (length items) fill)

abbrev pub FreshOffsets : Kind → Room → OutputPart → ℕ → List ℕ → Type 0
FreshOffsets Number room part needed items = items ≡ []
FreshOffsets Record room part needed items = items ≡ []
FreshOffsets Bytes room part needed items = Fresh room part needed untouched_offset items

abbrev pub FreshBuffers : OutputColumn → Kind → Space → Room → Buffers → Type 0
FreshBuffers column kind space room b = (b.column ≡ column) × (b.kind ≡ kind)
    × Fresh room (record { column = column; buffer = Validity }) space.validity untouched_byte b.validity.items
    × FreshOffsets kind room (record { column = column; buffer = Offsets }) space.offsets b.offsets.items
    × Fresh room (record { column = column; buffer = Data }) space.«data» untouched_byte b.«data».items

abbrev pub FreshFlags : ℕ → Room → FlagBuffers → Type 0
FreshFlags rows room b = Fresh room (record { column = Flags; buffer = Validity }) ((rows + 7) / 8) untouched_byte b.validity.items
    × Fresh room (record { column = Flags; buffer = Bits }) ((rows + 7) / 8) untouched_byte b.bits.items

abbrev pub parts_held : Buffers → Parts
parts_held b = record { validity = b.validity.items; offsets = b.offsets.items; content = b.«data».items }

abbrev pub flags_held : FlagBuffers → FlagParts
flags_held b = record { validity = b.validity.items; bits = b.bits.items }
