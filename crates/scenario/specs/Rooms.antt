-- Rooms: how large the output parts are.
--   RoomText  a text writes a room: so much more behind a plus, or a part to be short behind a minus
--   RoomFor  the room that is written, or as much as is needed where none is
--   Sized  a part that needs so much has this size: as much, so much more, or one less where it is the part named
use Rattle.std.specs.Prelude.{◌≡◌, ◌≢◌, ℕ, ◌+◌, ◌-◌, min, List, ◌∷◌, Some, None, Option, IsTrue}
use Rattle.scenario.specs.declared.rooms.OutputPart.{OutputPart}
use Rattle.scenario.specs.declared.rooms.Room.{Room}
use Rattle.scenario.specs.declared.rooms.Room.TheVariants.{Exact, More, Short}
use Rattle.scenario.specs.Names.{part_name, has_buffer}
use Rattle.scenario.specs.Texts.{IsCount}

abbrev pub Sized : Room → OutputPart → ℕ → ℕ → Type 0
Sized Exact part needed size = size ≡ needed
Sized (More more) part needed size = size ≡ min (needed + more) 18446744073709551615
Sized (Short short) part needed size = (short ≡ part → size ≡ needed - 1) × (short ≢ part → size ≡ needed)

abbrev pub RoomText : List ℕ → Room → Type 0
RoomText t Exact = ⊥
RoomText t (More more) = (digits : List ℕ) × (t ≡ 43 ∷ digits) × IsCount 64 digits more
RoomText t (Short part) = (t ≡ 45 ∷ part_name part) × IsTrue (has_buffer part.column part.buffer)

abbrev pub RoomFor : Option (List ℕ) → Room → Type 0
RoomFor None room = room ≡ Exact
RoomFor (Some t) room = RoomText t room
