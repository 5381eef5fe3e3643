-- Texts: what is answered, as text.
--   listed         texts of the numbers of a list, parted by single spaces
--   group_text     an open group's number, or `finished` where the group has left
--   open_text      a list of open group numbers
--   emitted_text   an emission that dropped so many groups, before its output parts
--   declined_text  why a call is declined
--   Settled        a call's answer: its text, why it is declined, or that memory does not suffice
--   hex_text       a byte as two hexadecimal digits
--   bytes_text     the bytes of an output part
--   offsets_text   the offsets of an output part
--   part_text      an output part, by its name
--   offsets_part   the offsets of a column, where it is of byte strings
--   buffers_text   the output parts of a column
--   flags_text     the output parts of a column of flags
use Rattle.std.specs.Prelude.{◌≡◌, ℕ, ◌/◌, ◌%◌, ◌==◌, false, List, [], ◌∷◌, ◌++◌, codes, decimal, Result, Ok, Err, IfOk, IsErr, if◌then◌else◌}
use Rattle.std.specs.List.{flat_map, join_by}
use Rattle.std.specs.Fmt.{digit_glyph}
use Rattle.column.specs.Faults.{column_text}
use Rattle.column.specs.declared.Kind.{Kind}
use Rattle.column.specs.declared.Kind.TheVariants.{Number, Bytes, Record}
use Rattle.faults.specs.Reported.{place_number, fault_seen, fault_text}
use Rattle.grouped.specs.Notices as notices
use Rattle.scenario.specs.Names.{part_name}
use Rattle.scenario.specs.declared.rooms.OutputColumn.{OutputColumn}
use Rattle.scenario.specs.declared.rooms.OutputColumn.TheVariants.{Flags}
use Rattle.scenario.specs.declared.rooms.Buffer.TheVariants.{Validity, Offsets, Data, Bits}
use Rattle.scenario.specs.declared.rooms.OutputPart.{OutputPart}
use Rattle.replay.specs.declared.given.Declined.{Declined}
use Rattle.replay.specs.declared.given.Declined.TheVariants.{Column, Call}
use Rattle.replay.specs.declared.given.Stop.{Stop}
use Rattle.replay.specs.declared.given.Stop.TheVariants as stop
use Rattle.replay.specs.declared.buffers.Buffers.{Buffers}
use Rattle.replay.specs.declared.buffers.FlagBuffers.{FlagBuffers}

abbrev pub listed : (ℕ → List ℕ) → List ℕ → List ℕ
listed text list = join_by text (codes " ") list

abbrev pub group_text : ℕ → List ℕ
group_text group = if group == notices.finished then codes "finished" else decimal group

abbrev pub open_text : List ℕ → List ℕ
open_text list = codes "open=[" ++ (listed group_text list ++ codes "]")

abbrev pub emitted_text : ℕ → List ℕ → List ℕ
emitted_text dropped list = codes "ok dropped=" ++ (decimal dropped ++ (codes " " ++ open_text list))

abbrev pub declined_text : Declined → List ℕ
declined_text (Column fault place) = column_text fault ++ (codes " column=" ++ (decimal (place_number place) ++ codes " row=0"))
declined_text (Call fault) = fault_text (fault_seen fault)

abbrev pub Settled : {S E : Type 0} → (S → List ℕ) → Result S Stop → Result S E → Type 0
Settled bytes (Ok text) r = r ≡ Ok text
Settled bytes (Err (stop.Declined why)) r = IfOk r (λ text. bytes text ≡ codes "declined " ++ declined_text why)
Settled bytes (Err stop.OutOfMemory) r = IsErr r

abbrev pub hex_text : ℕ → List ℕ
hex_text byte = digit_glyph false (byte / 16) ∷ digit_glyph false (byte % 16) ∷ []

abbrev pub bytes_text : List ℕ → List ℕ
bytes_text bytes = codes "x" ++ flat_map hex_text bytes

abbrev pub offsets_text : List ℕ → List ℕ
offsets_text offsets = codes "[" ++ (listed decimal offsets ++ codes "]")

abbrev pub part_text : OutputPart → List ℕ → List ℕ
part_text part shown = codes " " ++ (part_name part ++ (codes "=" ++ shown))

abbrev pub offsets_part : Kind → OutputColumn → List ℕ → List ℕ
offsets_part Number column offsets = []
offsets_part Record column offsets = []
offsets_part Bytes column offsets = part_text (record { column = column; buffer = Offsets }) (offsets_text offsets)

abbrev pub buffers_text : Buffers → List ℕ
buffers_text b = part_text (record { column = b.column; buffer = Validity }) (bytes_text b.validity.items)
    ++ (offsets_part b.kind b.column b.offsets.items ++ part_text (record { column = b.column; buffer = Data }) (bytes_text b.«data».items))

abbrev pub flags_text : FlagBuffers → List ℕ
flags_text b = part_text (record { column = Flags; buffer = Bits }) (bytes_text b.bits.items) ++ part_text (record { column = Flags; buffer = Validity }) (bytes_text b.validity.items)
