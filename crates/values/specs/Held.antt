-- Held: what the value states hold.
--   one_each   entries of one cell each, by the cell of what is held
--   number_entries, bytes_entries, record_entries   a cell for each held group, of the state of each kind
--   NoneLong   no offset is more than 32 above the one before
use Rattle.std.specs.Prelude.{ℕ, ◌+◌, ◌<◌, ◌≤◌, List, [], ◌∷◌, map, length, slice_index}
use Rattle.column.specs.Cells.{Cell, number_cell, fields_cell}
use Rattle.layout.specs.Written.{short_cell}
use Rattle.values.specs.declared.bytes.BytesValueState.{BytesValueState}
use Rattle.values.specs.declared.number.NumberValueState.{NumberValueState}
use Rattle.values.specs.declared.record.RecordValueState.{RecordValueState}

abbrev pub one_each : {X : Type 0} → (X → Cell) → List X → List (List Cell)
one_each cell xs = map (λ x. cell x ∷ []) xs

abbrev pub number_entries : NumberValueState → List (List Cell)
number_entries s = one_each number_cell s.cells

abbrev pub bytes_entries : BytesValueState → List (List Cell)
bytes_entries s = one_each short_cell s.cells

abbrev pub record_entries : RecordValueState → List (List Cell)
record_entries s = one_each fields_cell s.cells

abbrev pub NoneLong : List ℕ → Type 0
NoneLong offsets = (r : ℕ) → r + 1 < length offsets → slice_index offsets (r + 1) ≤ slice_index offsets r + 32
