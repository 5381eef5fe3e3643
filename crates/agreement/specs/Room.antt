-- Room: how long buffers are that take any one cell.
--   RoomForOne   buffers of at least so many elements in each part fit a column of one cell, whatever its kind
use Rattle.std.specs.Prelude.{◌≡◌, ℕ, ◌≤◌, true, [], ◌∷◌, length}
use Rattle.column.specs.Cells.{Kind, Cell, Proper}
use Rattle.layout.specs.Layout.{Parts, laid_out, fits}

abbrev pub RoomForOne : ℕ → Type 0
RoomForOne n =
    (k : Kind) (c : Cell) → Proper k c → (out : Parts) → n ≤ length out.validity → n ≤ length out.offsets → n ≤ length out.content → fits (laid_out k (c ∷ [])) out ≡ true
