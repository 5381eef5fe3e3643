-- Fronts: the first n groups of a state and an order, with their set flags, as they are written out, and what declines that.
--   Front        what is written from: how the state and the order are set, the entries of both, and a set flag for each group
--   keys_out, flags_out   the keys and the set flags of the first n groups, as they are written
--   state_out    values, keys and set flags written to the fronts of the buffers
--   too_few      FEWER, where so many entries are held
--   cells_short  SPACE in the values
--   key_short    SPACE in key column j, where the order reads one
--   marks_short  SPACE in the set flags, by their number
--   state_short  SPACE in the first part that is too short: the values, then the lowest key column, then the set flags
--   values_declined, state_declined   the checks FEWER and SPACE of writing the values, and of writing all parts
use Rattle.std.specs.Prelude.{ℕ, Bool, not, ◌&&◌, List, [], ◌∷◌, length, Option, nat_lt}
use Rattle.column.specs.Cells.{Cell}
use Rattle.column.specs.Checks.{refuse, first_of}
use Rattle.column.specs.Faults.{Fault, fault, FEWER, SPACE, in_state, in_order, in_accumulator}
use Rattle.layout.specs.Layout.{Parts, FlagParts, fits, written, written_all, written_flags}
use Rattle.layout.specs.Written.{flags_laid, flag_room}
use Rattle.tables.specs.Meaning.{Settings}
use Rattle.tables.specs.Refusals.{cells_laid, key_laid, keys_laid}
use Rattle.book.specs.Declines.{order_column, own}
use Rattle.book.specs.Emission.{Outputs, keys_short, flags_short}

pub record Front : Type 0 where
  pub state : Settings
  pub order : Settings
  pub cells : List (List Cell)
  pub keys : List (List Cell)
  pub flags : ℕ → Option Bool

abbrev pub keys_out : Front → ℕ → List Parts
keys_out f n = keys_laid f.order f.keys n

abbrev pub flags_out : Front → ℕ → FlagParts
flags_out f n = flags_laid f.flags n

abbrev pub state_out : Front → ℕ → Outputs → Outputs
state_out f n b = record {
  values = written (cells_laid f.state f.cells n) b.values;
  keys = written_all (keys_out f n) b.keys;
  flags = written_flags (flags_out f n) b.flags;
}

abbrev pub too_few : ℕ → ℕ → Option Fault
too_few held n = refuse (nat_lt held n) (own FEWER)

abbrev pub cells_short : Settings → List (List Cell) → ℕ → Parts → Option Fault
cells_short s es n out = refuse (not (fits (cells_laid s es n) out)) (fault SPACE in_state 0 0)

abbrev pub key_short : Settings → List (List Cell) → ℕ → ℕ → Parts → Option Fault
key_short o es j n out = refuse (nat_lt j (length o.kinds) && not (fits (key_laid o es j n) out)) (fault SPACE in_order (order_column j) 0)

abbrev pub marks_short : ℕ → FlagParts → Option Fault
marks_short n out = refuse (not (flag_room n out)) (fault SPACE in_accumulator 4 0)

abbrev pub state_short : Front → ℕ → Outputs → Option Fault
state_short f n b =
    first_of (cells_short f.state f.cells n b.values
    ∷ keys_short 0 (keys_out f n) b.keys
    ∷ flags_short (flags_out f n) b.flags ∷ [])

abbrev pub values_declined : Settings → List (List Cell) → ℕ → Parts → Option Fault
values_declined s es n out = first_of (too_few (length es) n ∷ cells_short s es n out ∷ [])

abbrev pub state_declined : Front → ℕ → Outputs → Option Fault
state_declined f n b = first_of (too_few (length f.cells) n ∷ too_few (length f.keys) n ∷ state_short f n b ∷ [])
