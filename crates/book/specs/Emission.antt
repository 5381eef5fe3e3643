-- Emission: what leaves an accumulator, what declines that, and the flags that a conversion writes.
--   To               all groups, or the first n
--   emits            how many groups leave, where so many are held
--   Outputs          the caller's buffers: for values, for each key column, and for set flags
--   value_shown, key_shown, set_shown   what a winner shows as value, key and set flag; a missing one is unset and all null
--   value_parts, key_parts, set_parts   the columns of some winners, as they are written
--   fewer, values_short, keys_short, flags_short   the checks FEWER and SPACE: too few groups, or a buffer that is too short
--   evaluate_declined, state_declined   the checks FEWER, EMPTY and SPACE, where the winners ws are held
--   passed_on, converted_flags   the flag of a row and the flags column of a conversion: the filter with its nulls, or all true
--   convert_declined the checks of a conversion: COLS, ROWS and SPACE
use Rattle.std.specs.Prelude.{ℕ, suc, Bool, true, false, not, List, [], ◌∷◌, map, length, take, Some, None, Option, ◌==◌, nat_lt, slice_index_or, if◌then◌else◌}
use Rattle.column.specs.Checks.{refuse, first_of}
use Rattle.column.specs.Faults.{Fault, fault, SPACE, FEWER, EMPTY, in_state, in_order, in_accumulator}
use Rattle.column.specs.Cells.{Kind, Cell, null}
use Rattle.column.specs.Columns.{Flags, flag_at}
use Rattle.layout.specs.Layout.{Parts, FlagParts, laid_out, laid_flags, fits, fits_flags}
use Rattle.book.specs.Winners.{Row, Making}
use Rattle.book.specs.Batches.{Given, every_row}
use Rattle.book.specs.Declines.{own, order_column, cols, rows}

pub data To : Type 0 where
  all : To
  first : ℕ → To

abbrev pub emits : To → ℕ → ℕ
emits all held = held
emits (first n) held = n

pub record Outputs : Type 0 where
  pub values : Parts
  pub keys : List Parts
  pub flags : FlagParts

abbrev pub value_shown : Option Row → Cell
value_shown None = null
value_shown (Some r) = r.value

abbrev pub key_shown : ℕ → Option Row → Cell
key_shown j None = null
key_shown j (Some r) = slice_index_or r.key j null

abbrev pub set_shown : Option Row → Option Bool
set_shown None = Some false
set_shown (Some r) = Some true

abbrev pub value_parts : Making → List (Option Row) → Parts
value_parts m ws = laid_out m.state.kind (map value_shown ws)

-- from key column j on
abbrev pub key_parts : ℕ → List Kind → List (Option Row) → List Parts
key_parts j [] ws = []
key_parts j (k ∷ ks) ws = laid_out k (map (key_shown j) ws) ∷ key_parts (suc j) ks ws

abbrev pub set_parts : List (Option Row) → FlagParts
set_parts ws = laid_flags (map set_shown ws)

-- Checks

abbrev pub fewer : To → ℕ → Option Fault
fewer to held = refuse (nat_lt held (emits to held)) (own FEWER)

abbrev pub values_short : Making → List (Option Row) → Parts → Option Fault
values_short m ws out = refuse (not (fits (value_parts m ws) out)) (fault SPACE in_state 0 0)

-- the first key column, from column j on, whose buffers are too short or not there
abbrev pub keys_short : ℕ → List Parts → List Parts → Option Fault
keys_short j [] outs = None
keys_short j (p ∷ ps) [] = Some (fault SPACE in_order (order_column j) 0)
keys_short j (p ∷ ps) (o ∷ outs) = if fits p o then keys_short (suc j) ps outs else Some (fault SPACE in_order (order_column j) 0)

abbrev pub flags_short : FlagParts → FlagParts → Option Fault
flags_short new before = refuse (not (fits_flags new before)) (fault SPACE in_accumulator 4 0)

unfoldable pub evaluate_declined : Making → List (Option Row) → To → Outputs → Option Fault
evaluate_declined m ws to o =
    first_of (fewer to (length ws) ∷ values_short m (take (emits to (length ws)) ws) o.values ∷ [])

unfoldable pub state_declined : Making → List (Option Row) → To → Outputs → Option Fault
state_declined m ws to o =
    let out = take (emits to (length ws)) ws in
    first_of (fewer to (length ws)
    ∷ refuse (emits to (length ws) == 0) (own EMPTY)
    ∷ values_short m out o.values
    ∷ keys_short 0 (key_parts 0 m.order.kinds out) o.keys
    ∷ flags_short (set_parts out) o.flags ∷ [])

-- Conversion

abbrev pub passed_on : Option Flags → ℕ → Option Bool
passed_on None r = Some true
passed_on (Some f) r = flag_at f r

abbrev pub converted_flags : Given → Option Flags → FlagParts
converted_flags g marks = laid_flags (map (passed_on marks) (every_row g))

unfoldable pub convert_declined : Making → Given → Option Flags → Outputs → Option Fault
convert_declined m g marks o = first_of (cols m g ∷ rows g marks ∷ flags_short (converted_flags g marks) o.flags ∷ [])
