-- Reported: the number, the layer and the place of every refusal that an accumulator answers.
--   own_number, number_of   the number of each case
--   own_of                  a group table's refusal as the accumulator's own
--   layer_of                the layer that a refusal comes from
--   place_number            the number of the place where a refusal is met: 0 values, 1 to 3 order columns, 4 filter or flags, 9 none
--   fault_seen              a fault by its number, its layer, its column and its row
--   fault_text              a fault as it is printed
--   declined_seen           what a check declines, if it does
--   Placed                  a lower layer's result with the accumulator's fault made of its refusal, its place and its row
--   placed                  the same where the refusal stands in the fault whole
use Rattle.std.specs.Prelude.{◌≡◌, ℕ, List, ◌++◌, Some, None, Ok, Err, Option, Result, IsErrAnd, codes, decimal}
use Rattle.column.specs.Faults as Faults
use Rattle.column.specs.Faults.{ROWS, COLS, TOTAL, GROUP, SPACE, FLAGS, SHRUNK, FEWER, EMPTY, in_state, in_order, in_accumulator}
use Rattle.tables.specs.Numbered.{state_number, order_number}
use Rattle.tables.specs.declared.TableFault.{TableFault}
use Rattle.tables.specs.declared.TableFault.TheVariants as table
use Rattle.faults.specs.declared.OwnFault.{OwnFault}
use Rattle.faults.specs.declared.OwnFault.TheVariants as own
use Rattle.faults.specs.declared.Refusal.{Refusal}
use Rattle.faults.specs.declared.Refusal.TheVariants.{State, Order, Own}
use Rattle.faults.specs.declared.Place.{Place}
use Rattle.faults.specs.declared.Place.TheVariants.{Values, FirstKey, SecondKey, ThirdKey, Marks, Call}
use Rattle.faults.specs.declared.Fault.{Fault}
use Rattle.faults.specs.declared.At.{At}

abbrev pub own_number : OwnFault → ℕ
own_number own.Cols = COLS
own_number own.Rows = ROWS
own_number own.Total = TOTAL
own_number own.Shrunk = SHRUNK
own_number own.Group = GROUP
own_number own.Space = SPACE
own_number own.Flags = FLAGS
own_number own.Fewer = FEWER
own_number own.Empty = EMPTY

abbrev pub own_of : TableFault → OwnFault
own_of table.Total = own.Total
own_of table.Shrunk = own.Shrunk
own_of table.Fewer = own.Fewer

abbrev pub number_of : Refusal → ℕ
number_of (State f) = state_number f
number_of (Order f) = order_number f
number_of (Own f) = own_number f

abbrev pub layer_of : Refusal → ℕ
layer_of (State f) = in_state
layer_of (Order f) = in_order
layer_of (Own f) = in_accumulator

abbrev pub place_number : Place → ℕ
place_number Values = 0
place_number FirstKey = 1
place_number SecondKey = 2
place_number ThirdKey = 3
place_number Marks = 4
place_number Call = 9

abbrev pub fault_seen : Fault → Faults.Fault
fault_seen f = Faults.fault (number_of f.refusal) (layer_of f.refusal) (place_number f.place) f.row

abbrev pub fault_text : Faults.Fault → List ℕ
fault_text f = decimal f.number ++ codes " layer=" ++ decimal f.layer ++ codes " column=" ++ decimal f.column ++ codes " row=" ++ decimal f.row

abbrev pub declined_seen : {X : Type 0} → Result X Fault → Option Faults.Fault
declined_seen (Ok x) = None
declined_seen (Err f) = Some (fault_seen f)

abbrev pub Placed : {X F : Type 0} → (At F → Fault → Type 0) → Result X F → Place → ℕ → Result X Fault → Type 0
Placed makes (Ok x) p n y = y ≡ Ok x
Placed makes (Err f) p n y = IsErrAnd y (makes (record { fault = f; place = p; row = n }))

abbrev pub placed : {X F : Type 0} → (F → Refusal) → Result X F → Place → ℕ → Result X Fault
placed whole (Ok x) p n = Ok x
placed whole (Err f) p n = Err (record { refusal = whole f; place = p; row = n })
