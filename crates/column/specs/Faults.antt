-- Faults: the numbers of refusals and of layers.
--   KIND, SHAPE, ROWS, COLS, LONG, TOTAL, GROUP, SPACE, FLAGS, SHRUNK, FEWER, EMPTY   the number of each refusal, as users see it
--   in_column, in_state, in_order, in_accumulator   the number of the layer that a refusal comes from
--   Fault, fault      a refusal as reported: its number, its layer, and the column and the row where it was met
--   column_number     the number of each refusal of the column layer
--   column_text       a refusal of the column layer as it is printed
use Rattle.std.specs.Prelude.{ℕ, List, ◌++◌, codes, decimal}
use Rattle.column.specs.declared.ColumnFault.{ColumnFault}
use Rattle.column.specs.declared.ColumnFault.TheVariants as column

-- unknown kind, or not the kind read
abbrev pub KIND : ℕ
KIND = 1

-- parts that do not fit, or over 1,024 rows
abbrev pub SHAPE : ℕ
SHAPE = 2

-- unequal row counts, or a row past the column
abbrev pub ROWS : ℕ
ROWS = 3

-- not as many order columns as the order reads, or not 1 to 3
abbrev pub COLS : ℕ
COLS = 4

-- a cell that is not taken
abbrev pub LONG : ℕ
LONG = 5

-- a total over 256
abbrev pub TOTAL : ℕ
TOTAL = 6

-- a group index not below the total, or not held
abbrev pub GROUP : ℕ
GROUP = 7

-- an output part that is too short
abbrev pub SPACE : ℕ
SPACE = 8

-- a null flag in a merge without groups
abbrev pub FLAGS : ℕ
FLAGS = 9

-- a total below the groups held
abbrev pub SHRUNK : ℕ
SHRUNK = 10

-- more groups asked for than are held
abbrev pub FEWER : ℕ
FEWER = 11

-- a state of no group
abbrev pub EMPTY : ℕ
EMPTY = 12

abbrev pub in_column : ℕ
in_column = 1

abbrev pub in_state : ℕ
in_state = 2

abbrev pub in_order : ℕ
in_order = 3

abbrev pub in_accumulator : ℕ
in_accumulator = 4

pub record Fault : Type 0 where
  pub number : ℕ
  pub layer : ℕ
  pub column : ℕ
  pub row : ℕ

abbrev pub fault : ℕ → ℕ → ℕ → ℕ → Fault
fault n l c r = record { number = n; layer = l; column = c; row = r }

abbrev pub column_number : ColumnFault → ℕ
column_number column.Kind = KIND
column_number column.Shape = SHAPE

abbrev pub column_text : ColumnFault → List ℕ
column_text f = decimal (column_number f) ++ codes " layer=" ++ decimal in_column
