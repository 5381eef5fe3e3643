-- Winners: which row of a group the stage keeps.
--   Row        a row as it is kept: a value, and a key of one cell for each order column
--   Making     how an accumulator was made: its value state, its row order, FIRST or LAST, and whether rows with a null value are left out
--   Lawful     the state and the order obey their laws
--   beats      for FIRST a row with a smaller key beats, for LAST one with a larger key
--   unbeaten   no row of the group beats this one
--   top_rows   the rows of a group that no other of its rows beats, in the order in which they came
--   earliest   the first of some rows, if there are any
--   winner     the earliest top row; none where there are no rows
--   winners    the winner of each group
use Rattle.std.specs.Prelude.{Bool, not, List, [], ◌∷◌, map, Some, None, filter, Option, if◌then◌else◌}
use Rattle.column.specs.Cells.{Cell}
use Rattle.tables.specs.Meaning.{Settings, StateMeaning, StateLaws, OrderLaws}
use Rattle.tables.specs.Refusals.{some_of}

pub record Row : Type 0 where
  pub value : Cell
  pub key : List Cell

pub record Making : Type 0 where
  pub state : StateMeaning
  pub order : Settings
  pub first : Bool
  pub ignore_nulls : Bool

pub record Lawful (m : Making) : Type 0 where
  pub of_state : StateLaws m.state
  pub of_order : OrderLaws m.order

unfoldable pub beats : Making → Row → Row → Bool
beats m a b = if m.first then not (m.order.leq b.key a.key) else not (m.order.leq a.key b.key)

unfoldable pub unbeaten : Making → List Row → Row → Bool
unbeaten m g r = not (some_of (λ s. beats m s r) g)

unfoldable pub top_rows : Making → List Row → List Row
top_rows m g = filter (unbeaten m g) g

abbrev pub earliest : List Row → Option Row
earliest [] = None
earliest (r ∷ rs) = Some r

unfoldable pub winner : Making → List Row → Option Row
winner m g = earliest (top_rows m g)

unfoldable pub winners : Making → List (List Row) → List (Option Row)
winners m b = map (winner m) b
