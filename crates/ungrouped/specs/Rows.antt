-- Rows: which rows of a batch count without groups, and which of them is picked.
--   Alone       how an ungrouped accumulator was made: a making, and whether its input is said to arrive in order
--   counts      a row of a batch counts: in an update where the null policy leaves it, in a merge where its flag is true and not null, whatever the null policy
--   counted     the rows of a batch that count, in the order in which they came
--   arrives     the batch is an update, and its rows are said to arrive in order
--   latest      the last of some rows, if there are any
--   outermost   the earliest of some rows for FIRST, the latest for LAST
--   picked      the row that a batch puts up: the outermost of its top rows, or of all its rows that count where these are said to arrive in order
use Rattle.std.specs.Prelude.{ℕ, Bool, false, List, [], ◌∷◌, map, Some, None, filter, Option, if◌then◌else◌}
use Rattle.column.specs.Columns.{Flags, true_at}
use Rattle.book.specs.Winners.{Row, Making, top_rows, earliest}
use Rattle.book.specs.Batches.{Given, every_row, row_at, admitted}

pub record Alone : Type 0 where
  pub making : Making
  pub in_order : Bool

abbrev pub counts : Making → Given → Option Flags → ℕ → Bool
counts m g None r = admitted m g None r
counts m g (Some f) r = true_at f r

unfoldable pub counted : Making → Given → Option Flags → List Row
counted m g marks = map (row_at g) (filter (counts m g marks) (every_row g))

abbrev pub arrives : Alone → Option Flags → Bool
arrives a None = a.in_order
arrives a (Some f) = false

abbrev pub latest : List Row → Option Row
latest [] = None
latest (r ∷ []) = Some r
latest (r ∷ s ∷ rs) = latest (s ∷ rs)

abbrev pub outermost : Making → List Row → Option Row
outermost m rs = if m.first then earliest rs else latest rs

unfoldable pub picked : Alone → Option Flags → List Row → Option Row
picked a marks rs = outermost a.making (if arrives a marks then rs else top_rows a.making rs)
