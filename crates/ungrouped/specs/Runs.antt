-- Runs: what a list of calls has given to an ungrouped accumulator, and which of it is held.
--   rows_taken   the rows that count of a batch that is not declined
--   brings, brings_in_turn   the rows that a call brings, and those of an update alone
--   given      the rows that a list of calls has brought, in the order in which they came
--   arrived    those of updates alone
--   InTurn     of an earlier and a later row, as input in order promises: for FIRST the later does not beat the earlier, for LAST the earlier does not beat the later
--   InOrder    so it is of any two of some rows
--   Top        a row is one of some rows, and none of these beats it
--   Best       what is held is a top row of these; nothing, where there are none
--   HoldsBest  where the rows of updates arrive in order, if they are said to, what is held after any list of calls is a top row of all rows that they brought
use Rattle.std.specs.Prelude.{◌≡◌, true, false, List, [], Some, None, Option, if◌then◌else◌}
use Rattle.std.specs.List.{AllPairs, Contains, flat_map}
use Rattle.column.specs.Checks.{unless_refused}
use Rattle.column.specs.Columns.{Flags}
use Rattle.book.specs.Winners.{Row, Making, beats}
use Rattle.book.specs.Batches.{Given}
use Rattle.book.specs.Declines.{ungrouped_declined}
use Rattle.book.specs.Emission.{Outputs}
use Rattle.ungrouped.specs.Rows.{Alone, counted}
use Rattle.ungrouped.specs.Held.{shown_row}
use Rattle.ungrouped.specs.Calls.{Call, update, merge, evaluate, state, held_after}

abbrev pub rows_taken : Making → Given → Option Flags → List Row
rows_taken m g marks = unless_refused (ungrouped_declined m g marks) (counted m g marks) []

abbrev pub brings : Making → Call → List Row
brings m (update g) = rows_taken m g None
brings m (merge g f) = rows_taken m g (Some f)
brings m evaluate = []
brings m state = []

abbrev pub brings_in_turn : Making → Call → List Row
brings_in_turn m (update g) = rows_taken m g None
brings_in_turn m (merge g f) = []
brings_in_turn m evaluate = []
brings_in_turn m state = []

abbrev pub given : Making → List (Call × Outputs) → List Row
given m past = flat_map (λ (c : Call × Outputs). brings m c.0) past

abbrev pub arrived : Making → List (Call × Outputs) → List Row
arrived m past = flat_map (λ (c : Call × Outputs). brings_in_turn m c.0) past

abbrev pub InTurn : Making → Row → Row → Type 0
InTurn m earlier later = (if m.first then beats m later earlier else beats m earlier later) ≡ false

abbrev pub InOrder : Making → List Row → Type 0
InOrder m rows = AllPairs (InTurn m) rows

pub record Top (m : Making) (rows : List Row) (r : Row) : Type 0 where
  pub among : Contains rows r
  pub unbeaten : (s : Row) → Contains rows s → beats m s r ≡ false

abbrev pub Best : Making → List Row → Option Row → Type 0
Best m rows None = rows ≡ []
Best m rows (Some r) = Top m rows r

abbrev pub HoldsBest : Alone → List (Call × Outputs) → Type 0
HoldsBest a past = (a.in_order ≡ true → InOrder a.making (arrived a.making past)) → Best a.making (given a.making past) (shown_row (held_after a past))
