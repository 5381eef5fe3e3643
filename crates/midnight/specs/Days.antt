-- Days: the end of a day in the words of the book.
--   day_seen   the result of closing or saving a day: a number of groups that left, or a fault
use Rattle.std.specs.Prelude.{ℕ, Ok, Err, Result}
use Rattle.book.specs.Calls as Calls
use Rattle.faults.specs.Reported.{fault_seen}
use Rattle.faults.specs.declared.Fault.{Fault}

abbrev pub day_seen : Result ℕ Fault → Calls.Result
day_seen (Ok n) = Calls.dropped n
day_seen (Err f) = Calls.refused (fault_seen f)
