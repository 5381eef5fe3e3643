-- Seen: the code's calls and results in the words of the book.
--   batch_of         the batch of a call
--   emission_answer  the result of an emission
--   to_seen          how many groups an emission takes
use Rattle.std.specs.Prelude.{ℕ, List, Ok, Err, Result}
use Rattle.column.specs.declared.Column.{Column}
use Rattle.faults.specs.Reported.{fault_seen}
use Rattle.faults.specs.declared.Fault.{Fault}
use Rattle.book.specs.Batches as Batches
use Rattle.book.specs.Emission as Emission
use Rattle.book.specs.Calls as Calls
use Rattle.keeping.specs.Replies.{given_of}
use Rattle.grouped.specs.declared.EmitTo.{EmitTo}
use Rattle.grouped.specs.declared.EmitTo.TheVariants.{All, First}
use Rattle.grouped.specs.declared.notice.ShiftNotice.{ShiftNotice}

abbrev pub batch_of : Column → List Column → ℕ → List ℕ → ℕ → Batches.Batch
batch_of v os n ix total = record { columns = given_of v os n; indices = ix; total = total }

abbrev pub emission_answer : Result ShiftNotice Fault → Calls.Result
emission_answer (Ok t) = Calls.dropped t.dropped
emission_answer (Err f) = Calls.refused (fault_seen f)

abbrev pub to_seen : EmitTo → Emission.To
to_seen All = Emission.all
to_seen (First n) = Emission.first n
