-- Replies: the calls of an accumulator, and what they answer, in the words of the book.
--   given_of      the columns of a call, passed one by one
--   batch_answer  the result of a batch
--   values_only, flags_only   the buffers of a call that writes values alone, or flags alone
--   no_outputs    the buffers of a call that writes nothing
--   is_set        whether a row is kept
--   key_cells     the key of the row that is kept, all null where none is
use Rattle.std.specs.Prelude.{ℕ, Bool, true, false, List, [], map, Some, None, Ok, Err, Option, Result}
use Rattle.column.specs.Cells.{Kind, Cell, null}
use Rattle.column.specs.Seen.{column_seen}
use Rattle.column.specs.declared.Column.{Column}
use Rattle.layout.specs.Layout.{Parts, FlagParts}
use Rattle.faults.specs.Reported.{fault_seen}
use Rattle.faults.specs.declared.Fault.{Fault}
use Rattle.book.specs.Winners.{Row}
use Rattle.book.specs.Batches as Batches
use Rattle.book.specs.Emission.{Outputs}
use Rattle.book.specs.Calls as Calls

abbrev pub given_of : Column → List Column → ℕ → Batches.Given
given_of v os n = record { value = column_seen v; orders = map column_seen os; count = n }

abbrev pub batch_answer : {X : Type 0} → Result X Fault → Calls.Result
batch_answer (Ok x) = Calls.done
batch_answer (Err f) = Calls.refused (fault_seen f)

abbrev pub values_only : Parts → Outputs
values_only p = record { values = p; keys = []; flags = record { validity = []; bits = [] } }

abbrev pub flags_only : FlagParts → Outputs
flags_only p = record { values = record { validity = []; offsets = []; content = [] }; keys = []; flags = p }

abbrev pub no_outputs : Outputs
no_outputs = values_only (record { validity = []; offsets = []; content = [] })

abbrev pub is_set : Option Row → Bool
is_set None = false
is_set (Some r) = true

abbrev pub key_cells : List Kind → Option Row → List Cell
key_cells ks None = map (λ k. null) ks
key_cells ks (Some r) = r.key
