-- Seen: the columns of a call and how an accumulator reads them, in the words of the book.
--   given_seen, batch_seen   the columns and the batch of a call
--   made_with   a making by the settings of its state and its order, FIRST or LAST, and the null policy
--   reading     a making of which only the settings matter: no check looks at FIRST or LAST, or at the null policy
--   FindsAtColumn   what a check answers in a column declines as a function of the column says
--   outputs_seen    the buffers of a state
--   Settled         one call: declined so, and what it changes stays as it was, or done, and changed so
use Rattle.std.specs.Prelude.{◌≡◌, ℕ, Bool, true, false, map, Option, Result}
use Rattle.column.specs.Checks.{unless_refused}
use Rattle.column.specs.Columns as Columns
use Rattle.column.specs.Faults as Faults
use Rattle.column.specs.Seen.{column_seen}
use Rattle.column.specs.declared.Column.{Column}
use Rattle.layout.specs.Written.{parts_seen, keys_seen, flag_parts_seen}
use Rattle.tables.specs.Meaning.{Settings, state_of}
use Rattle.book.specs.Winners.{Making}
use Rattle.book.specs.Batches as Batches
use Rattle.book.specs.Emission.{Outputs}
use Rattle.faults.specs.declared.Fault.{Fault}
use Rattle.faults.specs.Reported.{declined_seen}
use Rattle.keeping.specs.declared.Given.{Given}
use Rattle.keeping.specs.declared.Batch.{Batch}
use Rattle.keeping.specs.declared.StateOutput.{StateOutput}

abbrev pub given_seen : Given → Batches.Given
given_seen g = record { value = column_seen g.value; orders = map column_seen g.orders; count = g.count }

abbrev pub batch_seen : Batch → Batches.Batch
batch_seen b = record { columns = given_seen b.columns; indices = b.indices.now; total = b.total }

abbrev pub made_with : Settings → Settings → Bool → Bool → Making
made_with s o first nulls = record { state = state_of s; order = o; first = first; ignore_nulls = nulls }

abbrev pub reading : Settings → Settings → Making
reading s o = made_with s o true false

-- by what a check may answer
abbrev pub FindsAtColumn : (ℕ → Column → Result (Unit {0}) Fault → Type 0) → (ℕ → Columns.Column → Option Faults.Fault) → Type 0
FindsAtColumn answers finds = (j : ℕ) (c : Column) (r : Result (Unit {0}) Fault) → answers j c r → declined_seen r ≡ finds j (column_seen c)

abbrev pub outputs_seen : StateOutput → Outputs
outputs_seen o = record { values = parts_seen o.values; keys = keys_seen o.keys; flags = flag_parts_seen o.flags }

pub record Settled {S : Type 0} (check : Option Faults.Fault) (changed before : S) (result : Result (Unit {0}) Fault) (now : S) : Type 0 where
  pub answer : declined_seen result ≡ check
  pub after : now ≡ unless_refused check changed before
