-- Conversions: what the flags column of a conversion is worth to a merge.
--   flags_at_front  the flags column of so many rows that stands at the front of the buffers
--   grouped_by      columns as a batch, by group numbers and a total
--   MergesAs        to merge columns with these flags is to update with them under the filter: however an accumulator was made, whatever its book, the group numbers and the total, both calls answer the same and leave the same book; and where the rows are as many as a column may have, the flags make a boolean column
use Rattle.std.specs.Prelude.{◌≡◌, ℕ, ◌+◌, ◌/◌, ◌≤◌, List, take, None, Option}
use Rattle.column.specs.Columns.{Flags}
use Rattle.column.specs.Shapes.{flags_refused}
use Rattle.layout.specs.Layout.{FlagParts}
use Rattle.book.specs.Winners.{Making}
use Rattle.book.specs.Batches.{Book, Given, Batch}
use Rattle.book.specs.Emission.{Outputs}
use Rattle.book.specs.Calls.{update, merge, answer, after}

abbrev pub flags_at_front : ℕ → FlagParts → Flags
flags_at_front rows out = record { rows = rows; validity = take ((rows + 7) / 8) out.validity; bits = take ((rows + 7) / 8) out.bits }

abbrev pub grouped_by : Given → List ℕ → ℕ → Batch
grouped_by g ix total = record { columns = g; indices = ix; total = total }

pub record MergesAs (g : Given) (filter : Option Flags) (flags : Flags) : Type 0 where
  pub answers_so : (m : Making) (b : Book) (ix : List ℕ) (total : ℕ) (o : Outputs) → answer m b (merge (grouped_by g ix total) flags) o ≡ answer m b (update (grouped_by g ix total) filter) o
  pub leaves_so : (m : Making) (b : Book) (ix : List ℕ) (total : ℕ) (o : Outputs) → after m b (merge (grouped_by g ix total) flags) o ≡ after m b (update (grouped_by g ix total) filter) o
  pub made_so : flags.rows ≤ 1024 → flags_refused flags.rows flags.validity flags.bits ≡ None
