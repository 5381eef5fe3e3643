-- A merge is an update whose filter is the flags column.
use Rattle.column.specs.Columns.{Flags}
use Rattle.std.proofs.Common.{Some}
use Rattle.tables.specs.declared.table.GroupTable.{Ghosts}
use Rattle.book.specs.Batches.{Batch}
use Rattle.book.specs.Emission.{Outputs}
use Rattle.book.specs.Calls.{update, merge, Answer, answer, after}
use Rattle.grouped.specs.declared.FirstLastGroupsAccumulator.{FirstLastGroupsAccumulator}
use Rattle.grouped.specs.Accumulators.{Obeys}

pub merges : {S O F G : Type 0} {s : Ghosts S F} {o : Ghosts O G} (a : FirstLastGroupsAccumulator S O F G s o) (b : Batch) (f : Flags) (before : Outputs) (r : Answer) (a' : FirstLastGroupsAccumulator S O F G s o)
    → Obeys a (update b (Some f)) before r a' → Obeys a (merge b f) before r a'
unfolding answer after
merges a b f before r a' h = record { same_making = h.same_making; answers_so = h.answers_so; keeps_so = h.keeps_so }
