use Rattle.std.proofs.Common.{ℕ}
use Rattle.column.specs.Seen.{marks_seen}
use Rattle.keeping.specs.Seen.{batch_seen}
use Rattle.grouped.specs.Accumulators.{making}
use Rattle.grouped.specs.Walk.{Best, row_of}
use Rattle.grouped.proofs.FirstLastGroupsAccumulator.mark_winners.Given as goal

abbrev pub invariant-loop-row : goal.invariant-loop-row
invariant-loop-row g l = (k : ℕ) → Best (making l.self) (batch_seen l.batch) (marks_seen l.batch.filter) k l.row (row_of l.best k)
