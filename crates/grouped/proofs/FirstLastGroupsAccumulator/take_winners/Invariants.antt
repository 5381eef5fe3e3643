use Rattle.column.specs.Seen.{marks_seen}
use Rattle.keeping.specs.Seen.{batch_seen}
use Rattle.grouped.proofs.Gaining.{Took}
use Rattle.grouped.proofs.FirstLastGroupsAccumulator.take_winners.Given as goal

abbrev pub invariant-loop-g : goal.invariant-loop-g
invariant-loop-g g l = Took l.initial.self (batch_seen l.batch) (marks_seen l.batch.filter) l.g l.self
