use Rattle.scenario.proofs.Parting.{AreMarks}
use Rattle.scenario.proofs.marking.by_cells.Given as goal

abbrev pub invariant-loop-item : goal.invariant-loop-item
invariant-loop-item l = AreMarks l.yielded l.bits.items l.there.items
