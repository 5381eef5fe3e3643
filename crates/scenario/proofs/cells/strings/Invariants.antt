use Rattle.std.proofs.Common.{map}
use Rattle.column.specs.Cells.{strings}
use Rattle.scenario.proofs.Filling.{Filled}
use Rattle.scenario.proofs.cells.strings.Given as goal

abbrev pub invariant-loop-item : goal.invariant-loop-item
invariant-loop-item l = Filled strings (map (λ x. x.now) l.yielded) l.there.items l.offsets.items l.data.items
