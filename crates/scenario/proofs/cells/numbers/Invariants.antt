use Rattle.std.proofs.Common.{map, []}
use Rattle.column.specs.Cells.{numbers}
use Rattle.scenario.proofs.Filling.{Filled}
use Rattle.scenario.proofs.cells.numbers.Given as goal

abbrev pub invariant-loop-item : goal.invariant-loop-item
invariant-loop-item l = Filled numbers (map (λ x. x.now) l.yielded) l.there.items [] l.data.items
