use Rattle.std.proofs.Common.{◌≡◌}
use Rattle.column.specs.Shapes.{rises}
use Rattle.column.proofs.making.rises.Given as goal

abbrev pub invariant-loop-r : goal.invariant-loop-r
invariant-loop-r l = l.rising ≡ rises l.offsets l.r
