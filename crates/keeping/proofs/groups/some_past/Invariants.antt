use Rattle.std.proofs.Common.{◌≡◌, leb, take}
use Rattle.std.specs.List.{list_any}
use Rattle.keeping.proofs.groups.some_past.Given as goal

abbrev pub invariant-loop-row : goal.invariant-loop-row
invariant-loop-row l = l.past ≡ list_any (leb l.total) (take l.row l.indices)
