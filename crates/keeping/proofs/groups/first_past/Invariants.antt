use Rattle.std.proofs.Common.{◌≡◌, ◌-◌, ◌≤◌, leb, length, drop}
use Rattle.std.specs.List.{position, position_from}
use Rattle.keeping.proofs.groups.first_past.Given as goal

abbrev pub invariant-loop-from : goal.invariant-loop-from
invariant-loop-from l = (position (leb l.total) l.indices ≡ position_from (leb l.total) l.from (drop l.from l.indices)) × (l.from ≤ length l.indices)

abbrev pub decreases-loop-from : goal.decreases-loop-from
decreases-loop-from l = length l.indices - l.from
