use Rattle.std.proofs.Common.{◌≡◌, ◌++◌, map, take, drop}
use Rattle.grouped.specs.Notices.{renumbered}
use Rattle.grouped.proofs.notice.ShiftNotice.renumber.Given as goal

abbrev pub invariant-loop-group : goal.invariant-loop-group
invariant-loop-group l = l.«open» ≡ map (renumbered l.dropped) (take l.group-index l.initial.«open») ++ drop l.group-index l.initial.«open»
