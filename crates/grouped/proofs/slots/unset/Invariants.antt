use Rattle.std.proofs.Common.{◌≡◌, false, take, replicate}
use Rattle.grouped.proofs.slots.unset.Given as goal

abbrev pub invariant-loop-slot : goal.invariant-loop-slot
invariant-loop-slot l = take l.slot-index l.slots ≡ replicate l.slot-index (record { set = false })
