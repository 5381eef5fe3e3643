use Rattle.std.proofs.Common.{◌≡◌, take, replicate}
use Rattle.tables.proofs.entries.overwrite.Given as goal

abbrev pub invariant-loop-place : goal.invariant-loop-place
invariant-loop-place g l = take l.place-index l.places ≡ replicate l.place-index l.value
