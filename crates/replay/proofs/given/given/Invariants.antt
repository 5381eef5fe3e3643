use Rattle.std.proofs.Common.{◌≡◌, length}
use Rattle.replay.proofs.given.given.Given as goal

abbrev pub invariant-loop-j : goal.invariant-loop-j
invariant-loop-j l = length l.orders ≡ 3
