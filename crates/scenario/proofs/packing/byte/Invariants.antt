use Rattle.std.proofs.Common.{◌≡◌, take}
use Rattle.layout.specs.Layout.{binary}
use Rattle.scenario.proofs.packing.byte.Given as goal

abbrev pub invariant-loop-i : goal.invariant-loop-i
invariant-loop-i l = l.byte ≡ binary (take l.i l.bits)
