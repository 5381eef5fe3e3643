use Rattle.std.proofs.Common.{◌≡◌, ◌++◌, take}
use Rattle.std.specs.Prelude.{codes, decimal, string_bytes}
use Rattle.replay.specs.Texts.{listed}
use Rattle.replay.proofs.buffers.write_offsets.Given as goal

abbrev pub invariant-loop-i : goal.invariant-loop-i
invariant-loop-i l = string_bytes l.text ≡ (string_bytes l.fn.text ++ codes "[") ++ listed decimal (take l.i l.offsets)
