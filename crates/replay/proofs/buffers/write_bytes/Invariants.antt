use Rattle.std.proofs.Common.{◌≡◌, ◌++◌, take}
use Rattle.std.specs.Prelude.{codes, string_bytes}
use Rattle.std.specs.List.{flat_map}
use Rattle.replay.specs.Texts.{hex_text}
use Rattle.replay.proofs.buffers.write_bytes.Given as goal

abbrev pub invariant-loop-byte : goal.invariant-loop-byte
invariant-loop-byte l = string_bytes l.text ≡ (string_bytes l.fn.text ++ codes "x") ++ flat_map hex_text (take l.byte-index l.bytes)
