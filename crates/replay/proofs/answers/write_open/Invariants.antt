use Rattle.std.proofs.Common.{◌≡◌, ◌++◌, take}
use Rattle.std.specs.Prelude.{codes, string_bytes}
use Rattle.replay.specs.Texts.{listed, group_text}
use Rattle.replay.proofs.answers.write_open.Given as goal

abbrev pub invariant-loop-i : goal.invariant-loop-i
invariant-loop-i l = string_bytes l.text ≡ (string_bytes l.fn.text ++ codes "open=[") ++ listed group_text (take l.i l.«open»)
