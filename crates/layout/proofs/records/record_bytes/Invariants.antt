use Rattle.std.proofs.Common.{◌≡◌, ◌∷◌, get_or, take}
use Rattle.std.specs.List.{flat_map}
use Rattle.layout.specs.Layout.{over, field_bytes}
use Rattle.layout.proofs.Contents.{three}
use Rattle.layout.proofs.records.record_bytes.Given as goal

abbrev pub invariant-loop-j : goal.invariant-loop-j
invariant-loop-j l = l.bytes ≡ over (get_or l.initial.bytes 0 0 ∷ flat_map field_bytes (take l.j (three l.field-items))) l.initial.bytes
