use Rattle.std.proofs.Common.{◌≡◌, ◌++◌, take}
use Rattle.std.specs.List.{flat_map}
use Rattle.layout.specs.Layout.{field_bytes}
use Rattle.layout.proofs.Contents.{three}
use Rattle.scenario.proofs.cells.push_fields.Given as goal

abbrev pub invariant-loop-field : goal.invariant-loop-field
invariant-loop-field l = l.data.items ≡ l.initial.data.items ++ flat_map field_bytes (take l.field-index (three l.field-items))
