use Rattle.std.proofs.Common.{map, take}
use Rattle.std.specs.List.{AllZip}
use Rattle.scenario.specs.Cells.{ColumnText}
use Rattle.scenario.proofs.pieces.read_keys.Given as goal

abbrev pub invariant-loop-text : goal.invariant-loop-text
invariant-loop-text l = AllZip (ColumnText l.reads.keys) (map (λ t. t.now) (take l.text-index l.texts)) l.keys.items
