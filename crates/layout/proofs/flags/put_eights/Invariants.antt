use Rattle.std.proofs.Common.{◌≡◌, ◌*◌, map}
use Rattle.column.specs.Columns.{count_up}
use Rattle.layout.specs.Layout.{packed, known, holds, over}
use Rattle.layout.proofs.flags.put_eights.Given as goal

abbrev pub invariant-loop-j : goal.invariant-loop-j
invariant-loop-j g l = record {
  validity : l.validity ≡ over (packed (map known (map (g.F.FlagSource.shows l.flags) (count_up 0 (8 * l.j))))) l.initial.validity;
  bits : l.bits ≡ over (packed (map holds (map (g.F.FlagSource.shows l.flags) (count_up 0 (8 * l.j))))) l.initial.bits;
}
