use Rattle.std.proofs.Common.{◌≡◌, ◌+◌, ◌*◌, ◌^◌, ◌<◌, Bool, List, map, length}
use Rattle.column.specs.Columns.{count_up}
use Rattle.layout.specs.Layout.{holds, binary}
use Rattle.layout.proofs.flags.FlagSource.holds_byte.Given as goal

abbrev pub invariant-loop-i : goal.invariant-loop-i
invariant-loop-i g l =
    (bs : List Bool) × (length bs ≡ l.i) × (l.byte ≡ binary bs) × (8 * l.j + 7 < 2 ^ 64 → bs ≡ map (λ r. holds (g.Self.FlagSource.shows l.self r)) (count_up (8 * l.j) l.i))
