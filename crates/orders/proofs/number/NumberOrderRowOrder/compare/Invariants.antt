use Rattle.std.proofs.Common.{◌≡◌, ◌-◌, map, length}
use Rattle.column.specs.Cells.{numbers}
use Rattle.column.specs.Seen.{column_seen}
use Rattle.tables.specs.Reading.{key_read}
use Rattle.orders.proofs.Numbers.{from_column}
use Rattle.orders.proofs.number.NumberOrderRowOrder.compare.Given as goal

abbrev pub invariant-loop-j : goal.invariant-loop-j
invariant-loop-j l =
    let a = key_read (map (λ s. numbers) l.sorts) (map column_seen l.columns) l.a in
    let b = key_read (map (λ s. numbers) l.sorts) (map column_seen l.columns) l.b in
    from_column l.sorts l.j a b ≡ from_column l.sorts 0 a b

abbrev pub decreases-loop-j : goal.decreases-loop-j
decreases-loop-j l = length l.sorts - l.j
