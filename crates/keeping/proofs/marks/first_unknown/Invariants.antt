use Rattle.std.proofs.Common.{◌≡◌, ℕ, ◌-◌, Bool, find, not}
use Rattle.column.specs.Columns.{count_up, present}
use Rattle.keeping.proofs.marks.first_unknown.Given as goal

abbrev pub invariant-loop-row : goal.invariant-loop-row
invariant-loop-row l =
    let unknown : ℕ → Bool = λ r. not (present l.flags.validity.now r) in
    find unknown (count_up l.row (l.rows - l.row)) ≡ find unknown (count_up 0 l.rows)
